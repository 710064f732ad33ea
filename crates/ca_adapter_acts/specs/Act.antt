-- An act: an event's plan, carried out with what is held. Contracts cite it.
use Rattle.std.specs.Prelude.{◌≡◌, Result, Ok, Err}
use Rattle.ca_base.specs.declared.step.ActError.{ActError}
use Rattle.ca_base.specs.declared.step.ActError.TheVariants as steps
use Rattle.ca_adapter_parts.specs.declared.held.Held.{Held}
use Rattle.ca_adapter_parts.specs.HeldView.{Holding, holding}
use Rattle.ca_model.specs.Marks.{MarkList}
use Rattle.ca_model.specs.machine.Frame.{AllPass}
use Rattle.ca_model.specs.machine.Plan.{Did, NotReady, Outcome, Plan, perform, touches}

-- all that a plan touches is held
abbrev pub Suffices : Held → Plan → Type 0
Suffices h p = AllPass (holding h).has (touches (holding h).world p)

-- an act has an outcome: its marks and what is held after it, or the reason why it is not possible; want of memory leaves
-- all as it was
abbrev pub IsAct : Result MarkList ActError → Outcome → Holding → Holding → Type 0
IsAct (Ok m) (Did v ms) old new = (m.marks ≡ ms) × (new ≡ record old { world = v })
IsAct (Ok m) (NotReady reason) old new = ⊥
IsAct (Err (steps.NotReady reason)) (Did v ms) old new = ⊥
IsAct (Err (steps.NotReady reason)) (NotReady why) old new = (reason ≡ why) × (new ≡ old)
IsAct (Err steps.Memory) outcome old new = new ≡ old

-- what a plan does in the small world of what is held
abbrev pub Acts : Result MarkList ActError → Plan → Held → Held → Type 0
Acts result p old new = IsAct result (perform (holding old).world p) (holding old) (holding new)
