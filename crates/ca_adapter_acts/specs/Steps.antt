-- What an act is to a world that shows the parts in hand. Contracts cite it.
use Rattle.std.specs.Prelude.{◌≡◌, false, Result, Ok, Err}
use Rattle.ca_base.specs.declared.step.ActError.{ActError}
use Rattle.ca_base.specs.declared.step.ActError.TheVariants as steps
use Rattle.ca_model.specs.Marks.{MarkList}
use Rattle.ca_model.specs.machine.Frame.{SameWhere}
use Rattle.ca_model.specs.machine.Plan.{Did, NotReady, Outcome}
use Rattle.ca_model.specs.machine.World.{Name, World, get}
use Rattle.ca_adapter_parts.specs.HeldView.{Holding}

-- the world has all that is held
abbrev pub Shows : World → Holding → Type 0
Shows w h = SameWhere h.has h.world w

-- one world has all of another but what is held
abbrev pub LeavesUnheld : Holding → World → World → Type 0
LeavesUnheld h w v = (n : Name) → h.has n ≡ false → get v n ≡ get w n

-- an act is the step that has this outcome in a world: its marks, with what is held shown by the new world, or the
-- reason why it is not possible; want of memory leaves all as it was
abbrev pub IsStepOf : Result MarkList ActError → Outcome → World → Holding → Holding → Type 0
IsStepOf (Ok m) (Did v ms) w old new =
    (m.marks ≡ ms) × Shows v new × (new.has ≡ old.has) × (new.parts ≡ old.parts) × LeavesUnheld old w v
IsStepOf (Ok m) (NotReady reason) w old new = ⊥
IsStepOf (Err (steps.NotReady reason)) (Did v ms) w old new = ⊥
IsStepOf (Err (steps.NotReady reason)) (NotReady why) w old new = (reason ≡ why) × (new ≡ old)
IsStepOf (Err steps.Memory) outcome w old new = new ≡ old
