-- An act is a step in each world that shows the parts in hand. For proofs only.
use Rattle.std.proofs.Common.{◌≡◌, ◌∙◌, sym, ap, subst, refl, Bool, true, false, List, [], ◌∷◌, Result, Ok, Err, true≢false}
use Rattle.ca_base.specs.Configuration.{Configuration}
use Rattle.ca_base.specs.declared.step.ActError.{ActError}
use Rattle.ca_base.specs.declared.step.ActError.TheVariants as steps
use Rattle.ca_model.specs.Marks.{MarkList}
use Rattle.ca_model.specs.declared.event.Event.{Event}
use Rattle.ca_model.specs.machine.Frame.{AllPass, IsNoneOf, LeavesRest, SameOutcomeWhere, name_eq}
use Rattle.ca_model.specs.machine.Plan.{Did, NotReady, Outcome, touches}
use Rattle.ca_model.specs.machine.Step.{plan, step}
use Rattle.ca_model.specs.machine.World.{Name, World}
use Rattle.ca_model.proofs.FrameLemmas.{event-agrees, event-touches-same}
use Rattle.ca_model.proofs.RestLemmas.{event-leaves}
use Rattle.ca_model.proofs.ThingLemmas.{name-path}
use Rattle.ca_adapter_parts.specs.HeldView.{Holding}
use Rattle.ca_adapter_acts.specs.Act.{IsAct}
use Rattle.ca_adapter_acts.specs.Steps.{IsStepOf, Shows}

-- a name that does not pass is none of those that do
none-of : (test : Name → Bool) (n : Name) (ms : List Name) → AllPass test ms → test n ≡ false → IsNoneOf n ms
none-of test n [] all fails = record {}
none-of test n (m ∷ ms) all fails = (by (name_eq m n) refl, none-of test n ms all.1 fails)
  where
    by : (b : Bool) → name_eq m n ≡ b → b ≡ false
    by false e = refl
    by true e = absurd (true≢false (sym all.0 ∙ ap test (name-path m n e) ∙ fails))

pub act-steps : (c : Configuration) (event : Event) (result : Result MarkList ActError) (old new : Holding) (w : World)
    → Shows w old → AllPass old.has (touches old.world (plan c event))
    → IsAct result (step c old.world event) old new → IsStepOf result (step c w event) w old new
act-steps c event result old new w shows suffices act =
    by result (step c old.world event) (step c w event) (event-agrees old.has c event old.world w shows suffices) (event-leaves c event w) act
  where
    touched : AllPass old.has (touches w (plan c event))
    touched = subst (AllPass old.has) (event-touches-same old.has c event old.world w shows suffices) suffices

    by : (r : Result MarkList ActError) (a b : Outcome) → SameOutcomeWhere old.has a b → LeavesRest (touches w (plan c event)) w b
        → IsAct r a old new → IsStepOf r b w old new
    by (Ok m) (Did u ms) (Did v ns) same rest act = (
      act.0 ∙ same.0,
      subst (Shows v) (sym act.1) same.1,
      ap (λ h. h.has) act.1,
      ap (λ h. h.parts) act.1,
      λ n fails. rest n (none-of old.has n (touches w (plan c event)) touched fails),
    )
    by (Ok m) (Did u ms) (NotReady b) same rest act = absurd same
    by (Ok m) (NotReady a) b same rest act = absurd act
    by (Err (steps.NotReady reason)) (Did u ms) b same rest act = absurd act
    by (Err (steps.NotReady reason)) (NotReady a) (NotReady b) same rest act = (act.0 ∙ same, act.1)
    by (Err (steps.NotReady reason)) (NotReady a) (Did v ns) same rest act = absurd same
    by (Err steps.Memory) a b same rest act = act
