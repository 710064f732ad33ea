-- What an act makes of a row and a hand that stand for a world. For proofs only.
use Rattle.std.proofs.Common.{◌≡◌, refl, sym, ap, subst, true, None, List, Result, Ok, Err}
use Rattle.ca_adapter.specs.ca_adapter_acts.Act.{Acts, IsAct}
use Rattle.ca_adapter.specs.ca_adapter_acts.Steps.{IsStepOf, Shows}
use Rattle.ca_adapter.proofs.WorldLemmas.{part-of-held}
use Rattle.ca_adapter.specs.Ready.{IsReady}
use Rattle.ca_base.specs.Configuration.{Configuration}
use Rattle.ca_base.specs.declared.step.ActError.{ActError}
use Rattle.ca_base.specs.declared.step.ActError.TheVariants as steps
use Rattle.ca_adapter_parts.specs.declared.held.Held.{Held}
use Rattle.ca_adapter_parts.specs.declared.part.Part.{Part}
use Rattle.ca_adapter_parts.specs.HeldView.{holding}
use Rattle.ca_model.specs.Marks.{MarkList}
use Rattle.ca_model.specs.declared.event.Event.{Event}
use Rattle.ca_model.specs.declared.part_name.PartName.{PartName}
use Rattle.ca_model.specs.machine.Parts.{event_needs, is_configured_part, next_part}
use Rattle.ca_model.specs.machine.Plan.{Did, NotReady, Outcome}
use Rattle.ca_model.specs.machine.Step.{plan, step}
use Rattle.ca_model.specs.machine.World.{World}
use Rattle.ca_adapter_store.proofs.TogetherLemmas.{acted-together}
use Rattle.ca_adapter_store.specs.Hand.{IsOfWorld}
use Rattle.ca_adapter_store.specs.Rows.{AreTogether, IsMade}

-- what the event needs is in hand, so that it can be acted
pub ready_now : (c : Configuration) (event : Event) (row new : List Part) (h k : Held) → IsOfWorld c row h
    → ((w : World) → AreTogether c w row (holding h) → AreTogether c w new (holding k))
    → next_part (holding k).parts (holding k).world (event_needs c event) ≡ None → IsReady c event k
ready_now c event row new h k of together next = record {
  parts = record { count = of.count; world = of.world; after = of.after; shows = now.shows; whole = now.whole };
  next = next;
}
  where
    now : AreTogether c of.world new (holding k)
    now = together of.world of.together

-- what is in hand is configured
pub configured_names : (c : Configuration) (row new : List Part) (h k : Held) → IsOfWorld c row h
    → ((w : World) → AreTogether c w row (holding h) → AreTogether c w new (holding k)) → (p : PartName) → (holding k).parts p ≡ true → is_configured_part c p ≡ true
configured_names c row new h k of together p held = (together of.world of.together).hand p held

-- the event is acted, and the parts are given back
pub acted : (c : Configuration) (event : Event) (w : World) (row new : List Part) (h k l : Held) (result : Result MarkList ActError) → AreTogether c w row (holding h)
    → Acts result (plan c event) h k → ((w : World) → Shows w (holding h) → IsStepOf result (step c w event) w (holding h) (holding k))
    → ((w : World) → AreTogether c w row (holding k) → AreTogether c w new (holding l))
    → IsMade result (step c w event) w (λ v. AreTogether c v new (holding l))
acted c event w row new h k l result one act each back =
    by result (step c w event) (step c (holding h).world event) act (each w (λ n has. one.shows n (part-of-held h n has))) (each (holding h).world (λ n has. refl))
  where
    same : holding k ≡ holding h → AreTogether c w new (holding l)
    same is = back w (subst (AreTogether c w row) (sym is) one)

    by : (r : Result MarkList ActError) (o own : Outcome) → IsAct r own (holding h) (holding k) → IsStepOf r o w (holding h) (holding k)
        → IsStepOf r own (holding h).world (holding h) (holding k) → IsMade r o w (λ v. AreTogether c v new (holding l))
    by (Ok m) (Did v ms) (Did u ns) act made there = (
      made.0,
      back v (acted-together c w v u row h k one made.1 made.2 made.3 made.4 there.4 (ap (λ z. z.world) act.1)),
    )
    by (Ok m) (Did v ms) (NotReady reason) act made there = absurd act
    by (Ok m) (NotReady reason) own act made there = absurd made
    by (Err (steps.NotReady reason)) (Did v ms) own act made there = absurd made
    by (Err (steps.NotReady reason)) (NotReady why) own act made there = (made.0, same made.1)
    by (Err steps.Memory) (Did v ms) own act made there = same made
    by (Err steps.Memory) (NotReady why) own act made there = same made
