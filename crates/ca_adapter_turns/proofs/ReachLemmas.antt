-- A queue pair that is held, and what it reaches, after a turn of its engine. For proofs only.
use Rattle.std.proofs.Common.{◌≡◌, ◌∙◌, refl, sym, ap, subst, ℕ, true, List, [], ◌++◌, Option, None, Some, Result, Ok, Err, Box}
use Rattle.std.specs.Box.{with_value}
use Rattle.std.specs.declared.alloc.Global.{Global}
use Rattle.ca_base.specs.declared.step.Sent.{Sent}
use Rattle.ca_base.specs.declared.step.ActError.{ActError}
use Rattle.ca_base.specs.declared.step.ActError.TheVariants as steps
use Rattle.ca_base.specs.objects.QueuePair.{Present, QueuePair, queue_in}
use Rattle.ca_adapter_parts.specs.declared.held.Held.{Held}
use Rattle.ca_adapter_parts.specs.declared.part.QueueSlot.{QueueSlot}
use Rattle.ca_adapter_parts.specs.declared.part.QueueSlot.TheVariants as slots
use Rattle.ca_adapter_parts.specs.HeldView.{hold, holding, with_queue}
use Rattle.ca_adapter_parts.proofs.HoldLemmas.{put_queue}
use Rattle.ca_adapter_reach.specs.declared.reached.Reached.{Reached}
use Rattle.ca_adapter_reach.specs.Changed.{after_write_by}
use Rattle.ca_adapter_reach.specs.Seen.{sight_of}
use Rattle.ca_keys.specs.declared.names.QueueId.{QueueId}
use Rattle.ca_keys.specs.Equal.{queue_eq}
use Rattle.ca_model.specs.Marks.{MarkList}
use Rattle.ca_model.specs.machine.Row.{Does, Ending, NotPossible, Row, ending_of}
use Rattle.ca_model.specs.machine.World.{Queue_of}
use Rattle.ca_adapter_reach_laws.specs.Ties.{with_reached}
use Rattle.ca_requester.specs.ca_qp_rows.Made.{IsTurn, written_all}
use Rattle.ca_adapter_reach.specs.Shelved.{thing_under, with_thing}
use Rattle.ca_adapter_turns.specs.Stepped.{HasTurned}
use Rattle.ca_adapter_turns.proofs.TurnLemmas.{same-queue}

module _ (h : Held) (name : QueueId) (b : Box QueueSlot Global) (q now : QueuePair) (r : Reached) (there : thing_under queue_eq name h.queues.things ≡ Some b) (is : b.value ≡ slots.Present q) where
  -- another queue pair in the slot, and other parts that keys reach
  abbrev pub stepped : Held
  stepped = record h { queues = record h.queues { things = with_thing queue_eq name (with_value b (slots.Present now)) h.queues.things }; reached = r }

  pub here : (holding h).world.queue name ≡ Present q
  unfolding holding
  here = rw (there, is) refl

  with-stepped : with_queue (with_reached h r) name (slots.Present now) ≡ stepped
  unfolding with_queue
  with-stepped = rw there refl

  still-held : (holding (with_reached h r)).has (Queue_of name) ≡ true
  unfolding holding
  still-held = rw there refl

  put-there : holding stepped ≡ hold (holding (with_reached h r)) (Queue_of name) (Present now)
  put-there = sym (ap holding with-stepped) ∙ put_queue (with_reached h r) name (slots.Present now) still-held

  unturned : now ≡ q → r ≡ h.reached → holding stepped ≡ holding h
  unturned same kept = put-there ∙ ap (λ r. hold (holding (with_reached h r)) (Queue_of name) (Present now)) kept
      ∙ ap (λ q. hold (holding h) (Queue_of name) (Present q)) same ∙ same-queue (holding h) name (Present q) here

  turned-so : (result : Result Sent ActError) (ending : Ending) (before made : MarkList) (out bytes : List ℕ) → out ≡ []
      → IsTurn after_write_by result ending q now before made h.reached r out bytes → HasTurned name result ending h (holding stepped) before made bytes
  turned-so (Ok sent) (Does e) before made out bytes empty turn = (
    turn.0,
    put-there ∙ ap (λ r. hold (holding (with_reached h r)) (Queue_of name) (Present now)) turn.1.1.0
        ∙ ap (λ q. hold (holding (with_reached h (written_all after_write_by h.reached e.writes))) (Queue_of name) (Present q)) turn.1.0.queue,
    turn.1.0.marks,
    turn.1.0.room,
    turn.1.1.1.spelt ∙ ap (λ xs. xs ++ e.spelt) empty,
  )
  turned-so (Ok sent) (NotPossible reason) before made out bytes empty turn = turn
  turned-so (Err (steps.NotReady reason)) ending before made out bytes empty turn = (turn.0, unturned turn.1.0.queue turn.1.1.0)
  turned-so (Err steps.Memory) ending before made out bytes empty turn = unturned turn.0.queue turn.1.0

  pub has-turned : (result : Result Sent ActError) (row : QueuePair → Row) (before made : MarkList) (out bytes : List ℕ) → out ≡ []
      → IsTurn after_write_by result (ending_of (sight_of h.reached) (row q)) q now before made h.reached r out bytes
      → (x : QueuePair) → (holding h).world.queue name ≡ Present x
      → HasTurned name result (ending_of (sight_of h.reached) (row x)) h (holding stepped) before made bytes
  has-turned result row before made out bytes empty turn x at =
      subst (λ o. case o) (ap queue_in (sym here ∙ at)) (turned-so result (ending_of (sight_of h.reached) (row q)) before made out bytes empty turn)
    where
      case : Option QueuePair → Type 0
      case None = ⊥
      case (Some x) = HasTurned name result (ending_of (sight_of h.reached) (row x)) h (holding stepped) before made bytes
