-- Bytes that arrive at a queue pair: what may be met, and what is held then. Contracts cite it.
use Rattle.std.specs.Prelude.{◌≡◌, ℕ, true, if◌then◌else◌, List, [], ◌∷◌, ◌++◌, Option, None, Some, Result, Ok, Err, IfSome}
use Rattle.std.specs.Option.{option_and_then, option_map, option_map_or}
use Rattle.ca_adapter_turns.specs.ca_adapter_acts.Binders.{changed_by}
use Rattle.ca_base.specs.objects.QueuePair.{Present, QueuePair, srq_of}
use Rattle.ca_base.specs.objects.SharedReceives.{SharedReceives, SrqSlot, after_receive_take}
use Rattle.ca_adapter_parts.specs.declared.held.Held.{Held}
use Rattle.ca_adapter_parts.specs.HeldView.{Holding, holding}
use Rattle.ca_adapter_reach.specs.AtHand.{CanEnd, CanJudge, HasBytesAtHand}
use Rattle.ca_adapter_reach.specs.Changed.{after_end_of, after_write_by}
use Rattle.ca_adapter_reach.specs.Seen.{sight_of}
use Rattle.ca_keys.specs.declared.memory.Memory.{Memory}
use Rattle.ca_keys.specs.declared.names.QueueId.{QueueId}
use Rattle.ca_keys.specs.declared.names.Slot.{Slot}
use Rattle.ca_keys.specs.Equal.{slot_eq}
use Rattle.ca_base.specs.Sight.{Invalidation}
use Rattle.ca_model.specs.Marks.{MarkList}
use Rattle.ca_model.specs.declared.mark.Mark.TheVariants as marks
use Rattle.ca_model.specs.machine.Around.{srq_updates}
use Rattle.ca_model.specs.machine.CanStep.{CanStep}
use Rattle.ca_model.specs.machine.Delivery.{arrival_row}
use Rattle.ca_model.specs.machine.Invariants.{IsSharedReceives}
use Rattle.ca_model.specs.machine.Plan.{Update, ◌:=◌}
use Rattle.ca_model.specs.machine.Row.{Does, Effects, Ending, NotPossible}
use Rattle.ca_model.specs.machine.Seen.{shared_receives}
use Rattle.ca_model.specs.machine.World.{Queue_of, Srq_of, World}
use Rattle.ca_responder.specs.ca_responder_operations.Taking.{CanMeet, Outcome, outcome_in, without_key}
use Rattle.ca_adapter_turns.specs.ca_adapter_reach_laws.Ties.{with_reached}
use Rattle.ca_responder.specs.ca_qp_rows.Made.{written_all}
use Rattle.ca_adapter_reach.specs.Shelved.{Shelved, thing_under, with_thing}

-- the slot on a shelf of the shared receive queue of a queue pair, and that queue
abbrev pub slot_on : Shelved Slot SrqSlot → QueuePair → Option SrqSlot
slot_on s q = option_and_then (λ srq. thing_under slot_eq (srq_of q srq) s.things) q.srq

abbrev pub shared_on : Shelved Slot SrqSlot → QueuePair → Option SharedReceives
shared_on s q = option_and_then (λ slot. slot.srq) (slot_on s q)

-- the shelf with other shared receives of a queue pair in their slot
abbrev pub with_shared : QueuePair → Option SharedReceives → Shelved Slot SrqSlot → Shelved Slot SrqSlot
with_shared q receives s = by q.srq
  where
    at : Slot → SrqSlot → Shelved Slot SrqSlot
    at name slot = record s { things = with_thing slot_eq name (record slot { srq = receives }) s.things }

    by : Option ℕ → Shelved Slot SrqSlot
    by None = s
    by (Some srq) = option_map_or (at (srq_of q srq)) (thing_under slot_eq (srq_of q srq) s.things) s

-- the slot of a queue pair's shared receive queue, where effects take its next receive
abbrev pub shared_updates : QueuePair → World → Effects → List Update
shared_updates q w e = if e.takes_shared then srq_updates q (record {
  send = None;
  recv = None;
  shared = option_map (λ srq. w.srq (srq_of q srq)) q.srq;
}) after_receive_take else []

-- bytes may meet a queue pair that is held: it can step, its shared receive queue can come up, and what the row asks for
-- and ends is at hand
pub record CanArrive (h : Held) (bytes : List ℕ) (envelope : Option ℕ) (q : QueuePair) : Type 0 where
  pub step : CanStep q
  pub there : IfSome q.srq (λ srq. (holding h).has (Srq_of (srq_of q srq)) ≡ true)
  pub shared : IfSome (shared_receives (holding h).world q) IsSharedReceives
  pub at_hand : CanMeet sight_of CanJudge HasBytesAtHand CanEnd h.reached q
      (arrival_row bytes envelope (shared_receives (holding h).world q) q)

-- what bytes come to that arrive at a queue pair which is held
abbrev pub outcome_of : Held → List ℕ → Option ℕ → QueuePair → Outcome
outcome_of h bytes envelope q = outcome_in (sight_of h.reached) (arrival_row bytes envelope (shared_receives (holding h).world q) q)

-- the queue pair of a name has these effects, its shared receive queue the receive that they take, and what is reached
-- what they write and the key that they end
abbrev pub with_effects : QueueId → QueuePair → Effects → Option Invalidation → Held → Holding
with_effects name q e ended h = changed_by ((Queue_of name := Present e.queue) ∷ shared_updates q (holding h).world e)
    (holding (with_reached h (without_key after_end_of ended (written_all after_write_by h.reached e.writes))))

-- marks, and that of bytes which arrive at a queue pair behind them
abbrev pub told : QueuePair → Option ℕ → MarkList → MarkList
told q envelope m = record m { marks = m.marks ++ marks.Arrived q.queue envelope ∷ [] }

-- bytes arrived at the queue pair of a name, as their row comes out; or memory ended, and nothing has changed
abbrev pub HasArrived : QueueId → Result (Unit {0}) Memory → Ending → Option Invalidation → QueuePair → Held → Holding → MarkList → MarkList → Type 0
HasArrived name (Ok done) (Does e) ended q old new before after =
    (after.marks ≡ before.marks ++ e.marks) × (new ≡ with_effects name q e ended old)
HasArrived name (Ok done) (NotPossible reason) ended q old new before after = ⊥
HasArrived name (Err memory) ending ended q old new before after = new ≡ holding old
