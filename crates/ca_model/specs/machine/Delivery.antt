-- A packet arrives at a queue pair: which envelope may be delivered, what is dropped, and which row it meets. Contracts
-- cite it.
use Rattle.std.specs.Prelude.{ℕ, ◌==◌, Bool, not, if◌then◌else◌, List, [], ◌∷◌, ◌++◌, Option, None, Some, Result, Ok, Err}
use Rattle.ca_base.specs.declared.change.State.TheVariants as states
use Rattle.ca_keys.specs.declared.names.QueueId.{QueueId}
use Rattle.ca_base.specs.declared.step.Reason.TheVariants as reasons
use Rattle.ca_base.specs.Configuration.{Configuration}
use Rattle.ca_keys.specs.Refusals.{first_of}
use Rattle.ca_base.specs.objects.Mailbox.{Mailbox, after_delivery, bytes_lent}
use Rattle.ca_base.specs.objects.QueuePair.{QueuePair, QueueSlot, NoQueue, Present}
use Rattle.ca_base.specs.objects.SharedReceives.{SharedReceives}
use Rattle.ca_base.specs.objects.Slices.{has_queue}
use Rattle.ca_base.specs.objects.StateTable.{is_among}
use Rattle.ca_wire.specs.declared.packet.TheConstants.{DEFAULT_PKEY}
use Rattle.ca_wire.specs.declared.wire_error.WireError.{WireError}
use Rattle.ca_wire.specs.Decoding.{packet_in}
use Rattle.ca_wire.specs.Packet.{Fields}
use Rattle.ca_model.specs.declared.mark.Drop1.{Drop1}
use Rattle.ca_model.specs.declared.mark.Drop1.TheVariants as drops
use Rattle.ca_model.specs.declared.mark.Mark.{Mark}
use Rattle.ca_model.specs.declared.mark.Mark.TheVariants as marks
use Rattle.ca_model.specs.Packets.{is_response}
use Rattle.ca_model.specs.machine.Around.{With_around, updates_of, shared_in}
use Rattle.ca_model.specs.machine.Duplicates.{request_row}
use Rattle.ca_model.specs.machine.Plan.{Plan, Stuck, Look, If, Finish, Update, ◌:=◌}
use Rattle.ca_model.specs.machine.Responses.{drop_effects, response_row}
use Rattle.ca_model.specs.machine.Row.{Row, Row_plan, plain_row, Does}
use Rattle.ca_wire.specs.declared.shape.Shape.{Shape}
use Rattle.ca_wire.specs.Table.{shape_of}
use Rattle.ca_model.specs.machine.World.{Mailbox_of, Queue_of}

-- why a packet is dropped before its row, in order
abbrev pub arrival_drops : QueuePair → Fields → List (Bool × Drop1)
arrival_drops q p =
    (not (p.pkey == DEFAULT_PKEY), drops.Partition)
    ∷ (not (p.queue == q.queue.number), drops.Queue)
    ∷ (not (is_among (states.Rtr ∷ states.Rts ∷ states.Sqd ∷ []) q.state), drops.State)
    ∷ []

-- a packet is a response, or a request of a shape
abbrev pub packet_arrived : Fields → Option ℕ → Option SharedReceives → QueuePair → Row
packet_arrived p envelope shared q = if is_response p.opcode then response_row p q else by (shape_of p.opcode)
  where
    by : Option Shape → Row
    by (Some shape) = request_row p envelope shared shape q
    by None = plain_row (Does (drop_effects q drops.State))

-- the row of bytes that arrive
abbrev pub arrival_row : List ℕ → Option ℕ → Option SharedReceives → QueuePair → Row
arrival_row bytes envelope shared q = by (packet_in bytes)
  where
    unless : Fields → Option Drop1 → Row
    unless p (Some cause) = plain_row (Does (drop_effects q cause))
    unless p None = packet_arrived p envelope shared q

    by : Result Fields WireError → Row
    by (Err error) = plain_row (Does (drop_effects q (drops.Wire error)))
    by (Ok p) = unless p (first_of (arrival_drops q p))

-- Bytes arrive at a queue pair, after changes and marks that come first.
abbrev pub Arrive : Configuration → QueuePair → List ℕ → Option ℕ → List Update → List Mark → Plan
Arrive c q bytes envelope changes ms = With_around q (λ a.
    Row_plan c (arrival_row bytes envelope (shared_in a) q) (λ e more writes.
    Finish (changes ++ (updates_of q a e ++ more)) writes (ms ++ marks.Arrived q.queue envelope ∷ e.marks)))

-- the envelope of an index is delivered: one of the latest that are kept, which was not lost
abbrev pub deliver_plan : Configuration → QueueId → ℕ → Plan
deliver_plan c q index = If (has_queue c q) (Look (Mailbox_of q) (λ m. lent m (bytes_lent index m))) (Stuck reasons.NotKept)
  where
    at : Mailbox → List ℕ → QueueSlot → Plan
    at m bytes (NoQueue incarnation timers) = Stuck reasons.NotKept
    at m bytes (Present queue) = Arrive c queue bytes (Some index) ((Mailbox_of q := after_delivery index m) ∷ []) []

    lent : Mailbox → Option (List ℕ) → Plan
    lent m None = Stuck reasons.NotKept
    lent m (Some bytes) = Look (Queue_of q) (at m bytes)
