-- What a step of a queue pair that is held makes of what is held. Contracts cite it.
use Rattle.std.specs.Prelude.{◌≡◌, ℕ, ◌≤◌, Bool, true, if◌then◌else◌, List, [], ◌∷◌, ◌++◌, Option, None, Some, Result, Ok, Err, is_none}
use Rattle.std.specs.Option.{option_map_or}
use Rattle.ca_base.specs.declared.correspondent.Correspondent.{Correspondent}
use Rattle.ca_base.specs.declared.lot.Lot.{Lot}
use Rattle.ca_base.specs.declared.step.Reason.{Reason}
use Rattle.ca_base.specs.declared.step.Sent.{Sent}
use Rattle.ca_base.specs.declared.step.Sent.TheVariants.{Silent, Spelt}
use Rattle.ca_base.specs.declared.step.ActError.{ActError}
use Rattle.ca_base.specs.declared.step.ActError.TheVariants as steps
use Rattle.ca_base.specs.objects.Mailbox.{Mailbox, after_send, has_room, passes}
use Rattle.ca_base.specs.objects.QueuePair.{QueuePair, Present, queue_in}
use Rattle.ca_adapter_parts.specs.declared.held.Held.{Held}
use Rattle.ca_adapter_parts.specs.HeldView.{Holding, hold, holding}
use Rattle.ca_adapter_reach.specs.Changed.{after_write_by}
use Rattle.ca_keys.specs.declared.names.QueueId.{QueueId}
use Rattle.ca_model.specs.Marks.{MarkList}
use Rattle.ca_model.specs.declared.marks.TheConstants.{SPARE_MARKS}
use Rattle.ca_model.specs.machine.Arrivals.{next_receive}
use Rattle.ca_model.specs.machine.Plan.{Update, ◌:=◌}
use Rattle.ca_model.specs.machine.Row.{Does, Ending, NotPossible}
use Rattle.ca_model.specs.machine.Seen.{shared_receives}
use Rattle.ca_model.specs.machine.Turns.{Packet}
use Rattle.ca_model.specs.machine.World.{Mailbox_of, Queue_of, World}
use Rattle.ca_adapter_reach_laws.specs.Ties.{with_reached}
use Rattle.ca_requester.specs.ca_qp_rows.Made.{IsUnable, written_all}

-- the queue pair of a name has stepped to this one, where no reason stands against it; or nothing has changed
abbrev pub HasStepped : {A : Type 0} → QueueId → Result A ActError → Option Reason → QueuePair → Holding → Holding → Type 0
HasStepped name (Ok done) refusal q old new = (refusal ≡ None) × (new ≡ hold old (Queue_of name) (Present q))
HasStepped name (Err (steps.NotReady reason)) refusal q old new = (refusal ≡ Some reason) × (new ≡ old)
HasStepped name (Err steps.Memory) refusal q old new = new ≡ old

-- the queue pair of a name has no receive to take in a world; none is there in a vacant slot
abbrev pub has_no_receive : World → QueueId → Bool
has_no_receive w name = option_map_or (λ q. is_none (next_receive q (shared_receives w q))) (queue_in (w.queue name)) true

-- a turn of the queue pair of a name was done as its row ends, with what it reached; or it was not possible, or memory
-- ended, and nothing has changed
abbrev pub HasTurned : QueueId → Result Sent ActError → Ending → Held → Holding → MarkList → MarkList → List ℕ → Type 0
HasTurned name (Ok sent) (Does e) old new before after bytes =
    (sent ≡ e.sent)
    × (new ≡ hold (holding (with_reached old (written_all after_write_by old.reached e.writes))) (Queue_of name) (Present e.queue))
    × (after.marks ≡ before.marks ++ e.marks) × (SPARE_MARKS ≤ after.room) × (bytes ≡ e.spelt)
HasTurned name (Ok sent) (NotPossible reason) old new before after bytes = ⊥
HasTurned name (Err (steps.NotReady reason)) ending old new before after bytes = IsUnable ending reason × (new ≡ holding old)
HasTurned name (Err steps.Memory) ending old new before after bytes = new ≡ holding old

-- the packet that a turn has spelt, if it has
abbrev pub packet_of : Sent → List ℕ → Option Packet
packet_of Silent bytes = None
packet_of (Spelt request) bytes = Some (record { request = request; bytes = bytes })

-- there is room for a packet in the mailbox of a peer, where a path leads there
abbrev pub HasRoomFor : Correspondent → Correspondent → Mailbox → Type 0
HasRoomFor from to m = passes from to.incarnation m ≡ true → has_room m ≡ true

-- the mailbox of a peer with a packet, where a path leads there
abbrev pub mail_updates : Correspondent → Correspondent → Mailbox → Lot → List ℕ → List Update
mail_updates from to m lot bytes = if passes from to.incarnation m then (Mailbox_of to.queue := after_send lot bytes m) ∷ [] else []

-- the index that a packet gets there
abbrev pub index_of_mail : Correspondent → Correspondent → Mailbox → Option ℕ
index_of_mail from to m = if passes from to.incarnation m then Some m.next else None
