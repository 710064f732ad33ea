-- What a SEND packet is placed by, its receive and its writes, and the end of a key. Contracts cite it.
use Rattle.std.specs.Prelude.{◌≡◌, ◌+◌, ◌≤◌, nat_lt, false, List, length, None, Some, Result, Ok, Err, IfSome}
use Rattle.ca_keys.specs.declared.access.Ask.{Ask}
use Rattle.ca_keys.specs.declared.key.Key.{Key}
use Rattle.ca_base.specs.declared.limits.TheConstants.{MAX_MESSAGE_BYTES, MAX_PIECES}
use Rattle.ca_base.specs.declared.refusals.OpRefusal.{OpRefusal}
use Rattle.ca_base.specs.Sight.{Invalidation, Sight, first_denied}
use Rattle.ca_base.specs.objects.QueuePair.{QueuePair}
use Rattle.ca_model.specs.Requests.{list_length}
use Rattle.ca_model.specs.machine.Arrivals.{with_flag}
use Rattle.ca_model.specs.machine.Expected.{invalidation_of, receive_asks, send_row, with_window_gone}
use Rattle.ca_model.specs.machine.Responses.{writes_by}
use Rattle.ca_model.specs.declared.receiving.Receiving.{Receiving}
use Rattle.ca_responder_operations.specs.Receives.{MayTake}
use Rattle.ca_responder_operations.specs.Taking.{MayEnd, Outcome, outcome_in}
use Rattle.ca_responder_answers.specs.ca_qp_rows.Asks.{CanWrite, touched_by}
use Rattle.ca_responder_operations.specs.declared.send.SendPacket.{SendPacket}

-- the queue pair ends this key
abbrev pub key_end : QueuePair → Key → Invalidation
key_end q key = record { queue = q.queue; domain = q.domain; key = key }

-- the receive of the packet, how many bytes came into it before, and whether the packet takes it
abbrev pub receiving : SendPacket → Receiving
receiving s = record { receive = s.receive.now; before = s.before; taken = s.taken }

-- its bytes are no more than a message may have, and where it takes a receive, that waits
pub record IsFitting (q : QueuePair) (s : SendPacket) : Type 0 where
  pub most : s.before + length s.packet.now.payload ≤ MAX_MESSAGE_BYTES
  pub receive : MayTake (receiving s) q

-- A SEND packet may be placed by these asks: it fits its receive, whose list is allowed and at hand, and they are the asks
-- for its bytes in that list; and the key that it ends, if any, is at hand.
pub record CanPlace {S : Type 0} (sight : S → Sight) (judges touches : S → Ask → Type 0) (ends : S → Invalidation → Type 0) (reach : S) (q : QueuePair) (s : SendPacket) (asks : List Ask) : Type 0 where
  pub fitting : IsFitting q s
  pub fits : nat_lt (list_length s.receive.now.receive.list.items) (s.before + length s.packet.now.payload) ≡ false
  pub none : first_denied (sight reach) (receive_asks q s.packet.now (receiving s)) ≡ None
  pub asks_are : asks ≡ receive_asks q s.packet.now (receiving s)
  pub enough : touched_by asks ≤ length s.packet.now.payload
  pub can : CanWrite sight judges touches reach (writes_by asks s.packet.now.payload)
  pub few : length asks ≤ MAX_PIECES
  pub ended : IfSome (invalidation_of q s.packet.now) (MayEnd sight ends reach q)

-- the key is gone, and a type 2 window that it unbinds is counted; or it is refused, and nothing changed
abbrev pub IsEnding : {S : Type 0} → (S → Sight) → (S → Invalidation → S) → Result (Unit {0}) OpRefusal → Invalidation → QueuePair → QueuePair → S → S → Type 0
IsEnding sight revoked (Ok done) i queue_before queue_after before after =
    ((sight before).refusal i ≡ None) × ((queue_after ≡ with_window_gone (Some i) queue_before) × (after ≡ revoked before i))
IsEnding sight revoked (Err cause) i queue_before queue_after before after =
    ((sight before).refusal i ≡ Some cause) × ((queue_after ≡ queue_before) × (after ≡ before))

-- what a SEND packet comes to, by its receive
unfoldable pub outcome_of_send : Sight → QueuePair → SendPacket → Outcome
outcome_of_send sight q s = outcome_in sight (send_row (with_flag false q) s.packet.now s.position (receiving s))
