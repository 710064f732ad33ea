-- The ask of an answer, an answer that is one packet at once, and what is made as a packet is sent. Contracts cite it.
use Rattle.std.specs.Prelude.{◌≡◌, ℕ, ◌<◌, ◌^◌, List, [], ◌∷◌, Option, None, Some, Result, Ok, Err, length}
use Rattle.ca_keys.specs.declared.access.Ask.{Ask}
use Rattle.ca_keys.specs.declared.access.Denial.{Denial}
use Rattle.ca_keys.specs.declared.access.Kind.TheVariants as kinds
use Rattle.ca_keys.specs.declared.memory.Memory.{Memory}
use Rattle.ca_keys.specs.declared.verdict.Verdict.TheVariants as verdicts
use Rattle.ca_base.specs.Sight.{Sight, bytes_in, denial_in}
use Rattle.ca_base.specs.declared.queue_numbers.Queued.{Queued}
use Rattle.ca_base.specs.declared.queue_numbers.Queued.TheVariants as queued
use Rattle.ca_base.specs.objects.QueuePair.{QueuePair, in_error, without_answers}
use Rattle.ca_wire.specs.Packet.{Fields}
use Rattle.ca_wire.specs.Builders.{nak}
use Rattle.ca_wire.specs.declared.syndrome.NakCode.TheVariants.{RemoteAccessError}
use Rattle.ca_model.specs.Marks.{MarkList}
use Rattle.ca_model.specs.declared.read_left.ReadLeft.{ReadLeft}
use Rattle.ca_model.specs.machine.Arrivals.{remote_mark}
use Rattle.ca_model.specs.machine.Completions.{flush_marks}
use Rattle.ca_model.specs.machine.CanStep.{CanStep}
use Rattle.ca_model.specs.machine.Requester.{peer_number, psn_bits}
use Rattle.ca_model.specs.machine.Respond.{response_ask, with_packet, without_front}
use Rattle.ca_model.specs.machine.Row.{Effects, Row, Does, plain_row, queue_and_marks}
use Rattle.ca_qp_rows.specs.Asks.{IsAskOf}
use Rattle.ca_qp_rows.specs.Made.{HasMade, IsSpelt, IsUnchanged}

-- no ask, or this one
abbrev pub one_ask : Option Ask → List Ask
one_ask None = []
one_ask (Some ask) = ask ∷ []

-- the answer is one packet: it is no READ
abbrev pub IsOnePacket : Queued → Type 0
IsOnePacket (queued.Ack psn) = Unit {0}
IsOnePacket (queued.Rnr psn) = Unit {0}
IsOnePacket (queued.Nak psn code) = Unit {0}
IsOnePacket (queued.Read psn key address left first envelope duplicate) = ⊥
IsOnePacket (queued.Atomic psn found duplicate) = Unit {0}

-- the front of the response queue is sent in this packet
abbrev pub packet_turn : QueuePair → Fields → Row
packet_turn q f = plain_row (Does (with_packet f (queue_and_marks (without_front q) [])))

-- a READ that is denied: a NAK, the response queue is emptied, and the queue pair moves to Error
abbrev pub read_refusal : QueuePair → ReadLeft → Denial → Effects
read_refusal q r denial = with_packet (nak RemoteAccessError (peer_number q) (psn_bits r.psn) q.responder.msn)
    (queue_and_marks (without_answers (in_error q)) (remote_mark (response_ask q r) r.envelope (verdicts.Denied denial) ∷ flush_marks q))

-- a call made these effects with the packet that they spell, or nothing
abbrev pub IsSent : {A : Type 0} → Result A Memory → Effects → QueuePair → QueuePair → MarkList → MarkList → List ℕ → List ℕ → Type 0
IsSent (Ok done) e queue_before queue_after before after out_before out_after =
    HasMade e queue_after before after × IsSpelt e.spelt out_before out_after
IsSent (Err memory) e queue_before queue_after before after out_before out_after =
    IsUnchanged queue_before queue_after before after × (out_after ≡ out_before)

-- a response of a READ may be sent: an answer waits, and the READ's PSN is narrow
pub record CanRespond (q : QueuePair) (r : ReadLeft) : Type 0 where
  pub step : CanStep q
  pub some : 0 < length q.responder.answers
  pub psn : r.psn < 2 ^ 63

-- the bytes that an ask touches may be read: the parts of its key are at hand, and its bytes too, where it is not denied
pub record CanRead {S : Type 0} (sight : S → Sight) (judges touches : S → Ask → Type 0) (reach : S) (ask : Ask) : Type 0 where
  pub keys : judges reach ask
  pub bytes : denial_in (sight reach) ask ≡ None → touches reach ask
  pub read : IsAskOf kinds.Read ask

-- what an ask reads: the bytes that it touches, or how it is denied
abbrev pub IsReadBy : Sight → Ask → Result (List ℕ) Denial → Type 0
IsReadBy s ask (Ok bytes) = (denial_in s ask ≡ None) × ((bytes ≡ bytes_in s ask) × (length bytes ≡ ask.touch))
IsReadBy s ask (Err denial) = denial_in s ask ≡ Some denial
