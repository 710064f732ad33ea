-- The responder's turn: what stands against it, and the answer that it sends. Contracts cite it.
use Rattle.std.specs.Prelude.{ℕ, suc, ◌+◌, ◌-◌, ◌%◌, ◌^◌, ◌==◌, nat_le, min, Bool, true, false, not, if◌then◌else◌, List, [], ◌∷◌, drop, Option, None, Some, is_none, slice_get}
use Rattle.std.specs.List.{flat_map}
use Rattle.std.specs.Option.{option_map_or}
use Rattle.ca_keys.specs.declared.access.Ask.{Ask}
use Rattle.ca_keys.specs.declared.access.Kind.TheVariants as kinds
use Rattle.ca_base.specs.declared.change.State.TheVariants as states
use Rattle.ca_base.specs.declared.queue_numbers.Queued.{Queued}
use Rattle.ca_base.specs.declared.queue_numbers.Queued.TheVariants as queued
use Rattle.ca_base.specs.declared.step.Reason.{Reason}
use Rattle.ca_base.specs.declared.step.Reason.TheVariants as reasons
use Rattle.ca_base.specs.declared.step.Sent.TheVariants.{Spelt}
use Rattle.ca_keys.specs.declared.verdict.Verdict.TheVariants as verdicts
use Rattle.ca_keys.specs.Refusals.{first_of}
use Rattle.ca_base.specs.objects.QueuePair.{QueuePair, in_error, without_answers}
use Rattle.ca_base.specs.objects.StateTable.{is_among}
use Rattle.ca_wire.specs.declared.segment.Segment.{Segment}
use Rattle.ca_wire.specs.declared.syndrome.NakCode.{NakCode}
use Rattle.ca_wire.specs.declared.syndrome.NakCode.TheVariants.{PsnSequenceError, RemoteAccessError}
use Rattle.ca_wire.specs.Builders.{acknowledgement, atomic_acknowledge, nak, read_response, rnr_nak}
use Rattle.ca_wire.specs.Packet.{Fields, spelling}
use Rattle.ca_wire.specs.Syndrome.{nak_code_in}
use Rattle.ca_model.specs.declared.read_left.ReadLeft.{ReadLeft}
use Rattle.ca_model.specs.machine.Arrivals.{packet_ask, remote_mark, with_responder}
use Rattle.ca_model.specs.machine.Completions.{flush_marks}
use Rattle.ca_model.specs.machine.Requester.{peer_number, psn_bits}
use Rattle.ca_model.specs.machine.Row.{Effects, queue_and_marks, Row, plain_row, NotPossible, Does}

-- why a responder's turn is not possible, in order
abbrev pub respond_refusals : Bool → QueuePair → List (Bool × Reason)
respond_refusals room q =
    (is_among (states.Reset ∷ states.Init ∷ []) q.state, reasons.State)
    ∷ (is_none (slice_get q.responder.answers 0), reasons.Empty)
    ∷ (not room, reasons.NoRoom)
    ∷ []

-- the front of the response queue is sent
abbrev pub without_front : QueuePair → QueuePair
without_front q = with_responder (record q.responder { answers = drop 1 q.responder.answers }) q

-- the front is another answer now
abbrev pub with_front : Queued → QueuePair → QueuePair
with_front answer q = with_responder (record q.responder { answers = answer ∷ drop 1 q.responder.answers }) q

-- a packet is sent
abbrev pub with_packet : Fields → Effects → Effects
with_packet f e = record e { sent = Spelt None; spelt = spelling f }

-- a NAK by its code
abbrev pub nak_of : ℕ → NakCode
nak_of code = option_map_or (λ c. c) (nak_code_in code) PsnSequenceError

-- the bytes of its next response
abbrev pub response_length : QueuePair → ReadLeft → ℕ
response_length q r = min q.responder.mtu r.left

-- the next response is the last
abbrev pub is_last_response : QueuePair → ReadLeft → Bool
is_last_response q r = nat_le r.left q.responder.mtu

-- where the response stands in the message: first or not, last or not
abbrev pub response_segment : Bool → Bool → Segment
response_segment first last = record { index = index first; count = if last then suc (index first) else suc (suc (index first)) }
  where
    index : Bool → ℕ
    index true = 0
    index false = 1

-- the READ without its next response
abbrev pub rest_of : QueuePair → ReadLeft → Queued
rest_of q r =
    queued.Read (suc r.psn) r.key ((r.address + response_length q r) % 2 ^ 64) (r.left - response_length q r) false r.envelope r.duplicate

-- the ask of the next response: all bytes that are left are judged
abbrev pub response_ask : QueuePair → ReadLeft → Ask
response_ask q r = packet_ask q r.key kinds.Read r.address r.left (response_length q r)

-- a response with these bytes is sent
abbrev pub read_answer : QueuePair → ReadLeft → List ℕ → Effects
read_answer q r bytes = with_packet
    (read_response (response_segment r.first (is_last_response q r)) (peer_number q) (psn_bits r.psn) q.responder.msn bytes)
    (queue_and_marks (if is_last_response q r then without_front q else with_front (rest_of q r) q)
    (remote_mark (response_ask q r) r.envelope (verdicts.Read bytes) ∷ []))

-- a READ: its next response, or, where it is denied, a NAK; then the response queue is emptied and the queue pair moves
-- to Error
abbrev pub read_row : QueuePair → ReadLeft → Row
read_row q r = record {
  asks = if r.left == 0 then [] else response_ask q r ∷ [];
  invalidation = None;
  denied = λ d. Does (with_packet (nak RemoteAccessError (peer_number q) (psn_bits r.psn) q.responder.msn)
      (queue_and_marks (without_answers (in_error q)) (remote_mark d.ask r.envelope (verdicts.Denied d.denial) ∷ flush_marks q)));
  allowed = λ bytes refusal. Does (read_answer q r (flat_map (λ b. b) bytes));
}

-- the answer at the front
abbrev pub answer_turn : QueuePair → Queued → Row
answer_turn q (queued.Ack psn) =
    plain_row (Does (with_packet (acknowledgement (peer_number q) (psn_bits psn) q.responder.msn) (queue_and_marks (without_front q) [])))
answer_turn q (queued.Rnr psn) =
    plain_row (Does (with_packet (rnr_nak q.responder.rnr_code (peer_number q) (psn_bits psn) q.responder.msn) (queue_and_marks (without_front q) [])))
answer_turn q (queued.Nak psn code) =
    plain_row (Does (with_packet (nak (nak_of code) (peer_number q) (psn_bits psn) q.responder.msn) (queue_and_marks (without_front q) [])))
answer_turn q (queued.Read psn key address left first envelope duplicate) = read_row q (record {
  psn = psn;
  key = key;
  address = address;
  left = left;
  first = first;
  envelope = envelope;
  duplicate = duplicate;
})
answer_turn q (queued.Atomic psn found duplicate) =
    plain_row (Does (with_packet (atomic_acknowledge found (peer_number q) (psn_bits psn) q.responder.msn) (queue_and_marks (without_front q) [])))

-- a responder's turn
abbrev pub respond_row : Bool → QueuePair → Row
respond_row room q = by (first_of (respond_refusals room q)) (slice_get q.responder.answers 0)
  where
    by : Option Reason → Option Queued → Row
    by (Some reason) answer = plain_row (NotPossible reason)
    by None None = plain_row (NotPossible reasons.Empty)
    by None (Some answer) = answer_turn q answer
