-- What arrives and what a responder sends lowers the weight. For proofs only.
use Rattle.std.proofs.Common.{◌≡◌, ℕ, suc, ◌+◌, ◌-◌, ◌≤◌, ◌<◌, Bool, true, false, if◌then◌else◌, List, [], ◌∷◌, drop, slice_get, Option, None, Some, Result, Ok, Err, refl, ap, sym, subst, arith}
use Rattle.std.proofs.lemmas.Bool.{leb-false}
use Rattle.std.proofs.lemmas.List.Sums.{sum_by-cons}
use Rattle.ca_base.specs.declared.queue_numbers.Queued.{Queued}
use Rattle.ca_base.specs.declared.queue_numbers.Queued.TheVariants as queued
use Rattle.ca_base.specs.declared.step.Reason.{Reason}
use Rattle.ca_base.specs.declared.step.Reason.TheVariants as reasons
use Rattle.ca_base.specs.objects.QueuePair.{QueuePair}
use Rattle.ca_base.specs.objects.SharedReceives.{SharedReceives}
use Rattle.ca_connection.proofs.LayoutLemmas.{segments-some, segments-step}
use Rattle.ca_keys.specs.Refusals.{first_of}
use Rattle.ca_model.specs.Packets.{is_response}
use Rattle.ca_model.specs.Requests.{segments}
use Rattle.ca_model.specs.declared.mark.Drop1.{Drop1}
use Rattle.ca_model.specs.declared.mark.Drop1.TheVariants as drops
use Rattle.ca_model.specs.declared.read_left.ReadLeft.{ReadLeft}
use Rattle.ca_model.specs.machine.Delivery.{arrival_drops, arrival_row, packet_arrived}
use Rattle.ca_model.specs.machine.Duplicates.{request_row}
use Rattle.ca_model.specs.machine.Invariants.{IsQueue}
use Rattle.ca_model.specs.machine.Respond.{answer_turn, is_last_response, read_row, respond_refusals, respond_row, response_length, rest_of, with_front, without_front}
use Rattle.ca_model.specs.machine.Responses.{drop_effects, response_row}
use Rattle.ca_model.specs.machine.Row.{Does, Effects, Ending, NotPossible, Row, plain_row}
use Rattle.ca_wire.specs.Decoding.{packet_in}
use Rattle.ca_wire.specs.Packet.{Fields}
use Rattle.ca_wire.specs.Table.{shape_of}
use Rattle.ca_wire.specs.declared.shape.Shape.{Shape}
use Rattle.ca_wire.specs.declared.wire_error.WireError.{WireError}
use Rattle.ca_law_once.proofs.Rows.ArrivalLemmas.{weaker}
use Rattle.ca_law_once.proofs.Rows.PacketRowLemmas.{least-mtu}
use Rattle.ca_law_once.proofs.Rows.RequestRowLemmas.{plain}
use Rattle.ca_law_once.proofs.Rows.TurnLemmas.{respond-responses}
use Rattle.ca_law_once.specs.Entries.{SpellsSomeResponse}
use Rattle.ca_law_once.specs.Moves.{EndingLeads, RowLeads, SendsResponses}
use Rattle.ca_law_bounds.proofs.RequestWeights.{AddsTo, dropped, request-adds}
use Rattle.ca_law_bounds.proofs.ResponseWeights.{Spends, response-spends}
use Rattle.ca_law_bounds.proofs.SumLemmas.{error-weighs}
use Rattle.ca_law_bounds.specs.Weights.{Lowers, answer_weight, answers_weight, asked_weight, decoded_weight, fields_weight, packet_weight, queue_weight, request_packet_weight, sent_weight}

-- ---- arrivals

adds-lower : (q : QueuePair) (k : ℕ) (e : Effects) → AddsTo k q e → Lowers q (suc k) e
adds-lower q k e adds on = omega (
  arith,
  adds.requests_are,
  adds.answers_are,
  ap (λ m. answers_weight m e.queue.responder.answers) adds.width,
  ap (λ s. sent_weight q.responder.mtu s e.spelt) adds.silent,
)

spends-lower : (q : QueuePair) (e : Effects) → Spends q.requester.cursor (queue_weight q) e → Lowers q 1 e
spends-lower q e spends on = omega (arith, spends.falls on, ap (λ s. sent_weight q.responder.mtu s e.spelt) spends.silent)

drop-lowers : (q : QueuePair) (k : ℕ) (cause : Drop1) → RowLeads (Lowers q (suc k)) (plain_row (Does (drop_effects q cause)))
drop-lowers q k cause = plain (Lowers q (suc k)) _ (adds-lower q k (drop_effects q cause) (dropped k q cause))

-- whichever packet arrives weighs one at least
record IsSome (n : ℕ) : Type 0 where
  less : ℕ
  is : n ≡ suc less

some-weight : (mtu : ℕ) (p : Fields) → IsSome (fields_weight mtu p)
some-weight mtu p = by (is_response p.opcode)
  where
    of : (o : Option Shape) → IsSome (request_packet_weight mtu p o)
    of None = record { less = 0; is = refl }
    of (Some shape) = record { less = asked_weight mtu p shape; is = refl }

    by : (b : Bool) → IsSome (if b then 1 else request_packet_weight mtu p (shape_of p.opcode))
    by true = record { less = 0; is = refl }
    by false = of (shape_of p.opcode)

packet-lowers : (q : QueuePair) (p : Fields) (envelope : Option ℕ) (shared : Option SharedReceives) → IsQueue q → RowLeads (Lowers q (fields_weight q.responder.mtu p)) (packet_arrived p envelope shared q)
packet-lowers q p envelope shared s = by (is_response p.opcode)
  where
    row : Option Shape → Row
    row (Some shape) = request_row p envelope shared shape q
    row None = plain_row (Does (drop_effects q drops.State))

    of : (o : Option Shape) → RowLeads (Lowers q (request_packet_weight q.responder.mtu p o)) (row o)
    of None = drop-lowers q 0 drops.State
    of (Some shape) = weaker (AddsTo (asked_weight q.responder.mtu p shape) q) (Lowers q (suc (asked_weight q.responder.mtu p shape))) (request_row p envelope shared shape q)
        (adds-lower q (asked_weight q.responder.mtu p shape)) (request-adds p envelope shared shape q)

    by : (b : Bool) → RowLeads (Lowers q (if b then 1 else request_packet_weight q.responder.mtu p (shape_of p.opcode))) (if b then response_row p q else row (shape_of p.opcode))
    by true = weaker (Spends q.requester.cursor (queue_weight q)) (Lowers q 1) (response_row p q) (spends-lower q) (response-spends p q s.requester.finished)
    by false = of (shape_of p.opcode)

pub arrival-lowers : (q : QueuePair) (bytes : List ℕ) (envelope : Option ℕ) (shared : Option SharedReceives) → IsQueue q
    → RowLeads (Lowers q (packet_weight q.responder.mtu bytes)) (arrival_row bytes envelope shared q)
arrival-lowers q bytes envelope shared s = by (packet_in bytes)
  where
    unless : Fields → Option Drop1 → Row
    unless p (Some cause) = plain_row (Does (drop_effects q cause))
    unless p None = packet_arrived p envelope shared q

    row : Result Fields WireError → Row
    row (Err error) = plain_row (Does (drop_effects q (drops.Wire error)))
    row (Ok p) = unless p (first_of (arrival_drops q p))

    at : (p : Fields) (o : Option Drop1) → RowLeads (Lowers q (fields_weight q.responder.mtu p)) (unless p o)
    at p (Some cause) = let some = some-weight q.responder.mtu p in subst (λ n. RowLeads (Lowers q n) (plain_row (Does (drop_effects q cause)))) (sym some.is) (drop-lowers q some.less cause)
    at p None = packet-lowers q p envelope shared s

    by : (r : Result Fields WireError) → RowLeads (Lowers q (decoded_weight q.responder.mtu r)) (row r)
    by (Err error) = drop-lowers q 0 (drops.Wire error)
    by (Ok p) = at p (first_of (arrival_drops q p))

-- ---- the responder's turn

-- the front of the queue goes
front-falls : (q : QueuePair) (a : Queued) (rest : List Queued) → q.responder.answers ≡ a ∷ rest → 2 ≤ answer_weight q.responder.mtu a → queue_weight (without_front q) + 2 ≤ queue_weight q
front-falls q a rest is two = omega (
  arith,
  two,
  ap (answers_weight q.responder.mtu) is,
  ap (λ xs. answers_weight q.responder.mtu (drop 1 xs)) is,
  sum_by-cons (answer_weight q.responder.mtu) a rest,
)

read-falls : (q : QueuePair) (r : ReadLeft) (rest : List Queued) → IsQueue q → q.responder.answers ≡ queued.Read r.psn r.key r.address r.left r.first r.envelope r.duplicate ∷ rest
    → RowLeads (λ e. queue_weight e.queue + 2 ≤ queue_weight q) (read_row q r)
read-falls q r rest s is = record {
  denied = λ d. omega (arith, error-weighs q, two, ap (answers_weight q.responder.mtu) is, sum_by-cons (answer_weight q.responder.mtu) front rest);
  allowed = λ bytes refusal. by (is_last_response q r) refl;
}
  where
    front : Queued
    front = queued.Read r.psn r.key r.address r.left r.first r.envelope r.duplicate

    two : 2 ≤ answer_weight q.responder.mtu front
    two = omega (arith, segments-some q.responder.mtu r.left)

    by : (b : Bool) → is_last_response q r ≡ b → queue_weight (if b then without_front q else with_front (rest_of q r) q) + 2 ≤ queue_weight q
    by true e = front-falls q front rest is two
    by false e =
        let long : q.responder.mtu < r.left = leb-false r.left q.responder.mtu e in
        let some : 0 < q.responder.mtu = omega (arith, least-mtu q.responder.mtu s.responder.mtu) in
        let step : segments q.responder.mtu r.left ≡ suc (segments q.responder.mtu (r.left - q.responder.mtu)) = segments-step q.responder.mtu r.left some long in
        let count : r.left - response_length q r ≡ r.left - q.responder.mtu = omega (arith, long) in
        omega (
          arith,
          step,
          ap (segments q.responder.mtu) count,
          ap (answers_weight q.responder.mtu) is,
          ap (λ xs. answers_weight q.responder.mtu (drop 1 xs)) is,
          sum_by-cons (answer_weight q.responder.mtu) front rest,
          sum_by-cons (answer_weight q.responder.mtu) (rest_of q r) (drop 1 q.responder.answers),
        )

answer-falls : (q : QueuePair) (a : Queued) (rest : List Queued) → IsQueue q → q.responder.answers ≡ a ∷ rest → RowLeads (λ e. queue_weight e.queue + 2 ≤ queue_weight q) (answer_turn q a)
answer-falls q (queued.Ack psn) rest s is = plain (λ e. queue_weight e.queue + 2 ≤ queue_weight q) _ (front-falls q (queued.Ack psn) rest is (omega arith))
answer-falls q (queued.Rnr psn) rest s is = plain (λ e. queue_weight e.queue + 2 ≤ queue_weight q) _ (front-falls q (queued.Rnr psn) rest is (omega arith))
answer-falls q (queued.Nak psn code) rest s is = plain (λ e. queue_weight e.queue + 2 ≤ queue_weight q) _ (front-falls q (queued.Nak psn code) rest is (omega arith))
answer-falls q (queued.Read psn key address left begins envelope duplicate) rest s is =
    read-falls q (record { psn = psn; key = key; address = address; left = left; first = begins; envelope = envelope; duplicate = duplicate }) rest s is
answer-falls q (queued.Atomic psn found duplicate) rest s is = plain (λ e. queue_weight e.queue + 2 ≤ queue_weight q) _ (front-falls q (queued.Atomic psn found duplicate) rest is (omega arith))

pub respond-falls : (q : QueuePair) (room : Bool) → IsQueue q → RowLeads (λ e. queue_weight e.queue + 2 ≤ queue_weight q) (respond_row room q)
respond-falls q room s = by (first_of (respond_refusals room q)) q.responder.answers refl
  where
    row : Option Reason → Option Queued → Row
    row (Some reason) answer = plain_row (NotPossible reason)
    row None None = plain_row (NotPossible reasons.Empty)
    row None (Some answer) = answer_turn q answer

    by : (o : Option Reason) (xs : List Queued) → q.responder.answers ≡ xs → RowLeads (λ e. queue_weight e.queue + 2 ≤ queue_weight q) (row o (slice_get xs 0))
    by (Some reason) xs is = record { denied = λ a. record {}; allowed = λ bytes refusal. record {} }
    by None [] is = record { denied = λ a. record {}; allowed = λ bytes refusal. record {} }
    by None (a ∷ rest) is = answer-falls q a rest s is

-- a row that does two things does both
pub both : (P Q : Effects → Type 0) (row : Row) → RowLeads P row → RowLeads Q row → RowLeads (λ e. P e × Q e) row
both P Q row one other = record { denied = λ d. of (row.denied d) (one.denied d) (other.denied d); allowed = λ bytes refusal. of (row.allowed bytes refusal) (one.allowed bytes refusal) (other.allowed bytes refusal) }
  where
    of : (x : Ending) → EndingLeads P x → EndingLeads Q x → EndingLeads (λ e. P e × Q e) x
    of (NotPossible reason) one other = record {}
    of (Does e) one other = (one, other)

-- a response weighs one
pub response-weighs : (mtu : ℕ) (bytes : List ℕ) → SpellsSomeResponse bytes → packet_weight mtu bytes ≡ 1
response-weighs mtu bytes spells = by (packet_in bytes) refl
  where
    by : (r : Result Fields WireError) → packet_in bytes ≡ r → decoded_weight mtu r ≡ 1
    by (Err error) is = refl
    by (Ok p) is = ap (λ b. if b then 1 else request_packet_weight mtu p (shape_of p.opcode)) (spells p is)

pub respond-lowers : (q : QueuePair) (room : Bool) → IsQueue q → RowLeads (Lowers q 0) (respond_row room q)
respond-lowers q room s = weaker (λ e. (queue_weight e.queue + 2 ≤ queue_weight q) × SendsResponses e) (Lowers q 0) (respond_row room q)
    (λ e does on. omega (arith, does.0, ap (λ x. sent_weight q.responder.mtu x e.spelt) does.1.sent, response-weighs q.responder.mtu e.spelt does.1.spells))
    (both (λ e. queue_weight e.queue + 2 ≤ queue_weight q) SendsResponses (respond_row room q) (respond-falls q room s) (respond-responses q room s))
