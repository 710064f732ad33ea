-- What a request that arrives adds to the response queue: no more than it asks for. For proofs only.
use Rattle.std.proofs.Common.{◌≡◌, ℕ, ◌+◌, ◌-◌, ◌*◌, ◌≤◌, ◌==◌, ◌&&◌, Bool, true, false, nat_le, nat_lt, if◌then◌else◌, List, [], ◌∷◌, ◌++◌, length, Option, None, Some, is_none, refl, ap, arith}
use Rattle.std.specs.List.{flat_map}
use Rattle.std.specs.Option.{option_map, option_map_or}
use Rattle.ca_keys.specs.Memory.{little_endian, little_endian_bytes}
use Rattle.ca_keys.specs.declared.access.Ask.{Ask}
use Rattle.ca_keys.specs.declared.access.Kind.{Kind}
use Rattle.ca_keys.specs.declared.access.Kind.TheVariants as kinds
use Rattle.ca_keys.specs.declared.verdict.Verdict.TheVariants as verdicts
use Rattle.ca_base.specs.declared.completion.WcOp.TheVariants as operations
use Rattle.ca_base.specs.declared.completion.WcStatus.{WcStatus}
use Rattle.ca_base.specs.declared.completion.WcStatus.TheVariants.{Success, LocalLength, LocalProtection, MemoryManagement}
use Rattle.ca_base.specs.declared.limits.TheConstants.{ATOMIC_BYTES, MAX_DUPLICATES}
use Rattle.ca_base.specs.declared.queue_numbers.Message.TheVariants as messages
use Rattle.ca_base.specs.declared.queue_numbers.Queued.{Queued}
use Rattle.ca_base.specs.declared.queue_numbers.Queued.TheVariants as queued
use Rattle.ca_base.specs.declared.refusals.OpRefusal.{OpRefusal}
use Rattle.ca_base.specs.declared.request.PlacedReceive.{PlacedReceive}
use Rattle.ca_base.specs.objects.Answers.{answers_before, duplicate_count, psn_of_answer, with_ack_at_end}
use Rattle.ca_base.specs.objects.QueuePair.{QueuePair}
use Rattle.ca_base.specs.objects.Saved.{after_save, saved_at}
use Rattle.ca_base.specs.objects.SharedReceives.{SharedReceives}
use Rattle.ca_model.specs.Packets.{number_put}
use Rattle.ca_model.specs.Requests.{list_length, segments}
use Rattle.ca_model.specs.declared.mark.Drop1.{Drop1}
use Rattle.ca_model.specs.declared.mark.Drop1.TheVariants as drops
use Rattle.ca_model.specs.declared.mark.Mark.{Mark}
use Rattle.ca_model.specs.declared.receiving.Receiving.{Receiving}
use Rattle.ca_model.specs.declared.write_reach.WriteReach.{WriteReach}
use Rattle.ca_model.specs.machine.Arrivals.{next_receive, packet_ask, refusal_effects, remote_mark, with_answer, with_flag, with_message, with_receive_taken}
use Rattle.ca_model.specs.machine.Completions.{receive_failure, receive_mark}
use Rattle.ca_model.specs.machine.Duplicates.{ack_again, ahead_effects, answer_again, atomic_again, duplicate_effects, read_again, request_row}
use Rattle.ca_model.specs.machine.Expected.{after_send_packet, after_write_packet, atomic_row, behind_marks, expected_row, invalidation_of, is_invalid, message_left, queue_after_packet, read_queued, receive_asks, receive_failure_effects, receiving_of, revoked_marks, rnr_effects, send_row, takes_receive, valid_row, with_shared_receive, with_window_gone, write_reach, write_row}
use Rattle.ca_model.specs.machine.Requester.{local_denial}
use Rattle.ca_model.specs.machine.Responses.{drop_effects, local_writes, writes_by}
use Rattle.ca_model.specs.machine.Row.{Does, Effects, Row, plain_row, queue_and_marks}
use Rattle.ca_wire.specs.Packet.{Fields}
use Rattle.ca_wire.specs.Shapes.{ends}
use Rattle.ca_wire.specs.declared.atomic_eth.AtomicEth.{AtomicEth}
use Rattle.ca_wire.specs.declared.reth.Reth.{Reth}
use Rattle.ca_wire.specs.declared.shape.Position.{Position}
use Rattle.ca_wire.specs.declared.shape.Shape.{Shape}
use Rattle.ca_wire.specs.declared.shape.Shape.TheVariants as shapes
use Rattle.ca_psn.specs.Psn.{widened}
use Rattle.ca_law_once.specs.Moves.{RowLeads}
use Rattle.ca_wire.specs.Syndrome.{nak_code}
use Rattle.ca_wire.specs.declared.syndrome.NakCode.{NakCode}
use Rattle.ca_wire.specs.declared.syndrome.NakCode.TheVariants.{PsnSequenceError, InvalidRequest, RemoteAccessError, RemoteOperationalError}
use Rattle.ca_base.specs.declared.step.Sent.TheVariants.{Silent}
use Rattle.ca_law_once.proofs.Rows.RequestRowLemmas.{cond-row, plain}
use Rattle.ca_law_bounds.proofs.SumLemmas.{ack-more, answers-more, error-requests, sum-filter}
use Rattle.ca_law_bounds.specs.Weights.{answer_weight, answers_weight, asked_weight, requests_weight}

-- what a row leaves of the requests and of the response queue weighs no more than this, at this path MTU; and
-- nothing is sent
pub record Adds (requests answers mtu : ℕ) (e : Effects) : Type 0 where
  pub silent : e.sent ≡ Silent
  pub requests_are : requests_weight e.queue ≤ requests
  pub answers_are : answers_weight mtu e.queue.responder.answers ≤ answers
  pub width : e.queue.responder.mtu ≡ mtu

-- of a queue pair no more than it had, and so much for what is queued
abbrev pub AddsTo : ℕ → QueuePair → Effects → Type 0
AddsTo k q e = Adds (requests_weight q) (answers_weight q.responder.mtu q.responder.answers + k) q.responder.mtu e

abbrev RowAdds : ℕ → QueuePair → Row → Type 0
RowAdds k q row = RowLeads (AddsTo k q) row

pub dropped : (k : ℕ) (q : QueuePair) (cause : Drop1) → AddsTo k q (drop_effects q cause)
dropped k q cause = record { silent = refl; requests_are = omega arith; answers_are = omega arith; width = refl }

-- one answer more
answered : (k : ℕ) (q : QueuePair) (e : Effects) (kept : List Queued) (a : Queued) → answer_weight q.responder.mtu a ≤ k
    → answers_weight q.responder.mtu kept ≤ answers_weight q.responder.mtu q.responder.answers
    → e.sent ≡ Silent → requests_weight e.queue ≤ requests_weight q → e.queue.responder.answers ≡ kept ++ (a ∷ []) → e.queue.responder.mtu ≡ q.responder.mtu → AddsTo k q e
answered k q e kept a light some silent requests is width = record {
  silent = silent;
  requests_are = requests;
  answers_are = omega (arith, ap (answers_weight q.responder.mtu) is, answers-more q.responder.mtu kept a, light, some);
  width = width;
}

-- in Error none is unfinished
refusal-adds : (k : ℕ) (q : QueuePair) (code : NakCode) → 2 ≤ k → AddsTo k q (refusal_effects code q)
refusal-adds k q code two = answered k q (refusal_effects code q) q.responder.answers (queued.Nak q.responder.expected (nak_code code)) two (omega arith) refl
    (omega (arith, error-requests (with_answer (queued.Nak q.responder.expected (nak_code code)) q))) refl refl

behind : (r a m : ℕ) (ms : List Mark) (e : Effects) → Adds r a m e → Adds r a m (behind_marks ms e)
behind r a m ms e adds = record { silent = adds.silent; requests_are = adds.requests_are; answers_are = adds.answers_are; width = adds.width }

shared : (r a m : ℕ) (q : QueuePair) (e : Effects) → Adds r a m e → Adds r a m (with_shared_receive q e)
shared r a m q e adds = record { silent = adds.silent; requests_are = adds.requests_are; answers_are = adds.answers_are; width = adds.width }

with-writes : (r a m : ℕ) (writes : List (Ask × List ℕ)) (e : Effects) → Adds r a m e → Adds r a m (record e { writes = writes })
with-writes r a m writes e adds = record { silent = adds.silent; requests_are = adds.requests_are; answers_are = adds.answers_are; width = adds.width }

failure-adds : (k : ℕ) (q : QueuePair) (r : PlacedReceive) (status : WcStatus) (cause : Option OpRefusal) (code : NakCode) → 2 ≤ k → AddsTo k q (receive_failure_effects q r status cause code)
failure-adds k q r status cause code two = behind (requests_weight q) (answers_weight q.responder.mtu q.responder.answers + k) q.responder.mtu (receive_failure q.queue r.place r.receive status cause ∷ [])
    (refusal_effects code (with_message None q)) (refusal-adds k (with_message None q) code two)

-- a SEND or a WRITE is placed, and acknowledged or not
placed : (k : ℕ) (q : QueuePair) (e : Effects) (b : Bool) → 2 ≤ k → e.sent ≡ Silent → requests_weight e.queue ≤ requests_weight q
    → e.queue.responder.answers ≡ (if b then with_ack_at_end q.responder.expected q.responder.answers else q.responder.answers) → e.queue.responder.mtu ≡ q.responder.mtu → AddsTo k q e
placed k q e true two silent requests is width = record {
  silent = silent;
  requests_are = requests;
  answers_are = omega (arith, ap (answers_weight q.responder.mtu) is, ack-more q.responder.mtu q.responder.expected q.responder.answers, two);
  width = width;
}
placed k q e false two silent requests is width = record {
  silent = silent;
  requests_are = requests;
  answers_are = omega (arith, ap (answers_weight q.responder.mtu) is);
  width = width;
}

send-packet-adds : (k : ℕ) (q : QueuePair) (p : Fields) (place : Position) (r : Receiving) → 2 ≤ k → AddsTo k q (after_send_packet q p place r)
send-packet-adds k q p place r two = by (ends place)
  where
    by : (b : Bool) → AddsTo k q (
        if b
        then queue_and_marks (with_message None (queue_after_packet p 1 true true q))
        (receive_mark q.queue r.receive.place r.receive.receive Success operations.Recv (r.before + length p.payload) p.imm
        (option_map (λ key. record { 0 = key }) p.ieth) ∷ [])
        else queue_and_marks (with_message (Some (messages.Send r.receive.place r.receive.receive (r.before + length p.payload))) (queue_after_packet p 1 false true q)) [])
    by true = placed k q _ p.ack two refl (omega arith) refl refl
    by false = placed k q _ p.ack two refl (omega arith) refl refl

-- a SEND packet with its receive; `before` is the queue pair, and the receive that the message takes is taken from it
send-adds : (k : ℕ) (before : QueuePair) (p : Fields) (place : Position) (r : Receiving) → 2 ≤ k → RowAdds k before (send_row before p place r)
send-adds k before p place r two = taken r.taken
  where
    requests : ℕ
    requests = requests_weight before

    answers : ℕ
    answers = answers_weight before.responder.mtu before.responder.answers + k

    took : Bool → QueuePair → Effects → Effects
    took b q e = if b then with_shared_receive q e else e

    by : QueuePair → Option OpRefusal → Effects
    by q (Some cause) = receive_failure_effects q r.receive MemoryManagement (Some cause) RemoteOperationalError
    by q None = behind_marks (revoked_marks q (invalidation_of q p)) (after_send_packet (with_window_gone (invalidation_of q p) q) p place r)

    row : Bool → QueuePair → Bool → Row
    row b q long =
        if long then plain_row (Does (took b q (receive_failure_effects q r.receive LocalLength None InvalidRequest)))
        else record {
          asks = receive_asks q p r;
          invalidation = invalidation_of q p;
          denied = λ d. Does (took b q (behind_marks (local_denial d ∷ []) (receive_failure_effects q r.receive LocalProtection None RemoteOperationalError)));
          allowed = λ bytes refusal. Does (took b q (record (behind_marks (local_writes (writes_by (receive_asks q p r) p.payload)) (by q refusal)) { writes = writes_by (receive_asks q p r) p.payload }));
        }

    took-adds : (b : Bool) (q : QueuePair) (e : Effects) → AddsTo k before e → AddsTo k before (took b q e)
    took-adds true q e adds = shared requests answers before.responder.mtu q e adds
    took-adds false q e adds = adds

    on : (b : Bool) (receives : Option _) (long : Bool) → RowAdds k before (row b (record before { receives = receives }) long)
    on b receives true = plain (AddsTo k before) _ (took-adds b q _ (failure-adds k q r.receive LocalLength None InvalidRequest two))
      where
        q : QueuePair
        q = record before { receives = receives }
    on b receives false = record {
      denied = λ a. took-adds b q _ (behind requests answers before.responder.mtu (local_denial a ∷ []) _ (failure-adds k q r.receive LocalProtection None RemoteOperationalError two));
      allowed = λ bytes refusal. took-adds b q _ (with-writes requests answers before.responder.mtu writes _
          (behind requests answers before.responder.mtu (local_writes writes) (by q refusal) (ended refusal)));
    }
      where
        q : QueuePair
        q = record before { receives = receives }

        writes : List (Ask × List ℕ)
        writes = writes_by (receive_asks q p r) p.payload

        ended : (refusal : Option OpRefusal) → AddsTo k before (by q refusal)
        ended (Some cause) = failure-adds k q r.receive MemoryManagement (Some cause) RemoteOperationalError two
        ended None = behind requests answers before.responder.mtu (revoked_marks q (invalidation_of q p)) _
            (send-packet-adds k (with_window_gone (invalidation_of q p) q) p place r two)

    taken : (b : Bool) → RowAdds k before (row b (if b then with_receive_taken before else before) (nat_lt (list_length r.receive.receive.list.items) (r.before + length p.payload)))
    taken true = on true (with_receive_taken before).receives (nat_lt (list_length r.receive.receive.list.items) (r.before + length p.payload))
    taken false = on false before.receives (nat_lt (list_length r.receive.receive.list.items) (r.before + length p.payload))

write-packet-adds : (k : ℕ) (q : QueuePair) (p : Fields) (place : Position) (r : WriteReach) (next : Option PlacedReceive) → 2 ≤ k → AddsTo k q (after_write_packet q p place r next)
write-packet-adds k q p place r next two = by (ends place)
  where
    done : QueuePair → QueuePair
    done q = with_message None (queue_after_packet p 1 true true q)

    at_end : Option ℕ → Option PlacedReceive → Effects
    at_end (Some imm) (Some receive) = with_shared_receive q (queue_and_marks (done (with_receive_taken q))
        (receive_mark q.queue receive.place receive.receive Success operations.RecvImm r.whole (Some imm) None ∷ []))
    at_end imm next = queue_and_marks (done q) []

    ended : (imm : Option ℕ) (next : Option PlacedReceive) → AddsTo k q (at_end imm next)
    ended (Some imm) (Some receive) = placed k q (at_end (Some imm) (Some receive)) p.ack two refl (omega arith) refl refl
    ended (Some imm) None = placed k q (at_end (Some imm) None) p.ack two refl (omega arith) refl refl
    ended None next = placed k q (at_end None next) p.ack two refl (omega arith) refl refl

    by : (b : Bool) → AddsTo k q (
        if b then at_end p.imm next else queue_and_marks (with_message (Some (message_left r (length p.payload))) (queue_after_packet p 1 false true q)) [])
    by true = ended p.imm next
    by false = placed k q _ p.ack two refl (omega arith) refl refl

write-adds : (k : ℕ) (q : QueuePair) (p : Fields) (envelope : Option ℕ) (place : Position) (next : Option PlacedReceive) (r : WriteReach) → 2 ≤ k → RowAdds k q (write_row q p envelope place next r)
write-adds k q p envelope place next r two = record {
  denied = λ a. behind (requests_weight q) (answers_weight q.responder.mtu q.responder.answers + k) q.responder.mtu (remote_mark a.ask envelope (verdicts.Denied a.denial) ∷ [])
      (refusal_effects RemoteAccessError q) (refusal-adds k q RemoteAccessError two);
  allowed = λ bytes refusal. with-writes (requests_weight q) (answers_weight q.responder.mtu q.responder.answers + k) q.responder.mtu (if r.left == 0 then [] else (ask, p.payload) ∷ []) _
      (behind (requests_weight q) (answers_weight q.responder.mtu q.responder.answers + k) q.responder.mtu (remote_mark ask envelope (verdicts.Wrote p.payload) ∷ []) (after_write_packet q p place r next)
      (write-packet-adds k q p place r next two));
}
  where
    ask : Ask
    ask = packet_ask q r.key kinds.Write r.address r.left (length p.payload)

atomic-adds : (k : ℕ) (q : QueuePair) (p : Fields) (envelope : Option ℕ) (kind : Kind) (a : AtomicEth) → 2 ≤ k → RowAdds k q (atomic_row q p envelope kind a)
atomic-adds k q p envelope kind a two = record {
  denied = λ b. behind (requests_weight q) (answers_weight q.responder.mtu q.responder.answers + k) q.responder.mtu (remote_mark b.ask envelope (verdicts.Denied b.denial) ∷ [])
      (refusal_effects RemoteAccessError q) (refusal-adds k q RemoteAccessError two);
  allowed = λ bytes refusal. acts (little_endian (flat_map (λ b. b) bytes));
}
  where
    ask : Ask
    ask = packet_ask q a.key kind a.address ATOMIC_BYTES ATOMIC_BYTES

    saved : ℕ → QueuePair
    saved found = record (with_answer (queued.Atomic q.responder.expected found false) q) { saved = after_save q.responder.expected found q.saved }

    put : ℕ → ℕ
    put found = option_map_or (λ n. n) (number_put kind a found) 0

    acted : ℕ → Effects
    acted found = record (queue_and_marks (queue_after_packet p 1 true false (saved found)) (remote_mark ask envelope (verdicts.Swapped found (put found)) ∷ [])) {
      writes = (ask, little_endian_bytes (put found)) ∷ [];
    }

    acts : (found : ℕ) → AddsTo k q (acted found)
    acts found = answered k q (acted found) q.responder.answers (queued.Atomic q.responder.expected found false) two (omega arith) refl (omega arith) refl refl

-- ---- the expected packet

two-asked : (mtu : ℕ) (p : Fields) (shape : Shape) → 2 ≤ asked_weight mtu p shape
two-asked mtu p (shapes.Send place) = omega arith
two-asked mtu p (shapes.Write place) = omega arith
two-asked mtu p shapes.Read = by p.reth
  where
    by : (o : Option Reth) → 2 ≤ option_map_or (λ h. 2 * segments mtu h.length) o 2
    by None = omega arith
    by (Some h) = omega arith
two-asked mtu p (shapes.Atomic kind) = omega arith

valid-adds : (q : QueuePair) (p : Fields) (envelope : Option ℕ) (next : Option PlacedReceive) (shape : Shape) → RowAdds (asked_weight q.responder.mtu p shape) q (valid_row q p envelope next shape)
valid-adds q p envelope next (shapes.Send place) = by (receiving_of q next q.responder.message)
  where
    row : Option Receiving → Row
    row (Some r) = send_row q p place r
    row None = plain_row (Does (refusal_effects InvalidRequest q))

    by : (r : Option Receiving) → RowAdds 2 q (row r)
    by (Some r) = send-adds 2 q p place r (omega arith)
    by None = plain (AddsTo 2 q) (refusal_effects InvalidRequest q) (refusal-adds 2 q InvalidRequest (omega arith))
valid-adds q p envelope next (shapes.Write place) = by (write_reach q p)
  where
    row : Option WriteReach → Row
    row (Some r) = write_row q p envelope place next r
    row None = plain_row (Does (refusal_effects InvalidRequest q))

    by : (r : Option WriteReach) → RowAdds 2 q (row r)
    by (Some r) = write-adds 2 q p envelope place next r (omega arith)
    by None = plain (AddsTo 2 q) (refusal_effects InvalidRequest q) (refusal-adds 2 q InvalidRequest (omega arith))
valid-adds q p envelope next shapes.Read = by p.reth
  where
    row : Option Reth → Row
    row (Some h) = plain_row (Does (read_queued q p envelope h))
    row None = plain_row (Does (refusal_effects InvalidRequest q))

    asked : Option Reth → ℕ
    asked o = option_map_or (λ h. 2 * segments q.responder.mtu h.length) o 2

    by : (h : Option Reth) → RowAdds (asked h) q (row h)
    by (Some h) = plain (AddsTo (asked (Some h)) q) (read_queued q p envelope h)
        (answered (asked (Some h)) q (read_queued q p envelope h) q.responder.answers (queued.Read q.responder.expected h.key h.address h.length true envelope false) (omega arith) (omega arith) refl (omega arith) refl refl)
    by None = plain (AddsTo 2 q) (refusal_effects InvalidRequest q) (refusal-adds 2 q InvalidRequest (omega arith))
valid-adds q p envelope next (shapes.Atomic kind) = by p.atomic
  where
    row : Option AtomicEth → Row
    row (Some a) = atomic_row q p envelope kind a
    row None = plain_row (Does (refusal_effects InvalidRequest q))

    by : (a : Option AtomicEth) → RowAdds 2 q (row a)
    by (Some a) = atomic-adds 2 q p envelope kind a (omega arith)
    by None = plain (AddsTo 2 q) (refusal_effects InvalidRequest q) (refusal-adds 2 q InvalidRequest (omega arith))

expected-adds : (before : QueuePair) (p : Fields) (envelope : Option ℕ) (shared : Option SharedReceives) (shape : Shape) → RowAdds (asked_weight before.responder.mtu p shape) before (expected_row before shared p envelope shape)
expected-adds before p envelope shared shape =
    cond-row (AddsTo k before) (is_invalid q p shape) _ _ (plain (AddsTo k before) (refusal_effects InvalidRequest q) (refusal-adds k q InvalidRequest two))
    (cond-row (AddsTo k before) (takes_receive p shape && is_none (next_receive q shared)) _ _ (plain (AddsTo k before) (rnr_effects q)
    (answered k q (rnr_effects q) q.responder.answers (queued.Rnr q.responder.expected) two (omega arith) refl (omega arith) refl refl))
    (valid-adds q p envelope (next_receive q shared) shape))
  where
    q : QueuePair
    q = with_flag false before

    k : ℕ
    k = asked_weight before.responder.mtu p shape

    two : 2 ≤ k
    two = two-asked before.responder.mtu p shape

-- ---- packets ahead, and duplicates

ahead-adds : (k : ℕ) (q : QueuePair) → 2 ≤ k → AddsTo k q (ahead_effects q)
ahead-adds k q two = by q.responder.nak_sent
  where
    queued_nak : Effects
    queued_nak = queue_and_marks (with_flag true (with_answer (queued.Nak q.responder.expected (nak_code PsnSequenceError)) q)) []

    by : (b : Bool) → AddsTo k q (if b then drop_effects q drops.Stale else queued_nak)
    by true = dropped k q drops.Stale
    by false = answered k q queued_nak q.responder.answers (queued.Nak q.responder.expected (nak_code PsnSequenceError)) two (omega arith) refl (omega arith) refl refl

ack-again-adds : (k : ℕ) (q : QueuePair) → 2 ≤ k → AddsTo k q (ack_again q)
ack-again-adds k q two = by (length q.responder.answers == 0)
  where
    acked : Effects
    acked = queue_and_marks (with_answer (queued.Ack (q.responder.expected - 1)) q) []

    by : (b : Bool) → AddsTo k q (if b then acked else drop_effects q drops.Unsaved)
    by true = answered k q acked q.responder.answers (queued.Ack (q.responder.expected - 1)) two (omega arith) refl (omega arith) refl refl
    by false = dropped k q drops.Unsaved

before-less : (q : QueuePair) (w : ℕ) → answers_weight q.responder.mtu (answers_before w q.responder.answers) ≤ answers_weight q.responder.mtu q.responder.answers
before-less q w = sum-filter (answer_weight q.responder.mtu) (λ a. nat_lt (psn_of_answer a) w) q.responder.answers

again-adds : (k : ℕ) (q : QueuePair) (w : ℕ) (a : Queued) → answer_weight q.responder.mtu a ≤ k → AddsTo k q (answer_again w a q)
again-adds k q w a light = answered k q (answer_again w a q) (answers_before w q.responder.answers) a light (before-less q w) refl (omega arith) refl refl

read-again-adds : (q : QueuePair) (w : ℕ) (envelope : Option ℕ) (h : Reth) → AddsTo (2 * segments q.responder.mtu h.length) q (read_again w envelope h q)
read-again-adds q w envelope h = by (nat_le (w + segments q.responder.mtu h.length) q.responder.expected)
  where
    answer : Queued
    answer = queued.Read w h.key h.address h.length true envelope true

    by : (b : Bool) → AddsTo (2 * segments q.responder.mtu h.length) q (if b then answer_again w answer q else drop_effects q drops.Unsaved)
    by true = again-adds (2 * segments q.responder.mtu h.length) q w answer (omega arith)
    by false = dropped (2 * segments q.responder.mtu h.length) q drops.Unsaved

atomic-again-adds : (k : ℕ) (q : QueuePair) (w : ℕ) → 2 ≤ k → (o : Option ℕ) → AddsTo k q (atomic_again w o q)
atomic-again-adds k q w two None = dropped k q drops.Unsaved
atomic-again-adds k q w two (Some found) = again-adds k q w (queued.Atomic w found true) two

duplicate-adds : (w : ℕ) (q : QueuePair) (p : Fields) (envelope : Option ℕ) (shape : Shape) → AddsTo (asked_weight q.responder.mtu p shape) q (duplicate_effects w p envelope shape q)
duplicate-adds w q p envelope shape = many (nat_le MAX_DUPLICATES (duplicate_count q.responder.answers))
  where
    again : Option Reth → Shape → Effects
    again h (shapes.Send place) = ack_again q
    again h (shapes.Write place) = ack_again q
    again h shapes.Read = option_map_or (λ h. read_again w envelope h q) h (drop_effects q drops.Unsaved)
    again h (shapes.Atomic kind) = atomic_again w (saved_at w q.saved) q

    read : (h : Option Reth) → AddsTo (option_map_or (λ h. 2 * segments q.responder.mtu h.length) h 2) q (again h shapes.Read)
    read (Some h) = read-again-adds q w envelope h
    read None = dropped 2 q drops.Unsaved

    by : (shape : Shape) → AddsTo (asked_weight q.responder.mtu p shape) q (again p.reth shape)
    by (shapes.Send place) = ack-again-adds 2 q (omega arith)
    by (shapes.Write place) = ack-again-adds 2 q (omega arith)
    by shapes.Read = read p.reth
    by (shapes.Atomic kind) = atomic-again-adds 2 q w (omega arith) (saved_at w q.saved)

    many : (b : Bool) → AddsTo (asked_weight q.responder.mtu p shape) q (if b then drop_effects q drops.Unsaved else again p.reth shape)
    many true = dropped (asked_weight q.responder.mtu p shape) q drops.Unsaved
    many false = by shape

-- a request that arrives, whatever its number is
pub request-adds : (p : Fields) (envelope : Option ℕ) (shared : Option SharedReceives) (shape : Shape) (q : QueuePair) → RowAdds (asked_weight q.responder.mtu p shape) q (request_row p envelope shared shape q)
request-adds p envelope shared shape q =
    cond-row (AddsTo k q) (nat_lt q.responder.expected w) _ _ (plain (AddsTo k q) (ahead_effects q) (ahead-adds k q (two-asked q.responder.mtu p shape)))
    (cond-row (AddsTo k q) (nat_lt w q.responder.expected) _ _ (plain (AddsTo k q) (duplicate_effects w p envelope shape q) (duplicate-adds w q p envelope shape))
    (expected-adds q p envelope shared shape))
  where
    k : ℕ
    k = asked_weight q.responder.mtu p shape

    w : ℕ
    w = widened q.responder.expected p.psn
