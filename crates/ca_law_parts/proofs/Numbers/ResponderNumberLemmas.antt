-- What a packet that arrives and the responder's turn make of the numbers that only events raise.
use Rattle.std.proofs.Common.{◌≡◌, ℕ, suc, ◌+◌, ◌-◌, ◌≤◌, nat_le, nat_lt, arith, Bool, true, false, List, [], ◌∷◌, ◌++◌, length, Option, None, Some, IfSome, Result, Ok, Err, subst, sym, ◌&&◌, ◌==◌, if◌then◌else◌, is_none, slice_get, refl}
use Rattle.std.specs.Option.{option_map, option_map_or}
use Rattle.ca_base.specs.Sight.{Invalidation}
use Rattle.ca_base.specs.declared.completion.WcOp.TheVariants as operations
use Rattle.ca_base.specs.declared.completion.WcStatus.{WcStatus}
use Rattle.ca_base.specs.declared.completion.WcStatus.TheVariants.{LocalLength, LocalProtection, MemoryManagement, Success}
use Rattle.ca_base.specs.declared.limits.TheConstants.{MAX_DUPLICATES, MAX_MESSAGE_BYTES}
use Rattle.ca_base.specs.declared.queue_numbers.Message.{Message}
use Rattle.ca_base.specs.declared.queue_numbers.Message.TheVariants as messages
use Rattle.ca_base.specs.declared.queue_numbers.Queued.{Queued}
use Rattle.ca_base.specs.declared.queue_numbers.Queued.TheVariants as queued
use Rattle.ca_base.specs.declared.refusals.OpRefusal.{OpRefusal}
use Rattle.ca_base.specs.declared.request.PlacedReceive.{PlacedReceive}
use Rattle.ca_base.specs.declared.step.Reason.{Reason}
use Rattle.ca_base.specs.declared.step.Reason.TheVariants as reasons
use Rattle.ca_base.specs.objects.Answers.{duplicate_count}
use Rattle.ca_base.specs.objects.QueuePair.{QueuePair}
use Rattle.ca_base.specs.declared.saved_result.SavedResult.{SavedResult}
use Rattle.ca_base.specs.objects.Saved.{after_save, saved_at}
use Rattle.ca_base.specs.objects.SharedReceives.{SharedReceives}
use Rattle.ca_keys.specs.Numbers.{is_window_key}
use Rattle.ca_keys.specs.Refusals.{first_of}
use Rattle.ca_keys.specs.declared.access.Kind.{Kind}
use Rattle.ca_keys.specs.declared.key.Key.{Key}
use Rattle.ca_wire.specs.Decoding.{packet_in}
use Rattle.ca_wire.specs.Packet.{Fields}
use Rattle.ca_wire.specs.Shapes.{ends}
use Rattle.ca_wire.specs.Table.{shape_of}
use Rattle.ca_wire.specs.declared.atomic_eth.AtomicEth.{AtomicEth}
use Rattle.ca_wire.specs.declared.reth.Reth.{Reth}
use Rattle.ca_wire.specs.declared.shape.Position.{Position}
use Rattle.ca_wire.specs.declared.shape.Shape.{Shape}
use Rattle.ca_wire.specs.declared.shape.Shape.TheVariants as shapes
use Rattle.ca_wire.specs.declared.wire_error.WireError.{WireError}
use Rattle.ca_psn.specs.Psn.{widened}
use Rattle.ca_wire.specs.Syndrome.{nak_code}
use Rattle.ca_wire.specs.declared.syndrome.NakCode.{NakCode}
use Rattle.ca_wire.specs.declared.syndrome.NakCode.TheVariants.{InvalidRequest, PsnSequenceError, RemoteAccessError, RemoteOperationalError}
use Rattle.ca_model.specs.Packets.{is_response}
use Rattle.ca_model.specs.Requests.{list_length, segments}
use Rattle.ca_model.specs.declared.mark.Drop1.{Drop1}
use Rattle.ca_model.specs.declared.mark.Drop1.TheVariants as drops
use Rattle.ca_model.specs.declared.read_left.ReadLeft.{ReadLeft}
use Rattle.ca_model.specs.declared.receiving.Receiving.{Receiving}
use Rattle.ca_model.specs.declared.write_reach.WriteReach.{WriteReach}
use Rattle.ca_model.specs.machine.Arrivals.{next_receive, refusal_effects, with_answer, with_flag, with_message, with_receive_taken}
use Rattle.ca_model.specs.machine.Completions.{receive_mark}
use Rattle.ca_model.specs.machine.Delivery.{arrival_drops, arrival_row, packet_arrived}
use Rattle.ca_model.specs.machine.Duplicates.{ack_again, ahead_effects, answer_again, atomic_again, duplicate_effects, read_again, request_row, with_answers_before}
use Rattle.ca_model.specs.machine.Expected.{after_send_packet, atomic_row, behind_marks, expected_row, invalidation_of, is_invalid, message_left, queue_after_packet, read_queued, receive_asks, receive_failure_effects, receiving_of, revoked_marks, rnr_effects, send_row, takes_receive, valid_row, with_shared_receive, with_window_gone, write_reach, write_row}
use Rattle.ca_model.specs.machine.Invariants.{IsQueue}
use Rattle.ca_model.specs.machine.LocalOperations.{invalidate_row, operation_effects}
use Rattle.ca_model.specs.machine.Numbering.{Numbered}
use Rattle.ca_model.specs.machine.Requester.{local_denial}
use Rattle.ca_model.specs.machine.Respond.{answer_turn, is_last_response, respond_refusals, respond_row, rest_of, with_front, without_front}
use Rattle.ca_model.specs.machine.Responses.{drop_effects, local_writes, response_row, writes_by}
use Rattle.ca_model.specs.machine.Row.{Effects, NotPossible, Does, Row, plain_row, queue_and_marks}
use Rattle.ca_law_parts.specs.Raised.{AreNumbersWithin}
use Rattle.ca_law_parts.proofs.Numbers.NumberLemmas.{error-within, responder-within, segments-few, taken-within, windows-within}
use Rattle.ca_law_parts.proofs.Numbers.RequesterNumberLemmas.{IsRaised, failure-within, more-within, operation-raised, plain-raised, response-raised}
use Rattle.ca_law_world.proofs.Sound.ArrivalLemmas.{flag-queue}
use Rattle.ca_law_world.proofs.Sound.ExpectedLemmas.{valid-length}
use Rattle.ca_law_world.proofs.Sound.WorldLemmas.{RowDoes}

-- one more answer, another flag, another message: the expected PSN stays
pub answer-within : (b n : ℕ) (answer : Queued) (q : QueuePair) → AreNumbersWithin b n q → AreNumbersWithin b n (with_answer answer q)
answer-within b n answer q w = responder-within b n q (record q.responder { answers = q.responder.answers ++ answer ∷ [] }) w refl w.expected

flag-within : (b n : ℕ) (flag : Bool) (q : QueuePair) → AreNumbersWithin b n q → AreNumbersWithin b n (with_flag flag q)
flag-within b n flag q w = responder-within b n q (record q.responder { nak_sent = flag }) w refl w.expected

message-within : (b n : ℕ) (message : Option Message) (q : QueuePair) → AreNumbersWithin b n q → AreNumbersWithin b n (with_message message q)
message-within b n message q w = responder-within b n q (record q.responder { message = message }) w refl w.expected

refusal-within : (b n : ℕ) (code : NakCode) (q : QueuePair) → AreNumbersWithin b n q → AreNumbersWithin b n (refusal_effects code q).queue
refusal-within b n code q w = error-within b n _ (answer-within b n (queued.Nak q.responder.expected (nak_code code)) q w)

-- the expected PSN goes past a packet
packet-within : (b n : ℕ) (p : Fields) (count : ℕ) (at_end asks_ack : Bool) (q : QueuePair) → AreNumbersWithin b n q → q.responder.expected + count ≤ b
    → AreNumbersWithin b n (queue_after_packet p count at_end asks_ack q)
packet-within b n p count at_end asks_ack q w le = responder-within b n q (queue_after_packet p count at_end asks_ack q).responder w refl le

-- the expected PSN lies so far below a bound
next-fits : (b n count : ℕ) (q : QueuePair) → AreNumbersWithin b n q → count ≤ 4096 → q.responder.expected + count ≤ b + 4096
next-fits b n count q w few = omega (arith, w.expected, few)

gone-within : (b n : ℕ) (i : Option Invalidation) (q : QueuePair) → AreNumbersWithin b n q → AreNumbersWithin b n (with_window_gone i q)
gone-within b n i q w = windows-within b n q (with_window_gone i q).windows w (by (option_map_or (λ i. is_window_key i.key) i false))
  where
    by : (z : Bool) → (if z then q.windows - 1 else q.windows) ≤ n
    by true = omega (arith, w.windows)
    by false = w.windows

-- a packet of one PSN takes effect, and then the message is another
one-within : (b n : ℕ) (p : Fields) (at_end asks_ack : Bool) (message : Option Message) (q : QueuePair) → AreNumbersWithin b n q
    → AreNumbersWithin (b + 4096) (suc n) (with_message message (queue_after_packet p 1 at_end asks_ack q))
one-within b n p at_end asks_ack message q w = message-within (b + 4096) (suc n) message _
    (packet-within (b + 4096) (suc n) p 1 at_end asks_ack q (more-within b n q w) (next-fits b n 1 q w (omega arith)))

took-raised : (b n : ℕ) (q : QueuePair) (z : Bool) (e : Effects) → IsRaised b n e → IsRaised b n (if z then with_shared_receive q e else e)
took-raised b n q true e within = within
took-raised b n q false e within = within

failed-within : (b n : ℕ) (q : QueuePair) (r : PlacedReceive) (status : WcStatus) (cause : Option OpRefusal) (code : NakCode) → AreNumbersWithin b n q
    → AreNumbersWithin b n (receive_failure_effects q r status cause code).queue
failed-within b n q r status cause code w = refusal-within b n code _ (message-within b n None q w)

send-raised : (b n : ℕ) (before : QueuePair) (p : Fields) (place : Position) (r : Receiving) (q : QueuePair) → (if r.taken then with_receive_taken before else before) ≡ q
    → AreNumbersWithin b n q → RowDoes (IsRaised b n) (send_row before p place r)
send-raised b n before p place r q is w = subst (λ x. RowDoes (IsRaised b n) (row_of x (nat_lt (list_length r.receive.receive.list.items) (r.before + length p.payload)))) (sym is)
    (by (nat_lt (list_length r.receive.receive.list.items) (r.before + length p.payload)))
  where
    took : QueuePair → Effects → Effects
    took q e = if r.taken then with_shared_receive q e else e

    ended : QueuePair → Option OpRefusal → Effects
    ended q (Some cause) = receive_failure_effects q r.receive MemoryManagement (Some cause) RemoteOperationalError
    ended q None = behind_marks (revoked_marks q (invalidation_of q p)) (after_send_packet (with_window_gone (invalidation_of q p) q) p place r)

    row_of : QueuePair → Bool → Row
    row_of q z =
        if z then plain_row (Does (took q (receive_failure_effects q r.receive LocalLength None InvalidRequest)))
        else record {
          asks = receive_asks q p r;
          invalidation = invalidation_of q p;
          denied = λ d. Does (took q (behind_marks (local_denial d ∷ []) (receive_failure_effects q r.receive LocalProtection None RemoteOperationalError)));
          allowed = λ bytes refusal. Does (took q (record (behind_marks (local_writes (writes_by (receive_asks q p r) p.payload)) (ended q refusal)) { writes = writes_by (receive_asks q p r) p.payload }));
        }

    packet : (q : QueuePair) → AreNumbersWithin b n q → IsRaised b n (after_send_packet q p place r)
    packet q w = at (ends place)
      where
        at : (z : Bool) → IsRaised b n (if z
            then queue_and_marks (with_message None (queue_after_packet p 1 true true q))
            (receive_mark q.queue r.receive.place r.receive.receive Success operations.Recv (r.before + length p.payload) p.imm (option_map (λ key. record { 0 = key }) p.ieth) ∷ [])
            else queue_and_marks (with_message (Some (messages.Send r.receive.place r.receive.receive (r.before + length p.payload))) (queue_after_packet p 1 false true q)) [])
        at true = one-within b n p true true None q w
        at false = one-within b n p false true (Some (messages.Send r.receive.place r.receive.receive (r.before + length p.payload))) q w

    failed : (status : WcStatus) (cause : Option OpRefusal) (code : NakCode) → IsRaised b n (receive_failure_effects q r.receive status cause code)
    failed status cause code = more-within b n _ (failed-within b n q r.receive status cause code w)

    by : (z : Bool) → RowDoes (IsRaised b n) (row_of q z)
    by true = record {
      denied = λ d. took-raised b n q r.taken _ (failed LocalLength None InvalidRequest);
      allowed = λ bytes refusal. took-raised b n q r.taken _ (failed LocalLength None InvalidRequest);
    }
    by false = record {
      denied = λ d. took-raised b n q r.taken _ (failed LocalProtection None RemoteOperationalError);
      allowed = λ bytes refusal. took-raised b n q r.taken _ (at refusal);
    }
      where
        at : (refusal : Option OpRefusal) → IsRaised b n (ended q refusal)
        at None = packet (with_window_gone (invalidation_of q p) q) (gone-within b n (invalidation_of q p) q w)
        at (Some cause) = failed MemoryManagement (Some cause) RemoteOperationalError

write-raised : (b n : ℕ) (q : QueuePair) (p : Fields) (envelope : Option ℕ) (place : Position) (next : Option PlacedReceive) (r : WriteReach) → AreNumbersWithin b n q
    → RowDoes (IsRaised b n) (write_row q p envelope place next r)
write-raised b n q p envelope place next r w = record {
  denied = λ d. more-within b n _ (refusal-within b n RemoteAccessError q w);
  allowed = λ bytes refusal. at (ends place);
}
  where
    done : QueuePair → QueuePair
    done q = with_message None (queue_after_packet p 1 true true q)

    by : Option ℕ → Option PlacedReceive → Effects
    by (Some imm) (Some receive) = with_shared_receive q (queue_and_marks (done (with_receive_taken q))
        (receive_mark q.queue receive.place receive.receive Success operations.RecvImm r.whole (Some imm) None ∷ []))
    by imm next = queue_and_marks (done q) []

    immediate : (imm : Option ℕ) (next : Option PlacedReceive) → IsRaised b n (by imm next)
    immediate (Some imm) (Some receive) = one-within b n p true true None (with_receive_taken q) (taken-within b n q w)
    immediate (Some imm) None = one-within b n p true true None q w
    immediate None next = one-within b n p true true None q w

    at : (z : Bool) → IsRaised b n (if z then by p.imm next else queue_and_marks (with_message (Some (message_left r (length p.payload))) (queue_after_packet p 1 false true q)) [])
    at true = immediate p.imm next
    at false = one-within b n p false true (Some (message_left r (length p.payload))) q w

atomic-raised : (b n : ℕ) (q : QueuePair) (p : Fields) (envelope : Option ℕ) (kind : Kind) (a : AtomicEth) → AreNumbersWithin b n q → RowDoes (IsRaised b n) (atomic_row q p envelope kind a)
atomic-raised b n q p envelope kind a w = record {
  denied = λ d. more-within b n _ (refusal-within b n RemoteAccessError q w);
  allowed = λ bytes refusal. acted _;
}
  where
    saved-within : (x : QueuePair) (saved : List SavedResult) → AreNumbersWithin b n x → AreNumbersWithin b n (record x { saved = saved })
    saved-within x saved w = record {
      una = w.una;
      cursor = w.cursor;
      begun_end = w.begun_end;
      expected = w.expected;
      incarnation = w.incarnation;
      timers = w.timers;
      rnrs = w.rnrs;
      sends = w.sends;
      receives = w.receives;
      windows = w.windows;
      fresh = w.fresh;
    }

    acted : (found : ℕ) → AreNumbersWithin (b + 4096) (suc n)
        (queue_after_packet p 1 true false (record (with_answer (queued.Atomic q.responder.expected found false) q) { saved = after_save q.responder.expected found q.saved }))
    acted found = packet-within (b + 4096) (suc n) p 1 true false _ (more-within b n _ (saved-within _ _ (answer-within b n (queued.Atomic q.responder.expected found false) q w)))
        (next-fits b n 1 q w (omega arith))

read-raised : (b n : ℕ) (q : QueuePair) (p : Fields) (envelope : Option ℕ) (h : Reth) → IsQueue q → h.length ≤ MAX_MESSAGE_BYTES → AreNumbersWithin b n q → IsRaised b n (read_queued q p envelope h)
read-raised b n q p envelope h s few w = packet-within (b + 4096) (suc n) p (segments q.responder.mtu h.length) true false _
    (more-within b n _ (answer-within b n (queued.Read q.responder.expected h.key h.address h.length true envelope false) q w))
    (next-fits b n (segments q.responder.mtu h.length) q w (segments-few q.responder.mtu h.length s.responder.mtu few))

refused-raised : (b n : ℕ) (code : NakCode) (q : QueuePair) → AreNumbersWithin b n q → RowDoes (IsRaised b n) (plain_row (Does (refusal_effects code q)))
refused-raised b n code q w = plain-raised b n (refusal_effects code q) (more-within b n _ (refusal-within b n code q w))

valid-raised : (b n : ℕ) (q : QueuePair) (p : Fields) (envelope : Option ℕ) (next : Option PlacedReceive) (shape : Shape) → IsQueue q → IfSome p.reth (λ h. h.length ≤ MAX_MESSAGE_BYTES)
    → AreNumbersWithin b n q → RowDoes (IsRaised b n) (valid_row q p envelope next shape)
valid-raised b n q p envelope next (shapes.Send place) s few w = by q.responder.message
  where
    row : Option Receiving → Row
    row (Some r) = send_row q p place r
    row None = plain_row (Does (refusal_effects InvalidRequest q))

    start : (o : Option PlacedReceive) → RowDoes (IsRaised b n) (row (option_map (λ r. record { receive = r; before = 0; taken = true }) o))
    start None = refused-raised b n InvalidRequest q w
    start (Some r) = send-raised b n q p place (record { receive = r; before = 0; taken = true }) (with_receive_taken q) refl (taken-within b n q w)

    by : (m : Option Message) → RowDoes (IsRaised b n) (row (receiving_of q next m))
    by None = start next
    by (Some (messages.Write key address left count)) = start next
    by (Some (messages.Send at receive bytes)) = send-raised b n q p place (record { receive = record { place = at; receive = receive }; before = bytes; taken = false }) q refl w
valid-raised b n q p envelope next (shapes.Write place) s few w = by (write_reach q p)
  where
    row : Option WriteReach → Row
    row (Some r) = write_row q p envelope place next r
    row None = plain_row (Does (refusal_effects InvalidRequest q))

    by : (o : Option WriteReach) → RowDoes (IsRaised b n) (row o)
    by (Some r) = write-raised b n q p envelope place next r w
    by None = refused-raised b n InvalidRequest q w
valid-raised b n q p envelope next shapes.Read s few w = by p.reth few
  where
    row : Option Reth → Row
    row (Some h) = plain_row (Does (read_queued q p envelope h))
    row None = plain_row (Does (refusal_effects InvalidRequest q))

    by : (o : Option Reth) → IfSome o (λ h. h.length ≤ MAX_MESSAGE_BYTES) → RowDoes (IsRaised b n) (row o)
    by (Some h) few = plain-raised b n (read_queued q p envelope h) (read-raised b n q p envelope h s few w)
    by None few = refused-raised b n InvalidRequest q w
valid-raised b n q p envelope next (shapes.Atomic kind) s few w = by p.atomic
  where
    row : Option AtomicEth → Row
    row (Some a) = atomic_row q p envelope kind a
    row None = plain_row (Does (refusal_effects InvalidRequest q))

    by : (o : Option AtomicEth) → RowDoes (IsRaised b n) (row o)
    by (Some a) = atomic-raised b n q p envelope kind a w
    by None = refused-raised b n InvalidRequest q w

expected-raised : (b n : ℕ) (before : QueuePair) (shared : Option SharedReceives) (p : Fields) (envelope : Option ℕ) (shape : Shape) → IsQueue before → AreNumbersWithin b n before
    → RowDoes (IsRaised b n) (expected_row before shared p envelope shape)
expected-raised b n before shared p envelope shape s w = by (is_invalid q p shape) refl
  where
    q : QueuePair
    q = with_flag false before

    within : AreNumbersWithin b n q
    within = flag-within b n false before w

    sound : IsQueue q
    sound = flag-queue false before s

    waits : is_invalid q p shape ≡ false → (z : Bool) → RowDoes (IsRaised b n) (if z then plain_row (Does (rnr_effects q)) else valid_row q p envelope (next_receive q shared) shape)
    waits e true = plain-raised b n (rnr_effects q) (more-within b n _ (flag-within b n true _ (answer-within b n (queued.Rnr q.responder.expected) q within)))
    waits e false = valid-raised b n q p envelope (next_receive q shared) shape sound (valid-length q p shape e) within

    by : (z : Bool) → is_invalid q p shape ≡ z → RowDoes (IsRaised b n) (
        if z then plain_row (Does (refusal_effects InvalidRequest q))
        else if takes_receive p shape && is_none (next_receive q shared) then plain_row (Does (rnr_effects q))
        else valid_row q p envelope (next_receive q shared) shape)
    by true e = refused-raised b n InvalidRequest q within
    by false e = waits e (takes_receive p shape && is_none (next_receive q shared))

ahead-within : (b n : ℕ) (q : QueuePair) → AreNumbersWithin b n q → AreNumbersWithin b n (ahead_effects q).queue
ahead-within b n q w = by q.responder.nak_sent
  where
    by : (z : Bool) → AreNumbersWithin b n (if z then drop_effects q drops.Stale
        else queue_and_marks (with_flag true (with_answer (queued.Nak q.responder.expected (nak_code PsnSequenceError)) q)) []).queue
    by true = w
    by false = flag-within b n true _ (answer-within b n (queued.Nak q.responder.expected (nak_code PsnSequenceError)) q w)

again-within : (b n psn : ℕ) (answer : Queued) (q : QueuePair) → AreNumbersWithin b n q → AreNumbersWithin b n (answer_again psn answer q).queue
again-within b n psn answer q w = answer-within b n answer (with_answers_before psn q) (responder-within b n q (with_answers_before psn q).responder w refl w.expected)

duplicate-within : (b n psn : ℕ) (p : Fields) (envelope : Option ℕ) (shape : Shape) (q : QueuePair) → AreNumbersWithin b n q → AreNumbersWithin b n (duplicate_effects psn p envelope shape q).queue
duplicate-within b n psn p envelope shape q w = at (nat_le MAX_DUPLICATES (duplicate_count q.responder.answers))
  where
    acks : (z : Bool) → AreNumbersWithin b n (if z then queue_and_marks (with_answer (queued.Ack (q.responder.expected - 1)) q) [] else drop_effects q drops.Unsaved).queue
    acks true = answer-within b n (queued.Ack (q.responder.expected - 1)) q w
    acks false = w

    inside : (h : Reth) (z : Bool) → AreNumbersWithin b n (if z then answer_again psn (queued.Read psn h.key h.address h.length true envelope true) q else drop_effects q drops.Unsaved).queue
    inside h true = again-within b n psn (queued.Read psn h.key h.address h.length true envelope true) q w
    inside h false = w

    reads : (o : Option Reth) → AreNumbersWithin b n (option_map_or (λ h. read_again psn envelope h q) o (drop_effects q drops.Unsaved)).queue
    reads None = w
    reads (Some h) = inside h (nat_le (psn + segments q.responder.mtu h.length) q.responder.expected)

    atomics : (o : Option ℕ) → AreNumbersWithin b n (atomic_again psn o q).queue
    atomics None = w
    atomics (Some found) = again-within b n psn (queued.Atomic psn found true) q w

    effects : Shape → Effects
    effects (shapes.Send place) = ack_again q
    effects (shapes.Write place) = ack_again q
    effects shapes.Read = option_map_or (λ h. read_again psn envelope h q) p.reth (drop_effects q drops.Unsaved)
    effects (shapes.Atomic kind) = atomic_again psn (saved_at psn q.saved) q

    by : (shape : Shape) → AreNumbersWithin b n (effects shape).queue
    by (shapes.Send place) = acks (length q.responder.answers == 0)
    by (shapes.Write place) = acks (length q.responder.answers == 0)
    by shapes.Read = reads p.reth
    by (shapes.Atomic kind) = atomics (saved_at psn q.saved)

    at : (z : Bool) → AreNumbersWithin b n (if z then drop_effects q drops.Unsaved else effects shape).queue
    at true = w
    at false = by shape

request-raised : (b n : ℕ) (p : Fields) (envelope : Option ℕ) (shared : Option SharedReceives) (shape : Shape) (q : QueuePair) → IsQueue q → AreNumbersWithin b n q
    → RowDoes (IsRaised b n) (request_row p envelope shared shape q)
request-raised b n p envelope shared shape q s w = by (widened q.responder.expected p.psn)
  where
    before : (psn : ℕ) (z : Bool) → RowDoes (IsRaised b n) (if z then plain_row (Does (duplicate_effects psn p envelope shape q)) else expected_row q shared p envelope shape)
    before psn true = plain-raised b n _ (more-within b n _ (duplicate-within b n psn p envelope shape q w))
    before psn false = expected-raised b n q shared p envelope shape s w

    ahead : (psn : ℕ) (z : Bool) → RowDoes (IsRaised b n) (
        if z then plain_row (Does (ahead_effects q))
        else if nat_lt psn q.responder.expected then plain_row (Does (duplicate_effects psn p envelope shape q))
        else expected_row q shared p envelope shape)
    ahead psn true = plain-raised b n _ (more-within b n _ (ahead-within b n q w))
    ahead psn false = before psn (nat_lt psn q.responder.expected)

    by : (psn : ℕ) → RowDoes (IsRaised b n) (
        if nat_lt q.responder.expected psn then plain_row (Does (ahead_effects q))
        else if nat_lt psn q.responder.expected then plain_row (Does (duplicate_effects psn p envelope shape q))
        else expected_row q shared p envelope shape)
    by psn = ahead psn (nat_lt q.responder.expected psn)

pub arrival-raised : (b n : ℕ) (bytes : List ℕ) (envelope : Option ℕ) (shared : Option SharedReceives) (q : QueuePair) → IsQueue q → AreNumbersWithin b n q
    → RowDoes (IsRaised b n) (arrival_row bytes envelope shared q)
arrival-raised b n bytes envelope shared q s w = by (packet_in bytes)
  where
    dropped : (cause : Drop1) → RowDoes (IsRaised b n) (plain_row (Does (drop_effects q cause)))
    dropped cause = plain-raised b n (drop_effects q cause) (more-within b n q w)

    shaped : Fields → Option Shape → Row
    shaped p (Some shape) = request_row p envelope shared shape q
    shaped p None = plain_row (Does (drop_effects q drops.State))

    requests : (p : Fields) (o : Option Shape) → RowDoes (IsRaised b n) (shaped p o)
    requests p (Some shape) = request-raised b n p envelope shared shape q s w
    requests p None = dropped drops.State

    kinds : (p : Fields) (z : Bool) → RowDoes (IsRaised b n) (if z then response_row p q else shaped p (shape_of p.opcode))
    kinds p true = response-raised b n p q s w
    kinds p false = requests p (shape_of p.opcode)

    passed : Fields → Option Drop1 → Row
    passed p (Some cause) = plain_row (Does (drop_effects q cause))
    passed p None = packet_arrived p envelope shared q

    unless : (p : Fields) (o : Option Drop1) → RowDoes (IsRaised b n) (passed p o)
    unless p (Some cause) = dropped cause
    unless p None = kinds p (is_response p.opcode)

    row : Result Fields WireError → Row
    row (Err error) = plain_row (Does (drop_effects q (drops.Wire error)))
    row (Ok p) = passed p (first_of (arrival_drops q p))

    by : (r : Result Fields WireError) → RowDoes (IsRaised b n) (row r)
    by (Err error) = dropped (drops.Wire error)
    by (Ok p) = unless p (first_of (arrival_drops q p))

pub respond-raised : (b n : ℕ) (room : Bool) (q : QueuePair) → AreNumbersWithin b n q → RowDoes (IsRaised b n) (respond_row room q)
respond-raised b n room q w = by (first_of (respond_refusals room q)) (slice_get q.responder.answers 0)
  where
    front : Option Reason → Option Queued → Row
    front (Some reason) answer = plain_row (NotPossible reason)
    front None None = plain_row (NotPossible reasons.Empty)
    front None (Some answer) = answer_turn q answer

    sent : AreNumbersWithin (b + 4096) (suc n) (without_front q)
    sent = more-within b n _ (responder-within b n q (without_front q).responder w refl w.expected)

    left : (r : ReadLeft) (z : Bool) → AreNumbersWithin (b + 4096) (suc n) (if z then without_front q else with_front (rest_of q r) q)
    left r true = sent
    left r false = more-within b n _ (responder-within b n q (with_front (rest_of q r) q).responder w refl w.expected)

    turn : (a : Queued) → RowDoes (IsRaised b n) (answer_turn q a)
    turn (queued.Ack psn) = record { denied = λ d. sent; allowed = λ bytes refusal. sent }
    turn (queued.Rnr psn) = record { denied = λ d. sent; allowed = λ bytes refusal. sent }
    turn (queued.Nak psn code) = record { denied = λ d. sent; allowed = λ bytes refusal. sent }
    turn (queued.Read psn key address part first envelope duplicate) = record {
      denied = λ d. more-within b n _ (failure-within b n LocalProtection None q w);
      allowed = λ bytes refusal. left r (is_last_response q r);
    }
      where
        r : ReadLeft
        r = record { psn = psn; key = key; address = address; left = part; first = first; envelope = envelope; duplicate = duplicate }
    turn (queued.Atomic psn found duplicate) = record { denied = λ d. sent; allowed = λ bytes refusal. sent }

    by : (o : Option Reason) (a : Option Queued) → RowDoes (IsRaised b n) (front o a)
    by (Some reason) a = record { denied = λ d. record {}; allowed = λ bytes refusal. record {} }
    by None None = record { denied = λ d. record {}; allowed = λ bytes refusal. record {} }
    by None (Some a) = turn a

pub invalidate-raised : (b n : ℕ) (q : QueuePair) (m : Numbered) (key : Key) → AreNumbersWithin b n q → RowDoes (IsRaised b n) (invalidate_row q m key)
invalidate-raised b n q m key w = record { denied = λ d. more-within b n q w; allowed = λ bytes refusal. ended refusal }
  where
    i : Option Invalidation
    i = Some (record { queue = q.queue; domain = q.domain; key = key })

    ended : (o : Option OpRefusal) → IsRaised b n (operation_effects q m (with_window_gone i q) (record { revoked = Some key; granted = None }) o)
    ended o = operation-raised b n q m (with_window_gone i q).windows (record { revoked = Some key; granted = None }) o w
        (omega (arith, (gone-within b n i q w).windows))
