-- What the responder's rows, timers and wakes leave of the requester: its numbers stay, or the cursor goes back.
use Rattle.std.proofs.Common.{◌≡◌, inl, inr, ℕ, suc, ◌==◌, ◌&&◌, ◌≤◌, Bool, true, false, nat_le, nat_lt, if◌then◌else◌, [], ◌∷◌, length, Option, None, Some, is_none, slice_get, refl, ap, ap₂, sym, subst, ◌∙◌, true≢false, arith, ◌+◌}
use Rattle.std.specs.Option.{option_map_or}
use Rattle.ca_keys.specs.Refusals.{first_of}
use Rattle.ca_base.specs.declared.change.State.TheVariants as states
use Rattle.ca_base.specs.declared.completion.WcStatus.TheVariants.{MemoryManagement, RetryExceeded, Success}
use Rattle.ca_base.specs.declared.completion.WcOp.TheVariants as operations
use Rattle.ca_base.specs.declared.limits.TheConstants.{MAX_DUPLICATES}
use Rattle.ca_base.specs.declared.queue_numbers.Queued.{Queued}
use Rattle.ca_base.specs.declared.queue_numbers.Queued.TheVariants as queued
use Rattle.ca_base.specs.declared.refusals.OpRefusal.{OpRefusal}
use Rattle.ca_base.specs.declared.request.PlacedReceive.{PlacedReceive}
use Rattle.ca_base.specs.declared.step.Reason.{Reason}
use Rattle.ca_base.specs.declared.step.Reason.TheVariants as reasons
use Rattle.ca_base.specs.objects.Answers.{duplicate_count}
use Rattle.ca_base.specs.objects.QueuePair.{QueuePair}
use Rattle.ca_base.specs.objects.Saved.{saved_at}
use Rattle.ca_base.specs.objects.SharedReceives.{SharedReceives}
use Rattle.ca_base.specs.objects.WorkQueue.{items_from}
use Rattle.ca_base.specs.declared.queue_numbers.RequesterNumbers.{RequesterNumbers}
use Rattle.ca_connection.specs.Layout.{Direction, first}
use Rattle.ca_model.specs.declared.mark.Mark.TheVariants as marks
use Rattle.ca_model.specs.Requests.{list_length, segments}
use Rattle.ca_model.specs.declared.mark.Drop1.{Drop1}
use Rattle.ca_model.specs.declared.mark.Drop1.TheVariants as drops
use Rattle.ca_model.specs.declared.read_left.ReadLeft.{ReadLeft}
use Rattle.ca_model.specs.declared.receiving.Receiving.{Receiving}
use Rattle.ca_model.specs.declared.write_reach.WriteReach.{WriteReach}
use Rattle.ca_model.specs.machine.Acknowledgements.{failure_effects, with_cursor, with_requester}
use Rattle.ca_model.specs.machine.Arrivals.{next_receive, refusal_effects, with_flag, with_message, with_receive_taken}
use Rattle.ca_model.specs.machine.Duplicates.{ack_again, ahead_effects, atomic_again, duplicate_effects, read_again, request_row}
use Rattle.ca_model.specs.machine.Expected.{after_send_packet, after_write_packet, atomic_row, behind_marks, expected_row, invalidation_of, is_invalid, queue_after_packet, read_queued, receive_failure_effects, receiving_of, revoked_marks, rnr_effects, send_row, takes_receive, valid_row, with_shared_receive, with_window_gone, write_reach, write_row}
use Rattle.ca_model.specs.machine.Invariants.{is_sending}
use Rattle.ca_model.specs.machine.Respond.{answer_turn, is_last_response, read_row, respond_refusals, respond_row, rest_of, with_front, without_front}
use Rattle.ca_model.specs.machine.Responses.{drop_effects}
use Rattle.ca_model.specs.machine.Completions.{receive_mark}
use Rattle.ca_model.specs.machine.Row.{Does, Effects, Ending, NotPossible, Row, plain_row, queue_and_marks}
use Rattle.ca_model.specs.machine.Timers.{after_timeout, after_wake}
use Rattle.ca_wire.specs.Packet.{Fields}
use Rattle.ca_wire.specs.Shapes.{ends}
use Rattle.ca_wire.specs.declared.atomic_eth.AtomicEth.{AtomicEth}
use Rattle.ca_wire.specs.declared.reth.Reth.{Reth}
use Rattle.ca_wire.specs.declared.shape.Position.{Position}
use Rattle.ca_wire.specs.declared.shape.Shape.{Shape}
use Rattle.ca_wire.specs.declared.shape.Shape.TheVariants as shapes
use Rattle.ca_psn.specs.Psn.{widened}
use Rattle.ca_law_once.proofs.Rows.RequestRowLemmas.{cond-row, plain}
use Rattle.ca_law_once.specs.Moves.{EndingLeads, GoesBackIn, LeavesState, RowLeads, StaysIn}
use Rattle.ca_law_once.specs.Sides.{IsLaid, IsWork, requester_in}
use Rattle.ca_wire.specs.declared.syndrome.NakCode.{NakCode}
use Rattle.ca_wire.specs.declared.syndrome.NakCode.TheVariants.{InvalidRequest, RemoteAccessError, RemoteOperationalError}

-- the requester is as it was, or the queue pair sends no more and `una` and the cursor stand where they stood
pub data Stays (q p : QueuePair) : Type 0 where
  still : p.requester ≡ q.requester → p.sends ≡ q.sends → p.state ≡ q.state → p.responder.mtu ≡ q.responder.mtu → Stays q p
  ended : p.requester.una ≡ q.requester.una → p.requester.cursor ≡ q.requester.cursor → p.state ≡ states.Error → p.responder.mtu ≡ q.responder.mtu → Stays q p

abbrev Leaves : QueuePair → Row → Type 0
Leaves q row = RowLeads (λ e. Stays q e.queue) row

-- what was there before stays, where the requester's part of it is the same
from : (q t p : QueuePair) → t.requester ≡ q.requester → t.sends ≡ q.sends → t.state ≡ q.state → t.responder.mtu ≡ q.responder.mtu → Stays t p → Stays q p
from q t p requester sends state mtu (still a b c x) = still (a ∙ requester) (b ∙ sends) (c ∙ state) (x ∙ mtu)
from q t p requester sends state mtu (ended una cursor e x) = ended (una ∙ ap (λ r. r.una) requester) (cursor ∙ ap (λ r. r.cursor) requester) e (x ∙ mtu)

refusal-stays : (q : QueuePair) (code : NakCode) → Stays q (refusal_effects code q).queue
refusal-stays q code = ended refl refl refl refl

cond-stays : (q : QueuePair) (b : Bool) (x y : Effects) → Stays q x.queue → Stays q y.queue → Stays q (if b then x else y).queue
cond-stays q true x y one other = one
cond-stays q false x y one other = other

pub drop-stays : (q : QueuePair) (cause : Drop1) → Stays q (drop_effects q cause).queue
drop-stays q cause = still refl refl refl refl

send-packet-stays : (q : QueuePair) (p : Fields) (place : Position) (r : Receiving) → Stays q (after_send_packet q p place r).queue
send-packet-stays q p place r = cond-stays q (ends place) _ _ (still refl refl refl refl) (still refl refl refl refl)

send-stays : (before : QueuePair) (p : Fields) (place : Position) (r : Receiving) → Leaves before (send_row before p place r)
send-stays before p place r = cond-row (λ e. Stays before e.queue) (nat_lt (list_length r.receive.receive.list.items) (r.before + length p.payload)) _ _
    (plain (λ e. Stays before e.queue) _ (took-stays r.taken _ (refusal InvalidRequest r.taken)))
    (record {
      denied = λ d. took-stays r.taken _ (refusal RemoteOperationalError r.taken);
      allowed = λ bytes cause. took-stays r.taken _ (by r.taken cause);
    })
  where
    q : Bool → QueuePair
    q b = if b then with_receive_taken before else before

    took : Bool → Effects → Effects
    took b e = if r.taken then with_shared_receive (q b) e else e

    took-stays : (b : Bool) (e : Effects) → Stays before e.queue → Stays before (took b e).queue
    took-stays b e stays = cond-stays before r.taken (with_shared_receive (q b) e) e stays stays

    refusal : (code : NakCode) (b : Bool) → Stays before (refusal_effects code (with_message None (q b))).queue
    refusal code true = ended refl refl refl refl
    refusal code false = ended refl refl refl refl

    ended_by : Bool → Option OpRefusal → Effects
    ended_by b (Some cause) = receive_failure_effects (q b) r.receive MemoryManagement (Some cause) RemoteOperationalError
    ended_by b None = behind_marks (revoked_marks (q b) (invalidation_of (q b) p)) (after_send_packet (with_window_gone (invalidation_of (q b) p) (q b)) p place r)

    by : (b : Bool) (cause : Option OpRefusal) → Stays before (ended_by b cause).queue
    by b (Some cause) = refusal RemoteOperationalError b
    by true None = from before (with_window_gone (invalidation_of (q true) p) (q true)) _ refl refl refl refl (send-packet-stays (with_window_gone (invalidation_of (q true) p) (q true)) p place r)
    by false None = from before (with_window_gone (invalidation_of (q false) p) (q false)) _ refl refl refl refl (send-packet-stays (with_window_gone (invalidation_of (q false) p) (q false)) p place r)

write-packet-stays : (q : QueuePair) (p : Fields) (place : Position) (r : WriteReach) (next : Option PlacedReceive) → Stays q (after_write_packet q p place r next).queue
write-packet-stays q p place r next = cond-stays q (ends place) (at_end p.imm next) _ (ended_by p.imm next) (still refl refl refl refl)
  where
    done : QueuePair → QueuePair
    done q = with_message None (queue_after_packet p 1 true true q)

    at_end : Option ℕ → Option PlacedReceive → Effects
    at_end (Some imm) (Some receive) = with_shared_receive q (queue_and_marks (done (with_receive_taken q))
        (receive_mark q.queue receive.place receive.receive Success operations.RecvImm r.whole (Some imm) None ∷ []))
    at_end imm next = queue_and_marks (done q) []

    ended_by : (imm : Option ℕ) (next : Option PlacedReceive) → Stays q (at_end imm next).queue
    ended_by (Some imm) (Some receive) = still refl refl refl refl
    ended_by (Some imm) None = still refl refl refl refl
    ended_by None next = still refl refl refl refl

refused : (q : QueuePair) → Leaves q (plain_row (Does (refusal_effects InvalidRequest q)))
refused q = plain (λ e. Stays q e.queue) (refusal_effects InvalidRequest q) (refusal-stays q InvalidRequest)

valid-stays : (q : QueuePair) (p : Fields) (envelope : Option ℕ) (next : Option PlacedReceive) (shape : Shape) → Leaves q (valid_row q p envelope next shape)
valid-stays q p envelope next (shapes.Send place) = by (receiving_of q next q.responder.message)
  where
    row : Option Receiving → Row
    row (Some r) = send_row q p place r
    row None = plain_row (Does (refusal_effects InvalidRequest q))

    by : (r : Option Receiving) → Leaves q (row r)
    by (Some r) = send-stays q p place r
    by None = refused q
valid-stays q p envelope next (shapes.Write place) = by (write_reach q p)
  where
    row : Option WriteReach → Row
    row (Some r) = write_row q p envelope place next r
    row None = plain_row (Does (refusal_effects InvalidRequest q))

    by : (r : Option WriteReach) → Leaves q (row r)
    by (Some r) = record { denied = λ d. refusal-stays q RemoteAccessError; allowed = λ bytes refusal. write-packet-stays q p place r next }
    by None = refused q
valid-stays q p envelope next shapes.Read = by p.reth
  where
    row : Option Reth → Row
    row (Some h) = plain_row (Does (read_queued q p envelope h))
    row None = plain_row (Does (refusal_effects InvalidRequest q))

    by : (h : Option Reth) → Leaves q (row h)
    by (Some h) = plain (λ e. Stays q e.queue) (read_queued q p envelope h) (still refl refl refl refl)
    by None = refused q
valid-stays q p envelope next (shapes.Atomic kind) = by p.atomic
  where
    row : Option AtomicEth → Row
    row (Some a) = atomic_row q p envelope kind a
    row None = plain_row (Does (refusal_effects InvalidRequest q))

    by : (a : Option AtomicEth) → Leaves q (row a)
    by (Some a) = record { denied = λ d. refusal-stays q RemoteAccessError; allowed = λ bytes refusal. still refl refl refl refl }
    by None = refused q

-- a row of the queue pair without its flag is one of the queue pair
row-from : (q t : QueuePair) (row : Row) → t.requester ≡ q.requester → t.sends ≡ q.sends → t.state ≡ q.state → t.responder.mtu ≡ q.responder.mtu → Leaves t row → Leaves q row
row-from q t row requester sends state mtu does = record {
  denied = λ d. by (row.denied d) (does.denied d);
  allowed = λ bytes refusal. by (row.allowed bytes refusal) (does.allowed bytes refusal);
}
  where
    by : (e : Ending) → EndingLeads (λ e. Stays t e.queue) e → EndingLeads (λ e. Stays q e.queue) e
    by (NotPossible reason) leads = record {}
    by (Does e) leads = from q t e.queue requester sends state mtu leads

expected-stays : (before : QueuePair) (p : Fields) (envelope : Option ℕ) (shared : Option SharedReceives) (shape : Shape) → Leaves before (expected_row before shared p envelope shape)
expected-stays before p envelope shared shape = cond-row P (is_invalid q p shape) _ _ (plain P (refusal_effects InvalidRequest q) (ended refl refl refl refl))
    (cond-row P (takes_receive p shape && is_none (next_receive q shared)) _ _ (plain P (rnr_effects q) (still refl refl refl refl))
    (row-from before q (valid_row q p envelope (next_receive q shared) shape) refl refl refl refl (valid-stays q p envelope (next_receive q shared) shape)))
  where
    q : QueuePair
    q = with_flag false before

    P : Effects → Type 0
    P e = Stays before e.queue

duplicate-stays : (w : ℕ) (p : Fields) (envelope : Option ℕ) (shape : Shape) (q : QueuePair) → Stays q (duplicate_effects w p envelope shape q).queue
duplicate-stays w p envelope shape q = cond-stays q (nat_le MAX_DUPLICATES (duplicate_count q.responder.answers)) (drop_effects q drops.Unsaved) (again shape) (drop-stays q drops.Unsaved) (by shape)
  where
    again : Shape → Effects
    again (shapes.Send position) = ack_again q
    again (shapes.Write position) = ack_again q
    again shapes.Read = option_map_or (λ h. read_again w envelope h q) p.reth (drop_effects q drops.Unsaved)
    again (shapes.Atomic kind) = atomic_again w (saved_at w q.saved) q

    ack : Stays q (ack_again q).queue
    ack = cond-stays q (length q.responder.answers == 0) _ (drop_effects q drops.Unsaved) (still refl refl refl refl) (drop-stays q drops.Unsaved)

    read : (h : Option Reth) → Stays q (option_map_or (λ h. read_again w envelope h q) h (drop_effects q drops.Unsaved)).queue
    read (Some h) = cond-stays q (nat_le (w + segments q.responder.mtu h.length) q.responder.expected) _ (drop_effects q drops.Unsaved) (still refl refl refl refl) (drop-stays q drops.Unsaved)
    read None = drop-stays q drops.Unsaved

    atomic : (o : Option ℕ) → Stays q (atomic_again w o q).queue
    atomic (Some found) = still refl refl refl refl
    atomic None = drop-stays q drops.Unsaved

    by : (shape : Shape) → Stays q (again shape).queue
    by (shapes.Send position) = ack
    by (shapes.Write position) = ack
    by shapes.Read = read p.reth
    by (shapes.Atomic kind) = atomic (saved_at w q.saved)

pub request-stays : (p : Fields) (envelope : Option ℕ) (shared : Option SharedReceives) (shape : Shape) (q : QueuePair) → Leaves q (request_row p envelope shared shape q)
request-stays p envelope shared shape q = cond-row P (nat_lt q.responder.expected w) _ _ (plain P (ahead_effects q) (cond-stays q q.responder.nak_sent (drop_effects q drops.Stale) _ (drop-stays q drops.Stale) (still refl refl refl refl)))
    (cond-row P (nat_lt w q.responder.expected) _ _ (plain P (duplicate_effects w p envelope shape q) (duplicate-stays w p envelope shape q)) (expected-stays q p envelope shared shape))
  where
    w : ℕ
    w = widened q.responder.expected p.psn

    P : Effects → Type 0
    P e = Stays q e.queue

-- ---- the responder's turn

read-turn-stays : (q : QueuePair) (r : ReadLeft) → Leaves q (read_row q r)
read-turn-stays q r = record { denied = λ d. ended refl refl refl refl; allowed = λ bytes refusal. by (is_last_response q r) }
  where
    by : (b : Bool) → Stays q (if b then without_front q else with_front (rest_of q r) q)
    by true = still refl refl refl refl
    by false = still refl refl refl refl

answer-turn-stays : (q : QueuePair) (a : Queued) → Leaves q (answer_turn q a)
answer-turn-stays q (queued.Ack psn) = plain (λ e. Stays q e.queue) _ (still refl refl refl refl)
answer-turn-stays q (queued.Rnr psn) = plain (λ e. Stays q e.queue) _ (still refl refl refl refl)
answer-turn-stays q (queued.Nak psn code) = plain (λ e. Stays q e.queue) _ (still refl refl refl refl)
answer-turn-stays q (queued.Read psn key address left begins envelope duplicate) =
    read-turn-stays q (record { psn = psn; key = key; address = address; left = left; first = begins; envelope = envelope; duplicate = duplicate })
answer-turn-stays q (queued.Atomic psn found duplicate) = plain (λ e. Stays q e.queue) _ (still refl refl refl refl)

pub respond-stays : (room : Bool) (q : QueuePair) → Leaves q (respond_row room q)
respond-stays room q = by (first_of (respond_refusals room q)) (slice_get q.responder.answers 0)
  where
    row : Option Reason → Option Queued → Row
    row (Some reason) answer = plain_row (NotPossible reason)
    row None None = plain_row (NotPossible reasons.Empty)
    row None (Some answer) = answer_turn q answer

    by : (o : Option Reason) (a : Option Queued) → Leaves q (row o a)
    by (Some reason) a = record { denied = λ d. record {}; allowed = λ bytes refusal. record {} }
    by None None = record { denied = λ d. record {}; allowed = λ bytes refusal. record {} }
    by None (Some a) = answer-turn-stays q a

-- ---- what this says of the requester of a direction

pub stays-in : (d : Direction) (q : QueuePair) (e : Effects) → (is_sending q.state ≡ true → IsLaid d q) → Stays q e.queue → StaysIn d (requester_in q) e
stays-in d q e laid (still requester sends state mtu) = record {
  requester = ap (λ (r : RequesterNumbers). record { una = r.una; cursor = r.cursor }) requester;
  laid = λ sending. by (laid (sym (ap is_sending state) ∙ sending));
}
  where
    by : IsLaid d q → IsLaid d e.queue
    by l = record {
      mtu = mtu ∙ l.mtu;
      begin = subst (λ (r : RequesterNumbers). r.oldest_psn ≡ first d r.oldest) (sym requester) l.begin;
      work = subst (λ (r : RequesterNumbers). IsWork d r.oldest (items_from r.oldest e.queue.sends)) (sym requester)
          (subst (λ s. IsWork d q.requester.oldest (items_from q.requester.oldest s)) (sym sends) l.work);
      passed = subst (λ (r : RequesterNumbers). r.oldest_psn ≤ r.una) (sym requester) l.passed;
    }
stays-in d q e laid (ended una cursor error mtu) = record {
  requester = ap₂ (λ a b. record { una = a; cursor = b }) una cursor;
  laid = λ sending. absurd (true≢false (sym sending ∙ ap is_sending error));
}

-- ---- timers and wakes

pub timeout-goes-back : (d : Direction) (silent : Bool) (q : QueuePair) → (is_sending q.state ≡ true → IsLaid d q) → q.requester.una ≤ q.requester.cursor → GoesBackIn d (requester_in q) (after_timeout silent q)
timeout-goes-back d silent q laid low = by (nat_le q.requester.retry q.requester.retries)
  where
    counted : QueuePair
    counted = with_requester (record q.requester { timers = suc q.requester.timers; retries = suc q.requester.retries }) q

    after : Bool → Effects
    after b = if b then failure_effects RetryExceeded None counted else queue_and_marks (with_cursor q.requester.una counted) []

    by : (b : Bool) → GoesBackIn d (requester_in q) (record (after b) { marks = marks.Timer q.queue silent ∷ (after b).marks })
    by true = record { una = refl; low = low; high = omega arith; laid = λ e. absurd (true≢false (sym e)) }
    by false = record { una = refl; low = omega arith; high = low; laid = λ e. let l = laid e in record { mtu = l.mtu; begin = l.begin; work = l.work; passed = l.passed } }

pub wake-stays : (d : Direction) (q : QueuePair) → (is_sending q.state ≡ true → IsLaid d q) → StaysIn d (requester_in q) (after_wake q)
wake-stays d q laid = record { requester = refl; laid = λ e. let l = laid e in record { mtu = l.mtu; begin = l.begin; work = l.work; passed = l.passed } }

pub stays-state : (q : QueuePair) (e : Effects) → Stays q e.queue → LeavesState q e
stays-state q e (still requester sends state mtu) = (inl state, mtu)
stays-state q e (ended una cursor state mtu) = (inr state, mtu)
