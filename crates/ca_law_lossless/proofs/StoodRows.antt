-- What the row of the packet that is expected leaves of how the responder stands. For proofs only.
use Rattle.std.proofs.Common.{◌≡◌, ℕ, ◌<◌, ◌+◌, ◌++◌, ◌&&◌, Bool, true, false, nat_lt, if◌then◌else◌, [], ◌∷◌, length, Option, None, Some, is_none, refl, ap, subst, ◌∙◌, arith}
use Rattle.ca_base.specs.declared.change.State.TheVariants as states
use Rattle.ca_base.specs.declared.completion.WcOp.TheVariants as operations
use Rattle.ca_base.specs.declared.completion.WcStatus.TheVariants.{MemoryManagement, Success}
use Rattle.ca_base.specs.declared.queue_numbers.Queued.TheVariants as queued
use Rattle.ca_base.specs.declared.refusals.OpRefusal.{OpRefusal}
use Rattle.ca_base.specs.declared.request.PlacedReceive.{PlacedReceive}
use Rattle.ca_base.specs.objects.QueuePair.{QueuePair}
use Rattle.ca_base.specs.objects.SharedReceives.{SharedReceives}
use Rattle.ca_connection.proofs.LayoutLemmas.{segments-some}
use Rattle.ca_model.specs.Requests.{list_length, segments}
use Rattle.ca_model.specs.declared.receiving.Receiving.{Receiving}
use Rattle.ca_model.specs.declared.write_reach.WriteReach.{WriteReach}
use Rattle.ca_model.specs.machine.Arrivals.{next_receive, refusal_effects, with_flag, with_message, with_receive_taken}
use Rattle.ca_model.specs.machine.Completions.{receive_mark}
use Rattle.ca_model.specs.machine.Expected.{after_send_packet, after_write_packet, atomic_row, behind_marks, expected_row, invalidation_of, is_invalid, queue_after_packet, read_queued, receive_failure_effects, receiving_of, revoked_marks, rnr_effects, send_row, takes_receive, valid_row, with_shared_receive, with_window_gone, write_reach, write_row}
use Rattle.ca_model.specs.machine.Row.{Does, Effects, Ending, NotPossible, Row, plain_row, queue_and_marks}
use Rattle.ca_wire.specs.Packet.{Fields}
use Rattle.ca_wire.specs.Shapes.{ends}
use Rattle.ca_wire.specs.declared.atomic_eth.AtomicEth.{AtomicEth}
use Rattle.ca_wire.specs.declared.reth.Reth.{Reth}
use Rattle.ca_wire.specs.declared.shape.Position.{Position}
use Rattle.ca_wire.specs.declared.shape.Shape.{Shape}
use Rattle.ca_wire.specs.declared.shape.Shape.TheVariants as shapes
use Rattle.ca_law_once.proofs.Rows.RequestRowLemmas.{cond-row, plain}
use Rattle.ca_law_once.specs.Moves.{EndingLeads, RowLeads}
use Rattle.ca_wire.specs.Syndrome.{nak_code}
use Rattle.ca_wire.specs.declared.syndrome.NakCode.{NakCode}
use Rattle.ca_wire.specs.declared.syndrome.NakCode.TheVariants.{InvalidRequest, RemoteAccessError, RemoteOperationalError}

-- The packet is accepted, and the queue pair goes on; or it has no receive, and an RNR NAK waits at the end of the
-- response queue; or a NAK does, and the queue pair is in Error.
pub data Stood (q p : QueuePair) : Type 0 where
  accepts : q.responder.expected < p.responder.expected → p.state ≡ q.state → p.responder.nak_sent ≡ false → Stood q p
  waits : p.responder.expected ≡ q.responder.expected → p.responder.answers ≡ q.responder.answers ++ (queued.Rnr q.responder.expected ∷ []) → p.state ≡ q.state → p.responder.nak_sent ≡ true → Stood q p
  refuses : (code : ℕ) → p.responder.expected ≡ q.responder.expected → p.responder.answers ≡ q.responder.answers ++ (queued.Nak q.responder.expected code ∷ []) → p.state ≡ states.Error → Stood q p

abbrev Leaves : QueuePair → Row → Type 0
Leaves q row = RowLeads (λ e. Stood q e.queue) row

-- the same of a queue pair with the same responder, but for its flag
from : (q t p : QueuePair) → t.responder.expected ≡ q.responder.expected → t.responder.answers ≡ q.responder.answers → t.state ≡ q.state → Stood t p → Stood q p
from q t p expected answers state (accepts more same none) = accepts (omega (arith, more, expected)) (same ∙ state) none
from q t p expected answers state (waits stays queue same some) =
    waits (stays ∙ expected) (subst (λ n. p.responder.answers ≡ q.responder.answers ++ (queued.Rnr n ∷ [])) expected (queue ∙ ap (λ xs. xs ++ (queued.Rnr t.responder.expected ∷ [])) answers)) (same ∙ state) some
from q t p expected answers state (refuses code stays queue error) =
    refuses code (stays ∙ expected) (subst (λ n. p.responder.answers ≡ q.responder.answers ++ (queued.Nak n code ∷ [])) expected (queue ∙ ap (λ xs. xs ++ (queued.Nak t.responder.expected code ∷ [])) answers)) error

refusal-stood : (q : QueuePair) (code : NakCode) → Stood q (refusal_effects code q).queue
refusal-stood q code = refuses (nak_code code) refl refl refl

cond-stood : (q : QueuePair) (b : Bool) (x y : Effects) → Stood q x.queue → Stood q y.queue → Stood q (if b then x else y).queue
cond-stood q true x y one other = one
cond-stood q false x y one other = other

one-more : (n : ℕ) → n < n + 1
one-more n = omega arith

send-packet-stood : (q : QueuePair) (p : Fields) (place : Position) (r : Receiving) → q.responder.nak_sent ≡ false → Stood q (after_send_packet q p place r).queue
send-packet-stood q p place r none = cond-stood q (ends place) _ _ (accepts (one-more q.responder.expected) refl none) (accepts (one-more q.responder.expected) refl none)

send-stood : (before : QueuePair) (p : Fields) (place : Position) (r : Receiving) → before.responder.nak_sent ≡ false → Leaves before (send_row before p place r)
send-stood before p place r none = cond-row (λ e. Stood before e.queue) (nat_lt (list_length r.receive.receive.list.items) (r.before + length p.payload)) _ _
    (plain (λ e. Stood before e.queue) _ (took-stood r.taken _ (refusal InvalidRequest r.taken)))
    (record {
      denied = λ d. took-stood r.taken _ (refusal RemoteOperationalError r.taken);
      allowed = λ bytes cause. took-stood r.taken _ (by r.taken cause);
    })
  where
    q : Bool → QueuePair
    q b = if b then with_receive_taken before else before

    took : Bool → Effects → Effects
    took b e = if r.taken then with_shared_receive (q b) e else e

    took-stood : (b : Bool) (e : Effects) → Stood before e.queue → Stood before (took b e).queue
    took-stood b e stays = cond-stood before r.taken (with_shared_receive (q b) e) e stays stays

    refusal : (code : NakCode) (b : Bool) → Stood before (refusal_effects code (with_message None (q b))).queue
    refusal code true = refuses (nak_code code) refl refl refl
    refusal code false = refuses (nak_code code) refl refl refl

    ended_by : Bool → Option OpRefusal → Effects
    ended_by b (Some cause) = receive_failure_effects (q b) r.receive MemoryManagement (Some cause) RemoteOperationalError
    ended_by b None = behind_marks (revoked_marks (q b) (invalidation_of (q b) p)) (after_send_packet (with_window_gone (invalidation_of (q b) p) (q b)) p place r)

    by : (b : Bool) (cause : Option OpRefusal) → Stood before (ended_by b cause).queue
    by b (Some cause) = refusal RemoteOperationalError b
    by true None = from before (with_window_gone (invalidation_of (q true) p) (q true)) _ refl refl refl (send-packet-stood (with_window_gone (invalidation_of (q true) p) (q true)) p place r none)
    by false None = from before (with_window_gone (invalidation_of (q false) p) (q false)) _ refl refl refl (send-packet-stood (with_window_gone (invalidation_of (q false) p) (q false)) p place r none)

write-packet-stood : (q : QueuePair) (p : Fields) (place : Position) (r : WriteReach) (next : Option PlacedReceive) → q.responder.nak_sent ≡ false → Stood q (after_write_packet q p place r next).queue
write-packet-stood q p place r next none = cond-stood q (ends place) (at_end p.imm next) _ (ended_by p.imm next) (accepts (one-more q.responder.expected) refl none)
  where
    done : QueuePair → QueuePair
    done q = with_message None (queue_after_packet p 1 true true q)

    at_end : Option ℕ → Option PlacedReceive → Effects
    at_end (Some imm) (Some receive) = with_shared_receive q (queue_and_marks (done (with_receive_taken q))
        (receive_mark q.queue receive.place receive.receive Success operations.RecvImm r.whole (Some imm) None ∷ []))
    at_end imm next = queue_and_marks (done q) []

    ended_by : (imm : Option ℕ) (next : Option PlacedReceive) → Stood q (at_end imm next).queue
    ended_by (Some imm) (Some receive) = accepts (one-more q.responder.expected) refl none
    ended_by (Some imm) None = accepts (one-more q.responder.expected) refl none
    ended_by None next = accepts (one-more q.responder.expected) refl none

refused : (q : QueuePair) → Leaves q (plain_row (Does (refusal_effects InvalidRequest q)))
refused q = plain (λ e. Stood q e.queue) (refusal_effects InvalidRequest q) (refusal-stood q InvalidRequest)

valid-stood : (q : QueuePair) (p : Fields) (envelope : Option ℕ) (next : Option PlacedReceive) (shape : Shape) → q.responder.nak_sent ≡ false → Leaves q (valid_row q p envelope next shape)
valid-stood q p envelope next (shapes.Send place) none = by (receiving_of q next q.responder.message)
  where
    row : Option Receiving → Row
    row (Some r) = send_row q p place r
    row None = plain_row (Does (refusal_effects InvalidRequest q))

    by : (r : Option Receiving) → Leaves q (row r)
    by (Some r) = send-stood q p place r none
    by None = refused q
valid-stood q p envelope next (shapes.Write place) none = by (write_reach q p)
  where
    row : Option WriteReach → Row
    row (Some r) = write_row q p envelope place next r
    row None = plain_row (Does (refusal_effects InvalidRequest q))

    by : (r : Option WriteReach) → Leaves q (row r)
    by (Some r) = record { denied = λ d. refusal-stood q RemoteAccessError; allowed = λ bytes refusal. write-packet-stood q p place r next none }
    by None = refused q
valid-stood q p envelope next shapes.Read none = by p.reth
  where
    row : Option Reth → Row
    row (Some h) = plain_row (Does (read_queued q p envelope h))
    row None = plain_row (Does (refusal_effects InvalidRequest q))

    more : (n bytes : ℕ) → n < n + segments q.responder.mtu bytes
    more n bytes = omega (arith, segments-some q.responder.mtu bytes)

    by : (h : Option Reth) → Leaves q (row h)
    by (Some h) = plain (λ e. Stood q e.queue) (read_queued q p envelope h) (accepts (more q.responder.expected h.length) refl none)
    by None = refused q
valid-stood q p envelope next (shapes.Atomic kind) none = by p.atomic
  where
    row : Option AtomicEth → Row
    row (Some a) = atomic_row q p envelope kind a
    row None = plain_row (Does (refusal_effects InvalidRequest q))

    by : (a : Option AtomicEth) → Leaves q (row a)
    by (Some a) = record { denied = λ d. refusal-stood q RemoteAccessError; allowed = λ bytes refusal. accepts (one-more q.responder.expected) refl none }
    by None = refused q

-- a row of the queue pair without its flag is one of the queue pair
row-from : (q t : QueuePair) (row : Row) → t.responder.expected ≡ q.responder.expected → t.responder.answers ≡ q.responder.answers → t.state ≡ q.state → Leaves t row → Leaves q row
row-from q t row expected answers state does = record {
  denied = λ d. by (row.denied d) (does.denied d);
  allowed = λ bytes refusal. by (row.allowed bytes refusal) (does.allowed bytes refusal);
}
  where
    by : (e : Ending) → EndingLeads (λ e. Stood t e.queue) e → EndingLeads (λ e. Stood q e.queue) e
    by (NotPossible reason) leads = record {}
    by (Does e) leads = from q t e.queue expected answers state leads

pub expected-stood : (before : QueuePair) (p : Fields) (envelope : Option ℕ) (shared : Option SharedReceives) (shape : Shape) → Leaves before (expected_row before shared p envelope shape)
expected-stood before p envelope shared shape = cond-row P (is_invalid q p shape) _ _ (plain P (refusal_effects InvalidRequest q) (refuses (nak_code InvalidRequest) refl refl refl))
    (cond-row P (takes_receive p shape && is_none (next_receive q shared)) _ _ (plain P (rnr_effects q) (waits refl refl refl refl))
    (row-from before q (valid_row q p envelope (next_receive q shared) shape) refl refl refl (valid-stood q p envelope (next_receive q shared) shape refl)))
  where
    q : QueuePair
    q = with_flag false before

    P : Effects → Type 0
    P e = Stood before e.queue
