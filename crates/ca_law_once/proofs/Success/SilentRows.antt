-- The rows that tell of no success of a send. For proofs only.
use Rattle.std.proofs.Common.{ℕ, ◌==◌, ◌&&◌, Bool, true, false, nat_le, nat_lt, if◌then◌else◌, [], ◌∷◌, length, Option, None, Some, is_none, slice_get, refl, ◌+◌}
use Rattle.std.specs.Option.{option_map_or}
use Rattle.ca_keys.specs.Refusals.{first_of}
use Rattle.ca_base.specs.declared.completion.WcStatus.TheVariants.{LocalLength, LocalProtection, MemoryManagement, Success}
use Rattle.ca_base.specs.declared.completion.WcOp.TheVariants as operations
use Rattle.ca_base.specs.declared.completion.WcStatus.{WcStatus}
use Rattle.ca_base.specs.declared.limits.TheConstants.{MAX_DUPLICATES}
use Rattle.ca_base.specs.declared.queue_numbers.Queued.{Queued}
use Rattle.ca_base.specs.declared.queue_numbers.Queued.TheVariants as queued
use Rattle.ca_base.specs.declared.refusals.OpRefusal.{OpRefusal}
use Rattle.ca_base.specs.declared.request.PlacedReceive.{PlacedReceive}
use Rattle.ca_base.specs.declared.step.Reason.{Reason}
use Rattle.ca_base.specs.declared.step.Reason.TheVariants as reasons
use Rattle.ca_base.specs.objects.Answers.{duplicate_count}
use Rattle.ca_base.specs.objects.QueuePair.{QueuePair}
use Rattle.ca_base.specs.objects.Saved.{saved_at}
use Rattle.ca_base.specs.objects.SharedReceives.{SharedReceives}
use Rattle.ca_model.specs.Requests.{list_length, segments}
use Rattle.ca_model.specs.declared.mark.Drop1.{Drop1}
use Rattle.ca_model.specs.declared.mark.Drop1.TheVariants as drops
use Rattle.ca_model.specs.declared.read_left.ReadLeft.{ReadLeft}
use Rattle.ca_model.specs.declared.receiving.Receiving.{Receiving}
use Rattle.ca_model.specs.declared.write_reach.WriteReach.{WriteReach}
use Rattle.ca_model.specs.machine.Arrivals.{next_receive, refusal_effects, with_flag, with_message, with_receive_taken}
use Rattle.ca_model.specs.machine.Duplicates.{ack_again, ahead_effects, atomic_again, duplicate_effects, read_again, request_row}
use Rattle.ca_model.specs.machine.Expected.{after_send_packet, after_write_packet, atomic_row, behind_marks, expected_row, invalidation_of, is_invalid, queue_after_packet, read_queued, receive_failure_effects, receiving_of, revoked_marks, receive_asks, rnr_effects, send_row, takes_receive, valid_row, with_shared_receive, with_window_gone, write_reach, write_row}
use Rattle.ca_model.specs.machine.Respond.{answer_turn, read_row, respond_refusals, respond_row}
use Rattle.ca_model.specs.machine.Completions.{receive_mark}
use Rattle.ca_model.specs.machine.Row.{Does, Effects, NotPossible, Row, plain_row, queue_and_marks}
use Rattle.ca_wire.specs.Packet.{Fields}
use Rattle.ca_wire.specs.Shapes.{ends}
use Rattle.ca_wire.specs.declared.atomic_eth.AtomicEth.{AtomicEth}
use Rattle.ca_wire.specs.declared.reth.Reth.{Reth}
use Rattle.ca_wire.specs.declared.shape.Position.{Position}
use Rattle.ca_wire.specs.declared.shape.Shape.{Shape}
use Rattle.ca_wire.specs.declared.shape.Shape.TheVariants as shapes
use Rattle.ca_psn.specs.Psn.{widened}
use Rattle.ca_law_once.proofs.Rows.RequestRowLemmas.{cond-row, plain}
use Rattle.ca_law_once.specs.Moves.{RowLeads}
use Rattle.ca_wire.specs.declared.syndrome.NakCode.{NakCode}
use Rattle.ca_wire.specs.declared.syndrome.NakCode.TheVariants.{InvalidRequest, RemoteAccessError, RemoteOperationalError}
use Rattle.ca_law_once.proofs.Success.TellLemmas.{AreSilent, flush-silent, revoked-silent, silent-append, writes-silent}
use Rattle.ca_model.specs.machine.Responses.{drop_effects, local_writes, writes_by}

abbrev pub Silent : Row → Type 0
Silent row = RowLeads (λ e. AreSilent e.marks) row

cond-silent : (b : Bool) (x y : Effects) → AreSilent x.marks → AreSilent y.marks → AreSilent (if b then x else y).marks
cond-silent true x y one other = one
cond-silent false x y one other = other

refusal-silent : (code : NakCode) (q : QueuePair) → AreSilent (refusal_effects code q).marks
refusal-silent code q = flush-silent q

pub drop-silent : (q : QueuePair) (cause : Drop1) → AreSilent (drop_effects q cause).marks
drop-silent q cause = (refl, record {})

send-packet-silent : (q : QueuePair) (p : Fields) (place : Position) (r : Receiving) → AreSilent (after_send_packet q p place r).marks
send-packet-silent q p place r = cond-silent (ends place) _ _ (refl, record {}) (record {})

receive-failure-silent : (q : QueuePair) (r : PlacedReceive) (status : WcStatus) (cause : Option OpRefusal) (code : NakCode) → AreSilent (receive_failure_effects q r status cause code).marks
receive-failure-silent q r status cause code = (refl, flush-silent (with_message None q))

send-silent : (before : QueuePair) (p : Fields) (place : Position) (r : Receiving) → Silent (send_row before p place r)
send-silent before p place r = cond-row P (nat_lt (list_length r.receive.receive.list.items) (r.before + length p.payload)) _ _
    (plain P _ (took-silent _ (receive-failure-silent q r.receive LocalLength None InvalidRequest)))
    (record {
      denied = λ d. took-silent _ (refl, receive-failure-silent q r.receive LocalProtection None RemoteOperationalError);
      allowed = λ bytes cause. took-silent _ (silent-append (local_writes (writes_by (receive_asks q p r) p.payload)) (ended_by cause).marks (writes-silent (writes_by (receive_asks q p r) p.payload)) (by cause));
    })
  where
    P : Effects → Type 0
    P e = AreSilent e.marks

    q : QueuePair
    q = if r.taken then with_receive_taken before else before

    took : Effects → Effects
    took e = if r.taken then with_shared_receive q e else e

    took-silent : (e : Effects) → AreSilent e.marks → AreSilent (took e).marks
    took-silent e silent = cond-silent r.taken (with_shared_receive q e) e silent silent

    ended_by : Option OpRefusal → Effects
    ended_by (Some cause) = receive_failure_effects q r.receive MemoryManagement (Some cause) RemoteOperationalError
    ended_by None = behind_marks (revoked_marks q (invalidation_of q p)) (after_send_packet (with_window_gone (invalidation_of q p) q) p place r)

    by : (cause : Option OpRefusal) → AreSilent (ended_by cause).marks
    by (Some cause) = receive-failure-silent q r.receive MemoryManagement (Some cause) RemoteOperationalError
    by None = silent-append (revoked_marks q (invalidation_of q p)) _ (revoked-silent q (invalidation_of q p)) (send-packet-silent (with_window_gone (invalidation_of q p) q) p place r)

write-packet-silent : (q : QueuePair) (p : Fields) (place : Position) (r : WriteReach) (next : Option PlacedReceive) → AreSilent (after_write_packet q p place r next).marks
write-packet-silent q p place r next = cond-silent (ends place) (at_end p.imm next) _ (ended_by p.imm next) (record {})
  where
    done : QueuePair → QueuePair
    done q = with_message None (queue_after_packet p 1 true true q)

    at_end : Option ℕ → Option PlacedReceive → Effects
    at_end (Some imm) (Some receive) = with_shared_receive q (queue_and_marks (done (with_receive_taken q))
        (receive_mark q.queue receive.place receive.receive Success operations.RecvImm r.whole (Some imm) None ∷ []))
    at_end imm next = queue_and_marks (done q) []

    ended_by : (imm : Option ℕ) (next : Option PlacedReceive) → AreSilent (at_end imm next).marks
    ended_by (Some imm) (Some receive) = (refl, record {})
    ended_by (Some imm) None = record {}
    ended_by None next = record {}

refused : (q : QueuePair) → Silent (plain_row (Does (refusal_effects InvalidRequest q)))
refused q = plain (λ e. AreSilent e.marks) (refusal_effects InvalidRequest q) (refusal-silent InvalidRequest q)

valid-silent : (q : QueuePair) (p : Fields) (envelope : Option ℕ) (next : Option PlacedReceive) (shape : Shape) → Silent (valid_row q p envelope next shape)
valid-silent q p envelope next (shapes.Send place) = by (receiving_of q next q.responder.message)
  where
    row : Option Receiving → Row
    row (Some r) = send_row q p place r
    row None = plain_row (Does (refusal_effects InvalidRequest q))

    by : (r : Option Receiving) → Silent (row r)
    by (Some r) = send-silent q p place r
    by None = refused q
valid-silent q p envelope next (shapes.Write place) = by (write_reach q p)
  where
    row : Option WriteReach → Row
    row (Some r) = write_row q p envelope place next r
    row None = plain_row (Does (refusal_effects InvalidRequest q))

    by : (r : Option WriteReach) → Silent (row r)
    by (Some r) = record { denied = λ d. (refl, refusal-silent RemoteAccessError q); allowed = λ bytes refusal. (refl, write-packet-silent q p place r next) }
    by None = refused q
valid-silent q p envelope next shapes.Read = by p.reth
  where
    row : Option Reth → Row
    row (Some h) = plain_row (Does (read_queued q p envelope h))
    row None = plain_row (Does (refusal_effects InvalidRequest q))

    by : (h : Option Reth) → Silent (row h)
    by (Some h) = plain (λ e. AreSilent e.marks) (read_queued q p envelope h) (record {})
    by None = refused q
valid-silent q p envelope next (shapes.Atomic kind) = by p.atomic
  where
    row : Option AtomicEth → Row
    row (Some a) = atomic_row q p envelope kind a
    row None = plain_row (Does (refusal_effects InvalidRequest q))

    by : (a : Option AtomicEth) → Silent (row a)
    by (Some a) = record { denied = λ d. (refl, refusal-silent RemoteAccessError q); allowed = λ bytes refusal. (refl, record {}) }
    by None = refused q

expected-silent : (before : QueuePair) (p : Fields) (envelope : Option ℕ) (shared : Option SharedReceives) (shape : Shape) → Silent (expected_row before shared p envelope shape)
expected-silent before p envelope shared shape = cond-row P (is_invalid q p shape) _ _ (plain P (refusal_effects InvalidRequest q) (refusal-silent InvalidRequest q))
    (cond-row P (takes_receive p shape && is_none (next_receive q shared)) _ _ (plain P (rnr_effects q) (record {}))
    (valid-silent q p envelope (next_receive q shared) shape))
  where
    q : QueuePair
    q = with_flag false before

    P : Effects → Type 0
    P e = AreSilent e.marks

duplicate-silent : (w : ℕ) (p : Fields) (envelope : Option ℕ) (shape : Shape) (q : QueuePair) → AreSilent (duplicate_effects w p envelope shape q).marks
duplicate-silent w p envelope shape q = cond-silent (nat_le MAX_DUPLICATES (duplicate_count q.responder.answers)) (drop_effects q drops.Unsaved) (again shape) (drop-silent q drops.Unsaved) (by shape)
  where
    again : Shape → Effects
    again (shapes.Send position) = ack_again q
    again (shapes.Write position) = ack_again q
    again shapes.Read = option_map_or (λ h. read_again w envelope h q) p.reth (drop_effects q drops.Unsaved)
    again (shapes.Atomic kind) = atomic_again w (saved_at w q.saved) q

    ack : AreSilent (ack_again q).marks
    ack = cond-silent (length q.responder.answers == 0) _ (drop_effects q drops.Unsaved) (record {}) (drop-silent q drops.Unsaved)

    read : (h : Option Reth) → AreSilent (option_map_or (λ h. read_again w envelope h q) h (drop_effects q drops.Unsaved)).marks
    read (Some h) = cond-silent (nat_le (w + segments q.responder.mtu h.length) q.responder.expected) _ (drop_effects q drops.Unsaved) (record {}) (drop-silent q drops.Unsaved)
    read None = drop-silent q drops.Unsaved

    atomic : (o : Option ℕ) → AreSilent (atomic_again w o q).marks
    atomic (Some found) = record {}
    atomic None = drop-silent q drops.Unsaved

    by : (shape : Shape) → AreSilent (again shape).marks
    by (shapes.Send position) = ack
    by (shapes.Write position) = ack
    by shapes.Read = read p.reth
    by (shapes.Atomic kind) = atomic (saved_at w q.saved)

-- whatever request arrives, nothing tells of a success of a send
pub request-silent : (p : Fields) (envelope : Option ℕ) (shared : Option SharedReceives) (shape : Shape) (q : QueuePair) → Silent (request_row p envelope shared shape q)
request-silent p envelope shared shape q = cond-row P (nat_lt q.responder.expected w) _ _ (plain P (ahead_effects q) (cond-silent q.responder.nak_sent (drop_effects q drops.Stale) _ (drop-silent q drops.Stale) (record {})))
    (cond-row P (nat_lt w q.responder.expected) _ _ (plain P (duplicate_effects w p envelope shape q) (duplicate-silent w p envelope shape q)) (expected-silent q p envelope shared shape))
  where
    w : ℕ
    w = widened q.responder.expected p.psn

    P : Effects → Type 0
    P e = AreSilent e.marks

-- ---- the responder's turn

read-turn-silent : (q : QueuePair) (r : ReadLeft) → Silent (read_row q r)
read-turn-silent q r = record { denied = λ d. (refl, flush-silent q); allowed = λ bytes refusal. (refl, record {}) }

pub respond-silent : (room : Bool) (q : QueuePair) → Silent (respond_row room q)
respond-silent room q = by (first_of (respond_refusals room q)) (slice_get q.responder.answers 0)
  where
    P : Effects → Type 0
    P e = AreSilent e.marks

    row : Option Reason → Option Queued → Row
    row (Some reason) answer = plain_row (NotPossible reason)
    row None None = plain_row (NotPossible reasons.Empty)
    row None (Some answer) = answer_turn q answer

    turn : (a : Queued) → Silent (answer_turn q a)
    turn (queued.Ack psn) = plain P _ (record {})
    turn (queued.Rnr psn) = plain P _ (record {})
    turn (queued.Nak psn code) = plain P _ (record {})
    turn (queued.Read psn key address left begins envelope duplicate) = read-turn-silent q (record { psn = psn; key = key; address = address; left = left; first = begins; envelope = envelope; duplicate = duplicate })
    turn (queued.Atomic psn found duplicate) = plain P _ (record {})

    by : (o : Option Reason) (a : Option Queued) → Silent (row o a)
    by (Some reason) a = record { denied = λ d. record {}; allowed = λ bytes refusal. record {} }
    by None None = record { denied = λ d. record {}; allowed = λ bytes refusal. record {} }
    by None (Some a) = turn a
