-- A queue pair that moves to Error is flushed, and one in Error stays so: what each row leaves. For proofs only.
use Rattle.std.proofs.Common.{◌≡◌, ℕ, suc, ◌+◌, ◌==◌, ◌&&◌, Bool, true, false, not, nat_le, nat_lt, if◌then◌else◌, List, [], ◌∷◌, length, Option, None, Some, IfSome, is_none, Result, Ok, Err, slice_get, refl, sym, ◌∙◌, true≢false}
use Rattle.std.specs.Option.{option_and_then, option_map_or}
use Rattle.ca_base.specs.declared.change.State.TheVariants as states
use Rattle.ca_base.specs.declared.completion.WcStatus.{WcStatus}
use Rattle.ca_base.specs.declared.completion.WcOp.TheVariants as operations
use Rattle.ca_base.specs.declared.completion.WcStatus.TheVariants.{BadResponse, LocalLength, LocalProtection, MemoryManagement, RemoteAccess, RemoteInvalidRequest, RemoteOperation, RetryExceeded, RnrRetryExceeded, Success}
use Rattle.ca_base.specs.declared.denied_ask.DeniedAsk.{DeniedAsk}
use Rattle.ca_keys.specs.declared.access.Ask.{Ask}
use Rattle.ca_model.specs.machine.Completions.{receive_mark}
use Rattle.ca_model.specs.machine.Requester.{local_denial}
use Rattle.ca_base.specs.declared.queue_numbers.Queued.{Queued}
use Rattle.ca_base.specs.declared.queue_numbers.Queued.TheVariants as queued
use Rattle.ca_base.specs.declared.refusals.OpRefusal.{OpRefusal}
use Rattle.ca_base.specs.declared.request.PlacedReceive.{PlacedReceive}
use Rattle.ca_base.specs.declared.step.Reason.{Reason}
use Rattle.ca_base.specs.declared.step.Reason.TheVariants as reasons
use Rattle.ca_base.specs.objects.Answers.{duplicate_count}
use Rattle.ca_base.specs.objects.QueuePair.{QueuePair}
use Rattle.ca_base.specs.objects.Saved.{saved_at}
use Rattle.ca_base.specs.objects.SharedReceives.{SharedReceives}
use Rattle.ca_base.specs.objects.StateTable.{is_among}
use Rattle.ca_base.specs.declared.limits.TheConstants.{MAX_DUPLICATES, MAX_RETRY}
use Rattle.ca_keys.specs.Refusals.{first_of}
use Rattle.ca_law_world.proofs.Sound.WorldLemmas.{RowDoes}
use Rattle.ca_model.specs.Packets.{is_response}
use Rattle.ca_model.specs.Requests.{list_length, segments}
use Rattle.ca_model.specs.declared.mark.Drop1.{Drop1}
use Rattle.ca_model.specs.declared.mark.Drop1.TheVariants as drops
use Rattle.ca_model.specs.declared.read_left.ReadLeft.{ReadLeft}
use Rattle.ca_model.specs.declared.receiving.Receiving.{Receiving}
use Rattle.ca_model.specs.declared.write_reach.WriteReach.{WriteReach}
use Rattle.ca_model.specs.machine.Acknowledgements.{Acknowledgement, acknowledgement_below, and_then, failure_effects, first_unanswered, one_retry, progress_to, with_requester}
use Rattle.ca_model.specs.machine.Arrivals.{next_receive, refusal_effects, with_flag, with_message, with_receive_taken}
use Rattle.ca_model.specs.machine.Delivery.{arrival_drops, arrival_row, packet_arrived}
use Rattle.ca_model.specs.machine.Duplicates.{ack_again, ahead_effects, atomic_again, duplicate_effects, read_again, request_row}
use Rattle.ca_model.specs.machine.Expected.{behind_marks, invalidation_of, queue_after_packet, receive_asks, receive_failure_effects, revoked_marks, rnr_effects, with_shared_receive, with_window_gone, after_send_packet, after_write_packet, atomic_row, is_invalid, read_queued, receiving_of, send_row, takes_receive, valid_row, write_reach, write_row}
use Rattle.ca_model.specs.machine.Numbering.{Numbered, begun_requests, request_at}
use Rattle.ca_model.specs.machine.Respond.{answer_turn, is_last_response, respond_refusals, respond_row, rest_of, with_front, without_front}
use Rattle.ca_model.specs.machine.Responses.{local_writes, writes_by, acknowledge_row, answer_row, drop_effects, fits_request, fitting_row, is_outstanding_at, nak_effects, response_psn, response_row, rnr_nak_effects, unless_back}
use Rattle.ca_model.specs.machine.Row.{Does, Effects, NotPossible, Row, plain_row, queue_and_marks}
use Rattle.ca_model.specs.machine.Timers.{after_timeout}
use Rattle.ca_wire.specs.Decoding.{packet_in}
use Rattle.ca_wire.specs.Packet.{Fields}
use Rattle.ca_wire.specs.Shapes.{ends}
use Rattle.ca_wire.specs.Table.{shape_of}
use Rattle.ca_wire.specs.declared.atomic_eth.AtomicEth.{AtomicEth}
use Rattle.ca_wire.specs.declared.opcode.TheConstants.{ACKNOWLEDGE}
use Rattle.ca_wire.specs.declared.reth.Reth.{Reth}
use Rattle.ca_wire.specs.declared.shape.Position.{Position}
use Rattle.ca_wire.specs.declared.shape.Shape.{Shape}
use Rattle.ca_wire.specs.declared.shape.Shape.TheVariants as shapes
use Rattle.ca_wire.specs.declared.wire_error.WireError.{WireError}
use Rattle.ca_model.specs.ca_psn.Psn.{widened}
use Rattle.ca_wire.specs.Syndrome.{syndrome_in}
use Rattle.ca_wire.specs.declared.syndrome.NakCode.{NakCode}
use Rattle.ca_wire.specs.declared.syndrome.NakCode.TheVariants.{PsnSequenceError, InvalidRequest, RemoteAccessError, RemoteOperationalError}
use Rattle.ca_wire.specs.declared.syndrome.Syndrome.{Syndrome}
use Rattle.ca_wire.specs.declared.syndrome.Syndrome.TheVariants.{Ack, RnrNak, Nak}
use Rattle.std.proofs.lemmas.Bool.{not-false}
use Rattle.std.specs.Option.{option_map}
use Rattle.ca_law_order.specs.Polls.{IsFlushedInError}
use Rattle.ca_base.specs.declared.change.State.{State}
use Rattle.ca_base.specs.declared.request.RecvRequest.{RecvRequest}
use Rattle.ca_base.specs.objects.LocalRequest.{LocalMarks}
use Rattle.ca_base.specs.objects.QueuePair.{with_all_flushed}
use Rattle.ca_base.specs.objects.StateTable.{state_eq}
use Rattle.ca_base.specs.objects.WorkQueue.{WorkQueue, next_place, with_all_taken}
use Rattle.ca_law_world.proofs.Sound.TurnLemmas.{all-fail}
use Rattle.ca_law_world.proofs.Sound.WorldLemmas.{EndingDoes}
use Rattle.ca_model.specs.machine.LocalOperations.{operation_effects}
use Rattle.ca_model.specs.machine.Requester.{denied_list_effects, is_outstanding, is_too_much, packet_asks, packet_row, sent_packet}

-- effects that leave the queue pair flushed where it is in Error
pub record Ends (e : Effects) : Type 0 where
  pub flushed : IsFlushedInError e.queue

-- a queue pair that is not in Error
abbrev pub IsWell : QueuePair → Type 0
IsWell q = state_eq q.state states.Error ≡ false

cond-ends : (b : Bool) (e f : Effects) → Ends e → Ends f → Ends (if b then e else f)
cond-ends true e f one other = one
cond-ends false e f one other = other

cond-row : (b : Bool) (r s : Row) → RowDoes Ends r → RowDoes Ends s → RowDoes Ends (if b then r else s)
cond-row true r s one other = one
cond-row false r s one other = other

plain : (e : Effects) → Ends e → RowDoes Ends (plain_row (Does e))
plain e k = record { denied = λ d. k; allowed = λ bytes refusal. k }

-- one that is not in Error need not be flushed
pub contra : {A : Type 0} {b : Bool} → b ≡ false → b ≡ true → A
contra ok e = absurd (true≢false (sym e ∙ ok))

still : (e : Effects) → IsWell e.queue → Ends e
still e k = record { flushed = contra k }

keeps : (e : Effects) → IsFlushedInError e.queue → Ends e
keeps e k = record { flushed = k }

all-taken : (o : Option (WorkQueue RecvRequest)) → IfSome (option_map with_all_taken o) (λ r. r.next_taken ≡ next_place r)
all-taken None = record {}
all-taken (Some r) = refl

pub flushed-all : (q : QueuePair) → IsFlushedInError (with_all_flushed q)
flushed-all q e = (refl, refl, all-taken q.receives)

refused : (code : NakCode) (q : QueuePair) → Ends (refusal_effects code q)
refused code q = record { flushed = λ e. (refl, refl, all-taken q.receives) }

pub failed : (status : WcStatus) (cause : Option OpRefusal) (q : QueuePair) → Ends (failure_effects status cause q)
failed status cause q = record { flushed = λ e. (refl, refl, all-taken q.receives) }

-- ---- the responder

ahead-ends : (q : QueuePair) → IsWell q → Ends (ahead_effects q)
ahead-ends q k = cond-ends q.responder.nak_sent _ _ (still _ k) (still _ k)

duplicate-ends : (psn : ℕ) (p : Fields) (envelope : Option ℕ) (shape : Shape) (q : QueuePair) → IsWell q → Ends (duplicate_effects psn p envelope shape q)
duplicate-ends psn p envelope shape q k = cond-ends (nat_le MAX_DUPLICATES (duplicate_count q.responder.answers)) _ _ (still _ k) (by shape)
  where
    ack : Ends (ack_again q)
    ack = cond-ends (length q.responder.answers == 0) _ _ (still _ k) (still _ k)

    read : (h : Reth) → Ends (read_again psn envelope h q)
    read h = cond-ends (nat_le (psn + segments q.responder.mtu h.length) q.responder.expected) _ _ (still _ k) (still _ k)

    of_reth : (o : Option Reth) → Ends (option_map_or (λ h. read_again psn envelope h q) o (drop_effects q drops.Unsaved))
    of_reth None = still _ k
    of_reth (Some h) = read h

    atomic : (o : Option ℕ) → Ends (atomic_again psn o q)
    atomic None = still _ k
    atomic (Some found) = still _ k

    effects : Shape → Effects
    effects (shapes.Send position) = ack_again q
    effects (shapes.Write position) = ack_again q
    effects shapes.Read = option_map_or (λ h. read_again psn envelope h q) p.reth (drop_effects q drops.Unsaved)
    effects (shapes.Atomic kind) = atomic_again psn (saved_at psn q.saved) q

    by : (shape : Shape) → Ends (effects shape)
    by (shapes.Send position) = ack
    by (shapes.Write position) = ack
    by shapes.Read = of_reth p.reth
    by (shapes.Atomic kind) = atomic (saved_at psn q.saved)

receive-failed : (q : QueuePair) (r : PlacedReceive) (status : WcStatus) (cause : Option OpRefusal) (code : NakCode) → Ends (receive_failure_effects q r status cause code)
receive-failed q r status cause code = record { flushed = (refused code (with_message None q)).flushed }

sent-ends : (q : QueuePair) (p : Fields) (position : Position) (r : Receiving) → IsWell q → Ends (after_send_packet q p position r)
sent-ends q p position r k = cond-ends (ends position) _ _ (still _ k) (still _ k)

-- the queue pair that a SEND takes its receive from
taken : (b : Bool) (q : QueuePair) → IsWell q → IsWell (if b then with_receive_taken q else q)
taken true q k = k
taken false q k = k

send-ends : (before : QueuePair) (p : Fields) (position : Position) (r : Receiving) → IsWell before → RowDoes Ends (send_row before p position r)
send-ends before p position r k = cond-row (nat_lt (list_length r.receive.receive.list.items) (r.before + length p.payload)) _ _
    (plain _ (took _ (receive-failed q r.receive LocalLength None InvalidRequest)))
    (record { denied = λ d. took _ (denial d); allowed = λ bytes refusal. took _ (placed refusal) })
  where
    q : QueuePair
    q = if r.taken then with_receive_taken before else before

    own : IsWell q
    own = taken r.taken before k

    took : (e : Effects) → Ends e → Ends (if r.taken then with_shared_receive q e else e)
    took e kept = cond-ends r.taken (with_shared_receive q e) e (record { flushed = kept.flushed }) kept

    asks : List Ask
    asks = receive_asks q p r

    writes : List (Ask × List ℕ)
    writes = writes_by asks p.payload

    ended : Option OpRefusal → Effects
    ended (Some cause) = receive_failure_effects q r.receive MemoryManagement (Some cause) RemoteOperationalError
    ended None = behind_marks (revoked_marks q (invalidation_of q p)) (after_send_packet (with_window_gone (invalidation_of q p) q) p position r)

    denial : (d : DeniedAsk) → Ends (behind_marks (local_denial d ∷ []) (receive_failure_effects q r.receive LocalProtection None RemoteOperationalError))
    denial d = record { flushed = (receive-failed q r.receive LocalProtection None RemoteOperationalError).flushed }

    ended-ends : (o : Option OpRefusal) → Ends (ended o)
    ended-ends (Some cause) = receive-failed q r.receive MemoryManagement (Some cause) RemoteOperationalError
    ended-ends None = record { flushed = (sent-ends (with_window_gone (invalidation_of q p) q) p position r own).flushed }

    placed : (o : Option OpRefusal) → Ends (record (behind_marks (local_writes writes) (ended o)) { writes = writes })
    placed o = record { flushed = (ended-ends o).flushed }

wrote-ends : (q : QueuePair) (p : Fields) (position : Position) (r : WriteReach) (next : Option PlacedReceive) → IsWell q → Ends (after_write_packet q p position r next)
wrote-ends q p position r next k = cond-ends (ends position) _ _ (by p.imm next) (still _ k)
  where
    done : QueuePair → QueuePair
    done q = with_message None (queue_after_packet p 1 true true q)

    effects : Option ℕ → Option PlacedReceive → Effects
    effects (Some imm) (Some receive) = with_shared_receive q (queue_and_marks (done (with_receive_taken q))
        (receive_mark q.queue receive.place receive.receive Success operations.RecvImm r.whole (Some imm) None ∷ []))
    effects imm next = queue_and_marks (done q) []

    by : (imm : Option ℕ) (next : Option PlacedReceive) → Ends (effects imm next)
    by (Some imm) (Some receive) = still _ k
    by (Some imm) None = still _ k
    by None next = still _ k

write-ends : (q : QueuePair) (p : Fields) (envelope : Option ℕ) (position : Position) (next : Option PlacedReceive) (r : WriteReach) → IsWell q → RowDoes Ends (write_row q p envelope position next r)
write-ends q p envelope position next r k = record {
  denied = λ d. record { flushed = (refused RemoteAccessError q).flushed };
  allowed = λ bytes refusal. record { flushed = (wrote-ends q p position r next k).flushed };
}

valid-ends : (q : QueuePair) (p : Fields) (envelope : Option ℕ) (next : Option PlacedReceive) (shape : Shape) → IsWell q → RowDoes Ends (valid_row q p envelope next shape)
valid-ends q p envelope next (shapes.Send position) k = by (receiving_of q next q.responder.message)
  where
    row : Option Receiving → Row
    row (Some r) = send_row q p position r
    row None = plain_row (Does (refusal_effects InvalidRequest q))

    by : (o : Option Receiving) → RowDoes Ends (row o)
    by (Some r) = send-ends q p position r k
    by None = plain _ (refused InvalidRequest q)
valid-ends q p envelope next (shapes.Write position) k = by (write_reach q p)
  where
    row : Option WriteReach → Row
    row (Some r) = write_row q p envelope position next r
    row None = plain_row (Does (refusal_effects InvalidRequest q))

    by : (o : Option WriteReach) → RowDoes Ends (row o)
    by (Some r) = write-ends q p envelope position next r k
    by None = plain _ (refused InvalidRequest q)
valid-ends q p envelope next shapes.Read k = by p.reth
  where
    row : Option Reth → Row
    row (Some h) = plain_row (Does (read_queued q p envelope h))
    row None = plain_row (Does (refusal_effects InvalidRequest q))

    by : (o : Option Reth) → RowDoes Ends (row o)
    by (Some h) = plain (read_queued q p envelope h) (still _ k)
    by None = plain _ (refused InvalidRequest q)
valid-ends q p envelope next (shapes.Atomic kind) k = by p.atomic
  where
    row : Option AtomicEth → Row
    row (Some a) = atomic_row q p envelope kind a
    row None = plain_row (Does (refusal_effects InvalidRequest q))

    by : (o : Option AtomicEth) → RowDoes Ends (row o)
    by (Some a) = record { denied = λ d. record { flushed = (refused RemoteAccessError q).flushed }; allowed = λ bytes refusal. still _ k }
    by None = plain _ (refused InvalidRequest q)

request-ends : (p : Fields) (envelope : Option ℕ) (shared : Option SharedReceives) (shape : Shape) (q : QueuePair) → IsWell q → RowDoes Ends (request_row p envelope shared shape q)
request-ends p envelope shared shape q k = cond-row (nat_lt q.responder.expected psn) _ _ (plain _ (ahead-ends q k))
    (cond-row (nat_lt psn q.responder.expected) _ _ (plain _ (duplicate-ends psn p envelope shape q k))
    (cond-row (is_invalid f p shape) _ _ (plain _ (refused InvalidRequest f))
    (cond-row (takes_receive p shape && is_none (next_receive f shared)) _ _ (plain (rnr_effects f) (still _ k))
    (valid-ends f p envelope (next_receive f shared) shape k))))
  where
    psn : ℕ
    psn = widened q.responder.expected p.psn

    f : QueuePair
    f = with_flag false q

-- ---- responses

progressed : (psn : ℕ) (q : QueuePair) → IsWell q → IsWell (progress_to psn q).queue
progressed psn q k = by (nat_lt q.requester.una psn)
  where
    by : (b : Bool) → IsWell (if b then with_requester (record q.requester { una = psn; retries = 0; rnrs = 0 }) q else q)
    by true = k
    by false = k

retried : (psn : ℕ) (q : QueuePair) → IsWell q → Ends (one_retry psn q)
retried psn q k = cond-ends (nat_le q.requester.retry q.requester.retries) _ _ (failed RetryExceeded None (counted q)) (still _ k)
  where
    counted : QueuePair → QueuePair
    counted q = with_requester (record q.requester { retries = suc q.requester.retries }) q

-- an acknowledgement: where it did not go back, its queue pair is as well as before
record IsAnswered (a : Acknowledgement) : Type 0 where
  ends : Ends a.effects
  on : a.went_back ≡ false → IsWell a.effects.queue

acknowledged : (psn : ℕ) (q : QueuePair) → IsWell q → IsAnswered (acknowledgement_below psn q)
acknowledged psn q k = by (first_unanswered q.requester.una psn (begun_requests q))
  where
    result : Option ℕ → Acknowledgement
    result None = record { effects = progress_to psn q; went_back = false }
    result (Some back) = record { effects = and_then (progress_to back q) (one_retry back); went_back = true }

    by : (o : Option ℕ) → IsAnswered (result o)
    by None = record { ends = still _ (progressed psn q k); on = λ e. progressed psn q k }
    by (Some back) = record { ends = record { flushed = (retried back (progress_to back q).queue (progressed back q k)).flushed }; on = λ e. absurd (true≢false e) }

unless-ends : (a : Acknowledgement) (f : QueuePair → Effects) → IsAnswered a → ((q : QueuePair) → IsWell q → Ends (f q)) → Ends (unless_back a f)
unless-ends a f one more = by a.went_back refl
  where
    by : (b : Bool) → a.went_back ≡ b → Ends (if b then a.effects else and_then a.effects f)
    by true e = one.ends
    by false e = record { flushed = (more a.effects.queue (one.on e)).flushed }

rnr-ends : (psn : ℕ) (q : QueuePair) → IsWell q → Ends (rnr_nak_effects psn q)
rnr-ends psn q k = cond-ends (nat_lt q.requester.rnr_retry MAX_RETRY && nat_le q.requester.rnr_retry q.requester.rnrs) _ _ (failed RnrRetryExceeded None (counted q)) (still _ k)
  where
    counted : QueuePair → QueuePair
    counted q = with_requester (record q.requester { rnrs = suc q.requester.rnrs }) q

nak-ends : (psn : ℕ) (code : NakCode) (q : QueuePair) → IsWell q → Ends (nak_effects psn code q)
nak-ends psn PsnSequenceError q k = retried psn q k
nak-ends psn InvalidRequest q k = failed RemoteInvalidRequest None q
nak-ends psn RemoteAccessError q k = failed RemoteAccess None q
nak-ends psn RemoteOperationalError q k = failed RemoteOperation None q

acknowledge-ends : (psn : ℕ) (o : Option Syndrome) (q : QueuePair) → IsWell q → Ends (acknowledge_row psn o q)
acknowledge-ends psn (Some (Ack credits)) q k = (acknowledged (suc psn) q k).ends
acknowledge-ends psn (Some (RnrNak timer)) q k = unless-ends (acknowledgement_below psn q) (rnr_nak_effects psn) (acknowledged psn q k) (rnr-ends psn)
acknowledge-ends psn (Some (Nak code)) q k = unless-ends (acknowledgement_below psn q) (nak_effects psn code) (acknowledged psn q k) (nak-ends psn code)
acknowledge-ends psn None q k = still _ k

answer-ends : (psn : ℕ) (p : Fields) (before : Effects) (n : Numbered) → IsWell before.queue → RowDoes Ends (answer_row psn p before n)
answer-ends psn p before n k = record { denied = λ d. record { flushed = (failed LocalProtection None before.queue).flushed }; allowed = λ bytes refusal. still _ (progressed (suc psn) before.queue k) }

fitting-ends : (psn : ℕ) (p : Fields) (a : Acknowledgement) → IsAnswered a → RowDoes Ends (fitting_row psn p a)
fitting-ends psn p a k = back a.went_back refl
  where
    bad : Ends (and_then a.effects (failure_effects BadResponse None))
    bad = record { flushed = (failed BadResponse None a.effects.queue).flushed }

    row : Option Numbered → Row
    row None = plain_row (Does (and_then a.effects (failure_effects BadResponse None)))
    row (Some n) =
        if fits_request psn p a.effects.queue n then answer_row psn p a.effects n
        else plain_row (Does (and_then a.effects (failure_effects BadResponse None)))

    by : IsWell a.effects.queue → (o : Option Numbered) → RowDoes Ends (row o)
    by on None = plain _ bad
    by on (Some n) = cond-row (fits_request psn p a.effects.queue n) _ _ (answer-ends psn p a.effects n on) (plain _ bad)

    back : (b : Bool) → a.went_back ≡ b → RowDoes Ends (if b then plain_row (Does a.effects) else row (request_at psn a.effects.queue))
    back true e = plain a.effects k.ends
    back false e = by (k.on e) (request_at psn a.effects.queue)

response-ends : (p : Fields) (q : QueuePair) → IsWell q → RowDoes Ends (response_row p q)
response-ends p q k = cond-row (not (is_among (states.Rts ∷ states.Sqd ∷ []) q.state)) _ _ (plain _ (still _ k))
    (cond-row (not (is_outstanding_at psn q)) _ _ (plain _ (still _ k))
    (cond-row (p.opcode == ACKNOWLEDGE) _ _ (plain _ (acknowledge-ends psn (option_and_then (λ a. syndrome_in a.syndrome) p.aeth) q k))
    (fitting-ends psn p (acknowledgement_below psn q) (acknowledged psn q k))))
  where
    psn : ℕ
    psn = response_psn q p

-- ---- arrivals

packet-ends : (p : Fields) (envelope : Option ℕ) (shared : Option SharedReceives) (q : QueuePair) → IsWell q → RowDoes Ends (packet_arrived p envelope shared q)
packet-ends p envelope shared q k = cond-row (is_response p.opcode) _ _ (response-ends p q k) (by (shape_of p.opcode))
  where
    row : Option Shape → Row
    row (Some shape) = request_row p envelope shared shape q
    row None = plain_row (Does (drop_effects q drops.State))

    by : (o : Option Shape) → RowDoes Ends (row o)
    by (Some shape) = request-ends p envelope shared shape q k
    by None = plain _ (still _ k)

-- only a queue pair that is connected takes packets
connected-well : (t : State) → is_among (states.Rtr ∷ states.Rts ∷ states.Sqd ∷ []) t ≡ true → state_eq t states.Error ≡ false
connected-well states.Reset e = refl
connected-well states.Init e = refl
connected-well states.Rtr e = refl
connected-well states.Rts e = refl
connected-well states.Sqd e = refl
connected-well states.Error e = absurd (true≢false (sym e))

pub sending-well : (t : State) → is_among (states.Rts ∷ states.Sqd ∷ []) t ≡ true → state_eq t states.Error ≡ false
sending-well states.Reset e = refl
sending-well states.Init e = refl
sending-well states.Rtr e = refl
sending-well states.Rts e = refl
sending-well states.Sqd e = refl
sending-well states.Error e = absurd (true≢false (sym e))

pub arrival-ends : (bytes : List ℕ) (envelope : Option ℕ) (shared : Option SharedReceives) (q : QueuePair) → IsFlushedInError q → RowDoes Ends (arrival_row bytes envelope shared q)
arrival-ends bytes envelope shared q k = by (packet_in bytes)
  where
    unless : Fields → Option Drop1 → Row
    unless p (Some cause) = plain_row (Does (drop_effects q cause))
    unless p None = packet_arrived p envelope shared q

    row : Result Fields WireError → Row
    row (Err error) = plain_row (Does (drop_effects q (drops.Wire error)))
    row (Ok p) = unless p (first_of (arrival_drops q p))

    of_packet : (p : Fields) (o : Option Drop1) → first_of (arrival_drops q p) ≡ o → RowDoes Ends (unless p o)
    of_packet p (Some cause) e = plain _ (keeps _ k)
    of_packet p None e = packet-ends p envelope shared q (connected-well q.state (not-false (is_among (states.Rtr ∷ states.Rts ∷ states.Sqd ∷ []) q.state) (all-fail (arrival_drops q p) e).1.1.0))

    by : (o : Result Fields WireError) → RowDoes Ends (row o)
    by (Err error) = plain _ (keeps _ k)
    by (Ok p) = of_packet p (first_of (arrival_drops q p)) refl

-- ---- turns

turn-ends : (q : QueuePair) (a : Queued) → IsFlushedInError q → RowDoes Ends (answer_turn q a)
turn-ends q (queued.Ack psn) k = plain _ (keeps _ k)
turn-ends q (queued.Rnr psn) k = plain _ (keeps _ k)
turn-ends q (queued.Nak psn code) k = plain _ (keeps _ k)
turn-ends q (queued.Read psn key address left first envelope duplicate) k = record {
  denied = λ d. record { flushed = (failed LocalProtection None q).flushed };
  allowed = λ bytes refusal. record { flushed = answered (is_last_response q r) };
}
  where
    r : ReadLeft
    r = record { psn = psn; key = key; address = address; left = left; first = first; envelope = envelope; duplicate = duplicate }

    answered : (b : Bool) → IsFlushedInError (if b then without_front q else with_front (rest_of q r) q)
    answered true = k
    answered false = k
turn-ends q (queued.Atomic psn found duplicate) k = plain _ (keeps _ k)

pub respond-ends : (room : Bool) (q : QueuePair) → IsFlushedInError q → RowDoes Ends (respond_row room q)
respond-ends room q k = by (first_of (respond_refusals room q)) (slice_get q.responder.answers 0)
  where
    row : Option Reason → Option Queued → Row
    row (Some reason) answer = plain_row (NotPossible reason)
    row None None = plain_row (NotPossible reasons.Empty)
    row None (Some answer) = answer_turn q answer

    by : (r : Option Reason) (o : Option Queued) → RowDoes Ends (row r o)
    by (Some reason) answer = record { denied = λ d. record {}; allowed = λ bytes refusal. record {} }
    by None None = record { denied = λ d. record {}; allowed = λ bytes refusal. record {} }
    by None (Some answer) = turn-ends q answer k

pub packet-row-ends : (q : QueuePair) (room : Bool) (n : Numbered) → IsWell q → RowDoes Ends (packet_row q room n)
packet-row-ends q room n k = by (is_too_much q n)
  where
    row : Row
    row = record {
      asks = packet_asks q n;
      invalidation = None;
      denied = λ d.
          if is_outstanding q then NotPossible reasons.Outstanding
          else if not room then NotPossible reasons.NoRoom
          else Does (denied_list_effects q d);
      allowed = λ bytes refusal. if not room then NotPossible reasons.NoRoom else Does (sent_packet q n bytes);
    }

    denied : (d : DeniedAsk) (b z : Bool) → EndingDoes Ends (if b then NotPossible reasons.Outstanding else if not z then NotPossible reasons.NoRoom else Does (denied_list_effects q d))
    denied d true z = record {}
    denied d false true = record { flushed = (failed LocalProtection None q).flushed }
    denied d false false = record {}

    allowed : (bytes : List (List ℕ)) (z : Bool) → EndingDoes Ends (if not z then NotPossible reasons.NoRoom else Does (sent_packet q n bytes))
    allowed bytes true = still _ k
    allowed bytes false = record {}

    by : (b : Bool) → RowDoes Ends (if b then plain_row (NotPossible reasons.Outstanding) else row)
    by true = record { denied = λ d. record {}; allowed = λ bytes refusal. record {} }
    by false = record { denied = λ d. denied d (is_outstanding q) room; allowed = λ bytes refusal. allowed bytes room }

pub operation-ends : (q : QueuePair) (n : Numbered) (windows : ℕ) (m : LocalMarks) (refusal : Option OpRefusal) → IsWell q → Ends (operation_effects q n (record q { windows = windows }) m refusal)
operation-ends q n windows m (Some cause) k = failed MemoryManagement (Some cause) q
operation-ends q n windows m None k = still _ k

pub timeout-ends : (silent : Bool) (q : QueuePair) → IsWell q → Ends (after_timeout silent q)
timeout-ends silent q k = record { flushed = (retried q.requester.una (with_requester (record q.requester { timers = suc q.requester.timers }) q) k).flushed }
