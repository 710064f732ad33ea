-- Each row leaves a queue pair steady. For proofs only.
use Rattle.std.proofs.Common.{◌≡◌, ℕ, suc, ◌+◌, ◌≤◌, ◌==◌, ◌&&◌, Bool, true, false, not, nat_le, nat_lt, if◌then◌else◌, List, [], ◌∷◌, length, Option, None, Some, is_none, Result, Ok, Err, slice_get, refl, ap, arith}
use Rattle.std.specs.Option.{option_and_then, option_map_or}
use Rattle.ca_base.specs.declared.change.State.TheVariants as states
use Rattle.ca_base.specs.declared.completion.WcStatus.{WcStatus}
use Rattle.ca_base.specs.declared.completion.WcOp.TheVariants as operations
use Rattle.ca_base.specs.declared.completion.WcStatus.TheVariants.{BadResponse, LocalLength, LocalProtection, MemoryManagement, RemoteAccess, RemoteInvalidRequest, RemoteOperation, RetryExceeded, RnrRetryExceeded, Success}
use Rattle.ca_base.specs.declared.denied_ask.DeniedAsk.{DeniedAsk}
use Rattle.ca_keys.specs.declared.access.Ask.{Ask}
use Rattle.ca_model.specs.machine.Completions.{receive_mark}
use Rattle.ca_model.specs.machine.Requester.{local_denial}
use Rattle.ca_base.specs.declared.queue_numbers.Queued.{Queued}
use Rattle.ca_base.specs.declared.queue_numbers.Queued.TheVariants as queued
use Rattle.ca_base.specs.declared.refusals.OpRefusal.{OpRefusal}
use Rattle.ca_base.specs.declared.request.PlacedReceive.{PlacedReceive}
use Rattle.ca_base.specs.declared.step.Reason.{Reason}
use Rattle.ca_base.specs.declared.step.Reason.TheVariants as reasons
use Rattle.ca_base.specs.objects.Answers.{duplicate_count}
use Rattle.ca_base.specs.objects.QueuePair.{QueuePair, in_error}
use Rattle.ca_base.specs.objects.Saved.{saved_at}
use Rattle.ca_base.specs.objects.SharedReceives.{SharedReceives}
use Rattle.ca_base.specs.objects.StateTable.{is_among}
use Rattle.ca_base.specs.declared.limits.TheConstants.{MAX_DUPLICATES, MAX_RETRY}
use Rattle.ca_keys.specs.Refusals.{first_of}
use Rattle.ca_law_world.proofs.Sound.WorldLemmas.{RowDoes}
use Rattle.ca_model.specs.Packets.{is_response}
use Rattle.ca_model.specs.Requests.{list_length, segments}
use Rattle.ca_model.specs.declared.mark.Drop1.{Drop1}
use Rattle.ca_model.specs.declared.mark.Drop1.TheVariants as drops
use Rattle.ca_model.specs.declared.read_left.ReadLeft.{ReadLeft}
use Rattle.ca_model.specs.declared.receiving.Receiving.{Receiving}
use Rattle.ca_model.specs.declared.write_reach.WriteReach.{WriteReach}
use Rattle.ca_model.specs.machine.Acknowledgements.{Acknowledgement, acknowledgement_below, and_then, failure_effects, first_unanswered, one_retry, progress_to, with_requester}
use Rattle.ca_model.specs.machine.Arrivals.{next_receive, refusal_effects, with_answer, with_flag, with_message, with_receive_taken}
use Rattle.ca_model.specs.machine.Delivery.{arrival_drops, arrival_row, packet_arrived}
use Rattle.ca_model.specs.machine.Duplicates.{ack_again, ahead_effects, atomic_again, duplicate_effects, read_again, request_row}
use Rattle.ca_model.specs.machine.Expected.{behind_marks, invalidation_of, queue_after_packet, receive_asks, receive_failure_effects, revoked_marks, rnr_effects, with_shared_receive, with_window_gone, after_send_packet, after_write_packet, atomic_row, is_invalid, read_queued, receiving_of, send_row, takes_receive, valid_row, write_reach, write_row}
use Rattle.ca_model.specs.machine.Numbering.{Numbered, begun_requests, request_at}
use Rattle.ca_model.specs.machine.Respond.{answer_turn, is_last_response, respond_refusals, respond_row, rest_of, with_front, without_front}
use Rattle.ca_model.specs.machine.Responses.{local_writes, writes_by, acknowledge_row, answer_row, drop_effects, fits_request, fitting_row, is_outstanding_at, nak_effects, response_psn, response_row, rnr_nak_effects, unless_back}
use Rattle.ca_model.specs.machine.Row.{Does, Effects, NotPossible, Row, plain_row, queue_and_marks}
use Rattle.ca_model.specs.machine.Timers.{after_timeout, after_wake}
use Rattle.ca_model.specs.ca_wire.Decoding.{packet_in}
use Rattle.ca_model.specs.ca_wire.Packet.{Fields}
use Rattle.ca_model.specs.ca_wire.Shapes.{ends}
use Rattle.ca_model.specs.ca_wire.Table.{shape_of}
use Rattle.ca_model.specs.ca_wire.declared.atomic_eth.AtomicEth.{AtomicEth}
use Rattle.ca_model.specs.ca_wire.declared.opcode.TheConstants.{ACKNOWLEDGE}
use Rattle.ca_model.specs.ca_wire.declared.reth.Reth.{Reth}
use Rattle.ca_model.specs.ca_wire.declared.shape.Position.{Position}
use Rattle.ca_model.specs.ca_wire.declared.shape.Shape.{Shape}
use Rattle.ca_model.specs.ca_wire.declared.shape.Shape.TheVariants as shapes
use Rattle.ca_model.specs.ca_wire.declared.wire_error.WireError.{WireError}
use Rattle.ca_model.specs.ca_psn.Psn.{widened}
use Rattle.ca_model.specs.ca_wire.Syndrome.{nak_code, syndrome_in}
use Rattle.ca_model.specs.ca_wire.declared.syndrome.NakCode.{NakCode}
use Rattle.ca_model.specs.ca_wire.declared.syndrome.NakCode.TheVariants.{PsnSequenceError, InvalidRequest, RemoteAccessError, RemoteOperationalError}
use Rattle.ca_model.specs.ca_wire.declared.syndrome.Syndrome.{Syndrome}
use Rattle.ca_model.specs.ca_wire.declared.syndrome.Syndrome.TheVariants.{Ack, RnrNak, Nak}
use Rattle.ca_law_world.proofs.Steady.SameLemmas.{progress-first, progress-steady, steady-as, steady-error}
use Rattle.ca_law_world.specs.Steady.{IsSteadyQueue}

-- effects that leave the queue pair steady, and what occupies its send queue before the first that is unfinished
pub record Keeps (e : Effects) : Type 0 where
  pub is : IsSteadyQueue e.queue
  pub first : e.queue.sends.first ≤ e.queue.requester.oldest

-- a queue pair that is so
pub record IsKept (q : QueuePair) : Type 0 where
  pub is : IsSteadyQueue q
  pub first : q.sends.first ≤ q.requester.oldest

cond-keeps : (b : Bool) (e f : Effects) → Keeps e → Keeps f → Keeps (if b then e else f)
cond-keeps true e f one other = one
cond-keeps false e f one other = other

cond-row : (b : Bool) (r s : Row) → RowDoes Keeps r → RowDoes Keeps s → RowDoes Keeps (if b then r else s)
cond-row true r s one other = one
cond-row false r s one other = other

plain : (e : Effects) → Keeps e → RowDoes Keeps (plain_row (Does e))
plain e k = record { denied = λ d. k; allowed = λ bytes refusal. k }

-- nothing of the requests changes
still : (q p : QueuePair) → IsKept q → p.state ≡ q.state → p.sends ≡ q.sends → p.requester ≡ q.requester → p.responder.mtu ≡ q.responder.mtu → IsKept p
still q p k state sends requester mtu = record {
  is = steady-as q p state sends requester mtu k.is;
  first = omega (arith, k.first, ap (λ s. s.first) sends, ap (λ r. r.oldest) requester);
}

keeps : (e : Effects) → IsKept e.queue → Keeps e
keeps e k = record { is = k.is; first = k.first }

refused : (code : NakCode) (q : QueuePair) → Keeps (refusal_effects code q)
refused code q = record { is = steady-error (with_answer (queued.Nak q.responder.expected (nak_code code)) q); first = omega arith }

pub failed : (status : WcStatus) (cause : Option OpRefusal) (q : QueuePair) → Keeps (failure_effects status cause q)
failed status cause q = record { is = record { unfinished = e.unfinished; oldest = e.oldest; reads = e.reads; ends = e.ends; packets = e.packets }; first = omega arith }
  where
    e : IsSteadyQueue (in_error q)
    e = steady-error q

dropped : (q : QueuePair) (cause : Drop1) → IsKept q → Keeps (drop_effects q cause)
dropped q cause k = record { is = k.is; first = k.first }

-- ---- the responder

ahead-keeps : (q : QueuePair) → IsKept q → Keeps (ahead_effects q)
ahead-keeps q k = cond-keeps q.responder.nak_sent _ _ (dropped q drops.Stale k) (keeps _ (still q _ k refl refl refl refl))

duplicate-keeps : (psn : ℕ) (p : Fields) (envelope : Option ℕ) (shape : Shape) (q : QueuePair) → IsKept q → Keeps (duplicate_effects psn p envelope shape q)
duplicate-keeps psn p envelope shape q k = cond-keeps (nat_le MAX_DUPLICATES (duplicate_count q.responder.answers)) _ _ (dropped q drops.Unsaved k) (by shape)
  where
    ack : Keeps (ack_again q)
    ack = cond-keeps (length q.responder.answers == 0) _ _ (record { is = steady-as q _ refl refl refl refl k.is; first = k.first }) (dropped q drops.Unsaved k)

    read : (h : Reth) → Keeps (read_again psn envelope h q)
    read h = cond-keeps (nat_le (psn + segments q.responder.mtu h.length) q.responder.expected) _ _ (record { is = steady-as q _ refl refl refl refl k.is; first = k.first }) (dropped q drops.Unsaved k)

    of_reth : (o : Option Reth) → Keeps (option_map_or (λ h. read_again psn envelope h q) o (drop_effects q drops.Unsaved))
    of_reth None = dropped q drops.Unsaved k
    of_reth (Some h) = read h

    atomic : (o : Option ℕ) → Keeps (atomic_again psn o q)
    atomic None = dropped q drops.Unsaved k
    atomic (Some found) = record { is = steady-as q _ refl refl refl refl k.is; first = k.first }

    effects : Shape → Effects
    effects (shapes.Send position) = ack_again q
    effects (shapes.Write position) = ack_again q
    effects shapes.Read = option_map_or (λ h. read_again psn envelope h q) p.reth (drop_effects q drops.Unsaved)
    effects (shapes.Atomic kind) = atomic_again psn (saved_at psn q.saved) q

    by : (shape : Shape) → Keeps (effects shape)
    by (shapes.Send position) = ack
    by (shapes.Write position) = ack
    by shapes.Read = of_reth p.reth
    by (shapes.Atomic kind) = atomic (saved_at psn q.saved)

receive-failed : (q : QueuePair) (r : PlacedReceive) (status : WcStatus) (cause : Option OpRefusal) (code : NakCode) → Keeps (receive_failure_effects q r status cause code)
receive-failed q r status cause code = record { is = k.is; first = k.first }
  where
    k : Keeps (refusal_effects code (with_message None q))
    k = refused code (with_message None q)

sent-keeps : (q : QueuePair) (p : Fields) (position : Position) (r : Receiving) → IsKept q → Keeps (after_send_packet q p position r)
sent-keeps q p position r k = cond-keeps (ends position) _ _ (record { is = steady-as q _ refl refl refl refl k.is; first = k.first }) (record { is = steady-as q _ refl refl refl refl k.is; first = k.first })

-- the queue pair that a SEND takes its receive from
taken : (b : Bool) (q : QueuePair) → IsKept q → IsKept (if b then with_receive_taken q else q)
taken true q k = still q _ k refl refl refl refl
taken false q k = k

send-keeps : (before : QueuePair) (p : Fields) (position : Position) (r : Receiving) → IsKept before → RowDoes Keeps (send_row before p position r)
send-keeps before p position r k = cond-row (nat_lt (list_length r.receive.receive.list.items) (r.before + length p.payload)) _ _
    (plain _ (took _ (receive-failed q r.receive LocalLength None InvalidRequest)))
    (record { denied = λ d. took _ (denial d); allowed = λ bytes refusal. took _ (placed refusal) })
  where
    q : QueuePair
    q = if r.taken then with_receive_taken before else before

    own : IsKept q
    own = taken r.taken before k

    took : (e : Effects) → Keeps e → Keeps (if r.taken then with_shared_receive q e else e)
    took e kept = cond-keeps r.taken (with_shared_receive q e) e (record { is = kept.is; first = kept.first }) kept

    asks : List Ask
    asks = receive_asks q p r

    writes : List (Ask × List ℕ)
    writes = writes_by asks p.payload

    ended : Option OpRefusal → Effects
    ended (Some cause) = receive_failure_effects q r.receive MemoryManagement (Some cause) RemoteOperationalError
    ended None = behind_marks (revoked_marks q (invalidation_of q p)) (after_send_packet (with_window_gone (invalidation_of q p) q) p position r)

    denial : (d : DeniedAsk) → Keeps (behind_marks (local_denial d ∷ []) (receive_failure_effects q r.receive LocalProtection None RemoteOperationalError))
    denial d = let f : Keeps (receive_failure_effects q r.receive LocalProtection None RemoteOperationalError) = receive-failed q r.receive LocalProtection None RemoteOperationalError in record { is = f.is; first = f.first }

    ended-keeps : (o : Option OpRefusal) → Keeps (ended o)
    ended-keeps (Some cause) = receive-failed q r.receive MemoryManagement (Some cause) RemoteOperationalError
    ended-keeps None = let f : Keeps (after_send_packet (with_window_gone (invalidation_of q p) q) p position r) = sent-keeps (with_window_gone (invalidation_of q p) q) p position r (still q _ own refl refl refl refl) in record { is = f.is; first = f.first }

    placed : (o : Option OpRefusal) → Keeps (record (behind_marks (local_writes writes) (ended o)) { writes = writes })
    placed o = let f : Keeps (ended o) = ended-keeps o in record { is = f.is; first = f.first }

wrote-keeps : (q : QueuePair) (p : Fields) (position : Position) (r : WriteReach) (next : Option PlacedReceive) → IsKept q → Keeps (after_write_packet q p position r next)
wrote-keeps q p position r next k = cond-keeps (ends position) _ _ (by p.imm next) (record { is = steady-as q _ refl refl refl refl k.is; first = k.first })
  where
    done : QueuePair → QueuePair
    done q = with_message None (queue_after_packet p 1 true true q)

    effects : Option ℕ → Option PlacedReceive → Effects
    effects (Some imm) (Some receive) = with_shared_receive q (queue_and_marks (done (with_receive_taken q))
        (receive_mark q.queue receive.place receive.receive Success operations.RecvImm r.whole (Some imm) None ∷ []))
    effects imm next = queue_and_marks (done q) []

    by : (imm : Option ℕ) (next : Option PlacedReceive) → Keeps (effects imm next)
    by (Some imm) (Some receive) = record { is = steady-as q _ refl refl refl refl k.is; first = k.first }
    by (Some imm) None = record { is = steady-as q _ refl refl refl refl k.is; first = k.first }
    by None next = record { is = steady-as q _ refl refl refl refl k.is; first = k.first }

write-keeps : (q : QueuePair) (p : Fields) (envelope : Option ℕ) (position : Position) (next : Option PlacedReceive) (r : WriteReach) → IsKept q → RowDoes Keeps (write_row q p envelope position next r)
write-keeps q p envelope position next r k = record { denied = λ d. record { is = f.is; first = f.first }; allowed = λ bytes refusal. record { is = w.is; first = w.first } }
  where
    f : Keeps (refusal_effects RemoteAccessError q)
    f = refused RemoteAccessError q

    w : Keeps (after_write_packet q p position r next)
    w = wrote-keeps q p position r next k

valid-keeps : (q : QueuePair) (p : Fields) (envelope : Option ℕ) (next : Option PlacedReceive) (shape : Shape) → IsKept q → RowDoes Keeps (valid_row q p envelope next shape)
valid-keeps q p envelope next (shapes.Send position) k = by (receiving_of q next q.responder.message)
  where
    row : Option Receiving → Row
    row (Some r) = send_row q p position r
    row None = plain_row (Does (refusal_effects InvalidRequest q))

    by : (o : Option Receiving) → RowDoes Keeps (row o)
    by (Some r) = send-keeps q p position r k
    by None = plain _ (refused InvalidRequest q)
valid-keeps q p envelope next (shapes.Write position) k = by (write_reach q p)
  where
    row : Option WriteReach → Row
    row (Some r) = write_row q p envelope position next r
    row None = plain_row (Does (refusal_effects InvalidRequest q))

    by : (o : Option WriteReach) → RowDoes Keeps (row o)
    by (Some r) = write-keeps q p envelope position next r k
    by None = plain _ (refused InvalidRequest q)
valid-keeps q p envelope next shapes.Read k = by p.reth
  where
    row : Option Reth → Row
    row (Some h) = plain_row (Does (read_queued q p envelope h))
    row None = plain_row (Does (refusal_effects InvalidRequest q))

    by : (o : Option Reth) → RowDoes Keeps (row o)
    by (Some h) = plain (read_queued q p envelope h) (record { is = steady-as q _ refl refl refl refl k.is; first = k.first })
    by None = plain _ (refused InvalidRequest q)
valid-keeps q p envelope next (shapes.Atomic kind) k = by p.atomic
  where
    row : Option AtomicEth → Row
    row (Some a) = atomic_row q p envelope kind a
    row None = plain_row (Does (refusal_effects InvalidRequest q))

    f : Keeps (refusal_effects RemoteAccessError q)
    f = refused RemoteAccessError q

    by : (o : Option AtomicEth) → RowDoes Keeps (row o)
    by (Some a) = record { denied = λ d. record { is = f.is; first = f.first }; allowed = λ bytes refusal. record { is = steady-as q _ refl refl refl refl k.is; first = k.first } }
    by None = plain _ (refused InvalidRequest q)

request-keeps : (p : Fields) (envelope : Option ℕ) (shared : Option SharedReceives) (shape : Shape) (q : QueuePair) → IsKept q → RowDoes Keeps (request_row p envelope shared shape q)
request-keeps p envelope shared shape q k = cond-row (nat_lt q.responder.expected psn) _ _ (plain _ (ahead-keeps q k))
    (cond-row (nat_lt psn q.responder.expected) _ _ (plain _ (duplicate-keeps psn p envelope shape q k))
    (cond-row (is_invalid f p shape) _ _ (plain _ (refused InvalidRequest f))
    (cond-row (takes_receive p shape && is_none (next_receive f shared)) _ _ (plain (rnr_effects f) (record { is = steady-as q _ refl refl refl refl k.is; first = k.first }))
    (valid-keeps f p envelope (next_receive f shared) shape (still q f k refl refl refl refl)))))
  where
    psn : ℕ
    psn = widened q.responder.expected p.psn

    f : QueuePair
    f = with_flag false q

-- ---- responses

progressed : (psn : ℕ) (q : QueuePair) → IsKept q → Keeps (progress_to psn q)
progressed psn q k = record { is = progress-steady psn q k.first k.is; first = progress-first psn q k.first }

retried : (psn : ℕ) (q : QueuePair) → IsKept q → Keeps (one_retry psn q)
retried psn q k = cond-keeps (nat_le q.requester.retry q.requester.retries) _ _ (failed RetryExceeded None (counted q))
    (record { is = record { unfinished = k.is.unfinished; oldest = k.is.oldest; reads = k.is.reads; ends = k.is.ends; packets = k.is.packets }; first = k.first })
  where
    counted : QueuePair → QueuePair
    counted q = with_requester (record q.requester { retries = suc q.requester.retries }) q

then-keeps : (e : Effects) (f : QueuePair → Effects) → Keeps e → ((q : QueuePair) → IsKept q → Keeps (f q)) → Keeps (and_then e f)
then-keeps e f one more =
    let k : Keeps (f e.queue) = more e.queue (record { is = one.is; first = one.first })
    in record { is = k.is; first = k.first }

acknowledged : (psn : ℕ) (q : QueuePair) → IsKept q → Keeps (acknowledgement_below psn q).effects
acknowledged psn q k = by (first_unanswered q.requester.una psn (begun_requests q))
  where
    result : Option ℕ → Acknowledgement
    result None = record { effects = progress_to psn q; went_back = false }
    result (Some back) = record { effects = and_then (progress_to back q) (one_retry back); went_back = true }

    by : (o : Option ℕ) → Keeps (result o).effects
    by None = progressed psn q k
    by (Some back) = then-keeps (progress_to back q) (one_retry back) (progressed back q k) (retried back)

unless-keeps : (a : Acknowledgement) (f : QueuePair → Effects) → Keeps a.effects → ((q : QueuePair) → IsKept q → Keeps (f q)) → Keeps (unless_back a f)
unless-keeps a f one more = cond-keeps a.went_back a.effects (and_then a.effects f) one (then-keeps a.effects f one more)

rnr-keeps : (psn : ℕ) (q : QueuePair) → IsKept q → Keeps (rnr_nak_effects psn q)
rnr-keeps psn q k = cond-keeps (nat_lt q.requester.rnr_retry MAX_RETRY && nat_le q.requester.rnr_retry q.requester.rnrs) _ _ (failed RnrRetryExceeded None (counted q))
    (record { is = record { unfinished = k.is.unfinished; oldest = k.is.oldest; reads = k.is.reads; ends = k.is.ends; packets = k.is.packets }; first = k.first })
  where
    counted : QueuePair → QueuePair
    counted q = with_requester (record q.requester { rnrs = suc q.requester.rnrs }) q

nak-keeps : (psn : ℕ) (code : NakCode) (q : QueuePair) → IsKept q → Keeps (nak_effects psn code q)
nak-keeps psn PsnSequenceError q k = retried psn q k
nak-keeps psn InvalidRequest q k = failed RemoteInvalidRequest None q
nak-keeps psn RemoteAccessError q k = failed RemoteAccess None q
nak-keeps psn RemoteOperationalError q k = failed RemoteOperation None q

acknowledge-keeps : (psn : ℕ) (o : Option Syndrome) (q : QueuePair) → IsKept q → Keeps (acknowledge_row psn o q)
acknowledge-keeps psn (Some (Ack credits)) q k = acknowledged (suc psn) q k
acknowledge-keeps psn (Some (RnrNak timer)) q k = unless-keeps (acknowledgement_below psn q) (rnr_nak_effects psn) (acknowledged psn q k) (rnr-keeps psn)
acknowledge-keeps psn (Some (Nak code)) q k = unless-keeps (acknowledgement_below psn q) (nak_effects psn code) (acknowledged psn q k) (nak-keeps psn code)
acknowledge-keeps psn None q k = dropped q drops.Stale k

answer-keeps : (psn : ℕ) (p : Fields) (before : Effects) (n : Numbered) → Keeps before → RowDoes Keeps (answer_row psn p before n)
answer-keeps psn p before n k = record { denied = λ d. record { is = f.is; first = f.first }; allowed = λ bytes refusal. record { is = g.is; first = g.first } }
  where
    f : Keeps (failure_effects LocalProtection None before.queue)
    f = failed LocalProtection None before.queue

    g : Keeps (progress_to (suc psn) before.queue)
    g = progressed (suc psn) before.queue (record { is = k.is; first = k.first })

fitting-keeps : (psn : ℕ) (p : Fields) (a : Acknowledgement) → Keeps a.effects → RowDoes Keeps (fitting_row psn p a)
fitting-keeps psn p a k = cond-row a.went_back _ _ (plain a.effects k) (by (request_at psn a.effects.queue))
  where
    bad : Keeps (and_then a.effects (failure_effects BadResponse None))
    bad = then-keeps a.effects (failure_effects BadResponse None) k (λ q kept. failed BadResponse None q)

    row : Option Numbered → Row
    row None = plain_row (Does (and_then a.effects (failure_effects BadResponse None)))
    row (Some n) =
        if fits_request psn p a.effects.queue n then answer_row psn p a.effects n
        else plain_row (Does (and_then a.effects (failure_effects BadResponse None)))

    by : (o : Option Numbered) → RowDoes Keeps (row o)
    by None = plain _ bad
    by (Some n) = cond-row (fits_request psn p a.effects.queue n) _ _ (answer-keeps psn p a.effects n k) (plain _ bad)

response-keeps : (p : Fields) (q : QueuePair) → IsKept q → RowDoes Keeps (response_row p q)
response-keeps p q k = cond-row (not (is_among (states.Rts ∷ states.Sqd ∷ []) q.state)) _ _ (plain _ (dropped q drops.State k))
    (cond-row (not (is_outstanding_at psn q)) _ _ (plain _ (dropped q drops.Stale k))
    (cond-row (p.opcode == ACKNOWLEDGE) _ _ (plain _ (acknowledge-keeps psn (option_and_then (λ a. syndrome_in a.syndrome) p.aeth) q k))
    (fitting-keeps psn p (acknowledgement_below psn q) (acknowledged psn q k))))
  where
    psn : ℕ
    psn = response_psn q p

-- ---- arrivals

packet-keeps : (p : Fields) (envelope : Option ℕ) (shared : Option SharedReceives) (q : QueuePair) → IsKept q → RowDoes Keeps (packet_arrived p envelope shared q)
packet-keeps p envelope shared q k = cond-row (is_response p.opcode) _ _ (response-keeps p q k) (by (shape_of p.opcode))
  where
    row : Option Shape → Row
    row (Some shape) = request_row p envelope shared shape q
    row None = plain_row (Does (drop_effects q drops.State))

    by : (o : Option Shape) → RowDoes Keeps (row o)
    by (Some shape) = request-keeps p envelope shared shape q k
    by None = plain _ (dropped q drops.State k)

pub arrival-keeps : (bytes : List ℕ) (envelope : Option ℕ) (shared : Option SharedReceives) (q : QueuePair) → IsKept q → RowDoes Keeps (arrival_row bytes envelope shared q)
arrival-keeps bytes envelope shared q k = by (packet_in bytes)
  where
    unless : Fields → Option Drop1 → Row
    unless p (Some cause) = plain_row (Does (drop_effects q cause))
    unless p None = packet_arrived p envelope shared q

    row : Result Fields WireError → Row
    row (Err error) = plain_row (Does (drop_effects q (drops.Wire error)))
    row (Ok p) = unless p (first_of (arrival_drops q p))

    of_packet : (p : Fields) (o : Option Drop1) → RowDoes Keeps (unless p o)
    of_packet p (Some cause) = plain _ (dropped q cause k)
    of_packet p None = packet-keeps p envelope shared q k

    by : (o : Result Fields WireError) → RowDoes Keeps (row o)
    by (Err error) = plain _ (dropped q (drops.Wire error) k)
    by (Ok p) = of_packet p (first_of (arrival_drops q p))

-- ---- the responder's turn, and timers

turn-keeps : (q : QueuePair) (a : Queued) → IsKept q → RowDoes Keeps (answer_turn q a)
turn-keeps q (queued.Ack psn) k = plain _ (record { is = steady-as q _ refl refl refl refl k.is; first = k.first })
turn-keeps q (queued.Rnr psn) k = plain _ (record { is = steady-as q _ refl refl refl refl k.is; first = k.first })
turn-keeps q (queued.Nak psn code) k = plain _ (record { is = steady-as q _ refl refl refl refl k.is; first = k.first })
turn-keeps q (queued.Read psn key address left first envelope duplicate) k = record {
  denied = λ d. record { is = f.is; first = f.first };
  allowed = λ bytes refusal. record { is = (answered (is_last_response q r)).is; first = (answered (is_last_response q r)).first };
}
  where
    r : ReadLeft
    r = record { psn = psn; key = key; address = address; left = left; first = first; envelope = envelope; duplicate = duplicate }

    f : Keeps (failure_effects LocalProtection None q)
    f = failed LocalProtection None q

    answered : (b : Bool) → IsKept (if b then without_front q else with_front (rest_of q r) q)
    answered true = still q _ k refl refl refl refl
    answered false = still q _ k refl refl refl refl
turn-keeps q (queued.Atomic psn found duplicate) k = plain _ (record { is = steady-as q _ refl refl refl refl k.is; first = k.first })

pub respond-keeps : (room : Bool) (q : QueuePair) → IsKept q → RowDoes Keeps (respond_row room q)
respond-keeps room q k = by (first_of (respond_refusals room q)) (slice_get q.responder.answers 0)
  where
    row : Option Reason → Option Queued → Row
    row (Some reason) answer = plain_row (NotPossible reason)
    row None None = plain_row (NotPossible reasons.Empty)
    row None (Some answer) = answer_turn q answer

    by : (r : Option Reason) (o : Option Queued) → RowDoes Keeps (row r o)
    by (Some reason) answer = record { denied = λ d. record {}; allowed = λ bytes refusal. record {} }
    by None None = record { denied = λ d. record {}; allowed = λ bytes refusal. record {} }
    by None (Some answer) = turn-keeps q answer k

pub timeout-keeps : (silent : Bool) (q : QueuePair) → IsKept q → Keeps (after_timeout silent q)
timeout-keeps silent q k = record { is = r.is; first = r.first }
  where
    counted : QueuePair
    counted = with_requester (record q.requester { timers = suc q.requester.timers }) q

    r : Keeps (one_retry q.requester.una counted)
    r = retried q.requester.una counted (record {
      is = record { unfinished = k.is.unfinished; oldest = k.is.oldest; reads = k.is.reads; ends = k.is.ends; packets = k.is.packets };
      first = k.first;
    })

pub wake-keeps : (q : QueuePair) → IsKept q → Keeps (after_wake q)
wake-keeps q k = record { is = record { unfinished = k.is.unfinished; oldest = k.is.oldest; reads = k.is.reads; ends = k.is.ends; packets = k.is.packets }; first = k.first }
