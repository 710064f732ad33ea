-- Each row completes the sends of its queue pair in order. For proofs only.
use Rattle.std.proofs.Common.{◌≡◌, ℕ, suc, ◌+◌, ◌==◌, ◌&&◌, Bool, true, false, not, nat_le, nat_lt, if◌then◌else◌, List, [], ◌∷◌, ◌++◌, length, Option, None, Some, is_none, Result, Ok, Err, slice_get, refl, ap, sym, subst, ◌∙◌, arith}
use Rattle.std.specs.Option.{option_and_then, option_map_or}
use Rattle.ca_law_order.proofs.Sends.CompleteLemmas.{Complete, complete-append, none-between}
use Rattle.ca_law_order.proofs.Sends.SendLemmas.{CompletesOf, IsReadyQueue, IsRequestAt, failure-completes, flush-complete, progress-completes}
use Rattle.ca_base.specs.declared.change.State.TheVariants as states
use Rattle.ca_base.specs.declared.completion.WcOp.TheVariants as operations
use Rattle.ca_base.specs.declared.completion.WcStatus.{WcStatus}
use Rattle.ca_base.specs.declared.completion.WcStatus.TheVariants.{BadResponse, LocalLength, LocalProtection, MemoryManagement, RemoteAccess, RemoteInvalidRequest, RemoteOperation, RetryExceeded, RnrRetryExceeded, Success}
use Rattle.ca_base.specs.declared.denied_ask.DeniedAsk.{DeniedAsk}
use Rattle.ca_base.specs.declared.limits.TheConstants.{MAX_DUPLICATES, MAX_RETRY}
use Rattle.ca_base.specs.declared.queue_numbers.Queued.{Queued}
use Rattle.ca_base.specs.declared.queue_numbers.Queued.TheVariants as queued
use Rattle.ca_base.specs.declared.refusals.OpRefusal.{OpRefusal}
use Rattle.ca_base.specs.declared.request.PlacedReceive.{PlacedReceive}
use Rattle.ca_base.specs.declared.request.PostedSend.{PostedSend}
use Rattle.ca_base.specs.declared.step.Reason.{Reason}
use Rattle.ca_base.specs.declared.step.Reason.TheVariants as reasons
use Rattle.ca_base.specs.Sight.{Invalidation}
use Rattle.ca_base.specs.objects.Answers.{duplicate_count}
use Rattle.ca_base.specs.objects.QueuePair.{QueuePair}
use Rattle.ca_base.specs.objects.Saved.{saved_at}
use Rattle.ca_base.specs.objects.SharedReceives.{SharedReceives}
use Rattle.ca_base.specs.objects.StateTable.{is_among}
use Rattle.ca_base.specs.objects.WorkQueue.{WorkQueue, item_at, next_place}
use Rattle.ca_keys.specs.Refusals.{first_of}
use Rattle.ca_keys.specs.declared.access.Ask.{Ask}
use Rattle.ca_keys.specs.declared.access.Kind.{Kind}
use Rattle.ca_keys.specs.declared.names.QueueId.{QueueId}
use Rattle.ca_law_world.proofs.Sound.WorldLemmas.{EndingDoes, RowDoes}
use Rattle.ca_model.specs.Packets.{is_response}
use Rattle.ca_model.specs.Past.{Posted}
use Rattle.ca_model.specs.Requests.{list_length, segments}
use Rattle.ca_model.specs.declared.mark.Drop1.{Drop1}
use Rattle.ca_model.specs.declared.mark.Drop1.TheVariants as drops
use Rattle.ca_model.specs.declared.mark.Mark.{Mark}
use Rattle.ca_model.specs.declared.mark.Mark.TheVariants as marks
use Rattle.ca_model.specs.declared.read_left.ReadLeft.{ReadLeft}
use Rattle.ca_model.specs.declared.receiving.Receiving.{Receiving}
use Rattle.ca_model.specs.declared.write_reach.WriteReach.{WriteReach}
use Rattle.ca_model.specs.machine.Acknowledgements.{Acknowledgement, acknowledgement_below, and_then, failure_effects, first_unanswered, one_retry, progress_to, with_cursor, with_requester}
use Rattle.ca_model.specs.machine.Arrivals.{next_receive, refusal_effects, with_flag, with_message, with_receive_taken}
use Rattle.ca_model.specs.machine.Completions.{flush_marks, receive_mark}
use Rattle.ca_model.specs.machine.Delivery.{arrival_drops, arrival_row, packet_arrived}
use Rattle.ca_model.specs.machine.Duplicates.{ack_again, ahead_effects, atomic_again, duplicate_effects, read_again, request_row}
use Rattle.ca_model.specs.machine.Expected.{after_send_packet, after_write_packet, atomic_row, behind_marks, invalidation_of, is_invalid, queue_after_packet, read_queued, receive_asks, receive_failure_effects, receiving_of, revoked_marks, rnr_effects, send_row, takes_receive, valid_row, with_shared_receive, with_window_gone, write_reach, write_row}
use Rattle.ca_model.specs.machine.Numbering.{Numbered, begun_requests, request_at}
use Rattle.ca_model.specs.machine.Requester.{denied_list_effects, is_outstanding, is_too_much, local_denial, local_reads, packet_asks, packet_row, sent_packet}
use Rattle.ca_model.specs.machine.Respond.{answer_turn, is_last_response, respond_refusals, respond_row, rest_of, with_front, without_front}
use Rattle.ca_model.specs.machine.Responses.{acknowledge_row, answer_asks, answer_bytes, answer_row, drop_effects, fits_request, fitting_row, is_outstanding_at, local_writes, nak_effects, response_psn, response_row, rnr_nak_effects, unless_back, writes_by}
use Rattle.ca_model.specs.machine.Row.{Does, Effects, NotPossible, Row, plain_row, queue_and_marks}
use Rattle.ca_model.specs.machine.Timers.{after_timeout, after_wake}
use Rattle.ca_wire.specs.Decoding.{packet_in}
use Rattle.ca_wire.specs.Packet.{Fields}
use Rattle.ca_wire.specs.Shapes.{ends}
use Rattle.ca_wire.specs.Table.{shape_of}
use Rattle.ca_wire.specs.declared.atomic_eth.AtomicEth.{AtomicEth}
use Rattle.ca_wire.specs.declared.opcode.TheConstants.{ACKNOWLEDGE}
use Rattle.ca_wire.specs.declared.reth.Reth.{Reth}
use Rattle.ca_wire.specs.declared.shape.Position.{Position}
use Rattle.ca_wire.specs.declared.shape.Shape.{Shape}
use Rattle.ca_wire.specs.declared.shape.Shape.TheVariants as shapes
use Rattle.ca_wire.specs.declared.wire_error.WireError.{WireError}
use Rattle.ca_psn.specs.Psn.{widened}
use Rattle.ca_wire.specs.Syndrome.{syndrome_in}
use Rattle.ca_wire.specs.declared.syndrome.NakCode.{NakCode}
use Rattle.ca_wire.specs.declared.syndrome.NakCode.TheVariants.{PsnSequenceError, InvalidRequest, RemoteAccessError, RemoteOperationalError}
use Rattle.ca_wire.specs.declared.syndrome.Syndrome.{Syndrome}
use Rattle.ca_wire.specs.declared.syndrome.Syndrome.TheVariants.{Ack, RnrNak, Nak}

-- ---- effects

abbrev pub RowCompletes : List Posted → QueuePair → Row → Type 0
RowCompletes ps q row = RowDoes (CompletesOf ps q) row

cond-completes : (ps : List Posted) (q : QueuePair) (b : Bool) (e f : Effects) → CompletesOf ps q e → CompletesOf ps q f → CompletesOf ps q (if b then e else f)
cond-completes ps q true e f one other = one
cond-completes ps q false e f one other = other

cond-row : (ps : List Posted) (q : QueuePair) (b : Bool) (r s : Row) → RowCompletes ps q r → RowCompletes ps q s → RowCompletes ps q (if b then r else s)
cond-row ps q true r s one other = one
cond-row ps q false r s one other = other

plain : (ps : List Posted) (q : QueuePair) (e : Effects) → CompletesOf ps q e → RowCompletes ps q (plain_row (Does e))
plain ps q e does = record { denied = λ d. does; allowed = λ bytes refusal. does }

-- marks that tell of no send
abbrev pub TellOfNone : QueueId → List Posted → List Mark → Type 0
TellOfNone name ps ms = (n : ℕ) → Complete name ps n ms n

pub none-told : (name : QueueId) (ps : List Posted) → TellOfNone name ps []
none-told name ps n = (omega arith, none-between ps n)

-- nothing of the requester changes, and no send is told of
quiet : (ps : List Posted) (q : QueuePair) (e : Effects) → e.queue.queue ≡ q.queue → e.queue.sends ≡ q.sends → e.queue.requester.oldest ≡ q.requester.oldest → IsReadyQueue ps q → TellOfNone q.queue ps e.marks → CompletesOf ps q e
quiet ps q e queue sends oldest ready none = record {
  queue = queue;
  sends = sends;
  low = omega (arith, oldest);
  high = omega (arith, oldest, ready.last);
  marks = subst (Complete q.queue ps q.requester.oldest e.marks) (sym oldest) (none q.requester.oldest);
}

-- marks that tell of no send, before others
behind-none : (ps : List Posted) (q : QueuePair) (ms : List Mark) (e : Effects) → TellOfNone q.queue ps ms → CompletesOf ps q e → CompletesOf ps q (record e { marks = ms ++ e.marks })
behind-none ps q ms e none does = record {
  queue = does.queue;
  sends = does.sends;
  low = does.low;
  high = does.high;
  marks = complete-append q.queue ps q.requester.oldest ms q.requester.oldest e.marks e.queue.requester.oldest (none q.requester.oldest) does.marks;
}

pub ready-after : (ps : List Posted) (q : QueuePair) (e : Effects) → IsReadyQueue ps q → CompletesOf ps q e → IsReadyQueue ps e.queue
ready-after ps q e ready does = record {
  at = subst (λ s. (place : ℕ) (x : PostedSend) → item_at place s ≡ Some x → IsRequestAt ps place x.request) (sym does.sends) ready.at;
  first = omega (arith, ap (λ (s : WorkQueue PostedSend). s.first) does.sends, ready.first, does.low);
  last = omega (arith, ap next_place does.sends, does.high);
}

completes-then : (ps : List Posted) (q : QueuePair) (e : Effects) (f : QueuePair → Effects) → IsReadyQueue ps q → CompletesOf ps q e → (IsReadyQueue ps e.queue → CompletesOf ps e.queue (f e.queue)) → CompletesOf ps q (and_then e f)
completes-then ps q e f ready one more = by (more (ready-after ps q e ready one))
  where
    by : CompletesOf ps e.queue (f e.queue) → CompletesOf ps q (and_then e f)
    by other = record {
      queue = other.queue ∙ one.queue;
      sends = other.sends ∙ one.sends;
      low = omega (arith, one.low, other.low);
      high = omega (arith, other.high, ap next_place one.sends);
      marks = complete-append q.queue ps q.requester.oldest e.marks e.queue.requester.oldest (f e.queue).marks (f e.queue).queue.requester.oldest one.marks
          (subst (λ n. Complete n ps e.queue.requester.oldest (f e.queue).marks (f e.queue).queue.requester.oldest) one.queue other.marks);
    }

-- all that is posted is flushed
flushed : (ps : List Posted) (q p : QueuePair) (ms : List Mark) → p.queue ≡ q.queue → p.sends ≡ q.sends → p.requester.oldest ≡ next_place q.sends → IsReadyQueue ps q → TellOfNone q.queue ps ms → CompletesOf ps q (queue_and_marks p (ms ++ flush_marks q))
flushed ps q p ms queue sends oldest ready none = record {
  queue = queue;
  sends = sends;
  low = omega (arith, oldest, ready.last);
  high = omega (arith, oldest);
  marks = complete-append q.queue ps q.requester.oldest ms q.requester.oldest (flush_marks q) p.requester.oldest (none q.requester.oldest)
      (subst (Complete q.queue ps q.requester.oldest (flush_marks q)) (sym oldest) (flush-complete ps q ready));
}

refused : (ps : List Posted) (code : NakCode) (q : QueuePair) → IsReadyQueue ps q → CompletesOf ps q (refusal_effects code q)
refused ps code q ready = flushed ps q (refusal_effects code q).queue [] refl refl refl ready (none-told q.queue ps)

dropped : (ps : List Posted) (q : QueuePair) (cause : Drop1) → IsReadyQueue ps q → CompletesOf ps q (drop_effects q cause)
dropped ps q cause ready = quiet ps q (drop_effects q cause) refl refl refl ready (none-told q.queue ps)

-- ---- progress

retried : (ps : List Posted) (psn : ℕ) (q : QueuePair) → IsReadyQueue ps q → CompletesOf ps q (one_retry psn q)
retried ps psn q ready = cond-completes ps q (nat_le q.requester.retry q.requester.retries) (failure_effects RetryExceeded None counted) (queue_and_marks (with_cursor psn counted) [])
    (failure-completes ps RetryExceeded None counted refl ready) (quiet ps q _ refl refl refl ready (none-told q.queue ps))
  where
    counted : QueuePair
    counted = with_requester (record q.requester { retries = suc q.requester.retries }) q

acknowledged : (ps : List Posted) (psn : ℕ) (q : QueuePair) → IsReadyQueue ps q → CompletesOf ps q (acknowledgement_below psn q).effects
acknowledged ps psn q ready = by (first_unanswered q.requester.una psn (begun_requests q))
  where
    result : Option ℕ → Acknowledgement
    result None = record { effects = progress_to psn q; went_back = false }
    result (Some back) = record { effects = and_then (progress_to back q) (one_retry back); went_back = true }

    by : (o : Option ℕ) → CompletesOf ps q (result o).effects
    by None = progress-completes ps psn q ready
    by (Some back) = completes-then ps q (progress_to back q) (one_retry back) ready (progress-completes ps back q ready) (retried ps back (progress_to back q).queue)

unless-completes : (ps : List Posted) (q : QueuePair) (a : Acknowledgement) (f : QueuePair → Effects) → IsReadyQueue ps q → CompletesOf ps q a.effects → (IsReadyQueue ps a.effects.queue → CompletesOf ps a.effects.queue (f a.effects.queue))
    → CompletesOf ps q (unless_back a f)
unless-completes ps q a f ready one more = cond-completes ps q a.went_back a.effects (and_then a.effects f) one (completes-then ps q a.effects f ready one more)

rnr-completes : (ps : List Posted) (psn : ℕ) (q : QueuePair) → IsReadyQueue ps q → CompletesOf ps q (rnr_nak_effects psn q)
rnr-completes ps psn q ready = cond-completes ps q (nat_lt q.requester.rnr_retry MAX_RETRY && nat_le q.requester.rnr_retry q.requester.rnrs) (failure_effects RnrRetryExceeded None counted)
    (queue_and_marks (with_requester (record counted.requester { cursor = psn; waiting = true }) q) [])
    (failure-completes ps RnrRetryExceeded None counted refl ready) (quiet ps q _ refl refl refl ready (none-told q.queue ps))
  where
    counted : QueuePair
    counted = with_requester (record q.requester { rnrs = suc q.requester.rnrs }) q

nak-completes : (ps : List Posted) (psn : ℕ) (code : NakCode) (q : QueuePair) → IsReadyQueue ps q → CompletesOf ps q (nak_effects psn code q)
nak-completes ps psn PsnSequenceError q ready = retried ps psn q ready
nak-completes ps psn InvalidRequest q ready = failure-completes ps RemoteInvalidRequest None q refl ready
nak-completes ps psn RemoteAccessError q ready = failure-completes ps RemoteAccess None q refl ready
nak-completes ps psn RemoteOperationalError q ready = failure-completes ps RemoteOperation None q refl ready

acknowledge-completes : (ps : List Posted) (psn : ℕ) (o : Option Syndrome) (q : QueuePair) → IsReadyQueue ps q → CompletesOf ps q (acknowledge_row psn o q)
acknowledge-completes ps psn (Some (Ack credits)) q ready = acknowledged ps (suc psn) q ready
acknowledge-completes ps psn (Some (RnrNak timer)) q ready =
    unless-completes ps q (acknowledgement_below psn q) (rnr_nak_effects psn) ready (acknowledged ps psn q ready) (rnr-completes ps psn (acknowledgement_below psn q).effects.queue)
acknowledge-completes ps psn (Some (Nak code)) q ready =
    unless-completes ps q (acknowledgement_below psn q) (nak_effects psn code) ready (acknowledged ps psn q ready) (nak-completes ps psn code (acknowledgement_below psn q).effects.queue)
acknowledge-completes ps psn None q ready = dropped ps q drops.Stale ready

-- ---- answers

writes-told : (name : QueueId) (ps : List Posted) (xs : List (Ask × List ℕ)) → TellOfNone name ps (local_writes xs)
writes-told name ps [] n = none-told name ps n
writes-told name ps (x ∷ xs) n = writes-told name ps xs n

reads-told : (name : QueueId) (ps : List Posted) (asks : List Ask) (bytes : List (List ℕ)) → TellOfNone name ps (local_reads asks bytes)
reads-told name ps [] bytes n = none-told name ps n
reads-told name ps (ask ∷ asks) [] n = none-told name ps n
reads-told name ps (ask ∷ asks) (b ∷ bs) n = reads-told name ps asks bs n

-- the list was denied, and the request fails
denied-completes : (ps : List Posted) (q : QueuePair) (d : DeniedAsk) → IsReadyQueue ps q
    → CompletesOf ps q (record (failure_effects LocalProtection None q) { marks = local_denial d ∷ (failure_effects LocalProtection None q).marks })
denied-completes ps q d ready = behind-none ps q (local_denial d ∷ []) (failure_effects LocalProtection None q) (none-told q.queue ps) (failure-completes ps LocalProtection None q refl ready)

answer-completes : (ps : List Posted) (psn : ℕ) (p : Fields) (q : QueuePair) (before : Effects) (n : Numbered) → IsReadyQueue ps q → CompletesOf ps q before → RowCompletes ps q (answer_row psn p before n)
answer-completes ps psn p q before n ready does = record {
  denied = λ d. completes-then ps q before (λ x. record (failure_effects LocalProtection None x) { marks = local_denial d ∷ (failure_effects LocalProtection None x).marks }) ready does
      (denied-completes ps before.queue d);
  allowed = λ bytes refusal. record { queue = whole.queue; sends = whole.sends; low = whole.low; high = whole.high; marks = whole.marks };
}
  where
    writes : List (Ask × List ℕ)
    writes = writes_by (answer_asks psn p before.queue n) (answer_bytes p)

    whole : CompletesOf ps q (and_then before (λ x. record (progress_to (suc psn) x) { marks = local_writes writes ++ (progress_to (suc psn) x).marks }))
    whole = completes-then ps q before (λ x. record (progress_to (suc psn) x) { marks = local_writes writes ++ (progress_to (suc psn) x).marks }) ready does
        (λ next. behind-none ps before.queue (local_writes writes) (progress_to (suc psn) before.queue) (writes-told before.queue.queue ps writes) (progress-completes ps (suc psn) before.queue next))

fitting-completes : (ps : List Posted) (psn : ℕ) (p : Fields) (q : QueuePair) → IsReadyQueue ps q → RowCompletes ps q (fitting_row psn p (acknowledgement_below psn q))
fitting-completes ps psn p q ready = by (first_unanswered q.requester.una psn (begun_requests q))
  where
    result : Option ℕ → Acknowledgement
    result None = record { effects = progress_to psn q; went_back = false }
    result (Some back) = record { effects = and_then (progress_to back q) (one_retry back); went_back = true }

    e : Effects
    e = progress_to psn q

    does : CompletesOf ps q e
    does = progress-completes ps psn q ready

    bad : RowCompletes ps q (plain_row (Does (and_then e (failure_effects BadResponse None))))
    bad = plain ps q _ (completes-then ps q e (failure_effects BadResponse None) ready does (failure-completes ps BadResponse None e.queue refl))

    row : Option Numbered → Row
    row None = plain_row (Does (and_then e (failure_effects BadResponse None)))
    row (Some n) =
        if fits_request psn p e.queue n then answer_row psn p e n
        else plain_row (Does (and_then e (failure_effects BadResponse None)))

    at : (o : Option Numbered) → RowCompletes ps q (row o)
    at None = bad
    at (Some n) = cond-row ps q (fits_request psn p e.queue n) _ _ (answer-completes ps psn p q e n ready does) bad

    by : (o : Option ℕ) → RowCompletes ps q (fitting_row psn p (result o))
    by None = at (request_at psn e.queue)
    by (Some back) = plain ps q _ (completes-then ps q (progress_to back q) (one_retry back) ready (progress-completes ps back q ready) (retried ps back (progress_to back q).queue))

response-completes : (ps : List Posted) (p : Fields) (q : QueuePair) → IsReadyQueue ps q → RowCompletes ps q (response_row p q)
response-completes ps p q ready = cond-row ps q (not (is_among (states.Rts ∷ states.Sqd ∷ []) q.state)) _ _ (plain ps q _ (dropped ps q drops.State ready))
    (cond-row ps q (not (is_outstanding_at psn q)) _ _ (plain ps q _ (dropped ps q drops.Stale ready))
    (cond-row ps q (p.opcode == ACKNOWLEDGE) _ _ (plain ps q _ (acknowledge-completes ps psn (option_and_then (λ a. syndrome_in a.syndrome) p.aeth) q ready))
    (fitting-completes ps psn p q ready)))
  where
    psn : ℕ
    psn = response_psn q p

-- ---- requests

still : (ps : List Posted) (q p : QueuePair) → p.queue ≡ q.queue → p.sends ≡ q.sends → p.requester.oldest ≡ q.requester.oldest → IsReadyQueue ps q → CompletesOf ps q (queue_and_marks p [])
still ps q p queue sends oldest ready = quiet ps q (queue_and_marks p []) queue sends oldest ready (none-told q.queue ps)

ahead-completes : (ps : List Posted) (q : QueuePair) → IsReadyQueue ps q → CompletesOf ps q (ahead_effects q)
ahead-completes ps q ready = cond-completes ps q q.responder.nak_sent _ _ (dropped ps q drops.Stale ready) (still ps q _ refl refl refl ready)

duplicate-completes : (ps : List Posted) (psn : ℕ) (p : Fields) (envelope : Option ℕ) (shape : Shape) (q : QueuePair) → IsReadyQueue ps q → CompletesOf ps q (duplicate_effects psn p envelope shape q)
duplicate-completes ps psn p envelope shape q ready = cond-completes ps q (nat_le MAX_DUPLICATES (duplicate_count q.responder.answers)) _ _ (dropped ps q drops.Unsaved ready) (by shape)
  where
    ack : CompletesOf ps q (ack_again q)
    ack = cond-completes ps q (length q.responder.answers == 0) _ _ (still ps q _ refl refl refl ready) (dropped ps q drops.Unsaved ready)

    read : (h : Reth) → CompletesOf ps q (read_again psn envelope h q)
    read h = cond-completes ps q (nat_le (psn + segments q.responder.mtu h.length) q.responder.expected) _ _ (still ps q _ refl refl refl ready) (dropped ps q drops.Unsaved ready)

    of_reth : (o : Option Reth) → CompletesOf ps q (option_map_or (λ h. read_again psn envelope h q) o (drop_effects q drops.Unsaved))
    of_reth None = dropped ps q drops.Unsaved ready
    of_reth (Some h) = read h

    atomic : (o : Option ℕ) → CompletesOf ps q (atomic_again psn o q)
    atomic None = dropped ps q drops.Unsaved ready
    atomic (Some found) = still ps q _ refl refl refl ready

    effects : Shape → Effects
    effects (shapes.Send position) = ack_again q
    effects (shapes.Write position) = ack_again q
    effects shapes.Read = option_map_or (λ h. read_again psn envelope h q) p.reth (drop_effects q drops.Unsaved)
    effects (shapes.Atomic kind) = atomic_again psn (saved_at psn q.saved) q

    by : (shape : Shape) → CompletesOf ps q (effects shape)
    by (shapes.Send position) = ack
    by (shapes.Write position) = ack
    by shapes.Read = of_reth p.reth
    by (shapes.Atomic kind) = atomic (saved_at psn q.saved)

receive-failed : (ps : List Posted) (q : QueuePair) (r : PlacedReceive) (status : WcStatus) (cause : Option OpRefusal) (code : NakCode) → IsReadyQueue ps q → CompletesOf ps q (receive_failure_effects q r status cause code)
receive-failed ps q r status cause code ready = record {
  queue = refl;
  sends = refl;
  low = ready.last;
  high = omega arith;
  marks = flush-complete ps (with_message None q) ready;
}

-- a key that ends tells of no send
revoked-told : (name : QueueId) (ps : List Posted) (q : QueuePair) (o : Option Invalidation) → TellOfNone name ps (revoked_marks q o)
revoked-told name ps q None n = none-told name ps n
revoked-told name ps q (Some i) n = none-told name ps n

send-completes : (ps : List Posted) (before : QueuePair) (p : Fields) (place : Position) (r : Receiving) → IsReadyQueue ps before → RowCompletes ps before (send_row before p place r)
send-completes ps before p place r ready = of r.taken
  where
    from : Bool → QueuePair
    from b = if b then with_receive_taken before else before

    took : Bool → Effects → Effects
    took b e = if b then with_shared_receive (from b) e else e

    end : QueuePair → Option OpRefusal → Effects
    end q (Some cause) = receive_failure_effects q r.receive MemoryManagement (Some cause) RemoteOperationalError
    end q None = behind_marks (revoked_marks q (invalidation_of q p)) (after_send_packet (with_window_gone (invalidation_of q p) q) p place r)

    writes : QueuePair → List (Ask × List ℕ)
    writes q = writes_by (receive_asks q p r) p.payload

    row_of : Bool → Bool → Row
    row_of b long =
        if long then plain_row (Does (took b (receive_failure_effects (from b) r.receive LocalLength None InvalidRequest)))
        else record {
          asks = receive_asks (from b) p r;
          invalidation = invalidation_of (from b) p;
          denied = λ d. Does (took b (behind_marks (local_denial d ∷ []) (receive_failure_effects (from b) r.receive LocalProtection None RemoteOperationalError)));
          allowed = λ bytes refusal. Does (took b (record (behind_marks (local_writes (writes (from b))) (end (from b) refusal)) { writes = writes (from b) }));
        }

    taken : (b : Bool) (e : Effects) → CompletesOf ps (from b) e → CompletesOf ps before (took b e)
    taken true e does = record { queue = does.queue; sends = does.sends; low = does.low; high = does.high; marks = does.marks }
    taken false e does = does

    ready-from : (b : Bool) → IsReadyQueue ps (from b)
    ready-from true = ready
    ready-from false = ready

    packet : (q x : QueuePair) → x.queue ≡ q.queue → x.sends ≡ q.sends → x.requester.oldest ≡ q.requester.oldest → IsReadyQueue ps q → CompletesOf ps q (after_send_packet x p place r)
    packet q x queue sends oldest ready = cond-completes ps q (ends place) _ _
        (quiet ps q _ queue sends oldest ready (none-told q.queue ps))
        (quiet ps q _ queue sends oldest ready (none-told q.queue ps))

    ended : (q : QueuePair) (refusal : Option OpRefusal) → IsReadyQueue ps q → CompletesOf ps q (end q refusal)
    ended q (Some cause) ready = receive-failed ps q r.receive MemoryManagement (Some cause) RemoteOperationalError ready
    ended q None ready = behind-none ps q (revoked_marks q (invalidation_of q p)) (after_send_packet (with_window_gone (invalidation_of q p) q) p place r) (revoked-told q.queue ps q (invalidation_of q p))
        (packet q (with_window_gone (invalidation_of q p) q) refl refl refl ready)

    placed : (q : QueuePair) (refusal : Option OpRefusal) → IsReadyQueue ps q → CompletesOf ps q (record (behind_marks (local_writes (writes q)) (end q refusal)) { writes = writes q })
    placed q refusal ready = record { queue = w.queue; sends = w.sends; low = w.low; high = w.high; marks = w.marks }
      where
        w : CompletesOf ps q (record (end q refusal) { marks = local_writes (writes q) ++ (end q refusal).marks })
        w = behind-none ps q (local_writes (writes q)) (end q refusal) (writes-told q.queue ps (writes q)) (ended q refusal ready)

    denial : (q : QueuePair) (d : DeniedAsk) → IsReadyQueue ps q → CompletesOf ps q (behind_marks (local_denial d ∷ []) (receive_failure_effects q r.receive LocalProtection None RemoteOperationalError))
    denial q d ready = behind-none ps q (local_denial d ∷ []) _ (none-told q.queue ps) (receive-failed ps q r.receive LocalProtection None RemoteOperationalError ready)

    by : (b long : Bool) → RowCompletes ps before (row_of b long)
    by b true = plain ps before _ (taken b _ (receive-failed ps (from b) r.receive LocalLength None InvalidRequest (ready-from b)))
    by b false = record {
      denied = λ d. taken b _ (denial (from b) d (ready-from b));
      allowed = λ bytes refusal. taken b _ (placed (from b) refusal (ready-from b));
    }

    of : (b : Bool) → RowCompletes ps before (row_of b (nat_lt (list_length r.receive.receive.list.items) (r.before + length p.payload)))
    of b = by b (nat_lt (list_length r.receive.receive.list.items) (r.before + length p.payload))

write-completes : (ps : List Posted) (q : QueuePair) (p : Fields) (envelope : Option ℕ) (place : Position) (next : Option PlacedReceive) (r : WriteReach) → IsReadyQueue ps q → RowCompletes ps q (write_row q p envelope place next r)
write-completes ps q p envelope place next r ready = record {
  denied = λ d. behind-none ps q (_ ∷ []) (refusal_effects RemoteAccessError q) (none-told q.queue ps) (refused ps RemoteAccessError q ready);
  allowed = λ bytes refusal. record { queue = wrote.queue; sends = wrote.sends; low = wrote.low; high = wrote.high; marks = wrote.marks };
}
  where
    done : QueuePair → QueuePair
    done q = with_message None (queue_after_packet p 1 true true q)

    by : Option ℕ → Option PlacedReceive → Effects
    by (Some imm) (Some receive) = with_shared_receive q (queue_and_marks (done (with_receive_taken q))
        (receive_mark q.queue receive.place receive.receive Success operations.RecvImm r.whole (Some imm) None ∷ []))
    by imm next = queue_and_marks (done q) []

    immediate : (imm : Option ℕ) (next : Option PlacedReceive) → CompletesOf ps q (by imm next)
    immediate (Some imm) (Some receive) = quiet ps q _ refl refl refl ready (none-told q.queue ps)
    immediate (Some imm) None = still ps q _ refl refl refl ready
    immediate None next = still ps q _ refl refl refl ready

    wrote : CompletesOf ps q (after_write_packet q p place r next)
    wrote = cond-completes ps q (ends place) _ _ (immediate p.imm next) (still ps q _ refl refl refl ready)

atomic-completes : (ps : List Posted) (q : QueuePair) (p : Fields) (envelope : Option ℕ) (kind : Kind) (a : AtomicEth) → IsReadyQueue ps q → RowCompletes ps q (atomic_row q p envelope kind a)
atomic-completes ps q p envelope kind a ready = record {
  denied = λ d. behind-none ps q (_ ∷ []) (refusal_effects RemoteAccessError q) (none-told q.queue ps) (refused ps RemoteAccessError q ready);
  allowed = λ bytes refusal. quiet ps q _ refl refl refl ready (none-told q.queue ps);
}

valid-completes : (ps : List Posted) (q : QueuePair) (p : Fields) (envelope : Option ℕ) (next : Option PlacedReceive) (shape : Shape) → IsReadyQueue ps q → RowCompletes ps q (valid_row q p envelope next shape)
valid-completes ps q p envelope next (shapes.Send place) ready = by (receiving_of q next q.responder.message)
  where
    row : Option Receiving → Row
    row (Some r) = send_row q p place r
    row None = plain_row (Does (refusal_effects InvalidRequest q))

    by : (o : Option Receiving) → RowCompletes ps q (row o)
    by (Some r) = send-completes ps q p place r ready
    by None = plain ps q _ (refused ps InvalidRequest q ready)
valid-completes ps q p envelope next (shapes.Write place) ready = by (write_reach q p)
  where
    row : Option WriteReach → Row
    row (Some r) = write_row q p envelope place next r
    row None = plain_row (Does (refusal_effects InvalidRequest q))

    by : (o : Option WriteReach) → RowCompletes ps q (row o)
    by (Some r) = write-completes ps q p envelope place next r ready
    by None = plain ps q _ (refused ps InvalidRequest q ready)
valid-completes ps q p envelope next shapes.Read ready = by p.reth
  where
    row : Option Reth → Row
    row (Some h) = plain_row (Does (read_queued q p envelope h))
    row None = plain_row (Does (refusal_effects InvalidRequest q))

    by : (o : Option Reth) → RowCompletes ps q (row o)
    by (Some h) = plain ps q (read_queued q p envelope h) (still ps q _ refl refl refl ready)
    by None = plain ps q _ (refused ps InvalidRequest q ready)
valid-completes ps q p envelope next (shapes.Atomic kind) ready = by p.atomic
  where
    row : Option AtomicEth → Row
    row (Some a) = atomic_row q p envelope kind a
    row None = plain_row (Does (refusal_effects InvalidRequest q))

    by : (o : Option AtomicEth) → RowCompletes ps q (row o)
    by (Some a) = atomic-completes ps q p envelope kind a ready
    by None = plain ps q _ (refused ps InvalidRequest q ready)

request-completes : (ps : List Posted) (p : Fields) (envelope : Option ℕ) (shared : Option SharedReceives) (shape : Shape) (q : QueuePair) → IsReadyQueue ps q → RowCompletes ps q (request_row p envelope shared shape q)
request-completes ps p envelope shared shape q ready = cond-row ps q (nat_lt q.responder.expected psn) _ _ (plain ps q _ (ahead-completes ps q ready))
    (cond-row ps q (nat_lt psn q.responder.expected) _ _ (plain ps q _ (duplicate-completes ps psn p envelope shape q ready))
    (cond-row ps f (is_invalid f p shape) _ _ (plain ps f _ (refused ps InvalidRequest f ready))
    (cond-row ps f (takes_receive p shape && is_none (next_receive f shared)) _ _ (plain ps f (rnr_effects f) (still ps f _ refl refl refl ready))
    (valid-completes ps f p envelope (next_receive f shared) shape ready))))
  where
    psn : ℕ
    psn = widened q.responder.expected p.psn

    f : QueuePair
    f = with_flag false q

-- ---- arrivals

packet-completes : (ps : List Posted) (p : Fields) (envelope : Option ℕ) (shared : Option SharedReceives) (q : QueuePair) → IsReadyQueue ps q → RowCompletes ps q (packet_arrived p envelope shared q)
packet-completes ps p envelope shared q ready = cond-row ps q (is_response p.opcode) _ _ (response-completes ps p q ready) (by (shape_of p.opcode))
  where
    row : Option Shape → Row
    row (Some shape) = request_row p envelope shared shape q
    row None = plain_row (Does (drop_effects q drops.State))

    by : (o : Option Shape) → RowCompletes ps q (row o)
    by (Some shape) = request-completes ps p envelope shared shape q ready
    by None = plain ps q _ (dropped ps q drops.State ready)

pub arrival-completes : (ps : List Posted) (bytes : List ℕ) (envelope : Option ℕ) (shared : Option SharedReceives) (q : QueuePair) → IsReadyQueue ps q → RowCompletes ps q (arrival_row bytes envelope shared q)
arrival-completes ps bytes envelope shared q ready = by (packet_in bytes)
  where
    unless : Fields → Option Drop1 → Row
    unless p (Some cause) = plain_row (Does (drop_effects q cause))
    unless p None = packet_arrived p envelope shared q

    row : Result Fields WireError → Row
    row (Err error) = plain_row (Does (drop_effects q (drops.Wire error)))
    row (Ok p) = unless p (first_of (arrival_drops q p))

    of_packet : (p : Fields) (o : Option Drop1) → RowCompletes ps q (unless p o)
    of_packet p (Some cause) = plain ps q _ (dropped ps q cause ready)
    of_packet p None = packet-completes ps p envelope shared q ready

    by : (o : Result Fields WireError) → RowCompletes ps q (row o)
    by (Err error) = plain ps q _ (dropped ps q (drops.Wire error) ready)
    by (Ok p) = of_packet p (first_of (arrival_drops q p))

-- ---- turns

turn-completes : (ps : List Posted) (q : QueuePair) (a : Queued) → IsReadyQueue ps q → RowCompletes ps q (answer_turn q a)
turn-completes ps q (queued.Ack psn) ready = plain ps q _ (quiet ps q _ refl refl refl ready (none-told q.queue ps))
turn-completes ps q (queued.Rnr psn) ready = plain ps q _ (quiet ps q _ refl refl refl ready (none-told q.queue ps))
turn-completes ps q (queued.Nak psn code) ready = plain ps q _ (quiet ps q _ refl refl refl ready (none-told q.queue ps))
turn-completes ps q (queued.Read psn key address left first envelope duplicate) ready = record {
  denied = λ d. record { queue = refl; sends = refl; low = ready.last; high = omega arith; marks = flush-complete ps q ready };
  allowed = λ bytes refusal. record { queue = (answered (is_last_response q r)).queue; sends = (answered (is_last_response q r)).sends; low = (answered (is_last_response q r)).low; high = (answered (is_last_response q r)).high; marks = (answered (is_last_response q r)).marks };
}
  where
    r : ReadLeft
    r = record { psn = psn; key = key; address = address; left = left; first = first; envelope = envelope; duplicate = duplicate }

    answered : (b : Bool) → CompletesOf ps q (queue_and_marks (if b then without_front q else with_front (rest_of q r) q) [])
    answered true = still ps q _ refl refl refl ready
    answered false = still ps q _ refl refl refl ready
turn-completes ps q (queued.Atomic psn found duplicate) ready = plain ps q _ (quiet ps q _ refl refl refl ready (none-told q.queue ps))

pub respond-completes : (ps : List Posted) (room : Bool) (q : QueuePair) → IsReadyQueue ps q → RowCompletes ps q (respond_row room q)
respond-completes ps room q ready = by (first_of (respond_refusals room q)) (slice_get q.responder.answers 0)
  where
    row : Option Reason → Option Queued → Row
    row (Some reason) answer = plain_row (NotPossible reason)
    row None None = plain_row (NotPossible reasons.Empty)
    row None (Some answer) = answer_turn q answer

    by : (r : Option Reason) (o : Option Queued) → RowCompletes ps q (row r o)
    by (Some reason) answer = record { denied = λ d. record {}; allowed = λ bytes refusal. record {} }
    by None None = record { denied = λ d. record {}; allowed = λ bytes refusal. record {} }
    by None (Some answer) = turn-completes ps q answer ready

-- a packet of a request is sent, or its list is denied and the request fails
pub sent-completes : (ps : List Posted) (q : QueuePair) (room : Bool) (n : Numbered) → IsReadyQueue ps q → RowCompletes ps q (packet_row q room n)
sent-completes ps q room n ready = by (is_too_much q n)
  where
    row : Row
    row = record {
      asks = packet_asks q n;
      invalidation = None;
      denied = λ d.
          if is_outstanding q then NotPossible reasons.Outstanding
          else if not room then NotPossible reasons.NoRoom
          else Does (denied_list_effects q d);
      allowed = λ bytes refusal. if not room then NotPossible reasons.NoRoom else Does (sent_packet q n bytes);
    }

    denied : (d : DeniedAsk) (b z : Bool) → EndingDoes (CompletesOf ps q) (if b then NotPossible reasons.Outstanding else if not z then NotPossible reasons.NoRoom else Does (denied_list_effects q d))
    denied d true z = record {}
    denied d false true = denied-completes ps q d ready
    denied d false false = record {}

    allowed : (bytes : List (List ℕ)) (z : Bool) → EndingDoes (CompletesOf ps q) (if not z then NotPossible reasons.NoRoom else Does (sent_packet q n bytes))
    allowed bytes true = quiet ps q (sent_packet q n bytes) refl refl refl ready (reads-told q.queue ps (packet_asks q n) bytes)
    allowed bytes false = record {}

    by : (b : Bool) → RowCompletes ps q (if b then plain_row (NotPossible reasons.Outstanding) else row)
    by true = record { denied = λ d. record {}; allowed = λ bytes refusal. record {} }
    by false = record { denied = λ d. denied d (is_outstanding q) room; allowed = λ bytes refusal. allowed bytes room }

-- a timer fires: its mark, and what one retry makes
pub timeout-completes : (ps : List Posted) (silent : Bool) (q : QueuePair) → IsReadyQueue ps q → CompletesOf ps q (after_timeout silent q)
timeout-completes ps silent q ready = behind-none ps q (marks.Timer q.queue silent ∷ []) (one_retry q.requester.una counted) (none-told q.queue ps) (retried ps q.requester.una counted ready)
  where
    counted : QueuePair
    counted = with_requester (record q.requester { timers = suc q.requester.timers }) q

pub wake-completes : (ps : List Posted) (q : QueuePair) → IsReadyQueue ps q → CompletesOf ps q (after_wake q)
wake-completes ps q ready = still ps q (after_wake q).queue refl refl refl ready
