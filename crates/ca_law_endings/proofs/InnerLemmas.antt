-- The marks that rows make are their own: no answers, no packets sent or lost, and completions of their queue pair. And
-- rows leave the incarnation and the peer of a queue pair. For proofs only.
use Rattle.std.proofs.Common.{◌≡◌, ℕ, suc, ◌+◌, ◌-◌, nat_le, nat_lt, Bool, true, false, List, [], ◌∷◌, ◌++◌, length, Option, None, Some, ◌&&◌, not, is_none, ◌==◌, if◌then◌else◌, refl, slice_get, subst, sym, Result, Ok, Err, ◌∙◌}
use Rattle.std.specs.Option.{option_and_then, option_map_or, option_map}
use Rattle.ca_base.specs.declared.change.State.TheVariants as states
use Rattle.ca_base.specs.declared.completion.WcStatus.TheVariants.{BadResponse, LocalProtection, RetryExceeded, RnrRetryExceeded, LocalLength, MemoryManagement, Success}
use Rattle.ca_base.specs.declared.limits.TheConstants.{MAX_RETRY, MAX_DUPLICATES}
use Rattle.ca_base.specs.declared.refusals.OpRefusal.{OpRefusal}
use Rattle.ca_base.specs.declared.denied_ask.DeniedAsk.{DeniedAsk}
use Rattle.ca_base.specs.Sight.{Invalidation}
use Rattle.ca_base.specs.objects.Answers.{duplicate_count}
use Rattle.ca_base.specs.objects.QueuePair.{QueuePair}
use Rattle.ca_base.specs.objects.StateTable.{is_among}
use Rattle.ca_wire.specs.declared.syndrome.NakCode.{NakCode}
use Rattle.ca_wire.specs.declared.syndrome.NakCode.TheVariants.{PsnSequenceError, InvalidRequest, RemoteAccessError, RemoteOperationalError}
use Rattle.ca_wire.specs.declared.opcode.TheConstants.{ACKNOWLEDGE}
use Rattle.ca_wire.specs.Packet.{Fields}
use Rattle.ca_wire.specs.declared.syndrome.Syndrome.{Syndrome}
use Rattle.ca_wire.specs.declared.syndrome.Syndrome.TheVariants.{Ack, Nak, RnrNak}
use Rattle.ca_wire.specs.Syndrome.{syndrome_in, nak_code}
use Rattle.ca_model.specs.declared.mark.Drop1.{Drop1}
use Rattle.ca_model.specs.declared.mark.Drop1.TheVariants as drops
use Rattle.ca_model.specs.machine.Acknowledgements.{Acknowledgement, acknowledgement_below, and_then, failure_effects, first_unanswered, one_retry, progress_to, with_cursor, with_requester, with_una}
use Rattle.ca_model.specs.machine.Numbering.{Numbered, begun_requests, request_at}
use Rattle.ca_model.specs.machine.Requester.{local_denial, denied_list_effects, is_outstanding, is_too_much, packet_asks, packet_row, sent_packet}
use Rattle.ca_model.specs.machine.Responses.{acknowledge_row, answer_asks, answer_bytes, answer_row, drop_effects, fits_request, fitting_row, is_outstanding_at, local_writes, nak_effects, outstanding_row, response_psn, response_row, rnr_nak_effects, unless_back, writes_by}
use Rattle.ca_model.specs.machine.Row.{NotPossible, Does, Effects, Row, plain_row, queue_and_marks, Ending}
use Rattle.ca_keys.specs.declared.access.Kind.{Kind}
use Rattle.ca_keys.specs.declared.key.Key.{Key}
use Rattle.ca_base.specs.declared.queue_numbers.Queued.{Queued}
use Rattle.ca_base.specs.declared.queue_numbers.Queued.TheVariants as queued
use Rattle.ca_base.specs.objects.Saved.{saved_at}
use Rattle.ca_base.specs.declared.request.PlacedReceive.{PlacedReceive}
use Rattle.ca_base.specs.objects.SharedReceives.{SharedReceives}
use Rattle.ca_psn.specs.Psn.{widened}
use Rattle.ca_wire.specs.declared.atomic_eth.AtomicEth.{AtomicEth}
use Rattle.ca_wire.specs.declared.reth.Reth.{Reth}
use Rattle.ca_wire.specs.declared.shape.Position.{Position}
use Rattle.ca_model.specs.Packets.{is_response}
use Rattle.ca_model.specs.Requests.{list_length, segments}
use Rattle.ca_model.specs.machine.Arrivals.{next_receive, refusal_effects, with_answer, with_flag, with_receive_taken, with_message}
use Rattle.ca_model.specs.machine.Duplicates.{ack_again, ahead_effects, answer_again, atomic_again, duplicate_effects, read_again, request_row}
use Rattle.ca_model.specs.declared.receiving.Receiving.{Receiving}
use Rattle.ca_model.specs.declared.write_reach.WriteReach.{WriteReach}
use Rattle.ca_model.specs.machine.Expected.{after_send_packet, atomic_row, behind_marks, expected_row, invalidation_of, is_invalid, read_queued, receive_asks, receive_failure_effects, receiving_of, revoked_marks, rnr_effects, send_row, takes_receive, valid_row, with_shared_receive, with_window_gone, write_reach, write_row, message_left, queue_after_packet}
use Rattle.ca_wire.specs.declared.shape.Shape.{Shape}
use Rattle.ca_wire.specs.declared.shape.Shape.TheVariants as shapes
use Rattle.ca_wire.specs.Table.{shape_of}
use Rattle.ca_base.specs.declared.step.Reason.{Reason}
use Rattle.ca_base.specs.declared.step.Reason.TheVariants as reasons
use Rattle.ca_keys.specs.Refusals.{first_of}
use Rattle.ca_wire.specs.declared.wire_error.WireError.{WireError}
use Rattle.ca_wire.specs.Decoding.{packet_in}
use Rattle.ca_model.specs.machine.Delivery.{arrival_drops, arrival_row, packet_arrived}
use Rattle.ca_model.specs.declared.read_left.ReadLeft.{ReadLeft}
use Rattle.ca_model.specs.machine.Respond.{answer_turn, respond_refusals, respond_row, is_last_response, rest_of, with_front, without_front}
use Rattle.ca_model.specs.machine.LocalOperations.{invalidate_row, operation_effects}
use Rattle.ca_base.specs.declared.completion.WcOp.TheVariants as operations
use Rattle.ca_base.specs.declared.queue_numbers.Message.{Message}
use Rattle.ca_base.specs.declared.queue_numbers.Message.TheVariants as messages
use Rattle.ca_wire.specs.Shapes.{ends}
use Rattle.ca_model.specs.machine.Completions.{receive_mark}
use Rattle.ca_model.specs.machine.Expected.{with_window_gone}
use Rattle.ca_model.specs.machine.LocalOperations.{invalidate_row}
use Rattle.std.specs.List.{flat_map}
use Rattle.ca_base.specs.declared.completion.WcStatus.{WcStatus}
use Rattle.ca_base.specs.declared.request.PostedSend.{PostedSend}
use Rattle.ca_base.specs.declared.request.RecvRequest.{RecvRequest}
use Rattle.ca_base.specs.declared.request.SendRequest.{SendRequest}
use Rattle.ca_base.specs.objects.LocalRequest.{LocalMarks}
use Rattle.ca_base.specs.objects.WorkQueue.{WorkQueue, items_from}
use Rattle.ca_keys.specs.declared.access.Ask.{Ask}
use Rattle.ca_keys.specs.declared.grant.Grant.{Grant}
use Rattle.ca_keys.specs.declared.names.QueueId.{QueueId}
use Rattle.ca_model.specs.declared.mark.Mark.{Mark}
use Rattle.ca_model.specs.declared.mark.Mark.TheVariants as marks
use Rattle.ca_model.specs.machine.Acknowledgements.{finished_requests, without_oldest}
use Rattle.ca_model.specs.machine.Completions.{failure_mark, flush_marks, flushed_message, flushed_receives, flushed_sends, success_marks}
use Rattle.ca_model.specs.machine.LocalOperations.{local_marks}
use Rattle.ca_model.specs.machine.Requester.{local_reads}
use Rattle.ca_model.specs.machine.Timers.{after_timeout}
use Rattle.ca_law_world.proofs.Sound.WorldLemmas.{EndingDoes, RowDoes}

-- a mark of an event: no answer, no packet that is sent or lost, and a completion of the queue pair that it names
abbrev pub IsInnerMark : Mark → Type 0
IsInnerMark (marks.Verb by verb answer) = ⊥
IsInnerMark (marks.Sent source target index request bytes) = ⊥
IsInnerMark (marks.Lost target index) = ⊥
IsInnerMark (marks.Done queue x cause) = x.queue ≡ queue
IsInnerMark m = Unit {0}

abbrev pub AreInner : List Mark → Type 0
AreInner [] = Unit {0}
AreInner (m ∷ ms) = IsInnerMark m × AreInner ms

-- a mark of a row: such a mark, and none of a packet that arrives
abbrev pub IsOwnMark : Mark → Type 0
IsOwnMark (marks.Arrived target index) = ⊥
IsOwnMark m = IsInnerMark m

abbrev pub AreOwn : List Mark → Type 0
AreOwn [] = Unit {0}
AreOwn (m ∷ ms) = IsOwnMark m × AreOwn ms

own-one : (m : Mark) → IsOwnMark m → IsInnerMark m
own-one (marks.Verb by verb answer) own = own
own-one (marks.Granted g) own = own
own-one (marks.Revoked adapter key) own = own
own-one (marks.Stored place bytes) own = own
own-one (marks.Remote queue domain envelope key kind address count verdict) own = own
own-one (marks.Local queue domain key kind address count verdict) own = own
own-one (marks.Sent source target index request bytes) own = own
own-one (marks.Lost target index) own = own
own-one (marks.Arrived target index) own = absurd own
own-one (marks.Dropped target cause) own = own
own-one (marks.Timer queue silent) own = own
own-one (marks.Done queue x cause) own = own

pub own-inner : (ms : List Mark) → AreOwn ms → AreInner ms
own-inner [] own = own
own-inner (m ∷ ms) own = (own-one m own.0, own-inner ms own.1)

-- effects with such marks, which leave the incarnation and the peer
pub record IsInner (q : QueuePair) (e : Effects) : Type 0 where
  pub incarnation : e.queue.incarnation ≡ q.incarnation
  pub peer : e.queue.peer ≡ q.peer
  pub marks : AreOwn e.marks

pub inner-append : (ms ns : List Mark) → AreOwn ms → AreOwn ns → AreOwn (ms ++ ns)
inner-append [] ns one other = other
inner-append (m ∷ ms) ns one other = (one.0, inner-append ms ns one.1 other)

-- a row that meets nothing does what it does
pub plain-inner : (q : QueuePair) (e : Effects) → IsInner q e → RowDoes (IsInner q) (plain_row (Does e))
plain-inner q e inner = record { denied = λ d. inner; allowed = λ bytes refusal. inner }

pub inner-then : (q : QueuePair) (e : Effects) (f : QueuePair → Effects) → IsInner q e → IsInner e.queue (f e.queue) → IsInner q (and_then e f)
inner-then q e f one other = record {
  incarnation = other.incarnation ∙ one.incarnation;
  peer = other.peer ∙ one.peer;
  marks = inner-append e.marks (f e.queue).marks one.marks other.marks;
}

-- marks before those of effects
inner-behind : (q : QueuePair) (e : Effects) (ms : List Mark) → AreOwn ms → IsInner q e → IsInner q (behind_marks ms e)
inner-behind q e ms own inner = record { incarnation = inner.incarnation; peer = inner.peer; marks = inner-append ms e.marks own inner.marks }

-- effects with other writes, or of a queue pair that was the same in incarnation and peer
inner-from : (q p : QueuePair) (e : Effects) → p.incarnation ≡ q.incarnation → p.peer ≡ q.peer → IsInner p e → IsInner q e
inner-from q p e incarnation peer inner = record { incarnation = inner.incarnation ∙ incarnation; peer = inner.peer ∙ peer; marks = inner.marks }

sends-inner : (queue : QueueId) (place : ℕ) (ps : List PostedSend) → AreOwn (flushed_sends queue place ps)
sends-inner queue place [] = record {}
sends-inner queue place (p ∷ ps) = (refl, sends-inner queue (suc place) ps)

receives-inner : (queue : QueueId) (place : ℕ) (rs : List RecvRequest) → AreOwn (flushed_receives queue place rs)
receives-inner queue place [] = record {}
receives-inner queue place (r ∷ rs) = (refl, receives-inner queue (suc place) rs)

pub flush-inner : (q : QueuePair) → AreOwn (flush_marks q)
flush-inner q =
    inner-append (flushed_sends q.queue q.requester.oldest (items_from q.requester.oldest q.sends) ++ flushed_message q.queue q.responder.message) _
    (inner-append (flushed_sends q.queue q.requester.oldest (items_from q.requester.oldest q.sends)) (flushed_message q.queue q.responder.message)
    (sends-inner q.queue q.requester.oldest (items_from q.requester.oldest q.sends)) (message q.responder.message)) (own q.receives)
  where
    message : (m : Option Message) → AreOwn (flushed_message q.queue m)
    message None = record {}
    message (Some (messages.Write key address left count)) = record {}
    message (Some (messages.Send place receive bytes)) = (refl, record {})

    own : (o : Option (WorkQueue RecvRequest)) → AreOwn (option_map_or (λ r. flushed_receives q.queue r.next_taken (items_from r.next_taken r)) o [])
    own None = record {}
    own (Some r) = receives-inner q.queue r.next_taken (items_from r.next_taken r)

failure-inner : (status : WcStatus) (cause : Option OpRefusal) (q : QueuePair) → IsInner q (failure_effects status cause q)
failure-inner status cause q = record { incarnation = refl; peer = refl; marks = by (items_from q.requester.oldest q.sends) }
  where
    told : List PostedSend → List Mark
    told [] = flush_marks q
    told (p ∷ ps) = failure_mark q.queue q.requester.oldest p.request status cause ∷ flush_marks (without_oldest q)

    by : (ps : List PostedSend) → AreOwn (told ps)
    by [] = flush-inner q
    by (p ∷ ps) = (refl, flush-inner (without_oldest q))

success-inner : (queue : QueueId) (place : ℕ) (request : SendRequest) → AreOwn (success_marks queue place request)
success-inner queue place request = by request.signalled
  where
    by : (b : Bool) → AreOwn (if b then success_marks queue place (record request { signalled = true }) else [])
    by true = (refl, record {})
    by false = record {}

finished-inner : (queue : QueueId) (ns : List Numbered) → AreOwn (flat_map (λ n. success_marks queue n.place n.request) ns)
finished-inner queue [] = record {}
finished-inner queue (n ∷ ns) = inner-append (success_marks queue n.place n.request) _ (success-inner queue n.place n.request) (finished-inner queue ns)

una-inner : (psn : ℕ) (q : QueuePair) → ((with_una psn q).incarnation ≡ q.incarnation) × ((with_una psn q).peer ≡ q.peer)
una-inner psn q = by (nat_lt q.requester.una psn)
  where
    moved : Bool → QueuePair
    moved b = if b then with_requester (record q.requester { una = psn; retries = 0; rnrs = 0 }) q else q

    by : (b : Bool) → ((moved b).incarnation ≡ q.incarnation) × ((moved b).peer ≡ q.peer)
    by true = (refl, refl)
    by false = (refl, refl)

progress-inner : (psn : ℕ) (q : QueuePair) → IsInner q (progress_to psn q)
progress-inner psn q = record {
  incarnation = (una-inner psn q).0;
  peer = (una-inner psn q).1;
  marks = finished-inner (with_una psn q).queue (finished_requests (with_una psn q));
}

pub retry-inner : (psn : ℕ) (q : QueuePair) → IsInner q (one_retry psn q)
retry-inner psn q = by (nat_le q.requester.retry q.requester.retries)
  where
    counted : QueuePair
    counted = with_requester (record q.requester { retries = suc q.requester.retries }) q

    by : (b : Bool) → IsInner q (if b then failure_effects RetryExceeded None counted else queue_and_marks (with_cursor psn counted) [])
    by true = inner-from q counted (failure_effects RetryExceeded None counted) refl refl (failure-inner RetryExceeded None counted)
    by false = record { incarnation = refl; peer = refl; marks = record {} }

below-inner : (psn : ℕ) (q : QueuePair) → IsInner q (acknowledgement_below psn q).effects
below-inner psn q = by (first_unanswered q.requester.una psn (begun_requests q))
  where
    after : Option ℕ → Acknowledgement
    after None = record { effects = progress_to psn q; went_back = false }
    after (Some back) = record { effects = and_then (progress_to back q) (one_retry back); went_back = true }

    by : (back : Option ℕ) → IsInner q (after back).effects
    by None = progress-inner psn q
    by (Some back) = inner-then q (progress_to back q) (one_retry back) (progress-inner back q) (retry-inner back (progress_to back q).queue)

back-inner : (q : QueuePair) (a : Acknowledgement) (f : QueuePair → Effects) → IsInner q a.effects → IsInner a.effects.queue (f a.effects.queue) → IsInner q (unless_back a f)
back-inner q a f one other = by a.went_back
  where
    by : (b : Bool) → IsInner q (if b then a.effects else and_then a.effects f)
    by true = one
    by false = inner-then q a.effects f one other

rnr-inner : (psn : ℕ) (q : QueuePair) → IsInner q (rnr_nak_effects psn q)
rnr-inner psn q = by (nat_lt q.requester.rnr_retry MAX_RETRY && nat_le q.requester.rnr_retry q.requester.rnrs)
  where
    counted : QueuePair
    counted = with_requester (record q.requester { rnrs = suc q.requester.rnrs }) q

    by : (b : Bool) → IsInner q (if b then failure_effects RnrRetryExceeded None counted
        else queue_and_marks (with_requester (record counted.requester { cursor = psn; waiting = true }) q) [])
    by true = inner-from q counted (failure_effects RnrRetryExceeded None counted) refl refl (failure-inner RnrRetryExceeded None counted)
    by false = record { incarnation = refl; peer = refl; marks = record {} }

nak-inner : (psn : ℕ) (code : NakCode) (q : QueuePair) → IsInner q (nak_effects psn code q)
nak-inner psn PsnSequenceError q = retry-inner psn q
nak-inner psn InvalidRequest q = failure-inner _ None q
nak-inner psn RemoteAccessError q = failure-inner _ None q
nak-inner psn RemoteOperationalError q = failure-inner _ None q

drop-inner : (q : QueuePair) (cause : Drop1) → IsInner q (drop_effects q cause)
drop-inner q cause = record { incarnation = refl; peer = refl; marks = (record {}, record {}) }

acknowledge-inner : (psn : ℕ) (syndrome : Option Syndrome) (q : QueuePair) → IsInner q (acknowledge_row psn syndrome q)
acknowledge-inner psn (Some (Ack credits)) q = below-inner (suc psn) q
acknowledge-inner psn (Some (RnrNak timer)) q =
    back-inner q (acknowledgement_below psn q) (rnr_nak_effects psn) (below-inner psn q) (rnr-inner psn (acknowledgement_below psn q).effects.queue)
acknowledge-inner psn (Some (Nak code)) q =
    back-inner q (acknowledgement_below psn q) (nak_effects psn code) (below-inner psn q) (nak-inner psn code (acknowledgement_below psn q).effects.queue)
acknowledge-inner psn None q = drop-inner q drops.Stale

writes-inner : (xs : List (Ask × List ℕ)) → AreOwn (local_writes xs)
writes-inner [] = record {}
writes-inner (x ∷ xs) = (record {}, writes-inner xs)

reads-inner : (asks : List Ask) (bytes : List (List ℕ)) → AreOwn (local_reads asks bytes)
reads-inner [] bytes = record {}
reads-inner (ask ∷ asks) [] = record {}
reads-inner (ask ∷ asks) (b ∷ bs) = (record {}, reads-inner asks bs)

-- the list was denied, and the request fails
denied-inner : (q : QueuePair) (d : DeniedAsk) → IsInner q (record (failure_effects LocalProtection None q) { marks = local_denial d ∷ (failure_effects LocalProtection None q).marks })
denied-inner q d = record { incarnation = refl; peer = refl; marks = (record {}, (failure-inner LocalProtection None q).marks) }

answer-inner : (psn : ℕ) (p : Fields) (q : QueuePair) (before : Effects) (n : Numbered) → IsInner q before → RowDoes (IsInner q) (answer_row psn p before n)
answer-inner psn p q before n inner = record {
  denied = λ d. inner-then q before (λ x. record (failure_effects LocalProtection None x) { marks = local_denial d ∷ (failure_effects LocalProtection None x).marks }) inner
      (denied-inner before.queue d);
  allowed = λ bytes refusal. record {
    incarnation = (progress-inner (suc psn) before.queue).incarnation ∙ inner.incarnation;
    peer = (progress-inner (suc psn) before.queue).peer ∙ inner.peer;
    marks = inner-append before.marks _ inner.marks
        (inner-append (local_writes (writes_by (answer_asks psn p before.queue n) (answer_bytes p))) _
        (writes-inner (writes_by (answer_asks psn p before.queue n) (answer_bytes p))) (progress-inner (suc psn) before.queue).marks);
  };
}

fitting-inner : (psn : ℕ) (p : Fields) (q : QueuePair) (a : Acknowledgement) → IsInner q a.effects → RowDoes (IsInner q) (fitting_row psn p a)
fitting-inner psn p q a inner = back a.went_back
  where
    bad : Row
    bad = plain_row (Does (and_then a.effects (failure_effects BadResponse None)))

    at : Option Numbered → Row
    at None = bad
    at (Some n) = if fits_request psn p a.effects.queue n then answer_row psn p a.effects n else bad

    is_bad : RowDoes (IsInner q) bad
    is_bad = plain-inner q (and_then a.effects (failure_effects BadResponse None))
        (inner-then q a.effects (failure_effects BadResponse None) inner (failure-inner BadResponse None a.effects.queue))

    fits : (n : Numbered) (b : Bool) → RowDoes (IsInner q) (if b then answer_row psn p a.effects n else bad)
    fits n true = answer-inner psn p q a.effects n inner
    fits n false = is_bad

    by : (n : Option Numbered) → RowDoes (IsInner q) (at n)
    by None = is_bad
    by (Some n) = fits n (fits_request psn p a.effects.queue n)

    back : (b : Bool) → RowDoes (IsInner q) (if b then plain_row (Does a.effects) else at (request_at psn a.effects.queue))
    back true = plain-inner q a.effects inner
    back false = by (request_at psn a.effects.queue)

response-inner : (p : Fields) (q : QueuePair) → RowDoes (IsInner q) (response_row p q)
response-inner p q = by (is_among (states.Rts ∷ states.Sqd ∷ []) q.state)
  where
    psn : ℕ
    psn = response_psn q p

    opcode : (b : Bool) → RowDoes (IsInner q) (if b then plain_row (Does (acknowledge_row psn (option_and_then (λ a. syndrome_in a.syndrome) p.aeth) q))
        else fitting_row psn p (acknowledgement_below psn q))
    opcode true = plain-inner q _ (acknowledge-inner psn (option_and_then (λ a. syndrome_in a.syndrome) p.aeth) q)
    opcode false = fitting-inner psn p q (acknowledgement_below psn q) (below-inner psn q)

    there : (b : Bool) → RowDoes (IsInner q) (if not b then plain_row (Does (drop_effects q drops.Stale)) else outstanding_row psn p q)
    there true = opcode (p.opcode == ACKNOWLEDGE)
    there false = plain-inner q (drop_effects q drops.Stale) (drop-inner q drops.Stale)

    by : (b : Bool) → RowDoes (IsInner q) (if not b then plain_row (Does (drop_effects q drops.State))
        else if not (is_outstanding_at psn q) then plain_row (Does (drop_effects q drops.Stale)) else outstanding_row psn p q)
    by true = there (is_outstanding_at psn q)
    by false = plain-inner q (drop_effects q drops.State) (drop-inner q drops.State)

-- a NAK is queued, and the queue pair moves to Error
refusal-inner : (code : NakCode) (q : QueuePair) → IsInner q (refusal_effects code q)
refusal-inner code q = record { incarnation = refl; peer = refl; marks = flush-inner q }

-- the receive fails, and the packet is refused
receive-inner : (q : QueuePair) (r : PlacedReceive) (status : WcStatus) (cause : Option OpRefusal) (code : NakCode) → IsInner q (receive_failure_effects q r status cause code)
receive-inner q r status cause code = record { incarnation = refl; peer = refl; marks = (refl, flush-inner (with_message None q)) }

took-inner : (q p : QueuePair) (b : Bool) (e : Effects) → IsInner q e → IsInner q (if b then with_shared_receive p e else e)
took-inner q p true e inner = record { incarnation = inner.incarnation; peer = inner.peer; marks = inner.marks }
took-inner q p false e inner = inner

revoked-inner : (q : QueuePair) (i : Option Invalidation) → AreOwn (revoked_marks q i)
revoked-inner q None = record {}
revoked-inner q (Some i) = (record {}, record {})

gone-same : (i : Option Invalidation) (q : QueuePair) → ((with_window_gone i q).incarnation ≡ q.incarnation) × ((with_window_gone i q).peer ≡ q.peer)
gone-same i q = (refl, refl)

-- a SEND packet, with its receive
send-inner : (before : QueuePair) (p : Fields) (place : Position) (r : Receiving) (q : QueuePair) → (if r.taken then with_receive_taken before else before) ≡ q → q.incarnation ≡ before.incarnation
    → q.peer ≡ before.peer → RowDoes (IsInner before) (send_row before p place r)
send-inner before p place r q is incarnation peer = subst (λ x. RowDoes (IsInner before) (row_of x (nat_lt (list_length r.receive.receive.list.items) (r.before + length p.payload)))) (sym is)
    (by (nat_lt (list_length r.receive.receive.list.items) (r.before + length p.payload)))
  where
    took : QueuePair → Effects → Effects
    took q e = if r.taken then with_shared_receive q e else e

    ended : QueuePair → Option OpRefusal → Effects
    ended q (Some cause) = receive_failure_effects q r.receive MemoryManagement (Some cause) RemoteOperationalError
    ended q None = behind_marks (revoked_marks q (invalidation_of q p)) (after_send_packet (with_window_gone (invalidation_of q p) q) p place r)

    writes : QueuePair → List (Ask × List ℕ)
    writes q = writes_by (receive_asks q p r) p.payload

    row_of : QueuePair → Bool → Row
    row_of q b =
        if b then plain_row (Does (took q (receive_failure_effects q r.receive LocalLength None InvalidRequest)))
        else record {
          asks = receive_asks q p r;
          invalidation = invalidation_of q p;
          denied = λ d. Does (took q (behind_marks (local_denial d ∷ []) (receive_failure_effects q r.receive LocalProtection None RemoteOperationalError)));
          allowed = λ bytes refusal. Does (took q (record (behind_marks (local_writes (writes q)) (ended q refusal)) { writes = writes q }));
        }

    on : (e : Effects) → IsInner q e → IsInner before e
    on e = inner-from before q e incarnation peer

    packet : (x : QueuePair) → IsInner x (after_send_packet x p place r)
    packet x = at (ends place)
      where
        at : (b : Bool) → IsInner x (if b
            then queue_and_marks (with_message None (queue_after_packet p 1 true true x))
            (receive_mark x.queue r.receive.place r.receive.receive Success operations.Recv (r.before + length p.payload) p.imm (option_map (λ key. record { 0 = key }) p.ieth) ∷ [])
            else queue_and_marks (with_message (Some (messages.Send r.receive.place r.receive.receive (r.before + length p.payload))) (queue_after_packet p 1 false true x)) [])
        at true = record { incarnation = refl; peer = refl; marks = (refl, record {}) }
        at false = record { incarnation = refl; peer = refl; marks = record {} }

    gone : IsInner q (after_send_packet (with_window_gone (invalidation_of q p) q) p place r)
    gone = inner-from q (with_window_gone (invalidation_of q p) q) _ refl refl (packet (with_window_gone (invalidation_of q p) q))

    at : (refusal : Option OpRefusal) → IsInner q (ended q refusal)
    at None = inner-behind q _ (revoked_marks q (invalidation_of q p)) (revoked-inner q (invalidation_of q p)) gone
    at (Some cause) = receive-inner q r.receive MemoryManagement (Some cause) RemoteOperationalError

    placed : (refusal : Option OpRefusal) → IsInner before (record (behind_marks (local_writes (writes q)) (ended q refusal)) { writes = writes q })
    placed refusal = record {
      incarnation = (at refusal).incarnation ∙ incarnation;
      peer = (at refusal).peer ∙ peer;
      marks = inner-append (local_writes (writes q)) (ended q refusal).marks (writes-inner (writes q)) (at refusal).marks;
    }

    by : (b : Bool) → RowDoes (IsInner before) (row_of q b)
    by true = plain-inner before _ (took-inner before q r.taken _ (on _ (receive-inner q r.receive LocalLength None InvalidRequest)))
    by false = record {
      denied = λ d. took-inner before q r.taken _ (on _ (inner-behind q _ (local_denial d ∷ []) (record {}, record {}) (receive-inner q r.receive LocalProtection None RemoteOperationalError)));
      allowed = λ bytes refusal. took-inner before q r.taken _ (placed refusal);
    }

write-inner : (q : QueuePair) (p : Fields) (envelope : Option ℕ) (place : Position) (next : Option PlacedReceive) (r : WriteReach) → RowDoes (IsInner q) (write_row q p envelope place next r)
write-inner q p envelope place next r = record {
  denied = λ d. record { incarnation = refl; peer = refl; marks = (record {}, flush-inner q) };
  allowed = λ bytes refusal. record { incarnation = (at (ends place)).incarnation; peer = (at (ends place)).peer; marks = (record {}, (at (ends place)).marks) };
}
  where
    done : QueuePair → QueuePair
    done q = with_message None (queue_after_packet p 1 true true q)

    by : Option ℕ → Option PlacedReceive → Effects
    by (Some imm) (Some receive) = with_shared_receive q (queue_and_marks (done (with_receive_taken q))
        (receive_mark q.queue receive.place receive.receive Success operations.RecvImm r.whole (Some imm) None ∷ []))
    by imm next = queue_and_marks (done q) []

    immediate : (imm : Option ℕ) (next : Option PlacedReceive) → IsInner q (by imm next)
    immediate (Some imm) (Some receive) = record { incarnation = refl; peer = refl; marks = (refl, record {}) }
    immediate (Some imm) None = record { incarnation = refl; peer = refl; marks = record {} }
    immediate None next = record { incarnation = refl; peer = refl; marks = record {} }

    at : (b : Bool) → IsInner q (if b then by p.imm next else queue_and_marks (with_message (Some (message_left r (length p.payload))) (queue_after_packet p 1 false true q)) [])
    at true = immediate p.imm next
    at false = record { incarnation = refl; peer = refl; marks = record {} }

atomic-inner : (q : QueuePair) (p : Fields) (envelope : Option ℕ) (kind : Kind) (a : AtomicEth) → RowDoes (IsInner q) (atomic_row q p envelope kind a)
atomic-inner q p envelope kind a = record {
  denied = λ d. record { incarnation = refl; peer = refl; marks = (record {}, flush-inner q) };
  allowed = λ bytes refusal. record { incarnation = refl; peer = refl; marks = (record {}, record {}) };
}

refused-inner : (code : NakCode) (q : QueuePair) → RowDoes (IsInner q) (plain_row (Does (refusal_effects code q)))
refused-inner code q = plain-inner q (refusal_effects code q) (refusal-inner code q)

valid-inner : (q : QueuePair) (p : Fields) (envelope : Option ℕ) (next : Option PlacedReceive) (shape : Shape) → RowDoes (IsInner q) (valid_row q p envelope next shape)
valid-inner q p envelope next (shapes.Send place) = by q.responder.message
  where
    row : Option Receiving → Row
    row (Some r) = send_row q p place r
    row None = plain_row (Does (refusal_effects InvalidRequest q))

    start : (o : Option PlacedReceive) → RowDoes (IsInner q) (row (option_map (λ r. record { receive = r; before = 0; taken = true }) o))
    start None = refused-inner InvalidRequest q
    start (Some r) = send-inner q p place (record { receive = r; before = 0; taken = true }) (with_receive_taken q) refl refl refl

    by : (m : Option Message) → RowDoes (IsInner q) (row (receiving_of q next m))
    by None = start next
    by (Some (messages.Write key address left count)) = start next
    by (Some (messages.Send at receive bytes)) = send-inner q p place (record { receive = record { place = at; receive = receive }; before = bytes; taken = false }) q refl refl refl
valid-inner q p envelope next (shapes.Write place) = by (write_reach q p)
  where
    row : Option WriteReach → Row
    row (Some r) = write_row q p envelope place next r
    row None = plain_row (Does (refusal_effects InvalidRequest q))

    by : (o : Option WriteReach) → RowDoes (IsInner q) (row o)
    by (Some r) = write-inner q p envelope place next r
    by None = refused-inner InvalidRequest q
valid-inner q p envelope next shapes.Read = by p.reth
  where
    row : Option Reth → Row
    row (Some h) = plain_row (Does (read_queued q p envelope h))
    row None = plain_row (Does (refusal_effects InvalidRequest q))

    by : (o : Option Reth) → RowDoes (IsInner q) (row o)
    by (Some h) = plain-inner q (read_queued q p envelope h) (record { incarnation = refl; peer = refl; marks = record {} })
    by None = refused-inner InvalidRequest q
valid-inner q p envelope next (shapes.Atomic kind) = by p.atomic
  where
    row : Option AtomicEth → Row
    row (Some a) = atomic_row q p envelope kind a
    row None = plain_row (Does (refusal_effects InvalidRequest q))

    by : (o : Option AtomicEth) → RowDoes (IsInner q) (row o)
    by (Some a) = atomic-inner q p envelope kind a
    by None = refused-inner InvalidRequest q

-- a row of the queue pair after a change that leaves incarnation and peer
row-from : (q p : QueuePair) (row : Row) → p.incarnation ≡ q.incarnation → p.peer ≡ q.peer → RowDoes (IsInner p) row → RowDoes (IsInner q) row
row-from q p row incarnation peer does = record {
  denied = λ d. on (row.denied d) (does.denied d);
  allowed = λ bytes refusal. on (row.allowed bytes refusal) (does.allowed bytes refusal);
}
  where
    on : (e : Ending) → EndingDoes (IsInner p) e → EndingDoes (IsInner q) e
    on (NotPossible reason) inner = record {}
    on (Does e) inner = inner-from q p e incarnation peer inner

expected-inner : (before : QueuePair) (shared : Option SharedReceives) (p : Fields) (envelope : Option ℕ) (shape : Shape) → RowDoes (IsInner before) (expected_row before shared p envelope shape)
expected-inner before shared p envelope shape = row-from before q (expected_row before shared p envelope shape) refl refl (by (is_invalid q p shape))
  where
    q : QueuePair
    q = with_flag false before

    waits : (b : Bool) → RowDoes (IsInner q) (if b then plain_row (Does (rnr_effects q)) else valid_row q p envelope (next_receive q shared) shape)
    waits true = plain-inner q (rnr_effects q) (record { incarnation = refl; peer = refl; marks = record {} })
    waits false = valid-inner q p envelope (next_receive q shared) shape

    by : (b : Bool) → RowDoes (IsInner q) (
        if b then plain_row (Does (refusal_effects InvalidRequest q))
        else if takes_receive p shape && is_none (next_receive q shared) then plain_row (Does (rnr_effects q))
        else valid_row q p envelope (next_receive q shared) shape)
    by true = refused-inner InvalidRequest q
    by false = waits (takes_receive p shape && is_none (next_receive q shared))

ahead-inner : (q : QueuePair) → IsInner q (ahead_effects q)
ahead-inner q = by q.responder.nak_sent
  where
    by : (b : Bool) → IsInner q (if b then drop_effects q drops.Stale
        else queue_and_marks (with_flag true (with_answer (queued.Nak q.responder.expected (nak_code PsnSequenceError)) q)) [])
    by true = drop-inner q drops.Stale
    by false = record { incarnation = refl; peer = refl; marks = record {} }

duplicate-inner : (psn : ℕ) (p : Fields) (envelope : Option ℕ) (shape : Shape) (q : QueuePair) → IsInner q (duplicate_effects psn p envelope shape q)
duplicate-inner psn p envelope shape q = at (nat_le MAX_DUPLICATES (duplicate_count q.responder.answers))
  where
    acks : (b : Bool) → IsInner q (if b then queue_and_marks (with_answer (queued.Ack (q.responder.expected - 1)) q) [] else drop_effects q drops.Unsaved)
    acks true = record { incarnation = refl; peer = refl; marks = record {} }
    acks false = drop-inner q drops.Unsaved

    within : (h : Reth) (b : Bool) → IsInner q (if b then answer_again psn (queued.Read psn h.key h.address h.length true envelope true) q else drop_effects q drops.Unsaved)
    within h true = record { incarnation = refl; peer = refl; marks = record {} }
    within h false = drop-inner q drops.Unsaved

    reads : (o : Option Reth) → IsInner q (option_map_or (λ h. read_again psn envelope h q) o (drop_effects q drops.Unsaved))
    reads None = drop-inner q drops.Unsaved
    reads (Some h) = within h (nat_le (psn + segments q.responder.mtu h.length) q.responder.expected)

    atomics : (o : Option ℕ) → IsInner q (atomic_again psn o q)
    atomics None = drop-inner q drops.Unsaved
    atomics (Some found) = record { incarnation = refl; peer = refl; marks = record {} }

    effects : Shape → Effects
    effects (shapes.Send place) = ack_again q
    effects (shapes.Write place) = ack_again q
    effects shapes.Read = option_map_or (λ h. read_again psn envelope h q) p.reth (drop_effects q drops.Unsaved)
    effects (shapes.Atomic kind) = atomic_again psn (saved_at psn q.saved) q

    by : (shape : Shape) → IsInner q (effects shape)
    by (shapes.Send place) = acks (length q.responder.answers == 0)
    by (shapes.Write place) = acks (length q.responder.answers == 0)
    by shapes.Read = reads p.reth
    by (shapes.Atomic kind) = atomics (saved_at psn q.saved)

    at : (b : Bool) → IsInner q (if b then drop_effects q drops.Unsaved else effects shape)
    at true = drop-inner q drops.Unsaved
    at false = by shape

request-inner : (p : Fields) (envelope : Option ℕ) (shared : Option SharedReceives) (shape : Shape) (q : QueuePair) → RowDoes (IsInner q) (request_row p envelope shared shape q)
request-inner p envelope shared shape q = by (widened q.responder.expected p.psn)
  where
    before : (psn : ℕ) (b : Bool) → RowDoes (IsInner q) (if b then plain_row (Does (duplicate_effects psn p envelope shape q)) else expected_row q shared p envelope shape)
    before psn true = plain-inner q _ (duplicate-inner psn p envelope shape q)
    before psn false = expected-inner q shared p envelope shape

    ahead : (psn : ℕ) (b : Bool) → RowDoes (IsInner q) (
        if b then plain_row (Does (ahead_effects q))
        else if nat_lt psn q.responder.expected then plain_row (Does (duplicate_effects psn p envelope shape q))
        else expected_row q shared p envelope shape)
    ahead psn true = plain-inner q _ (ahead-inner q)
    ahead psn false = before psn (nat_lt psn q.responder.expected)

    by : (psn : ℕ) → RowDoes (IsInner q) (
        if nat_lt q.responder.expected psn then plain_row (Does (ahead_effects q))
        else if nat_lt psn q.responder.expected then plain_row (Does (duplicate_effects psn p envelope shape q))
        else expected_row q shared p envelope shape)
    by psn = ahead psn (nat_lt q.responder.expected psn)

pub arrival-inner : (bytes : List ℕ) (envelope : Option ℕ) (shared : Option SharedReceives) (q : QueuePair) → RowDoes (IsInner q) (arrival_row bytes envelope shared q)
arrival-inner bytes envelope shared q = by (packet_in bytes)
  where
    shaped : Fields → Option Shape → Row
    shaped p (Some shape) = request_row p envelope shared shape q
    shaped p None = plain_row (Does (drop_effects q drops.State))

    requests : (p : Fields) (o : Option Shape) → RowDoes (IsInner q) (shaped p o)
    requests p (Some shape) = request-inner p envelope shared shape q
    requests p None = plain-inner q (drop_effects q drops.State) (drop-inner q drops.State)

    kinds : (p : Fields) (b : Bool) → RowDoes (IsInner q) (if b then response_row p q else shaped p (shape_of p.opcode))
    kinds p true = response-inner p q
    kinds p false = requests p (shape_of p.opcode)

    dropped : Fields → Option Drop1 → Row
    dropped p (Some cause) = plain_row (Does (drop_effects q cause))
    dropped p None = packet_arrived p envelope shared q

    unless : (p : Fields) (o : Option Drop1) → RowDoes (IsInner q) (dropped p o)
    unless p (Some cause) = plain-inner q (drop_effects q cause) (drop-inner q cause)
    unless p None = kinds p (is_response p.opcode)

    row : Result Fields WireError → Row
    row (Err error) = plain_row (Does (drop_effects q (drops.Wire error)))
    row (Ok p) = dropped p (first_of (arrival_drops q p))

    by : (r : Result Fields WireError) → RowDoes (IsInner q) (row r)
    by (Err error) = plain-inner q (drop_effects q (drops.Wire error)) (drop-inner q (drops.Wire error))
    by (Ok p) = unless p (first_of (arrival_drops q p))

pub respond-inner : (room : Bool) (q : QueuePair) → RowDoes (IsInner q) (respond_row room q)
respond-inner room q = by (first_of (respond_refusals room q)) (slice_get q.responder.answers 0)
  where
    front : Option Reason → Option Queued → Row
    front (Some reason) answer = plain_row (NotPossible reason)
    front None None = plain_row (NotPossible reasons.Empty)
    front None (Some answer) = answer_turn q answer

    left : (r : ReadLeft) (b : Bool) → ((if b then without_front q else with_front (rest_of q r) q).incarnation ≡ q.incarnation)
        × ((if b then without_front q else with_front (rest_of q r) q).peer ≡ q.peer)
    left r true = (refl, refl)
    left r false = (refl, refl)

    silent : (e : Effects) → IsInner q e → RowDoes (IsInner q) (plain_row (Does e))
    silent e inner = plain-inner q e inner

    turn : (a : Queued) → RowDoes (IsInner q) (answer_turn q a)
    turn (queued.Ack psn) = record { denied = λ d. record { incarnation = refl; peer = refl; marks = record {} }; allowed = λ bytes refusal. record { incarnation = refl; peer = refl; marks = record {} } }
    turn (queued.Rnr psn) = record { denied = λ d. record { incarnation = refl; peer = refl; marks = record {} }; allowed = λ bytes refusal. record { incarnation = refl; peer = refl; marks = record {} } }
    turn (queued.Nak psn code) = record { denied = λ d. record { incarnation = refl; peer = refl; marks = record {} }; allowed = λ bytes refusal. record { incarnation = refl; peer = refl; marks = record {} } }
    turn (queued.Read psn key address part first envelope duplicate) = record {
      denied = λ d. record { incarnation = refl; peer = refl; marks = (record {}, flush-inner q) };
      allowed = λ bytes refusal. record { incarnation = (left r (is_last_response q r)).0; peer = (left r (is_last_response q r)).1; marks = (record {}, record {}) };
    }
      where
        r : ReadLeft
        r = record { psn = psn; key = key; address = address; left = part; first = first; envelope = envelope; duplicate = duplicate }
    turn (queued.Atomic psn found duplicate) = record { denied = λ d. record { incarnation = refl; peer = refl; marks = record {} }; allowed = λ bytes refusal. record { incarnation = refl; peer = refl; marks = record {} } }

    by : (o : Option Reason) (a : Option Queued) → RowDoes (IsInner q) (front o a)
    by (Some reason) a = record { denied = λ d. record {}; allowed = λ bytes refusal. record {} }
    by None None = record { denied = λ d. record {}; allowed = λ bytes refusal. record {} }
    by None (Some a) = turn a

pub packet-inner : (q : QueuePair) (room : Bool) (n : Numbered) → RowDoes (IsInner q) (packet_row q room n)
packet-inner q room n = by (is_too_much q n)
  where
    row : Row
    row = record {
      asks = packet_asks q n;
      invalidation = None;
      denied = λ d.
          if is_outstanding q then NotPossible reasons.Outstanding
          else if not room then NotPossible reasons.NoRoom
          else Does (denied_list_effects q d);
      allowed = λ bytes refusal. if not room then NotPossible reasons.NoRoom else Does (sent_packet q n bytes);
    }

    denied : (d : DeniedAsk) (b z : Bool) → EndingDoes (IsInner q) (if b then NotPossible reasons.Outstanding else if not z then NotPossible reasons.NoRoom else Does (denied_list_effects q d))
    denied d true z = record {}
    denied d false true = denied-inner q d
    denied d false false = record {}

    allowed : (bytes : List (List ℕ)) (z : Bool) → EndingDoes (IsInner q) (if not z then NotPossible reasons.NoRoom else Does (sent_packet q n bytes))
    allowed bytes true = record { incarnation = refl; peer = refl; marks = reads-inner (packet_asks q n) bytes }
    allowed bytes false = record {}

    by : (b : Bool) → RowDoes (IsInner q) (if b then plain_row (NotPossible reasons.Outstanding) else row)
    by true = record { denied = λ d. record {}; allowed = λ bytes refusal. record {} }
    by false = record { denied = λ d. denied d (is_outstanding q) room; allowed = λ bytes refusal. allowed bytes room }

-- what a local operation granted and revoked
local-inner : (q : QueuePair) (m : LocalMarks) → AreOwn (local_marks q m)
local-inner q m = inner-append (option_map_or (λ key. marks.Revoked q.queue.adapter key ∷ []) m.revoked []) _ (revoked m.revoked) (granted m.granted)
  where
    revoked : (o : Option Key) → AreOwn (option_map_or (λ key. marks.Revoked q.queue.adapter key ∷ []) o [])
    revoked None = record {}
    revoked (Some key) = (record {}, record {})

    granted : (o : Option Grant) → AreOwn (option_map_or (λ g. marks.Granted g ∷ []) o [])
    granted None = record {}
    granted (Some g) = (record {}, record {})

pub operation-inner : (q after : QueuePair) (n : Numbered) (m : LocalMarks) (refusal : Option OpRefusal) → after.incarnation ≡ q.incarnation → after.peer ≡ q.peer
    → IsInner q (operation_effects q n after m refusal)
operation-inner q after n m (Some cause) incarnation peer = failure-inner MemoryManagement (Some cause) q
operation-inner q after n m None incarnation peer = record {
  incarnation = incarnation;
  peer = peer;
  marks = inner-append (local_marks q m) _ (local-inner q m) (success-inner q.queue n.place n.request);
}

pub invalidate-inner : (q : QueuePair) (n : Numbered) (key : Key) → RowDoes (IsInner q) (invalidate_row q n key)
invalidate-inner q n key = record {
  denied = λ d. record { incarnation = refl; peer = refl; marks = record {} };
  allowed = λ bytes refusal. operation-inner q (with_window_gone i q) n (record { revoked = Some key; granted = None }) refusal refl refl;
}
  where
    i : Option Invalidation
    i = Some (record { queue = q.queue; domain = q.domain; key = key })

pub timeout-inner : (q : QueuePair) (silent : Bool) → IsInner q (after_timeout silent q)
timeout-inner q silent = record { incarnation = retried.incarnation; peer = retried.peer; marks = (record {}, retried.marks) }
  where
    counted : QueuePair
    counted = with_requester (record q.requester { timers = suc q.requester.timers }) q

    retried : IsInner counted (one_retry q.requester.una counted)
    retried = retry-inner q.requester.una counted
