-- Rows keep a requester from waiting for a wake, and drop no packet for what it is itself, where the packet that arrives
-- is for this queue pair and is no RNR NAK. For proofs only.
use Rattle.std.proofs.Common.{◌≡◌, ℕ, suc, ◌+◌, ◌-◌, nat_le, nat_lt, Bool, true, false, List, [], ◌∷◌, ◌++◌, length, Option, None, Some, ◌&&◌, not, is_none, ◌==◌, if◌then◌else◌, refl, slice_get, subst, sym, Result, Ok, Err, ap₂, eq-eqb, true≢false}
use Rattle.std.specs.List.{flat_map}
use Rattle.std.specs.Option.{option_and_then, option_map_or, option_map}
use Rattle.ca_base.specs.declared.change.State.TheVariants as states
use Rattle.ca_base.specs.declared.completion.WcOp.TheVariants as operations
use Rattle.ca_base.specs.declared.completion.WcStatus.{WcStatus}
use Rattle.ca_base.specs.declared.completion.WcStatus.TheVariants.{BadResponse, LocalProtection, RetryExceeded, LocalLength, MemoryManagement, Success}
use Rattle.ca_base.specs.declared.denied_ask.DeniedAsk.{DeniedAsk}
use Rattle.ca_base.specs.declared.limits.TheConstants.{MAX_DUPLICATES}
use Rattle.ca_base.specs.declared.queue_numbers.Message.{Message}
use Rattle.ca_base.specs.declared.queue_numbers.Message.TheVariants as messages
use Rattle.ca_base.specs.declared.queue_numbers.Queued.{Queued}
use Rattle.ca_base.specs.declared.queue_numbers.Queued.TheVariants as queued
use Rattle.ca_base.specs.declared.refusals.OpRefusal.{OpRefusal}
use Rattle.ca_base.specs.declared.request.PlacedReceive.{PlacedReceive}
use Rattle.ca_base.specs.declared.request.PostedSend.{PostedSend}
use Rattle.ca_base.specs.declared.request.RecvRequest.{RecvRequest}
use Rattle.ca_base.specs.declared.request.SendRequest.{SendRequest}
use Rattle.ca_base.specs.declared.step.Reason.{Reason}
use Rattle.ca_base.specs.declared.step.Reason.TheVariants as reasons
use Rattle.ca_base.specs.Sight.{Invalidation}
use Rattle.ca_base.specs.objects.Answers.{duplicate_count}
use Rattle.ca_base.specs.objects.LocalRequest.{LocalMarks}
use Rattle.ca_base.specs.objects.QueuePair.{QueuePair}
use Rattle.ca_base.specs.objects.Saved.{saved_at}
use Rattle.ca_base.specs.objects.SharedReceives.{SharedReceives}
use Rattle.ca_base.specs.objects.StateTable.{is_among}
use Rattle.ca_base.specs.objects.WorkQueue.{WorkQueue, items_from}
use Rattle.ca_keys.specs.declared.access.Ask.{Ask}
use Rattle.ca_keys.specs.declared.access.Kind.{Kind}
use Rattle.ca_keys.specs.declared.grant.Grant.{Grant}
use Rattle.ca_keys.specs.declared.key.Key.{Key}
use Rattle.ca_keys.specs.declared.names.QueueId.{QueueId}
use Rattle.ca_keys.specs.Refusals.{first_of}
use Rattle.ca_model.specs.Packets.{is_response}
use Rattle.ca_model.specs.Requests.{list_length, segments}
use Rattle.ca_model.specs.declared.mark.Drop1.{Drop1}
use Rattle.ca_model.specs.declared.mark.Drop1.TheVariants as drops
use Rattle.ca_model.specs.declared.mark.Mark.{Mark}
use Rattle.ca_model.specs.declared.mark.Mark.TheVariants as marks
use Rattle.ca_model.specs.declared.read_left.ReadLeft.{ReadLeft}
use Rattle.ca_model.specs.declared.receiving.Receiving.{Receiving}
use Rattle.ca_model.specs.declared.write_reach.WriteReach.{WriteReach}
use Rattle.ca_model.specs.machine.Acknowledgements.{Acknowledgement, acknowledgement_below, and_then, failure_effects, finished_requests, first_unanswered, one_retry, progress_to, with_cursor, with_requester, with_una, without_oldest}
use Rattle.ca_model.specs.machine.Arrivals.{next_receive, refusal_effects, with_answer, with_flag, with_message, with_receive_taken}
use Rattle.ca_model.specs.machine.Completions.{failure_mark, flush_marks, flushed_message, flushed_receives, flushed_sends, receive_mark, success_marks}
use Rattle.ca_model.specs.machine.Delivery.{arrival_drops, arrival_row, packet_arrived}
use Rattle.ca_model.specs.machine.Duplicates.{ack_again, ahead_effects, answer_again, atomic_again, duplicate_effects, read_again, request_row}
use Rattle.ca_model.specs.machine.Expected.{after_send_packet, atomic_row, behind_marks, expected_row, invalidation_of, is_invalid, message_left, queue_after_packet, read_queued, receive_asks, receive_failure_effects, receiving_of, revoked_marks, rnr_effects, send_row, takes_receive, valid_row, with_shared_receive, with_window_gone, write_reach, write_row}
use Rattle.ca_model.specs.machine.LocalOperations.{local_marks, operation_effects}
use Rattle.ca_model.specs.machine.Numbering.{Numbered, begun_requests, request_at}
use Rattle.ca_model.specs.machine.Requester.{denied_list_effects, is_outstanding, is_too_much, local_denial, local_reads, packet_asks, packet_row, sent_packet}
use Rattle.ca_model.specs.machine.Respond.{answer_turn, is_last_response, respond_refusals, respond_row, rest_of, with_front, without_front}
use Rattle.ca_model.specs.machine.Responses.{acknowledge_row, answer_asks, answer_bytes, answer_row, drop_effects, fits_request, fitting_row, is_outstanding_at, local_writes, nak_effects, outstanding_row, response_psn, response_row, unless_back, writes_by}
use Rattle.ca_model.specs.machine.Row.{Does, Effects, NotPossible, Row, plain_row, queue_and_marks}
use Rattle.ca_model.specs.machine.Timers.{after_timeout}
use Rattle.ca_wire.specs.Decoding.{packet_in}
use Rattle.ca_wire.specs.Packet.{Fields}
use Rattle.ca_wire.specs.Shapes.{ends}
use Rattle.ca_wire.specs.Table.{shape_of}
use Rattle.ca_wire.specs.declared.atomic_eth.AtomicEth.{AtomicEth}
use Rattle.ca_wire.specs.declared.opcode.TheConstants.{ACKNOWLEDGE}
use Rattle.ca_wire.specs.declared.packet.TheConstants.{DEFAULT_PKEY}
use Rattle.ca_wire.specs.declared.reth.Reth.{Reth}
use Rattle.ca_wire.specs.declared.shape.Position.{Position}
use Rattle.ca_wire.specs.declared.shape.Shape.{Shape}
use Rattle.ca_wire.specs.declared.shape.Shape.TheVariants as shapes
use Rattle.ca_wire.specs.declared.wire_error.WireError.{WireError}
use Rattle.ca_psn.specs.Psn.{widened}
use Rattle.ca_law_lossless.specs.RowMail.{AreWholeDrops, IsFor, KeepsCalm}
use Rattle.ca_law_lossless.specs.Standing.{is_not_ready}
use Rattle.ca_law_lossless.specs.CalmEvents.{IsDroppedWhole}
use Rattle.ca_law_once.specs.Entries.{syndrome_of}
use Rattle.ca_law_once.specs.Moves.{EndingLeads, RowLeads}
use Rattle.ca_wire.specs.Syndrome.{nak_code, syndrome_in}
use Rattle.ca_wire.specs.declared.syndrome.NakCode.{NakCode}
use Rattle.ca_wire.specs.declared.syndrome.NakCode.TheVariants.{PsnSequenceError, InvalidRequest, RemoteAccessError, RemoteOperationalError}
use Rattle.ca_wire.specs.declared.syndrome.Syndrome.{Syndrome}
use Rattle.ca_wire.specs.declared.syndrome.Syndrome.TheVariants.{Ack, Nak, RnrNak}

pub whole-append : (ms ns : List Mark) → AreWholeDrops ms → AreWholeDrops ns → AreWholeDrops (ms ++ ns)
whole-append [] ns one other = other
whole-append (m ∷ ms) ns one other = (one.0, whole-append ms ns one.1 other)

-- a row that meets nothing does what it does
plain-calm : (e : Effects) → KeepsCalm e → RowLeads KeepsCalm (plain_row (Does e))
plain-calm e calm = record { denied = λ d. calm; allowed = λ bytes refusal. calm }

calm-then : (e : Effects) (f : QueuePair → Effects) → KeepsCalm e → KeepsCalm (f e.queue) → KeepsCalm (and_then e f)
calm-then e f one other = record { awake = other.awake; marks = whole-append e.marks (f e.queue).marks one.marks other.marks }

-- marks before those of effects
calm-behind : (e : Effects) (ms : List Mark) → AreWholeDrops ms → KeepsCalm e → KeepsCalm (behind_marks ms e)
calm-behind e ms whole calm = record { awake = calm.awake; marks = whole-append ms e.marks whole calm.marks }

-- ---- what is flushed, and what completes

sends-whole : (queue : QueueId) (place : ℕ) (ps : List PostedSend) → AreWholeDrops (flushed_sends queue place ps)
sends-whole queue place [] = record {}
sends-whole queue place (p ∷ ps) = (record {}, sends-whole queue (suc place) ps)

receives-whole : (queue : QueueId) (place : ℕ) (rs : List RecvRequest) → AreWholeDrops (flushed_receives queue place rs)
receives-whole queue place [] = record {}
receives-whole queue place (r ∷ rs) = (record {}, receives-whole queue (suc place) rs)

pub flush-whole : (q : QueuePair) → AreWholeDrops (flush_marks q)
flush-whole q =
    whole-append (flushed_sends q.queue q.requester.oldest (items_from q.requester.oldest q.sends) ++ flushed_message q.queue q.responder.message) _
    (whole-append (flushed_sends q.queue q.requester.oldest (items_from q.requester.oldest q.sends)) (flushed_message q.queue q.responder.message)
    (sends-whole q.queue q.requester.oldest (items_from q.requester.oldest q.sends)) (message q.responder.message)) (own q.receives)
  where
    message : (m : Option Message) → AreWholeDrops (flushed_message q.queue m)
    message None = record {}
    message (Some (messages.Write key address left count)) = record {}
    message (Some (messages.Send place receive bytes)) = (record {}, record {})

    own : (o : Option (WorkQueue RecvRequest)) → AreWholeDrops (option_map_or (λ r. flushed_receives q.queue r.next_taken (items_from r.next_taken r)) o [])
    own None = record {}
    own (Some r) = receives-whole q.queue r.next_taken (items_from r.next_taken r)

-- in Error no requester waits
failure-calm : (status : WcStatus) (cause : Option OpRefusal) (q : QueuePair) → KeepsCalm (failure_effects status cause q)
failure-calm status cause q = record { awake = refl; marks = by (items_from q.requester.oldest q.sends) }
  where
    told : List PostedSend → List Mark
    told [] = flush_marks q
    told (p ∷ ps) = failure_mark q.queue q.requester.oldest p.request status cause ∷ flush_marks (without_oldest q)

    by : (ps : List PostedSend) → AreWholeDrops (told ps)
    by [] = flush-whole q
    by (p ∷ ps) = (record {}, flush-whole (without_oldest q))

success-whole : (queue : QueueId) (place : ℕ) (request : SendRequest) → AreWholeDrops (success_marks queue place request)
success-whole queue place request = by request.signalled
  where
    by : (b : Bool) → AreWholeDrops (if b then success_marks queue place (record request { signalled = true }) else [])
    by true = (record {}, record {})
    by false = record {}

finished-whole : (queue : QueueId) (ns : List Numbered) → AreWholeDrops (flat_map (λ n. success_marks queue n.place n.request) ns)
finished-whole queue [] = record {}
finished-whole queue (n ∷ ns) = whole-append (success_marks queue n.place n.request) _ (success-whole queue n.place n.request) (finished-whole queue ns)

-- ---- responses

una-awake : (psn : ℕ) (q : QueuePair) → q.requester.waiting ≡ false → (with_una psn q).requester.waiting ≡ false
una-awake psn q awake = by (nat_lt q.requester.una psn)
  where
    moved : Bool → QueuePair
    moved b = if b then with_requester (record q.requester { una = psn; retries = 0; rnrs = 0 }) q else q

    by : (b : Bool) → (moved b).requester.waiting ≡ false
    by true = awake
    by false = awake

progress-calm : (psn : ℕ) (q : QueuePair) → q.requester.waiting ≡ false → KeepsCalm (progress_to psn q)
progress-calm psn q awake = record { awake = una-awake psn q awake; marks = finished-whole (with_una psn q).queue (finished_requests (with_una psn q)) }

retry-calm : (psn : ℕ) (q : QueuePair) → q.requester.waiting ≡ false → KeepsCalm (one_retry psn q)
retry-calm psn q awake = by (nat_le q.requester.retry q.requester.retries)
  where
    counted : QueuePair
    counted = with_requester (record q.requester { retries = suc q.requester.retries }) q

    by : (b : Bool) → KeepsCalm (if b then failure_effects RetryExceeded None counted else queue_and_marks (with_cursor psn counted) [])
    by true = failure-calm RetryExceeded None counted
    by false = record { awake = awake; marks = record {} }

below-calm : (psn : ℕ) (q : QueuePair) → q.requester.waiting ≡ false → KeepsCalm (acknowledgement_below psn q).effects
below-calm psn q awake = by (first_unanswered q.requester.una psn (begun_requests q))
  where
    after : Option ℕ → Acknowledgement
    after None = record { effects = progress_to psn q; went_back = false }
    after (Some back) = record { effects = and_then (progress_to back q) (one_retry back); went_back = true }

    by : (back : Option ℕ) → KeepsCalm (after back).effects
    by None = progress-calm psn q awake
    by (Some back) = calm-then (progress_to back q) (one_retry back) (progress-calm back q awake) (retry-calm back (progress_to back q).queue (progress-calm back q awake).awake)

back-calm : (a : Acknowledgement) (f : QueuePair → Effects) → KeepsCalm a.effects → KeepsCalm (f a.effects.queue) → KeepsCalm (unless_back a f)
back-calm a f one other = by a.went_back
  where
    by : (b : Bool) → KeepsCalm (if b then a.effects else and_then a.effects f)
    by true = one
    by false = calm-then a.effects f one other

nak-calm : (psn : ℕ) (code : NakCode) (q : QueuePair) → q.requester.waiting ≡ false → KeepsCalm (nak_effects psn code q)
nak-calm psn PsnSequenceError q awake = retry-calm psn q awake
nak-calm psn InvalidRequest q awake = failure-calm _ None q
nak-calm psn RemoteAccessError q awake = failure-calm _ None q
nak-calm psn RemoteOperationalError q awake = failure-calm _ None q

drop-calm : (q : QueuePair) (cause : Drop1) → IsDroppedWhole cause → q.requester.waiting ≡ false → KeepsCalm (drop_effects q cause)
drop-calm q cause whole awake = record { awake = awake; marks = (whole, record {}) }

-- an RNR NAK alone makes a requester wait
acknowledge-calm : (psn : ℕ) (syndrome : Option Syndrome) (q : QueuePair) → is_not_ready syndrome ≡ false → q.requester.waiting ≡ false → KeepsCalm (acknowledge_row psn syndrome q)
acknowledge-calm psn (Some (Ack credits)) q ready awake = below-calm (suc psn) q awake
acknowledge-calm psn (Some (RnrNak timer)) q ready awake = absurd (true≢false ready)
acknowledge-calm psn (Some (Nak code)) q ready awake =
    back-calm (acknowledgement_below psn q) (nak_effects psn code) (below-calm psn q awake) (nak-calm psn code (acknowledgement_below psn q).effects.queue (below-calm psn q awake).awake)
acknowledge-calm psn None q ready awake = drop-calm q drops.Stale (record {}) awake

writes-whole : (xs : List (Ask × List ℕ)) → AreWholeDrops (local_writes xs)
writes-whole [] = record {}
writes-whole (x ∷ xs) = (record {}, writes-whole xs)

reads-whole : (asks : List Ask) (bytes : List (List ℕ)) → AreWholeDrops (local_reads asks bytes)
reads-whole [] bytes = record {}
reads-whole (ask ∷ asks) [] = record {}
reads-whole (ask ∷ asks) (b ∷ bs) = (record {}, reads-whole asks bs)

-- the list was denied, and the request fails
denied-calm : (q : QueuePair) (d : DeniedAsk) → KeepsCalm (record (failure_effects LocalProtection None q) { marks = local_denial d ∷ (failure_effects LocalProtection None q).marks })
denied-calm q d = record { awake = refl; marks = (record {}, (failure-calm LocalProtection None q).marks) }

answer-calm : (psn : ℕ) (p : Fields) (before : Effects) (n : Numbered) → KeepsCalm before → RowLeads KeepsCalm (answer_row psn p before n)
answer-calm psn p before n calm = record {
  denied = λ d. calm-then before (λ x. record (failure_effects LocalProtection None x) { marks = local_denial d ∷ (failure_effects LocalProtection None x).marks }) calm
      (denied-calm before.queue d);
  allowed = λ bytes refusal. record {
    awake = (progress-calm (suc psn) before.queue calm.awake).awake;
    marks = whole-append before.marks _ calm.marks
        (whole-append (local_writes (writes_by (answer_asks psn p before.queue n) (answer_bytes p))) _
        (writes-whole (writes_by (answer_asks psn p before.queue n) (answer_bytes p))) (progress-calm (suc psn) before.queue calm.awake).marks);
  };
}

fitting-calm : (psn : ℕ) (p : Fields) (a : Acknowledgement) → KeepsCalm a.effects → RowLeads KeepsCalm (fitting_row psn p a)
fitting-calm psn p a calm = back a.went_back
  where
    bad : Row
    bad = plain_row (Does (and_then a.effects (failure_effects BadResponse None)))

    at : Option Numbered → Row
    at None = bad
    at (Some n) = if fits_request psn p a.effects.queue n then answer_row psn p a.effects n else bad

    is_bad : RowLeads KeepsCalm bad
    is_bad = plain-calm (and_then a.effects (failure_effects BadResponse None))
        (calm-then a.effects (failure_effects BadResponse None) calm (failure-calm BadResponse None a.effects.queue))

    fits : (n : Numbered) (b : Bool) → RowLeads KeepsCalm (if b then answer_row psn p a.effects n else bad)
    fits n true = answer-calm psn p a.effects n calm
    fits n false = is_bad

    by : (n : Option Numbered) → RowLeads KeepsCalm (at n)
    by None = is_bad
    by (Some n) = fits n (fits_request psn p a.effects.queue n)

    back : (b : Bool) → RowLeads KeepsCalm (if b then plain_row (Does a.effects) else at (request_at psn a.effects.queue))
    back true = plain-calm a.effects calm
    back false = by (request_at psn a.effects.queue)

response-calm : (p : Fields) (q : QueuePair) → is_not_ready (syndrome_of p) ≡ false → q.requester.waiting ≡ false → RowLeads KeepsCalm (response_row p q)
response-calm p q ready awake = by (is_among (states.Rts ∷ states.Sqd ∷ []) q.state)
  where
    psn : ℕ
    psn = response_psn q p

    opcode : (b : Bool) → RowLeads KeepsCalm (if b then plain_row (Does (acknowledge_row psn (option_and_then (λ a. syndrome_in a.syndrome) p.aeth) q))
        else fitting_row psn p (acknowledgement_below psn q))
    opcode true = plain-calm _ (acknowledge-calm psn (option_and_then (λ a. syndrome_in a.syndrome) p.aeth) q ready awake)
    opcode false = fitting-calm psn p (acknowledgement_below psn q) (below-calm psn q awake)

    there : (b : Bool) → RowLeads KeepsCalm (if not b then plain_row (Does (drop_effects q drops.Stale)) else outstanding_row psn p q)
    there true = opcode (p.opcode == ACKNOWLEDGE)
    there false = plain-calm (drop_effects q drops.Stale) (drop-calm q drops.Stale (record {}) awake)

    by : (b : Bool) → RowLeads KeepsCalm (if not b then plain_row (Does (drop_effects q drops.State))
        else if not (is_outstanding_at psn q) then plain_row (Does (drop_effects q drops.Stale)) else outstanding_row psn p q)
    by true = there (is_outstanding_at psn q)
    by false = plain-calm (drop_effects q drops.State) (drop-calm q drops.State (record {}) awake)

-- ---- requests

-- a NAK is queued, and the queue pair moves to Error
refusal-calm : (code : NakCode) (q : QueuePair) → KeepsCalm (refusal_effects code q)
refusal-calm code q = record { awake = refl; marks = flush-whole q }

-- the receive fails, and the packet is refused
receive-calm : (q : QueuePair) (r : PlacedReceive) (status : WcStatus) (cause : Option OpRefusal) (code : NakCode) → KeepsCalm (receive_failure_effects q r status cause code)
receive-calm q r status cause code = record { awake = refl; marks = (record {}, flush-whole (with_message None q)) }

took-calm : (p : QueuePair) (b : Bool) (e : Effects) → KeepsCalm e → KeepsCalm (if b then with_shared_receive p e else e)
took-calm p true e calm = record { awake = calm.awake; marks = calm.marks }
took-calm p false e calm = calm

revoked-whole : (q : QueuePair) (i : Option Invalidation) → AreWholeDrops (revoked_marks q i)
revoked-whole q None = record {}
revoked-whole q (Some i) = (record {}, record {})

-- a SEND packet, with its receive
send-calm : (before : QueuePair) (p : Fields) (place : Position) (r : Receiving) (q : QueuePair) → (if r.taken then with_receive_taken before else before) ≡ q → q.requester.waiting ≡ false
    → RowLeads KeepsCalm (send_row before p place r)
send-calm before p place r q is awake = subst (λ x. RowLeads KeepsCalm (row_of x (nat_lt (list_length r.receive.receive.list.items) (r.before + length p.payload)))) (sym is)
    (by (nat_lt (list_length r.receive.receive.list.items) (r.before + length p.payload)))
  where
    took : QueuePair → Effects → Effects
    took q e = if r.taken then with_shared_receive q e else e

    ended : QueuePair → Option OpRefusal → Effects
    ended q (Some cause) = receive_failure_effects q r.receive MemoryManagement (Some cause) RemoteOperationalError
    ended q None = behind_marks (revoked_marks q (invalidation_of q p)) (after_send_packet (with_window_gone (invalidation_of q p) q) p place r)

    writes : QueuePair → List (Ask × List ℕ)
    writes q = writes_by (receive_asks q p r) p.payload

    row_of : QueuePair → Bool → Row
    row_of q b =
        if b then plain_row (Does (took q (receive_failure_effects q r.receive LocalLength None InvalidRequest)))
        else record {
          asks = receive_asks q p r;
          invalidation = invalidation_of q p;
          denied = λ d. Does (took q (behind_marks (local_denial d ∷ []) (receive_failure_effects q r.receive LocalProtection None RemoteOperationalError)));
          allowed = λ bytes refusal. Does (took q (record (behind_marks (local_writes (writes q)) (ended q refusal)) { writes = writes q }));
        }

    packet : (x : QueuePair) → x.requester.waiting ≡ false → KeepsCalm (after_send_packet x p place r)
    packet x awake = at (ends place)
      where
        at : (b : Bool) → KeepsCalm (if b
            then queue_and_marks (with_message None (queue_after_packet p 1 true true x))
            (receive_mark x.queue r.receive.place r.receive.receive Success operations.Recv (r.before + length p.payload) p.imm (option_map (λ key. record { 0 = key }) p.ieth) ∷ [])
            else queue_and_marks (with_message (Some (messages.Send r.receive.place r.receive.receive (r.before + length p.payload))) (queue_after_packet p 1 false true x)) [])
        at true = record { awake = awake; marks = (record {}, record {}) }
        at false = record { awake = awake; marks = record {} }

    at : (refusal : Option OpRefusal) → KeepsCalm (ended q refusal)
    at None = calm-behind _ (revoked_marks q (invalidation_of q p)) (revoked-whole q (invalidation_of q p)) (packet (with_window_gone (invalidation_of q p) q) awake)
    at (Some cause) = receive-calm q r.receive MemoryManagement (Some cause) RemoteOperationalError

    placed : (refusal : Option OpRefusal) → KeepsCalm (record (behind_marks (local_writes (writes q)) (ended q refusal)) { writes = writes q })
    placed refusal = record { awake = (at refusal).awake; marks = whole-append (local_writes (writes q)) (ended q refusal).marks (writes-whole (writes q)) (at refusal).marks }

    by : (b : Bool) → RowLeads KeepsCalm (row_of q b)
    by true = plain-calm _ (took-calm q r.taken _ (receive-calm q r.receive LocalLength None InvalidRequest))
    by false = record {
      denied = λ d. took-calm q r.taken _ (calm-behind _ (local_denial d ∷ []) (record {}, record {}) (receive-calm q r.receive LocalProtection None RemoteOperationalError));
      allowed = λ bytes refusal. took-calm q r.taken _ (placed refusal);
    }

write-calm : (q : QueuePair) (p : Fields) (envelope : Option ℕ) (place : Position) (next : Option PlacedReceive) (r : WriteReach) → q.requester.waiting ≡ false → RowLeads KeepsCalm (write_row q p envelope place next r)
write-calm q p envelope place next r awake = record {
  denied = λ d. record { awake = refl; marks = (record {}, flush-whole q) };
  allowed = λ bytes refusal. record { awake = (at (ends place)).awake; marks = (record {}, (at (ends place)).marks) };
}
  where
    done : QueuePair → QueuePair
    done q = with_message None (queue_after_packet p 1 true true q)

    by : Option ℕ → Option PlacedReceive → Effects
    by (Some imm) (Some receive) = with_shared_receive q (queue_and_marks (done (with_receive_taken q))
        (receive_mark q.queue receive.place receive.receive Success operations.RecvImm r.whole (Some imm) None ∷ []))
    by imm next = queue_and_marks (done q) []

    immediate : (imm : Option ℕ) (next : Option PlacedReceive) → KeepsCalm (by imm next)
    immediate (Some imm) (Some receive) = record { awake = awake; marks = (record {}, record {}) }
    immediate (Some imm) None = record { awake = awake; marks = record {} }
    immediate None next = record { awake = awake; marks = record {} }

    at : (b : Bool) → KeepsCalm (if b then by p.imm next else queue_and_marks (with_message (Some (message_left r (length p.payload))) (queue_after_packet p 1 false true q)) [])
    at true = immediate p.imm next
    at false = record { awake = awake; marks = record {} }

atomic-calm : (q : QueuePair) (p : Fields) (envelope : Option ℕ) (kind : Kind) (a : AtomicEth) → q.requester.waiting ≡ false → RowLeads KeepsCalm (atomic_row q p envelope kind a)
atomic-calm q p envelope kind a awake = record {
  denied = λ d. record { awake = refl; marks = (record {}, flush-whole q) };
  allowed = λ bytes refusal. record { awake = awake; marks = (record {}, record {}) };
}

refused-calm : (code : NakCode) (q : QueuePair) → RowLeads KeepsCalm (plain_row (Does (refusal_effects code q)))
refused-calm code q = plain-calm (refusal_effects code q) (refusal-calm code q)

valid-calm : (q : QueuePair) (p : Fields) (envelope : Option ℕ) (next : Option PlacedReceive) (shape : Shape) → q.requester.waiting ≡ false → RowLeads KeepsCalm (valid_row q p envelope next shape)
valid-calm q p envelope next (shapes.Send place) awake = by q.responder.message
  where
    row : Option Receiving → Row
    row (Some r) = send_row q p place r
    row None = plain_row (Does (refusal_effects InvalidRequest q))

    start : (o : Option PlacedReceive) → RowLeads KeepsCalm (row (option_map (λ r. record { receive = r; before = 0; taken = true }) o))
    start None = refused-calm InvalidRequest q
    start (Some r) = send-calm q p place (record { receive = r; before = 0; taken = true }) (with_receive_taken q) refl awake

    by : (m : Option Message) → RowLeads KeepsCalm (row (receiving_of q next m))
    by None = start next
    by (Some (messages.Write key address left count)) = start next
    by (Some (messages.Send at receive bytes)) = send-calm q p place (record { receive = record { place = at; receive = receive }; before = bytes; taken = false }) q refl awake
valid-calm q p envelope next (shapes.Write place) awake = by (write_reach q p)
  where
    row : Option WriteReach → Row
    row (Some r) = write_row q p envelope place next r
    row None = plain_row (Does (refusal_effects InvalidRequest q))

    by : (o : Option WriteReach) → RowLeads KeepsCalm (row o)
    by (Some r) = write-calm q p envelope place next r awake
    by None = refused-calm InvalidRequest q
valid-calm q p envelope next shapes.Read awake = by p.reth
  where
    row : Option Reth → Row
    row (Some h) = plain_row (Does (read_queued q p envelope h))
    row None = plain_row (Does (refusal_effects InvalidRequest q))

    by : (o : Option Reth) → RowLeads KeepsCalm (row o)
    by (Some h) = plain-calm (read_queued q p envelope h) (record { awake = awake; marks = record {} })
    by None = refused-calm InvalidRequest q
valid-calm q p envelope next (shapes.Atomic kind) awake = by p.atomic
  where
    row : Option AtomicEth → Row
    row (Some a) = atomic_row q p envelope kind a
    row None = plain_row (Does (refusal_effects InvalidRequest q))

    by : (o : Option AtomicEth) → RowLeads KeepsCalm (row o)
    by (Some a) = atomic-calm q p envelope kind a awake
    by None = refused-calm InvalidRequest q

expected-calm : (before : QueuePair) (shared : Option SharedReceives) (p : Fields) (envelope : Option ℕ) (shape : Shape) → before.requester.waiting ≡ false → RowLeads KeepsCalm (expected_row before shared p envelope shape)
expected-calm before shared p envelope shape awake = by (is_invalid q p shape)
  where
    q : QueuePair
    q = with_flag false before

    waits : (b : Bool) → RowLeads KeepsCalm (if b then plain_row (Does (rnr_effects q)) else valid_row q p envelope (next_receive q shared) shape)
    waits true = plain-calm (rnr_effects q) (record { awake = awake; marks = record {} })
    waits false = valid-calm q p envelope (next_receive q shared) shape awake

    by : (b : Bool) → RowLeads KeepsCalm (
        if b then plain_row (Does (refusal_effects InvalidRequest q))
        else if takes_receive p shape && is_none (next_receive q shared) then plain_row (Does (rnr_effects q))
        else valid_row q p envelope (next_receive q shared) shape)
    by true = refused-calm InvalidRequest q
    by false = waits (takes_receive p shape && is_none (next_receive q shared))

ahead-calm : (q : QueuePair) → q.requester.waiting ≡ false → KeepsCalm (ahead_effects q)
ahead-calm q awake = by q.responder.nak_sent
  where
    by : (b : Bool) → KeepsCalm (if b then drop_effects q drops.Stale
        else queue_and_marks (with_flag true (with_answer (queued.Nak q.responder.expected (nak_code PsnSequenceError)) q)) [])
    by true = drop-calm q drops.Stale (record {}) awake
    by false = record { awake = awake; marks = record {} }

duplicate-calm : (psn : ℕ) (p : Fields) (envelope : Option ℕ) (shape : Shape) (q : QueuePair) → q.requester.waiting ≡ false → KeepsCalm (duplicate_effects psn p envelope shape q)
duplicate-calm psn p envelope shape q awake = at (nat_le MAX_DUPLICATES (duplicate_count q.responder.answers))
  where
    unsaved : KeepsCalm (drop_effects q drops.Unsaved)
    unsaved = drop-calm q drops.Unsaved (record {}) awake

    acks : (b : Bool) → KeepsCalm (if b then queue_and_marks (with_answer (queued.Ack (q.responder.expected - 1)) q) [] else drop_effects q drops.Unsaved)
    acks true = record { awake = awake; marks = record {} }
    acks false = unsaved

    within : (h : Reth) (b : Bool) → KeepsCalm (if b then answer_again psn (queued.Read psn h.key h.address h.length true envelope true) q else drop_effects q drops.Unsaved)
    within h true = record { awake = awake; marks = record {} }
    within h false = unsaved

    reads : (o : Option Reth) → KeepsCalm (option_map_or (λ h. read_again psn envelope h q) o (drop_effects q drops.Unsaved))
    reads None = unsaved
    reads (Some h) = within h (nat_le (psn + segments q.responder.mtu h.length) q.responder.expected)

    atomics : (o : Option ℕ) → KeepsCalm (atomic_again psn o q)
    atomics None = unsaved
    atomics (Some found) = record { awake = awake; marks = record {} }

    effects : Shape → Effects
    effects (shapes.Send place) = ack_again q
    effects (shapes.Write place) = ack_again q
    effects shapes.Read = option_map_or (λ h. read_again psn envelope h q) p.reth (drop_effects q drops.Unsaved)
    effects (shapes.Atomic kind) = atomic_again psn (saved_at psn q.saved) q

    by : (shape : Shape) → KeepsCalm (effects shape)
    by (shapes.Send place) = acks (length q.responder.answers == 0)
    by (shapes.Write place) = acks (length q.responder.answers == 0)
    by shapes.Read = reads p.reth
    by (shapes.Atomic kind) = atomics (saved_at psn q.saved)

    at : (b : Bool) → KeepsCalm (if b then drop_effects q drops.Unsaved else effects shape)
    at true = unsaved
    at false = by shape

request-calm : (p : Fields) (envelope : Option ℕ) (shared : Option SharedReceives) (shape : Shape) (q : QueuePair) → q.requester.waiting ≡ false → RowLeads KeepsCalm (request_row p envelope shared shape q)
request-calm p envelope shared shape q awake = by (widened q.responder.expected p.psn)
  where
    before : (psn : ℕ) (b : Bool) → RowLeads KeepsCalm (if b then plain_row (Does (duplicate_effects psn p envelope shape q)) else expected_row q shared p envelope shape)
    before psn true = plain-calm _ (duplicate-calm psn p envelope shape q awake)
    before psn false = expected-calm q shared p envelope shape awake

    ahead : (psn : ℕ) (b : Bool) → RowLeads KeepsCalm (
        if b then plain_row (Does (ahead_effects q))
        else if nat_lt psn q.responder.expected then plain_row (Does (duplicate_effects psn p envelope shape q))
        else expected_row q shared p envelope shape)
    ahead psn true = plain-calm _ (ahead-calm q awake)
    ahead psn false = before psn (nat_lt psn q.responder.expected)

    by : (psn : ℕ) → RowLeads KeepsCalm (
        if nat_lt q.responder.expected psn then plain_row (Does (ahead_effects q))
        else if nat_lt psn q.responder.expected then plain_row (Does (duplicate_effects psn p envelope shape q))
        else expected_row q shared p envelope shape)
    by psn = ahead psn (nat_lt q.responder.expected psn)

-- what arrives is a packet in the default partition, for this queue pair, and no RNR NAK
pub arrival-calm : (bytes : List ℕ) (envelope : Option ℕ) (shared : Option SharedReceives) (q : QueuePair) (p : Fields) → packet_in bytes ≡ Ok p → IsFor q.queue.number p
    → is_not_ready (syndrome_of p) ≡ false → q.requester.waiting ≡ false → RowLeads KeepsCalm (arrival_row bytes envelope shared q)
arrival-calm bytes envelope shared q p decodes own ready awake = subst (λ r. RowLeads KeepsCalm (row r)) (sym decodes)
    (subst (λ o. RowLeads KeepsCalm (dropped p o)) (sym left) (state (is_among (states.Rtr ∷ states.Rts ∷ states.Sqd ∷ []) q.state)))
  where
    shaped : Option Shape → Row
    shaped (Some shape) = request_row p envelope shared shape q
    shaped None = plain_row (Does (drop_effects q drops.State))

    requests : (o : Option Shape) → RowLeads KeepsCalm (shaped o)
    requests (Some shape) = request-calm p envelope shared shape q awake
    requests None = plain-calm (drop_effects q drops.State) (drop-calm q drops.State (record {}) awake)

    kinds : (b : Bool) → RowLeads KeepsCalm (if b then response_row p q else shaped (shape_of p.opcode))
    kinds true = response-calm p q ready awake
    kinds false = requests (shape_of p.opcode)

    dropped : Fields → Option Drop1 → Row
    dropped p (Some cause) = plain_row (Does (drop_effects q cause))
    dropped p None = packet_arrived p envelope shared q

    state : (b : Bool) → RowLeads KeepsCalm (dropped p (if not b then Some drops.State else None))
    state true = kinds (is_response p.opcode)
    state false = plain-calm (drop_effects q drops.State) (drop-calm q drops.State (record {}) awake)

    left : first_of (arrival_drops q p) ≡ (if not (is_among (states.Rtr ∷ states.Rts ∷ states.Sqd ∷ []) q.state) then Some drops.State else None)
    left = ap₂ (λ a b. if not a then Some drops.Partition else if not b then Some drops.Queue
        else if not (is_among (states.Rtr ∷ states.Rts ∷ states.Sqd ∷ []) q.state) then Some drops.State else None)
        (eq-eqb p.pkey DEFAULT_PKEY own.partition) (eq-eqb p.queue q.queue.number own.queue)

    row : Result Fields WireError → Row
    row (Err error) = plain_row (Does (drop_effects q (drops.Wire error)))
    row (Ok p) = dropped p (first_of (arrival_drops q p))

-- ---- turns

pub respond-calm : (room : Bool) (q : QueuePair) → q.requester.waiting ≡ false → RowLeads KeepsCalm (respond_row room q)
respond-calm room q awake = by (first_of (respond_refusals room q)) (slice_get q.responder.answers 0)
  where
    front : Option Reason → Option Queued → Row
    front (Some reason) answer = plain_row (NotPossible reason)
    front None None = plain_row (NotPossible reasons.Empty)
    front None (Some answer) = answer_turn q answer

    left : (r : ReadLeft) (b : Bool) → (if b then without_front q else with_front (rest_of q r) q).requester.waiting ≡ false
    left r true = awake
    left r false = awake

    turn : (a : Queued) → RowLeads KeepsCalm (answer_turn q a)
    turn (queued.Ack psn) = record { denied = λ d. record { awake = awake; marks = record {} }; allowed = λ bytes refusal. record { awake = awake; marks = record {} } }
    turn (queued.Rnr psn) = record { denied = λ d. record { awake = awake; marks = record {} }; allowed = λ bytes refusal. record { awake = awake; marks = record {} } }
    turn (queued.Nak psn code) = record { denied = λ d. record { awake = awake; marks = record {} }; allowed = λ bytes refusal. record { awake = awake; marks = record {} } }
    turn (queued.Read psn key address part first envelope duplicate) = record {
      denied = λ d. record { awake = refl; marks = (record {}, flush-whole q) };
      allowed = λ bytes refusal. record { awake = left r (is_last_response q r); marks = (record {}, record {}) };
    }
      where
        r : ReadLeft
        r = record { psn = psn; key = key; address = address; left = part; first = first; envelope = envelope; duplicate = duplicate }
    turn (queued.Atomic psn found duplicate) = record { denied = λ d. record { awake = awake; marks = record {} }; allowed = λ bytes refusal. record { awake = awake; marks = record {} } }

    by : (o : Option Reason) (a : Option Queued) → RowLeads KeepsCalm (front o a)
    by (Some reason) a = record { denied = λ d. record {}; allowed = λ bytes refusal. record {} }
    by None None = record { denied = λ d. record {}; allowed = λ bytes refusal. record {} }
    by None (Some a) = turn a

pub packet-calm : (q : QueuePair) (room : Bool) (n : Numbered) → q.requester.waiting ≡ false → RowLeads KeepsCalm (packet_row q room n)
packet-calm q room n awake = by (is_too_much q n)
  where
    row : Row
    row = record {
      asks = packet_asks q n;
      invalidation = None;
      denied = λ d.
          if is_outstanding q then NotPossible reasons.Outstanding
          else if not room then NotPossible reasons.NoRoom
          else Does (denied_list_effects q d);
      allowed = λ bytes refusal. if not room then NotPossible reasons.NoRoom else Does (sent_packet q n bytes);
    }

    denied : (d : DeniedAsk) (b z : Bool) → EndingLeads KeepsCalm (if b then NotPossible reasons.Outstanding else if not z then NotPossible reasons.NoRoom else Does (denied_list_effects q d))
    denied d true z = record {}
    denied d false true = denied-calm q d
    denied d false false = record {}

    allowed : (bytes : List (List ℕ)) (z : Bool) → EndingLeads KeepsCalm (if not z then NotPossible reasons.NoRoom else Does (sent_packet q n bytes))
    allowed bytes true = record { awake = awake; marks = reads-whole (packet_asks q n) bytes }
    allowed bytes false = record {}

    by : (b : Bool) → RowLeads KeepsCalm (if b then plain_row (NotPossible reasons.Outstanding) else row)
    by true = record { denied = λ d. record {}; allowed = λ bytes refusal. record {} }
    by false = record { denied = λ d. denied d (is_outstanding q) room; allowed = λ bytes refusal. allowed bytes room }

-- what a local operation granted and revoked
local-whole : (q : QueuePair) (m : LocalMarks) → AreWholeDrops (local_marks q m)
local-whole q m = whole-append (option_map_or (λ key. marks.Revoked q.queue.adapter key ∷ []) m.revoked []) _ (revoked m.revoked) (granted m.granted)
  where
    revoked : (o : Option Key) → AreWholeDrops (option_map_or (λ key. marks.Revoked q.queue.adapter key ∷ []) o [])
    revoked None = record {}
    revoked (Some key) = (record {}, record {})

    granted : (o : Option Grant) → AreWholeDrops (option_map_or (λ g. marks.Granted g ∷ []) o [])
    granted None = record {}
    granted (Some g) = (record {}, record {})

pub operation-calm : (q : QueuePair) (n : Numbered) (windows : ℕ) (m : LocalMarks) (refusal : Option OpRefusal) → q.requester.waiting ≡ false → KeepsCalm (operation_effects q n (record q { windows = windows }) m refusal)
operation-calm q n windows m (Some cause) awake = failure-calm MemoryManagement (Some cause) q
operation-calm q n windows m None awake = record { awake = awake; marks = whole-append (local_marks q m) _ (local-whole q m) (success-whole q.queue n.place n.request) }

pub timeout-calm : (silent : Bool) (q : QueuePair) → q.requester.waiting ≡ false → KeepsCalm (after_timeout silent q)
timeout-calm silent q awake = record { awake = retried.awake; marks = (record {}, retried.marks) }
  where
    counted : QueuePair
    counted = with_requester (record q.requester { timers = suc q.requester.timers }) q

    retried : KeepsCalm (one_retry q.requester.una counted)
    retried = retry-calm q.requester.una counted awake
