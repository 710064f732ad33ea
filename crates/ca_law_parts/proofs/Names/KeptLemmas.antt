-- What rows leave of a queue pair as it was: its names, its peer, and the requests that are posted.
use Rattle.std.proofs.Common.{◌≡◌, ℕ, suc, ◌+◌, ◌-◌, nat_le, nat_lt, Bool, true, false, List, [], ◌∷◌, length, Option, None, Some, subst, ◌&&◌, not, is_none, sym, ◌==◌, if◌then◌else◌, refl, slice_get, Result, Ok, Err, ◌∙◌}
use Rattle.std.specs.Option.{option_and_then, option_map_or, option_map}
use Rattle.ca_base.specs.declared.change.State.TheVariants as states
use Rattle.ca_base.specs.declared.completion.WcStatus.TheVariants.{BadResponse, LocalProtection, RetryExceeded, RnrRetryExceeded, LocalLength, MemoryManagement, Success}
use Rattle.ca_base.specs.declared.limits.TheConstants.{MAX_RETRY, MAX_DUPLICATES}
use Rattle.ca_base.specs.declared.refusals.OpRefusal.{OpRefusal}
use Rattle.ca_base.specs.declared.denied_ask.DeniedAsk.{DeniedAsk}
use Rattle.ca_base.specs.Sight.{Invalidation}
use Rattle.ca_base.specs.objects.Answers.{duplicate_count}
use Rattle.ca_base.specs.objects.QueuePair.{QueuePair}
use Rattle.ca_base.specs.objects.StateTable.{is_among}
use Rattle.ca_wire.specs.declared.syndrome.NakCode.{NakCode}
use Rattle.ca_wire.specs.declared.syndrome.NakCode.TheVariants.{PsnSequenceError, InvalidRequest, RemoteAccessError, RemoteOperationalError}
use Rattle.ca_wire.specs.declared.opcode.TheConstants.{ACKNOWLEDGE}
use Rattle.ca_wire.specs.Packet.{Fields}
use Rattle.ca_wire.specs.declared.syndrome.Syndrome.{Syndrome}
use Rattle.ca_wire.specs.declared.syndrome.Syndrome.TheVariants.{Ack, Nak, RnrNak}
use Rattle.ca_wire.specs.Syndrome.{syndrome_in, nak_code}
use Rattle.ca_model.specs.declared.mark.Drop1.{Drop1}
use Rattle.ca_model.specs.declared.mark.Drop1.TheVariants as drops
use Rattle.ca_model.specs.machine.Acknowledgements.{Acknowledgement, acknowledgement_below, and_then, failure_effects, first_unanswered, one_retry, progress_to, with_cursor, with_requester, with_una}
use Rattle.ca_model.specs.machine.Numbering.{Numbered, begun_requests, request_at}
use Rattle.ca_model.specs.machine.Requester.{local_denial, denied_list_effects, is_outstanding, is_too_much, packet_asks, packet_row, sent_packet}
use Rattle.ca_model.specs.machine.Responses.{acknowledge_row, answer_row, drop_effects, fits_request, fitting_row, is_outstanding_at, local_writes, nak_effects, outstanding_row, response_psn, response_row, rnr_nak_effects, unless_back, writes_by}
use Rattle.ca_model.specs.machine.Row.{NotPossible, Does, Effects, Row, plain_row, queue_and_marks, Ending}
use Rattle.ca_keys.specs.declared.access.Kind.{Kind}
use Rattle.ca_keys.specs.declared.key.Key.{Key}
use Rattle.ca_base.specs.declared.queue_numbers.Queued.{Queued}
use Rattle.ca_base.specs.declared.queue_numbers.Queued.TheVariants as queued
use Rattle.ca_base.specs.objects.Saved.{saved_at}
use Rattle.ca_base.specs.declared.request.PlacedReceive.{PlacedReceive}
use Rattle.ca_base.specs.objects.SharedReceives.{SharedReceives}
use Rattle.ca_psn.specs.Psn.{widened}
use Rattle.ca_wire.specs.declared.atomic_eth.AtomicEth.{AtomicEth}
use Rattle.ca_wire.specs.declared.reth.Reth.{Reth}
use Rattle.ca_wire.specs.declared.shape.Position.{Position}
use Rattle.ca_model.specs.Packets.{is_response}
use Rattle.ca_model.specs.Requests.{list_length, segments}
use Rattle.ca_model.specs.machine.Arrivals.{next_receive, refusal_effects, with_answer, with_flag, with_receive_taken, with_message}
use Rattle.ca_model.specs.machine.Duplicates.{ack_again, ahead_effects, answer_again, atomic_again, duplicate_effects, read_again, request_row}
use Rattle.ca_model.specs.declared.receiving.Receiving.{Receiving}
use Rattle.ca_model.specs.declared.write_reach.WriteReach.{WriteReach}
use Rattle.ca_model.specs.machine.Expected.{after_send_packet, atomic_row, behind_marks, expected_row, invalidation_of, is_invalid, read_queued, receive_asks, receive_failure_effects, receiving_of, revoked_marks, rnr_effects, send_row, takes_receive, valid_row, with_shared_receive, with_window_gone, write_reach, write_row, message_left, queue_after_packet}
use Rattle.ca_wire.specs.declared.shape.Shape.{Shape}
use Rattle.ca_wire.specs.declared.shape.Shape.TheVariants as shapes
use Rattle.ca_wire.specs.Table.{shape_of}
use Rattle.ca_base.specs.declared.step.Reason.{Reason}
use Rattle.ca_base.specs.declared.step.Reason.TheVariants as reasons
use Rattle.ca_keys.specs.Refusals.{first_of}
use Rattle.ca_wire.specs.declared.wire_error.WireError.{WireError}
use Rattle.ca_wire.specs.Decoding.{packet_in}
use Rattle.ca_model.specs.machine.Delivery.{arrival_drops, arrival_row, packet_arrived}
use Rattle.ca_model.specs.declared.read_left.ReadLeft.{ReadLeft}
use Rattle.ca_model.specs.machine.Respond.{answer_turn, respond_refusals, respond_row, is_last_response, rest_of, with_front, without_front}
use Rattle.ca_model.specs.machine.LocalOperations.{invalidate_row, operation_effects}
use Rattle.ca_base.specs.declared.completion.WcOp.TheVariants as operations
use Rattle.ca_base.specs.declared.queue_numbers.Message.{Message}
use Rattle.ca_base.specs.declared.queue_numbers.Message.TheVariants as messages
use Rattle.ca_wire.specs.Shapes.{ends}
use Rattle.ca_model.specs.machine.Completions.{receive_mark}
use Rattle.ca_law_world.proofs.Sound.WorldLemmas.{EndingDoes, RowDoes}
use Rattle.ca_keys.specs.declared.names.DomainId.{DomainId}
use Rattle.ca_keys.specs.declared.names.QueueId.{QueueId}
use Rattle.ca_base.specs.declared.correspondent.Correspondent.{Correspondent}
use Rattle.ca_base.specs.declared.request.PostedSend.{PostedSend}
use Rattle.ca_base.specs.objects.LocalRequest.{LocalMarks}
use Rattle.ca_base.specs.objects.WorkQueue.{WorkQueue}
use Rattle.ca_model.specs.machine.Timers.{after_timeout}

-- what a turn of an engine leaves of a queue pair: its names, its peer, and the requests that are posted
pub record Kept : Type 0 where
  pub queue : QueueId
  pub domain : DomainId
  pub send_cq : ℕ
  pub recv_cq : ℕ
  pub srq : Option ℕ
  pub peer : Option Correspondent
  pub sends : WorkQueue PostedSend

abbrev pub kept_of : QueuePair → Kept
kept_of q = record { queue = q.queue; domain = q.domain; send_cq = q.send_cq; recv_cq = q.recv_cq; srq = q.srq; peer = q.peer; sends = q.sends }

abbrev pub Keeps : QueuePair → Effects → Type 0
Keeps q e = kept_of e.queue ≡ kept_of q

abbrev pub RowKeeps : QueuePair → Row → Type 0
RowKeeps q row = RowDoes (Keeps q) row

plain-keeps : (q : QueuePair) (e : Effects) → Keeps q e → RowKeeps q (plain_row (Does e))
plain-keeps q e same = record { denied = λ d. same; allowed = λ bytes refusal. same }

gone-kept : (i : Option Invalidation) (q : QueuePair) → kept_of (with_window_gone i q) ≡ kept_of q
gone-kept None q = refl
gone-kept (Some i) q = refl

una-kept : (psn : ℕ) (q : QueuePair) → kept_of (with_una psn q) ≡ kept_of q
una-kept psn q = by (nat_lt q.requester.una psn)
  where
    by : (b : Bool) → kept_of (if b then with_requester (record q.requester { una = psn; retries = 0; rnrs = 0 }) q else q) ≡ kept_of q
    by true = refl
    by false = refl

pub progress-kept : (psn : ℕ) (q : QueuePair) → kept_of (progress_to psn q).queue ≡ kept_of q
progress-kept psn q = una-kept psn q

pub retry-kept : (psn : ℕ) (q : QueuePair) → kept_of (one_retry psn q).queue ≡ kept_of q
retry-kept psn q = by (nat_le q.requester.retry q.requester.retries)
  where
    counted : QueuePair
    counted = with_requester (record q.requester { retries = suc q.requester.retries }) q

    by : (b : Bool) → kept_of (if b then failure_effects RetryExceeded None counted else queue_and_marks (with_cursor psn counted) []).queue ≡ kept_of q
    by true = refl
    by false = refl

below-kept : (psn : ℕ) (q : QueuePair) → kept_of (acknowledgement_below psn q).effects.queue ≡ kept_of q
below-kept psn q = by (first_unanswered q.requester.una psn (begun_requests q))
  where
    after : Option ℕ → Acknowledgement
    after None = record { effects = progress_to psn q; went_back = false }
    after (Some back) = record { effects = and_then (progress_to back q) (one_retry back); went_back = true }

    by : (back : Option ℕ) → kept_of (after back).effects.queue ≡ kept_of q
    by None = progress-kept psn q
    by (Some back) = retry-kept back (progress_to back q).queue ∙ progress-kept back q

back-kept : (q : QueuePair) (a : Acknowledgement) (f : QueuePair → Effects) → kept_of a.effects.queue ≡ kept_of q → kept_of (f a.effects.queue).queue ≡ kept_of a.effects.queue
    → kept_of (unless_back a f).queue ≡ kept_of q
back-kept q a f one other = by a.went_back
  where
    by : (b : Bool) → kept_of (if b then a.effects else and_then a.effects f).queue ≡ kept_of q
    by true = one
    by false = other ∙ one

rnr-kept : (psn : ℕ) (q : QueuePair) → kept_of (rnr_nak_effects psn q).queue ≡ kept_of q
rnr-kept psn q = by (nat_lt q.requester.rnr_retry MAX_RETRY && nat_le q.requester.rnr_retry q.requester.rnrs)
  where
    counted : QueuePair
    counted = with_requester (record q.requester { rnrs = suc q.requester.rnrs }) q

    by : (b : Bool) → kept_of (if b then failure_effects RnrRetryExceeded None counted
        else queue_and_marks (with_requester (record counted.requester { cursor = psn; waiting = true }) q) []).queue ≡ kept_of q
    by true = refl
    by false = refl

nak-kept : (psn : ℕ) (code : NakCode) (q : QueuePair) → kept_of (nak_effects psn code q).queue ≡ kept_of q
nak-kept psn PsnSequenceError q = retry-kept psn q
nak-kept psn InvalidRequest q = refl
nak-kept psn RemoteAccessError q = refl
nak-kept psn RemoteOperationalError q = refl

acknowledge-kept : (psn : ℕ) (syndrome : Option Syndrome) (q : QueuePair) → kept_of (acknowledge_row psn syndrome q).queue ≡ kept_of q
acknowledge-kept psn (Some (Ack credits)) q = below-kept (suc psn) q
acknowledge-kept psn (Some (RnrNak timer)) q =
    back-kept q (acknowledgement_below psn q) (rnr_nak_effects psn) (below-kept psn q) (rnr-kept psn (acknowledgement_below psn q).effects.queue)
acknowledge-kept psn (Some (Nak code)) q =
    back-kept q (acknowledgement_below psn q) (nak_effects psn code) (below-kept psn q) (nak-kept psn code (acknowledgement_below psn q).effects.queue)
acknowledge-kept psn None q = refl

answer-keeps : (psn : ℕ) (p : Fields) (q : QueuePair) (before : Effects) (n : Numbered) → kept_of before.queue ≡ kept_of q → RowKeeps q (answer_row psn p before n)
answer-keeps psn p q before n same = record {
  denied = λ d. same;
  allowed = λ bytes refusal. progress-kept (suc psn) before.queue ∙ same;
}

fitting-keeps : (psn : ℕ) (p : Fields) (q : QueuePair) (a : Acknowledgement) → kept_of a.effects.queue ≡ kept_of q → RowKeeps q (fitting_row psn p a)
fitting-keeps psn p q a same = back a.went_back
  where
    bad : Row
    bad = plain_row (Does (and_then a.effects (failure_effects BadResponse None)))

    at : Option Numbered → Row
    at None = bad
    at (Some n) = if fits_request psn p a.effects.queue n then answer_row psn p a.effects n else bad

    is_bad : RowKeeps q bad
    is_bad = plain-keeps q (and_then a.effects (failure_effects BadResponse None)) same

    fits : (n : Numbered) (b : Bool) → RowKeeps q (if b then answer_row psn p a.effects n else bad)
    fits n true = answer-keeps psn p q a.effects n same
    fits n false = is_bad

    by : (n : Option Numbered) → RowKeeps q (at n)
    by None = is_bad
    by (Some n) = fits n (fits_request psn p a.effects.queue n)

    back : (b : Bool) → RowKeeps q (if b then plain_row (Does a.effects) else at (request_at psn a.effects.queue))
    back true = plain-keeps q a.effects same
    back false = by (request_at psn a.effects.queue)

response-keeps : (p : Fields) (q : QueuePair) → RowKeeps q (response_row p q)
response-keeps p q = by (is_among (states.Rts ∷ states.Sqd ∷ []) q.state)
  where
    psn : ℕ
    psn = response_psn q p

    opcode : (b : Bool) → RowKeeps q (if b then plain_row (Does (acknowledge_row psn (option_and_then (λ a. syndrome_in a.syndrome) p.aeth) q))
        else fitting_row psn p (acknowledgement_below psn q))
    opcode true = plain-keeps q _ (acknowledge-kept psn (option_and_then (λ a. syndrome_in a.syndrome) p.aeth) q)
    opcode false = fitting-keeps psn p q (acknowledgement_below psn q) (below-kept psn q)

    there : (b : Bool) → RowKeeps q (if not b then plain_row (Does (drop_effects q drops.Stale)) else outstanding_row psn p q)
    there true = opcode (p.opcode == ACKNOWLEDGE)
    there false = plain-keeps q (drop_effects q drops.Stale) refl

    by : (b : Bool) → RowKeeps q (if not b then plain_row (Does (drop_effects q drops.State))
        else if not (is_outstanding_at psn q) then plain_row (Does (drop_effects q drops.Stale)) else outstanding_row psn p q)
    by true = there (is_outstanding_at psn q)
    by false = plain-keeps q (drop_effects q drops.State) refl

-- what a SEND packet does, with its receive
took-kept : (q : QueuePair) (b : Bool) (e : Effects) (k : Kept) → kept_of e.queue ≡ k → kept_of (if b then with_shared_receive q e else e).queue ≡ k
took-kept q true e k same = same
took-kept q false e k same = same

send-keeps : (before : QueuePair) (p : Fields) (place : Position) (r : Receiving) (q : QueuePair) → (if r.taken then with_receive_taken before else before) ≡ q → kept_of q ≡ kept_of before → RowKeeps before (send_row before p place r)
send-keeps before p place r q is same = subst (λ x. RowKeeps before (row_of x (nat_lt (list_length r.receive.receive.list.items) (r.before + length p.payload)))) (sym is)
    (by (nat_lt (list_length r.receive.receive.list.items) (r.before + length p.payload)))
  where
    took : QueuePair → Effects → Effects
    took q e = if r.taken then with_shared_receive q e else e

    ended : QueuePair → Option OpRefusal → Effects
    ended q (Some cause) = receive_failure_effects q r.receive MemoryManagement (Some cause) RemoteOperationalError
    ended q None = behind_marks (revoked_marks q (invalidation_of q p)) (after_send_packet (with_window_gone (invalidation_of q p) q) p place r)

    row_of : QueuePair → Bool → Row
    row_of q b =
        if b then plain_row (Does (took q (receive_failure_effects q r.receive LocalLength None InvalidRequest)))
        else record {
          asks = receive_asks q p r;
          invalidation = invalidation_of q p;
          denied = λ d. Does (took q (behind_marks (local_denial d ∷ []) (receive_failure_effects q r.receive LocalProtection None RemoteOperationalError)));
          allowed = λ bytes refusal. Does (took q (record (behind_marks (local_writes (writes_by (receive_asks q p r) p.payload)) (ended q refusal)) { writes = writes_by (receive_asks q p r) p.payload }));
        }

    packet : (q : QueuePair) → kept_of (after_send_packet q p place r).queue ≡ kept_of q
    packet q = at (ends place)
      where
        at : (b : Bool) → kept_of (if b
            then queue_and_marks (with_message None (queue_after_packet p 1 true true q))
            (receive_mark q.queue r.receive.place r.receive.receive Success operations.Recv (r.before + length p.payload) p.imm (option_map (λ key. record { 0 = key }) p.ieth) ∷ [])
            else queue_and_marks (with_message (Some (messages.Send r.receive.place r.receive.receive (r.before + length p.payload))) (queue_after_packet p 1 false true q)) []).queue ≡ kept_of q
        at true = refl
        at false = refl

    by : (b : Bool) → RowKeeps before (row_of q b)
    by true = record { denied = λ d. took-kept q r.taken _ (kept_of before) same; allowed = λ bytes refusal. took-kept q r.taken _ (kept_of before) same }
    by false = record { denied = λ d. took-kept q r.taken _ (kept_of before) same; allowed = λ bytes refusal. took-kept q r.taken _ (kept_of before) (at refusal) }
      where
        at : (refusal : Option OpRefusal) → kept_of (ended q refusal).queue ≡ kept_of before
        at None = packet (with_window_gone (invalidation_of q p) q) ∙ gone-kept (invalidation_of q p) q ∙ same
        at (Some cause) = same

write-keeps : (q : QueuePair) (p : Fields) (envelope : Option ℕ) (place : Position) (next : Option PlacedReceive) (r : WriteReach) → RowKeeps q (write_row q p envelope place next r)
write-keeps q p envelope place next r = record { denied = λ d. refl; allowed = λ bytes refusal. at (ends place) }
  where
    done : QueuePair → QueuePair
    done q = with_message None (queue_after_packet p 1 true true q)

    by : Option ℕ → Option PlacedReceive → Effects
    by (Some imm) (Some receive) = with_shared_receive q (queue_and_marks (done (with_receive_taken q))
        (receive_mark q.queue receive.place receive.receive Success operations.RecvImm r.whole (Some imm) None ∷ []))
    by imm next = queue_and_marks (done q) []

    immediate : (imm : Option ℕ) (next : Option PlacedReceive) → kept_of (by imm next).queue ≡ kept_of q
    immediate (Some imm) (Some receive) = refl
    immediate (Some imm) None = refl
    immediate None next = refl

    at : (b : Bool) → kept_of (if b then by p.imm next else queue_and_marks (with_message (Some (message_left r (length p.payload))) (queue_after_packet p 1 false true q)) []).queue ≡ kept_of q
    at true = immediate p.imm next
    at false = refl

atomic-keeps : (q : QueuePair) (p : Fields) (envelope : Option ℕ) (kind : Kind) (a : AtomicEth) → RowKeeps q (atomic_row q p envelope kind a)
atomic-keeps q p envelope kind a = record { denied = λ d. refl; allowed = λ bytes refusal. refl }

refused-keeps : (code : NakCode) (q : QueuePair) → RowKeeps q (plain_row (Does (refusal_effects code q)))
refused-keeps code q = plain-keeps q (refusal_effects code q) refl

valid-keeps : (q : QueuePair) (p : Fields) (envelope : Option ℕ) (next : Option PlacedReceive) (shape : Shape) → RowKeeps q (valid_row q p envelope next shape)
valid-keeps q p envelope next (shapes.Send place) = by q.responder.message
  where
    row : Option Receiving → Row
    row (Some r) = send_row q p place r
    row None = plain_row (Does (refusal_effects InvalidRequest q))

    start : (o : Option PlacedReceive) → RowKeeps q (row (option_map (λ r. record { receive = r; before = 0; taken = true }) o))
    start None = refused-keeps InvalidRequest q
    start (Some r) = send-keeps q p place (record { receive = r; before = 0; taken = true }) (with_receive_taken q) refl refl

    by : (m : Option Message) → RowKeeps q (row (receiving_of q next m))
    by None = start next
    by (Some (messages.Write key address left count)) = start next
    by (Some (messages.Send at receive bytes)) = send-keeps q p place (record { receive = record { place = at; receive = receive }; before = bytes; taken = false }) q refl refl
valid-keeps q p envelope next (shapes.Write place) = by (write_reach q p)
  where
    row : Option WriteReach → Row
    row (Some r) = write_row q p envelope place next r
    row None = plain_row (Does (refusal_effects InvalidRequest q))

    by : (o : Option WriteReach) → RowKeeps q (row o)
    by (Some r) = write-keeps q p envelope place next r
    by None = refused-keeps InvalidRequest q
valid-keeps q p envelope next shapes.Read = by p.reth
  where
    row : Option Reth → Row
    row (Some h) = plain_row (Does (read_queued q p envelope h))
    row None = plain_row (Does (refusal_effects InvalidRequest q))

    by : (o : Option Reth) → RowKeeps q (row o)
    by (Some h) = plain-keeps q (read_queued q p envelope h) refl
    by None = refused-keeps InvalidRequest q
valid-keeps q p envelope next (shapes.Atomic kind) = by p.atomic
  where
    row : Option AtomicEth → Row
    row (Some a) = atomic_row q p envelope kind a
    row None = plain_row (Does (refusal_effects InvalidRequest q))

    by : (o : Option AtomicEth) → RowKeeps q (row o)
    by (Some a) = atomic-keeps q p envelope kind a
    by None = refused-keeps InvalidRequest q

-- a row of the queue pair after a change that leaves these
keeps-from : (q p : QueuePair) (row : Row) → kept_of p ≡ kept_of q → RowKeeps p row → RowKeeps q row
keeps-from q p row same keeps = record { denied = λ d. on (row.denied d) (keeps.denied d); allowed = λ bytes refusal. on (row.allowed bytes refusal) (keeps.allowed bytes refusal) }
  where
    on : (e : Ending) → EndingDoes (Keeps p) e → EndingDoes (Keeps q) e
    on (NotPossible reason) is = record {}
    on (Does e) is = is ∙ same

expected-keeps : (before : QueuePair) (shared : Option SharedReceives) (p : Fields) (envelope : Option ℕ) (shape : Shape) → RowKeeps before (expected_row before shared p envelope shape)
expected-keeps before shared p envelope shape = keeps-from before q (expected_row before shared p envelope shape) refl (by (is_invalid q p shape))
  where
    q : QueuePair
    q = with_flag false before

    waits : (b : Bool) → RowKeeps q (if b then plain_row (Does (rnr_effects q)) else valid_row q p envelope (next_receive q shared) shape)
    waits true = plain-keeps q (rnr_effects q) refl
    waits false = valid-keeps q p envelope (next_receive q shared) shape

    by : (b : Bool) → RowKeeps q (
        if b then plain_row (Does (refusal_effects InvalidRequest q))
        else if takes_receive p shape && is_none (next_receive q shared) then plain_row (Does (rnr_effects q))
        else valid_row q p envelope (next_receive q shared) shape)
    by true = refused-keeps InvalidRequest q
    by false = waits (takes_receive p shape && is_none (next_receive q shared))

ahead-kept : (q : QueuePair) → kept_of (ahead_effects q).queue ≡ kept_of q
ahead-kept q = by q.responder.nak_sent
  where
    by : (b : Bool) → kept_of (if b then drop_effects q drops.Stale
        else queue_and_marks (with_flag true (with_answer (queued.Nak q.responder.expected (nak_code PsnSequenceError)) q)) []).queue ≡ kept_of q
    by true = refl
    by false = refl

duplicate-kept : (psn : ℕ) (p : Fields) (envelope : Option ℕ) (shape : Shape) (q : QueuePair) → kept_of (duplicate_effects psn p envelope shape q).queue ≡ kept_of q
duplicate-kept psn p envelope shape q = at (nat_le MAX_DUPLICATES (duplicate_count q.responder.answers))
  where
    acks : (b : Bool) → kept_of (if b then queue_and_marks (with_answer (queued.Ack (q.responder.expected - 1)) q) [] else drop_effects q drops.Unsaved).queue ≡ kept_of q
    acks true = refl
    acks false = refl

    within : (h : Reth) (b : Bool) → kept_of (if b then answer_again psn (queued.Read psn h.key h.address h.length true envelope true) q else drop_effects q drops.Unsaved).queue ≡ kept_of q
    within h true = refl
    within h false = refl

    reads : (o : Option Reth) → kept_of (option_map_or (λ h. read_again psn envelope h q) o (drop_effects q drops.Unsaved)).queue ≡ kept_of q
    reads None = refl
    reads (Some h) = within h (nat_le (psn + segments q.responder.mtu h.length) q.responder.expected)

    atomics : (o : Option ℕ) → kept_of (atomic_again psn o q).queue ≡ kept_of q
    atomics None = refl
    atomics (Some found) = refl

    effects : Shape → Effects
    effects (shapes.Send place) = ack_again q
    effects (shapes.Write place) = ack_again q
    effects shapes.Read = option_map_or (λ h. read_again psn envelope h q) p.reth (drop_effects q drops.Unsaved)
    effects (shapes.Atomic kind) = atomic_again psn (saved_at psn q.saved) q

    by : (shape : Shape) → kept_of (effects shape).queue ≡ kept_of q
    by (shapes.Send place) = acks (length q.responder.answers == 0)
    by (shapes.Write place) = acks (length q.responder.answers == 0)
    by shapes.Read = reads p.reth
    by (shapes.Atomic kind) = atomics (saved_at psn q.saved)

    at : (b : Bool) → kept_of (if b then drop_effects q drops.Unsaved else effects shape).queue ≡ kept_of q
    at true = refl
    at false = by shape

request-keeps : (p : Fields) (envelope : Option ℕ) (shared : Option SharedReceives) (shape : Shape) (q : QueuePair) → RowKeeps q (request_row p envelope shared shape q)
request-keeps p envelope shared shape q = by (widened q.responder.expected p.psn)
  where
    before : (psn : ℕ) (b : Bool) → RowKeeps q (if b then plain_row (Does (duplicate_effects psn p envelope shape q)) else expected_row q shared p envelope shape)
    before psn true = plain-keeps q _ (duplicate-kept psn p envelope shape q)
    before psn false = expected-keeps q shared p envelope shape

    ahead : (psn : ℕ) (b : Bool) → RowKeeps q (
        if b then plain_row (Does (ahead_effects q))
        else if nat_lt psn q.responder.expected then plain_row (Does (duplicate_effects psn p envelope shape q))
        else expected_row q shared p envelope shape)
    ahead psn true = plain-keeps q _ (ahead-kept q)
    ahead psn false = before psn (nat_lt psn q.responder.expected)

    by : (psn : ℕ) → RowKeeps q (
        if nat_lt q.responder.expected psn then plain_row (Does (ahead_effects q))
        else if nat_lt psn q.responder.expected then plain_row (Does (duplicate_effects psn p envelope shape q))
        else expected_row q shared p envelope shape)
    by psn = ahead psn (nat_lt q.responder.expected psn)

pub arrival-keeps : (bytes : List ℕ) (envelope : Option ℕ) (shared : Option SharedReceives) (q : QueuePair) → RowKeeps q (arrival_row bytes envelope shared q)
arrival-keeps bytes envelope shared q = by (packet_in bytes)
  where
    shaped : Fields → Option Shape → Row
    shaped p (Some shape) = request_row p envelope shared shape q
    shaped p None = plain_row (Does (drop_effects q drops.State))

    requests : (p : Fields) (o : Option Shape) → RowKeeps q (shaped p o)
    requests p (Some shape) = request-keeps p envelope shared shape q
    requests p None = plain-keeps q (drop_effects q drops.State) refl

    kinds : (p : Fields) (b : Bool) → RowKeeps q (if b then response_row p q else shaped p (shape_of p.opcode))
    kinds p true = response-keeps p q
    kinds p false = requests p (shape_of p.opcode)

    dropped : Fields → Option Drop1 → Row
    dropped p (Some cause) = plain_row (Does (drop_effects q cause))
    dropped p None = packet_arrived p envelope shared q

    unless : (p : Fields) (o : Option Drop1) → RowKeeps q (dropped p o)
    unless p (Some cause) = plain-keeps q (drop_effects q cause) refl
    unless p None = kinds p (is_response p.opcode)

    row : Result Fields WireError → Row
    row (Err error) = plain_row (Does (drop_effects q (drops.Wire error)))
    row (Ok p) = dropped p (first_of (arrival_drops q p))

    by : (r : Result Fields WireError) → RowKeeps q (row r)
    by (Err error) = plain-keeps q (drop_effects q (drops.Wire error)) refl
    by (Ok p) = unless p (first_of (arrival_drops q p))

pub respond-keeps : (room : Bool) (q : QueuePair) → RowKeeps q (respond_row room q)
respond-keeps room q = by (first_of (respond_refusals room q)) (slice_get q.responder.answers 0)
  where
    front : Option Reason → Option Queued → Row
    front (Some reason) answer = plain_row (NotPossible reason)
    front None None = plain_row (NotPossible reasons.Empty)
    front None (Some answer) = answer_turn q answer

    left : (r : ReadLeft) (b : Bool) → kept_of (if b then without_front q else with_front (rest_of q r) q) ≡ kept_of q
    left r true = refl
    left r false = refl

    turn : (a : Queued) → RowKeeps q (answer_turn q a)
    turn (queued.Ack psn) = record { denied = λ d. refl; allowed = λ bytes refusal. refl }
    turn (queued.Rnr psn) = record { denied = λ d. refl; allowed = λ bytes refusal. refl }
    turn (queued.Nak psn code) = record { denied = λ d. refl; allowed = λ bytes refusal. refl }
    turn (queued.Read psn key address part first envelope duplicate) = record { denied = λ d. refl; allowed = λ bytes refusal. left r (is_last_response q r) }
      where
        r : ReadLeft
        r = record { psn = psn; key = key; address = address; left = part; first = first; envelope = envelope; duplicate = duplicate }
    turn (queued.Atomic psn found duplicate) = record { denied = λ d. refl; allowed = λ bytes refusal. refl }

    by : (o : Option Reason) (a : Option Queued) → RowKeeps q (front o a)
    by (Some reason) a = record { denied = λ d. record {}; allowed = λ bytes refusal. record {} }
    by None None = record { denied = λ d. record {}; allowed = λ bytes refusal. record {} }
    by None (Some a) = turn a

pub packet-keeps : (q : QueuePair) (room : Bool) (n : Numbered) → RowKeeps q (packet_row q room n)
packet-keeps q room n = by (is_too_much q n)
  where
    row : Row
    row = record {
      asks = packet_asks q n;
      invalidation = None;
      denied = λ d.
          if is_outstanding q then NotPossible reasons.Outstanding
          else if not room then NotPossible reasons.NoRoom
          else Does (denied_list_effects q d);
      allowed = λ bytes refusal. if not room then NotPossible reasons.NoRoom else Does (sent_packet q n bytes);
    }

    denied : (d : DeniedAsk) (b z : Bool) → EndingDoes (Keeps q) (if b then NotPossible reasons.Outstanding else if not z then NotPossible reasons.NoRoom else Does (denied_list_effects q d))
    denied d true z = record {}
    denied d false true = refl
    denied d false false = record {}

    allowed : (bytes : List (List ℕ)) (refusal : Option OpRefusal) (z : Bool)
        → EndingDoes (Keeps q) (if not z then NotPossible reasons.NoRoom else Does (sent_packet q n bytes))
    allowed bytes refusal true = refl
    allowed bytes refusal false = record {}

    by : (b : Bool) → RowKeeps q (if b then plain_row (NotPossible reasons.Outstanding) else row)
    by true = record { denied = λ d. record {}; allowed = λ bytes refusal. record {} }
    by false = record { denied = λ d. denied d (is_outstanding q) room; allowed = λ bytes refusal. allowed bytes refusal room }

pub operation-kept : (q after : QueuePair) (n : Numbered) (m : LocalMarks) (refusal : Option OpRefusal) → kept_of after ≡ kept_of q → Keeps q (operation_effects q n after m refusal)
operation-kept q after n m None same = same
operation-kept q after n m (Some cause) same = refl

pub invalidate-keeps : (q : QueuePair) (n : Numbered) (key : Key) → RowKeeps q (invalidate_row q n key)
invalidate-keeps q n key = record {
  denied = λ d. refl;
  allowed = λ bytes refusal. operation-kept q (with_window_gone i q) n (record { revoked = Some key; granted = None }) refusal (gone-kept i q);
}
  where
    i : Option Invalidation
    i = Some (record { queue = q.queue; domain = q.domain; key = key })

pub timeout-keeps : (q : QueuePair) (silent : Bool) → Keeps q (after_timeout silent q)
timeout-keeps q silent = retry-kept q.requester.una (with_requester (record q.requester { timers = suc q.requester.timers }) q)
