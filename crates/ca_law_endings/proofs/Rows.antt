-- Each row of the machine is one touch of keys and of memory between moves of its queue pair.
use Rattle.std.proofs.Common.{◌≡◌, ℕ, suc, ◌+◌, ◌-◌, ◌==◌, ◌&&◌, ◌||◌, nat_le, nat_lt, arith, Bool, true, false, not, if◌then◌else◌, List, [], ◌∷◌, ◌++◌, length, map, Option, None, Some, is_none, slice_get, refl, sym, ap, subst, ◌∙◌, true≢false, append_assoc}
use Rattle.std.proofs.lemmas.Bool.Decides.{nat_tests}
use Rattle.std.specs.List.{flat_map}
use Rattle.std.specs.Option.{option_and_then, option_map, option_map_or}
use Rattle.ca_base.specs.Sight.{Invalidation, Sight, bytes_in, first_denied}
use Rattle.ca_base.specs.declared.completion.WcOp.TheVariants as operations
use Rattle.ca_base.specs.declared.completion.WcStatus.{WcStatus}
use Rattle.ca_base.specs.declared.completion.WcStatus.TheVariants.{BadResponse, LocalLength, LocalProtection, MemoryManagement, RemoteAccess, RemoteInvalidRequest, RemoteOperation, RetryExceeded, RnrRetryExceeded, Success}
use Rattle.ca_base.specs.declared.denied_ask.DeniedAsk.{DeniedAsk}
use Rattle.ca_base.specs.declared.limits.TheConstants.{ATOMIC_BYTES, MAX_DUPLICATES, MAX_MESSAGE_BYTES, MAX_RETRY}
use Rattle.ca_base.specs.declared.queue_numbers.Message.TheVariants as messages
use Rattle.ca_base.specs.declared.queue_numbers.Queued.{Queued}
use Rattle.ca_base.specs.declared.queue_numbers.Queued.TheVariants as queued
use Rattle.ca_base.specs.declared.refusals.OpRefusal.{OpRefusal}
use Rattle.ca_base.specs.declared.request.PlacedReceive.{PlacedReceive}
use Rattle.ca_base.specs.declared.step.Reason.{Reason}
use Rattle.ca_base.specs.declared.step.Reason.TheVariants as reasons
use Rattle.ca_base.specs.objects.Answers.{duplicate_count}
use Rattle.ca_base.specs.objects.QueuePair.{QueuePair}
use Rattle.ca_law_endings.proofs.LeadsLemmas.{comes}
use Rattle.ca_law_endings.specs.Runs.{Comes, Leads}
use Rattle.ca_base.specs.Configuration.{Configuration}
use Rattle.ca_base.specs.objects.Saved.{after_save, saved_at}
use Rattle.ca_base.specs.objects.SharedReceives.{SharedReceives}
use Rattle.ca_keys.specs.Memory.{little_endian, little_endian_bytes}
use Rattle.ca_keys.specs.Refusals.{first_of}
use Rattle.ca_keys.specs.declared.access.Ask.{Ask}
use Rattle.ca_keys.specs.declared.access.Kind.{Kind}
use Rattle.ca_keys.specs.declared.access.Kind.TheVariants as kinds
use Rattle.ca_keys.specs.declared.verdict.Verdict.TheVariants as verdicts
use Rattle.ca_law_world.proofs.Sound.RowWalks.{walk-arrival, walk-expected, walk-fitting, walk-request, walk-response, walk-valid}
use Rattle.ca_law_world.proofs.Sound.WorldLemmas.{EndingDoes}
use Rattle.ca_model.specs.Packets.{number_put}
use Rattle.ca_model.specs.Requests.{list_length, list_of, segments}
use Rattle.ca_model.specs.declared.mark.Drop1.{Drop1}
use Rattle.ca_model.specs.declared.mark.Drop1.TheVariants as drops
use Rattle.ca_model.specs.declared.mark.Mark.{Mark}
use Rattle.ca_model.specs.declared.mark.Mark.TheVariants as marks
use Rattle.ca_model.specs.declared.read_left.ReadLeft.{ReadLeft}
use Rattle.ca_model.specs.declared.receiving.Receiving.{Receiving}
use Rattle.ca_model.specs.declared.write_reach.WriteReach.{WriteReach}
use Rattle.ca_model.specs.machine.Acknowledgements.{Acknowledgement, acknowledgement_below, and_then, failure_effects, first_unanswered, one_retry, progress_to, with_cursor, with_requester}
use Rattle.ca_model.specs.machine.Arrivals.{next_receive, packet_ask, refusal_effects, remote_mark, with_answer, with_flag, with_message, with_receive_taken}
use Rattle.ca_model.specs.machine.Completions.{flush_marks, receive_completion, receive_mark}
use Rattle.ca_model.specs.machine.Delivery.{arrival_row}
use Rattle.ca_model.specs.machine.Duplicates.{ack_again, ahead_effects, answer_again, atomic_again, duplicate_effects, read_again, with_answers_before}
use Rattle.ca_model.specs.machine.Expected.{after_send_packet, after_write_packet, atomic_row, behind_marks, continues, expected_row, fits_left, fits_payload, fits_write, has_no_place, invalidation_of, is_invalid, is_misaligned, message_left, queue_after_packet, read_queued, receive_asks, receive_failure_effects, revoked_marks, rnr_effects, send_row, with_shared_receive, with_window_gone, write_reach, write_row}
use Rattle.ca_model.specs.machine.Numbering.{Numbered, begun_requests}
use Rattle.ca_model.specs.machine.Requester.{denied_list_effects, is_outstanding, is_too_much, local_denial, packet_asks, packet_row, sent_packet}
use Rattle.ca_model.specs.machine.Respond.{answer_turn, is_last_response, respond_refusals, respond_row, response_ask, response_length, rest_of, with_front, without_front}
use Rattle.ca_model.specs.machine.Responses.{acknowledge_row, answer_asks, answer_bytes, answer_row, drop_effects, fitting_row, response_psn, response_row, local_writes, nak_effects, rnr_nak_effects, segment_at, unless_back, writes_by}
use Rattle.ca_model.proofs.PerformLemmas.{row-performs}
use Rattle.ca_model.specs.machine.Plan.{Plan, Update, Write}
use Rattle.ca_model.specs.machine.Row.{Does, Effects, Ending, NotPossible, Row, Row_plan, ending_of, plain_row, queue_and_marks, unless_none}
use Rattle.ca_model.specs.machine.Seen.{ending_changes, perform_ending, refusal_in, row_changes, sight_in, writes_in}
use Rattle.ca_model.specs.machine.Timers.{after_timeout}
use Rattle.ca_model.specs.machine.World.{World}
use Rattle.ca_law_endings.proofs.Leading.{leads-from}
use Rattle.ca_wire.specs.Packet.{Fields}
use Rattle.ca_wire.specs.Shapes.{ends}
use Rattle.ca_wire.specs.declared.atomic_eth.AtomicEth.{AtomicEth}
use Rattle.ca_wire.specs.declared.reth.Reth.{Reth}
use Rattle.ca_wire.specs.declared.shape.Position.{Position}
use Rattle.ca_wire.specs.declared.shape.Shape.{Shape}
use Rattle.ca_wire.specs.declared.shape.Shape.TheVariants as shapes
use Rattle.ca_wire.specs.Syndrome.{nak_code, syndrome_in}
use Rattle.ca_base.specs.declared.queue_numbers.ResponderNumbers.{ResponderNumbers}
use Rattle.ca_base.specs.declared.saved_result.SavedResult.{SavedResult}
use Rattle.ca_wire.specs.declared.syndrome.NakCode.{NakCode}
use Rattle.ca_wire.specs.declared.syndrome.NakCode.TheVariants.{InvalidRequest, PsnSequenceError, RemoteAccessError, RemoteOperationalError}
use Rattle.ca_wire.specs.declared.syndrome.Syndrome.{Syndrome}
use Rattle.ca_wire.specs.declared.syndrome.Syndrome.TheVariants.{Ack, Nak, RnrNak}
use Rattle.ca_law_endings.proofs.Moves.{Answers, Counts, Drops, Empties, Fails, Fires, ListDenied, ListEnds, ListWritten, Moves, Nothing, Progresses, Receives, Refuses, RemoteDenied, RemoteRead, RemoteSwapped, RemoteWrote, RemoteWroteNone, RowEnds, Stays, Takes, Then, Touch}

-- the key that a row ends, where all its asks are allowed: that of its invalidation, if it is not refused
abbrev pub key_ended : Sight → Option Invalidation → Option Invalidation
key_ended s None = None
key_ended s (Some i) = if is_none (s.refusal i) then Some i else None

-- the key that a row ends
abbrev pub gone : Sight → Row → Option Invalidation
gone s row = by (first_denied s row.asks)
  where
    by : Option DeniedAsk → Option Invalidation
    by (Some d) = None
    by None = key_ended s row.invalidation

-- a row ends in these effects, and ends this key
pub record Ended (s : Sight) (row : Row) (i : Option Invalidation) (e : Effects) : Type 0 where
  pub does : ending_of s row ≡ Does e
  pub key : gone s row ≡ i

-- both ends of a row are such
pub record RowMoves (s : Sight) (q : QueuePair) (row : Row) : Type 0 where
  pub denied : (d : DeniedAsk) → first_denied s row.asks ≡ Some d → EndingDoes (RowEnds s q None) (row.denied d)
  pub allowed : first_denied s row.asks ≡ None → EndingDoes (RowEnds s q (key_ended s row.invalidation)) (row.allowed (map (bytes_in s) row.asks) (option_and_then s.refusal row.invalidation))

-- effects of moves alone
only : (s : Sight) (q : QueuePair) (e : Effects) → Moves q e.queue e.marks → e.writes ≡ [] → RowEnds s q None e
only s q e moves none = record {
  middle = q;
  before = [];
  touched = [];
  behind = e.marks;
  goes = Stays q;
  touch = subst (λ ws. Touch s None [] ws) (sym none) Nothing;
  on = moves;
  marks = refl;
  own = record {};
}

plain : (s : Sight) (q : QueuePair) (e : Effects) → RowEnds s q None e → RowMoves s q (plain_row (Does e))
plain s q e ends = record { denied = λ d is. ends; allowed = λ is. ends }

moved : (s : Sight) (q : QueuePair) (e : Effects) → Moves q e.queue e.marks → e.writes ≡ [] → RowMoves s q (plain_row (Does e))
moved s q e moves none = plain s q e (only s q e moves none)

-- ---- the requester's responses

retries : (psn : ℕ) (q : QueuePair) → Moves q (one_retry psn q).queue (one_retry psn q).marks
retries psn q = by (nat_le q.requester.retry q.requester.retries)
  where
    counted : QueuePair
    counted = with_requester (record q.requester { retries = suc q.requester.retries }) q

    effects : Bool → Effects
    effects b = if b then failure_effects RetryExceeded None counted else queue_and_marks (with_cursor psn counted) []

    by : (b : Bool) → Moves q (effects b).queue (effects b).marks
    by true = Then (Counts q counted.requester (record { oldest = refl; oldest_psn = refl; next = refl; una = refl })) (Fails RetryExceeded None counted)
    by false = Counts q (record counted.requester { cursor = psn }) (record { oldest = refl; oldest_psn = refl; next = refl; una = refl })

retries-none : (psn : ℕ) (q : QueuePair) → (one_retry psn q).writes ≡ []
retries-none psn q = by (nat_le q.requester.retry q.requester.retries)
  where
    counted : QueuePair
    counted = with_requester (record q.requester { retries = suc q.requester.retries }) q

    by : (b : Bool) → (if b then failure_effects RetryExceeded None counted else queue_and_marks (with_cursor psn counted) []).writes ≡ []
    by true = refl
    by false = refl

-- a timer fires
pub timeout-moves : (q : QueuePair) (silent : Bool) → Moves q (after_timeout silent q).queue (after_timeout silent q).marks
timeout-moves q silent = Then (Fires q silent) (Then (Counts q counted.requester (record { oldest = refl; oldest_psn = refl; next = refl; una = refl })) (retries q.requester.una counted))
  where
    counted : QueuePair
    counted = with_requester (record q.requester { timers = suc q.requester.timers }) q

-- effects of moves that write nothing
record Still (q : QueuePair) (e : Effects) : Type 0 where
  moves : Moves q e.queue e.marks
  none : e.writes ≡ []

still-then : (q : QueuePair) (e : Effects) (f : QueuePair → Effects) → Still q e → Still e.queue (f e.queue) → Still q (and_then e f)
still-then q e f one other = record { moves = Then one.moves other.moves; none = other.none }

still-row : (s : Sight) (q : QueuePair) (e : Effects) → Still q e → RowMoves s q (plain_row (Does e))
still-row s q e still = moved s q e still.moves still.none

fails : (status : WcStatus) (q : QueuePair) → Still q (failure_effects status None q)
fails status q = record { moves = Fails status None q; none = refl }

drop-still : (q : QueuePair) (cause : Drop1) → Still q (drop_effects q cause)
drop-still q cause = record { moves = Drops q cause; none = refl }

retry-still : (psn : ℕ) (q : QueuePair) → Still q (one_retry psn q)
retry-still psn q = record { moves = retries psn q; none = retries-none psn q }

below : (psn : ℕ) (q : QueuePair) → Still q (acknowledgement_below psn q).effects
below psn q = by (first_unanswered q.requester.una psn (begun_requests q))
  where
    result : Option ℕ → Acknowledgement
    result None = record { effects = progress_to psn q; went_back = false }
    result (Some back) = record { effects = and_then (progress_to back q) (one_retry back); went_back = true }

    by : (o : Option ℕ) → Still q (result o).effects
    by None = record { moves = Progresses psn q; none = refl }
    by (Some back) = still-then q (progress_to back q) (one_retry back) (record { moves = Progresses back q; none = refl }) (retry-still back (progress_to back q).queue)

unless-still : (q : QueuePair) (a : Acknowledgement) (f : QueuePair → Effects) → Still q a.effects → Still a.effects.queue (f a.effects.queue) → Still q (unless_back a f)
unless-still q a f one more = by a.went_back
  where
    by : (b : Bool) → Still q (if b then a.effects else and_then a.effects f)
    by true = one
    by false = still-then q a.effects f one more

rnr-still : (psn : ℕ) (q : QueuePair) → Still q (rnr_nak_effects psn q)
rnr-still psn q = by (nat_lt q.requester.rnr_retry MAX_RETRY && nat_le q.requester.rnr_retry q.requester.rnrs)
  where
    counted : QueuePair
    counted = with_requester (record q.requester { rnrs = suc q.requester.rnrs }) q

    by : (b : Bool) → Still q (if b then failure_effects RnrRetryExceeded None counted else queue_and_marks (with_requester (record counted.requester { cursor = psn; waiting = true }) q) [])
    by true = record { moves = Then (Counts q counted.requester (record { oldest = refl; oldest_psn = refl; next = refl; una = refl })) (Fails RnrRetryExceeded None counted); none = refl }
    by false = record { moves = Counts q (record counted.requester { cursor = psn; waiting = true }) (record { oldest = refl; oldest_psn = refl; next = refl; una = refl }); none = refl }

nak-still : (psn : ℕ) (code : NakCode) (q : QueuePair) → Still q (nak_effects psn code q)
nak-still psn PsnSequenceError q = retry-still psn q
nak-still psn InvalidRequest q = fails RemoteInvalidRequest q
nak-still psn RemoteAccessError q = fails RemoteAccess q
nak-still psn RemoteOperationalError q = fails RemoteOperation q

acknowledge-still : (psn : ℕ) (o : Option Syndrome) (q : QueuePair) → Still q (acknowledge_row psn o q)
acknowledge-still psn (Some (Ack credits)) q = below (suc psn) q
acknowledge-still psn (Some (RnrNak timer)) q = unless-still q (acknowledgement_below psn q) (rnr_nak_effects psn) (below psn q) (rnr-still psn (acknowledgement_below psn q).effects.queue)
acknowledge-still psn (Some (Nak code)) q = unless-still q (acknowledgement_below psn q) (nak_effects psn code) (below psn q) (nak-still psn code (acknowledgement_below psn q).effects.queue)
acknowledge-still psn None q = drop-still q drops.Stale

answer-moves : (s : Sight) (psn : ℕ) (p : Fields) (q : QueuePair) (before : Effects) (n : Numbered) → Moves q before.queue before.marks → RowMoves s q (answer_row psn p before n)
answer-moves s psn p q before n moves = record {
  denied = λ d is. record {
    middle = before.queue;
    before = before.marks;
    touched = local_denial d ∷ [];
    behind = (failure_effects LocalProtection None before.queue).marks;
    goes = moves;
    touch = ListDenied d;
    on = Fails LocalProtection None before.queue;
    marks = refl;
    own = record {};
  };
  allowed = λ is. record {
    middle = before.queue;
    before = before.marks;
    touched = local_writes (writes_by (answer_asks psn p before.queue n) (answer_bytes p));
    behind = (progress_to (suc psn) before.queue).marks;
    goes = moves;
    touch = ListWritten before.queue.queue before.queue.domain (segment_at psn before.queue n) (list_of n.request.op) (answer_bytes p);
    on = Progresses (suc psn) before.queue;
    marks = refl;
    own = record {};
  };
}

fitting-moves : (s : Sight) (psn : ℕ) (p : Fields) (q : QueuePair) (a : Acknowledgement) → Still q a.effects → RowMoves s q (fitting_row psn p a)
fitting-moves s psn p q a still = walk-fitting (RowMoves s q) psn p a (λ back. still-row s q a.effects still)
    (still-row s q (and_then a.effects (failure_effects BadResponse None)) (still-then q a.effects (failure_effects BadResponse None) still (fails BadResponse a.effects.queue)))
    (λ n on is. answer-moves s psn p q a.effects n still.moves)

response-moves : (s : Sight) (p : Fields) (q : QueuePair) → RowMoves s q (response_row p q)
response-moves s p q = walk-response (RowMoves s q) p q (λ cause. still-row s q (drop_effects q cause) (drop-still q cause))
    (λ sends outstanding. (still-row s q _ (acknowledge-still psn (option_and_then (λ a. syndrome_in a.syndrome) p.aeth) q), fitting-moves s psn p q (acknowledgement_below psn q) (below psn q)))
  where
    psn : ℕ
    psn = response_psn q p

-- ---- the responder's requests

-- only the responder's numbers and saved results change
answered : (q : QueuePair) (r : ResponderNumbers) (saved : List SavedResult) → Still q (queue_and_marks (record q { responder = r; saved = saved }) [])
answered q r saved = record { moves = Answers q r saved; none = refl }

ahead-still : (q : QueuePair) → Still q (ahead_effects q)
ahead-still q = by q.responder.nak_sent
  where
    p : QueuePair
    p = with_flag true (with_answer (queued.Nak q.responder.expected (nak_code PsnSequenceError)) q)

    by : (b : Bool) → Still q (if b then drop_effects q drops.Stale else queue_and_marks p [])
    by true = drop-still q drops.Stale
    by false = answered q p.responder q.saved

duplicate-still : (psn : ℕ) (p : Fields) (envelope : Option ℕ) (shape : Shape) (q : QueuePair) → Still q (duplicate_effects psn p envelope shape q)
duplicate-still psn p envelope shape q = at (nat_le MAX_DUPLICATES (duplicate_count q.responder.answers))
  where
    acks : (b : Bool) → Still q (if b then queue_and_marks (with_answer (queued.Ack (q.responder.expected - 1)) q) [] else drop_effects q drops.Unsaved)
    acks true = answered q (with_answer (queued.Ack (q.responder.expected - 1)) q).responder q.saved
    acks false = drop-still q drops.Unsaved

    again : (a : Queued) → Still q (answer_again psn a q)
    again a = answered q (with_answer a (with_answers_before psn q)).responder q.saved

    within : (h : Reth) (b : Bool) → Still q (if b then answer_again psn (queued.Read psn h.key h.address h.length true envelope true) q else drop_effects q drops.Unsaved)
    within h true = again (queued.Read psn h.key h.address h.length true envelope true)
    within h false = drop-still q drops.Unsaved

    reads : (o : Option Reth) → Still q (option_map_or (λ h. read_again psn envelope h q) o (drop_effects q drops.Unsaved))
    reads None = drop-still q drops.Unsaved
    reads (Some h) = within h (nat_le (psn + segments q.responder.mtu h.length) q.responder.expected)

    atomics : (o : Option ℕ) → Still q (atomic_again psn o q)
    atomics None = drop-still q drops.Unsaved
    atomics (Some found) = again (queued.Atomic psn found true)

    effects : Shape → Effects
    effects (shapes.Send place) = ack_again q
    effects (shapes.Write place) = ack_again q
    effects shapes.Read = option_map_or (λ h. read_again psn envelope h q) p.reth (drop_effects q drops.Unsaved)
    effects (shapes.Atomic kind) = atomic_again psn (saved_at psn q.saved) q

    by : (shape : Shape) → Still q (effects shape)
    by (shapes.Send place) = acks (length q.responder.answers == 0)
    by (shapes.Write place) = acks (length q.responder.answers == 0)
    by shapes.Read = reads p.reth
    by (shapes.Atomic kind) = atomics (saved_at psn q.saved)

    at : (b : Bool) → Still q (if b then drop_effects q drops.Unsaved else effects shape)
    at true = drop-still q drops.Unsaved
    at false = by shape

refusal-still : (code : NakCode) (q : QueuePair) → Still q (refusal_effects code q)
refusal-still code q = record { moves = Refuses code q; none = refl }

-- the receive of a message fails
receive-fails : (q : QueuePair) (r : PlacedReceive) (status : WcStatus) (cause : Option OpRefusal) (code : NakCode)
    → Moves q (receive_failure_effects q r status cause code).queue (receive_failure_effects q r status cause code).marks
receive-fails q r status cause code = Then (Receives q (receive_completion q.queue r.place r.receive.id status operations.Recv 0 None None) cause refl refl)
    (Then (Answers q (with_message None q).responder q.saved) (Refuses code (with_message None q)))

-- a touch first, and then moves
touching : (s : Sight) (q p : QueuePair) (e : Effects) (ts ns : List Mark) → Moves q p [] → Touch s None ts e.writes → Moves p e.queue ns → e.marks ≡ ts ++ ns → RowEnds s q None e
touching s q p e ts ns first touch rest is = record { middle = p; before = []; touched = ts; behind = ns; goes = first; touch = touch; on = rest; marks = is; own = record {} }

send-moves : (s : Sight) (before : QueuePair) (p : Fields) (place : Position) (r : Receiving) → RowMoves s before (send_row before p place r)
send-moves s before p place r = of r.taken (nat_lt (list_length r.receive.receive.list.items) (r.before + length p.payload))
  where
    from : Bool → QueuePair
    from b = if b then with_receive_taken before else before

    start : (b : Bool) → Moves before (from b) []
    start true = Takes before
    start false = Stays before

    took : Bool → Effects → Effects
    took b e = if b then with_shared_receive (from b) e else e

    end : QueuePair → Option OpRefusal → Effects
    end q (Some cause) = receive_failure_effects q r.receive MemoryManagement (Some cause) RemoteOperationalError
    end q None = behind_marks (revoked_marks q (invalidation_of q p)) (after_send_packet (with_window_gone (invalidation_of q p) q) p place r)

    writes : QueuePair → List (Ask × List ℕ)
    writes q = writes_by (receive_asks q p r) p.payload

    row_of : Bool → Bool → Row
    row_of b long =
        if long then plain_row (Does (took b (receive_failure_effects (from b) r.receive LocalLength None InvalidRequest)))
        else record {
          asks = receive_asks (from b) p r;
          invalidation = invalidation_of (from b) p;
          denied = λ d. Does (took b (behind_marks (local_denial d ∷ []) (receive_failure_effects (from b) r.receive LocalProtection None RemoteOperationalError)));
          allowed = λ bytes refusal. Does (took b (record (behind_marks (local_writes (writes (from b))) (end (from b) refusal)) { writes = writes (from b) }));
        }

    -- taking the receive of a shared queue changes no queue pair
    taken : (b : Bool) (i : Option Invalidation) (e : Effects) → RowEnds s before i e → RowEnds s before i (took b e)
    taken true i e x = record { middle = x.middle; before = x.before; touched = x.touched; behind = x.behind; goes = x.goes; touch = x.touch; on = x.on; marks = x.marks; own = x.own }
    taken false i e x = x

    packet : (q : QueuePair) → Moves q (after_send_packet q p place r).queue (after_send_packet q p place r).marks
    packet q = at (ends place)
      where
        done : Effects
        done = queue_and_marks (with_message None (queue_after_packet p 1 true true q))
            (receive_mark q.queue r.receive.place r.receive.receive Success operations.Recv (r.before + length p.payload) p.imm (option_map (λ key. record { 0 = key }) p.ieth) ∷ [])

        part : Effects
        part = queue_and_marks (with_message (Some (messages.Send r.receive.place r.receive.receive (r.before + length p.payload))) (queue_after_packet p 1 false true q)) []

        at : (b : Bool) → Moves q (if b then done else part).queue (if b then done else part).marks
        at true = Then (Receives q (receive_completion q.queue r.receive.place r.receive.receive.id Success operations.Recv (r.before + length p.payload) p.imm (option_map (λ key. record { 0 = key }) p.ieth)) None refl refl)
            (Answers q done.queue.responder q.saved)
        at false = Answers q part.queue.responder q.saved

    wrote : (b : Bool) → Touch s None (local_writes (writes (from b))) (writes (from b))
    wrote b = ListWritten (from b).queue (from b).domain r.before r.receive.receive.list.items p.payload

    failed : (b : Bool) (cause : OpRefusal) → RowEnds s before None (record (behind_marks (local_writes (writes (from b))) (end (from b) (Some cause))) { writes = writes (from b) })
    failed b cause = touching s before (from b) _ (local_writes (writes (from b))) (end (from b) (Some cause)).marks (start b) (wrote b)
        (receive-fails (from b) r.receive MemoryManagement (Some cause) RemoteOperationalError) refl

    own : (b : Bool) → ((from b).queue ≡ before.queue) × ((from b).domain ≡ before.domain)
    own true = (refl, refl)
    own false = (refl, refl)

    -- by the key that the packet names
    named : QueuePair → Option ℕ → Option Invalidation
    named q o = option_map (λ key. record { queue = q.queue; domain = q.domain; key = record { 0 = key } }) o

    ended : QueuePair → Option ℕ → Effects
    ended q o = behind_marks (revoked_marks q (named q o)) (after_send_packet (with_window_gone (named q o) q) p place r)

    by_refusal : QueuePair → Option ℕ → Option OpRefusal → Effects
    by_refusal q o (Some cause) = end q (Some cause)
    by_refusal q o None = ended q o

    placed : (b : Bool) (o : Option ℕ) → RowEnds s before (key_ended s (named (from b) o)) (record (behind_marks (local_writes (writes (from b))) (by_refusal (from b) o (option_and_then s.refusal (named (from b) o)))) { writes = writes (from b) })
    placed b None = touching s before (from b) _ (local_writes (writes (from b))) (after_send_packet (from b) p place r).marks (start b) (wrote b) (packet (from b)) refl
    placed b (Some key) = at (s.refusal i) refl
      where
        i : Invalidation
        i = record { queue = (from b).queue; domain = (from b).domain; key = record { 0 = key } }

        at : (x : Option OpRefusal) → s.refusal i ≡ x → RowEnds s before (if is_none x then Some i else None) (record (behind_marks (local_writes (writes (from b))) (by_refusal (from b) (Some key) x)) { writes = writes (from b) })
        at None is = record {
          middle = from b;
          before = [];
          touched = local_writes (writes (from b)) ++ marks.Revoked i.queue.adapter i.key ∷ [];
          behind = (after_send_packet (with_window_gone (Some i) (from b)) p place r).marks;
          goes = start b;
          touch = ListEnds i (from b).queue (from b).domain r.before r.receive.receive.list.items p.payload is;
          on = packet (with_window_gone (Some i) (from b));
          marks = sym (append_assoc (local_writes (writes (from b))) (marks.Revoked i.queue.adapter i.key ∷ []) (after_send_packet (with_window_gone (Some i) (from b)) p place r).marks);
          own = own b;
        }
        at (Some cause) is = failed b cause

    of : (b long : Bool) → RowMoves s before (row_of b long)
    of b true = plain s before _ (taken b None (receive_failure_effects (from b) r.receive LocalLength None InvalidRequest)
        (only s before (receive_failure_effects (from b) r.receive LocalLength None InvalidRequest) (Then (start b) (receive-fails (from b) r.receive LocalLength None InvalidRequest)) refl))
    of b false = record {
      denied = λ d is. taken b None (behind_marks (local_denial d ∷ []) (receive_failure_effects (from b) r.receive LocalProtection None RemoteOperationalError))
          (touching s before (from b) _ (local_denial d ∷ []) (receive_failure_effects (from b) r.receive LocalProtection None RemoteOperationalError).marks (start b) (ListDenied d)
          (receive-fails (from b) r.receive LocalProtection None RemoteOperationalError) refl);
      allowed = λ is. taken b (key_ended s (invalidation_of (from b) p)) _ (placed b p.ieth);
    }

-- ---- WRITEs, READs and atomics

write-moves : (s : Sight) (q : QueuePair) (p : Fields) (envelope : Option ℕ) (place : Position) (next : Option PlacedReceive) (r : WriteReach)
    → ((r.left == 0) ≡ true → length p.payload ≡ 0) → RowMoves s q (write_row q p envelope place next r)
write-moves s q p envelope place next r empty = record {
  denied = λ d is. touching s q q _ (remote_mark d.ask envelope (verdicts.Denied d.denial) ∷ []) (flush_marks q) (Stays q) (RemoteDenied d envelope) (Refuses RemoteAccessError q) refl;
  allowed = λ is. wrote (r.left == 0) refl;
}
  where
    ask : Ask
    ask = packet_ask q r.key kinds.Write r.address r.left (length p.payload)

    done : QueuePair → QueuePair
    done q = with_message None (queue_after_packet p 1 true true q)

    part : QueuePair
    part = with_message (Some (message_left r (length p.payload))) (queue_after_packet p 1 false true q)

    end : Option ℕ → Option PlacedReceive → Effects
    end (Some imm) (Some receive) = with_shared_receive q (queue_and_marks (done (with_receive_taken q))
        (receive_mark q.queue receive.place receive.receive Success operations.RecvImm r.whole (Some imm) None ∷ []))
    end imm next = queue_and_marks (done q) []

    immediate : (imm : Option ℕ) (next : Option PlacedReceive) → Moves q (end imm next).queue (end imm next).marks
    immediate (Some imm) (Some receive) = Then (Takes q) (Then (Receives (with_receive_taken q) (receive_completion q.queue receive.place receive.receive.id Success operations.RecvImm r.whole (Some imm) None) None refl refl)
        (Answers (with_receive_taken q) (done (with_receive_taken q)).responder q.saved))
    immediate imm next = Answers q (done q).responder q.saved

    packet : (b : Bool) → Moves q (if b then end p.imm next else queue_and_marks part []).queue (if b then end p.imm next else queue_and_marks part []).marks
    packet true = immediate p.imm next
    packet false = Answers q part.responder q.saved

    wrote : (b : Bool) → (r.left == 0) ≡ b
        → RowEnds s q None (record (behind_marks (remote_mark ask envelope (verdicts.Wrote p.payload) ∷ []) (after_write_packet q p place r next)) { writes = if b then [] else (ask, p.payload) ∷ [] })
    wrote true is = touching s q q _ (remote_mark ask envelope (verdicts.Wrote p.payload) ∷ []) (after_write_packet q p place r next).marks (Stays q) (RemoteWroteNone q r.key kinds.Write r.address r.left envelope p.payload (empty is)) (packet (ends place)) refl
    wrote false is = touching s q q _ (remote_mark ask envelope (verdicts.Wrote p.payload) ∷ []) (after_write_packet q p place r next).marks (Stays q) (RemoteWrote q r.key kinds.Write r.address r.left envelope p.payload) (packet (ends place)) refl

atomic-moves : (s : Sight) (q : QueuePair) (p : Fields) (envelope : Option ℕ) (kind : Kind) (a : AtomicEth) → RowMoves s q (atomic_row q p envelope kind a)
atomic-moves s q p envelope kind a = record {
  denied = λ d is. touching s q q _ (remote_mark d.ask envelope (verdicts.Denied d.denial) ∷ []) (flush_marks q) (Stays q) (RemoteDenied d envelope) (Refuses RemoteAccessError q) refl;
  allowed = λ is. acted (little_endian (flat_map (λ b. b) (bytes_in s ask ∷ [])));
}
  where
    ask : Ask
    ask = packet_ask q a.key kind a.address ATOMIC_BYTES ATOMIC_BYTES

    saved : ℕ → QueuePair
    saved found = record (with_answer (queued.Atomic q.responder.expected found false) q) { saved = after_save q.responder.expected found q.saved }

    put : ℕ → ℕ
    put found = option_map_or (λ n. n) (number_put kind a found) 0

    acted : (found : ℕ) → RowEnds s q None (record (queue_and_marks (queue_after_packet p 1 true false (saved found)) (remote_mark ask envelope (verdicts.Swapped found (put found)) ∷ [])) {
      writes = (ask, little_endian_bytes (put found)) ∷ [];
    })
    acted found = touching s q q _ (remote_mark ask envelope (verdicts.Swapped found (put found)) ∷ []) [] (Stays q) (RemoteSwapped q a.key kind a.address envelope found (put found))
        (Answers q (queue_after_packet p 1 true false (saved found)).responder (saved found).saved) refl

-- a WRITE that leaves no byte brings none
brings-none : (count : ℕ) (place : Position) (r : WriteReach) → fits_left count place r ≡ true → (r.left == 0) ≡ true → count ≡ 0
brings-none count place r fits none = by (ends place) fits
  where
    by : (b : Bool) → (if b then count == r.left else nat_lt count r.left) ≡ true → count ≡ 0
    by true e = grind (arith, nat_tests, e, none)
    by false e = absurd (no e)
      where
        no : nat_lt count r.left ≡ true → ⊥
        no e = grind (arith, nat_tests, e, none)

fits-of : (u f x y z : Bool) → ((((u || not f) || x) || y) || z) ≡ false → f ≡ true
fits-of u true x y z e = refl
fits-of true false x y z e = absurd (true≢false e)
fits-of false false x y z e = absurd (true≢false e)

-- a row of a queue pair with another flag
flagged : (s : Sight) (q : QueuePair) (flag : Bool) (row : Row) → RowMoves s (with_flag flag q) row → RowMoves s q row
flagged s q flag row moves = record { denied = λ d is. on None (row.denied d) (moves.denied d is); allowed = λ is. on (key_ended s row.invalidation) _ (moves.allowed is) }
  where
    on : (i : Option Invalidation) (e : Ending) → EndingDoes (RowEnds s (with_flag flag q) i) e → EndingDoes (RowEnds s q i) e
    on i (NotPossible reason) x = record {}
    on i (Does e) x = record {
      middle = x.middle;
      before = x.before;
      touched = x.touched;
      behind = x.behind;
      goes = Then (Answers q (with_flag flag q).responder q.saved) x.goes;
      touch = x.touch;
      on = x.on;
      marks = x.marks;
      own = x.own;
    }

expected-moves : (s : Sight) (before : QueuePair) (shared : Option SharedReceives) (p : Fields) (envelope : Option ℕ) (shape : Shape) → RowMoves s before (expected_row before shared p envelope shape)
expected-moves s before shared p envelope shape = flagged s before false (expected_row before shared p envelope shape)
    (walk-expected (RowMoves s q) before shared p envelope shape (still-row s q _ (refusal-still InvalidRequest q)) (still-row s q (rnr_effects q) (answered q _ q.saved)) (λ fine.
    walk-valid (RowMoves s q) q p envelope (next_receive q shared) shape (still-row s q _ (refusal-still InvalidRequest q))
    (λ place r is none. send-moves s q p place (record { receive = r; before = 0; taken = true }))
    (λ place at receive bytes is. send-moves s q p place (record { receive = record { place = at; receive = receive }; before = bytes; taken = false }))
    (λ place r shaped is. write-moves s q p envelope place (next_receive q shared) r (brings-none (length p.payload) place r (fits place r shaped is fine)))
    (λ h is. still-row s q (read_queued q p envelope h) (answered q _ q.saved)) (λ kind a. atomic-moves s q p envelope kind a)))
  where
    q : QueuePair
    q = with_flag false before

    fits : (place : Position) (r : WriteReach) → shape ≡ shapes.Write place → write_reach q p ≡ Some r → is_invalid q p shape ≡ false → fits_left (length p.payload) place r ≡ true
    fits place r shaped is fine = sym (ap (λ o. option_map_or (fits_left (length p.payload) place) o true) is) ∙ sym (ap (fits_write q p) shaped)
        ∙ fits-of (not (continues q.responder.message shape) || not (fits_payload q p shape)) (fits_write q p shape)
        (option_map_or (λ h. nat_lt MAX_MESSAGE_BYTES h.length) p.reth false) (is_misaligned p) (has_no_place q shape) fine

pub arrival-moves : (s : Sight) (bytes : List ℕ) (envelope : Option ℕ) (shared : Option SharedReceives) (q : QueuePair) → RowMoves s q (arrival_row bytes envelope shared q)
arrival-moves s bytes envelope shared q = walk-arrival (RowMoves s q) bytes envelope shared q (λ cause. still-row s q (drop_effects q cause) (drop-still q cause)) (λ p none. response-moves s p q)
    (λ p shape none. walk-request (RowMoves s q) p envelope shared shape q (still-row s q _ (ahead-still q)) (λ psn before. still-row s q _ (duplicate-still psn p envelope shape q)) (expected-moves s q shared p envelope shape))

-- ---- turns

pub respond-moves : (s : Sight) (room : Bool) (q : QueuePair) → RowMoves s q (respond_row room q)
respond-moves s room q = by (first_of (respond_refusals room q)) (slice_get q.responder.answers 0)
  where
    front : Option Reason → Option Queued → Row
    front (Some reason) answer = plain_row (NotPossible reason)
    front None None = plain_row (NotPossible reasons.Empty)
    front None (Some answer) = answer_turn q answer

    sent : (e : Effects) → Moves q e.queue e.marks → e.writes ≡ [] → RowMoves s q (plain_row (Does e))
    sent e moves none = moved s q e moves none

    read_bytes : ReadLeft → List ℕ
    read_bytes r = flat_map (λ b. b) (map (bytes_in s) (if r.left == 0 then [] else response_ask q r ∷ []))

    read : (r : ReadLeft) (b : Bool) → Moves q (if b then without_front q else with_front (rest_of q r) q) []
    read r true = Answers q (without_front q).responder q.saved
    read r false = Answers q (with_front (rest_of q r) q).responder q.saved

    turn : (a : Queued) → RowMoves s q (answer_turn q a)
    turn (queued.Read psn key address part first envelope duplicate) = record {
      denied = λ d is. touching s q q _ (remote_mark d.ask envelope (verdicts.Denied d.denial) ∷ []) (flush_marks q) (Stays q) (RemoteDenied d envelope) (Empties q) refl;
      allowed = λ is. touching s q q _ (remote_mark (response_ask q r) envelope (verdicts.Read (read_bytes r)) ∷ []) [] (Stays q) (RemoteRead q r.key kinds.Read r.address r.left (response_length q r) envelope (read_bytes r)) (read r (is_last_response q r)) refl;
    }
      where
        r : ReadLeft
        r = record { psn = psn; key = key; address = address; left = part; first = first; envelope = envelope; duplicate = duplicate }
    turn a = sent _ (Answers q (without_front q).responder q.saved) refl

    by : (o : Option Reason) (a : Option Queued) → RowMoves s q (front o a)
    by (Some reason) a = record { denied = λ d is. record {}; allowed = λ is. record {} }
    by None None = record { denied = λ d is. record {}; allowed = λ is. record {} }
    by None (Some a) = turn a

-- ---- the plan of a row

-- what the key of a row changes
changes-gone : (c : Configuration) (w : World) (row : Row) → row_changes c w row ≡ option_map_or (ending_changes c w) (gone (sight_in c w) row) []
changes-gone c w row = by (first_denied (sight_in c w) row.asks)
  where
    changed : Option DeniedAsk → List Update
    changed (Some d) = []
    changed None = option_map_or (λ i. unless_none (refusal_in c w i) (ending_changes c w i)) row.invalidation []

    key : Option DeniedAsk → Option Invalidation
    key (Some d) = None
    key None = key_ended (sight_in c w) row.invalidation

    refused : (i : Invalidation) (r : Option OpRefusal) → unless_none r (ending_changes c w i) ≡ option_map_or (ending_changes c w) (if is_none r then Some i else None) []
    refused i None = refl
    refused i (Some cause) = refl

    at : (o : Option Invalidation) → option_map_or (λ i. unless_none (refusal_in c w i) (ending_changes c w i)) o [] ≡ option_map_or (ending_changes c w) (key_ended (sight_in c w) o) []
    at None = refl
    at (Some i) = refused i (refusal_in c w i)

    by : (d : Option DeniedAsk) → changed d ≡ option_map_or (ending_changes c w) (key d) []
    by (Some d) = refl
    by None = at row.invalidation

-- the ending of a row is what the row does
ending-moves : (s : Sight) (q : QueuePair) (row : Row) → RowMoves s q row → EndingDoes (RowEnds s q (gone s row)) (ending_of s row)
ending-moves s q row moves = by (first_denied s row.asks) refl
  where
    end : Option DeniedAsk → Ending
    end (Some d) = row.denied d
    end None = row.allowed (map (bytes_in s) row.asks) (option_and_then s.refusal row.invalidation)

    key : Option DeniedAsk → Option Invalidation
    key (Some d) = None
    key None = key_ended s row.invalidation

    by : (d : Option DeniedAsk) → first_denied s row.asks ≡ d → EndingDoes (RowEnds s q (key d)) (end d)
    by (Some d) is = moves.denied d is
    by None is = moves.allowed is

-- a row that does this, and ends this key
pub record Rows (c : Configuration) (w : World) (q : QueuePair) (row : Row) (i : Option Invalidation) (e : Effects) : Type 0 where
  pub ended : Ended (sight_in c w) row i e
  pub ends : RowEnds (sight_in c w) q i e

-- a row's plan leads where its ending does, with what its key changes and where its bytes go
pub leads-rows : (c : Configuration) (w : World) (P : World → List Mark → Type 0) (q : QueuePair) (row : Row) (finish : Effects → List Update → List Write → Plan) → RowMoves (sight_in c w) q row
    → ((i : Option Invalidation) (e : Effects) → Rows c w q row i e → Leads w P (finish e (option_map_or (ending_changes c w) i []) (writes_in (sight_in c w) e.writes))) → Leads w P (Row_plan c row finish)
leads-rows c w P q row finish moves more = leads-from w P (Row_plan c row finish) (subst (Comes P) (sym (row-performs c w row finish))
    (subst (λ cs. Comes P (perform_ending w s finish cs (ending_of s row))) (sym (changes-gone c w row)) (by (ending_of s row) refl (ending-moves s q row moves))))
  where
    s : Sight
    s = sight_in c w

    by : (x : Ending) → ending_of s row ≡ x → EndingDoes (RowEnds s q (gone s row)) x → Comes P (perform_ending w s finish (option_map_or (ending_changes c w) (gone s row) []) x)
    by (NotPossible reason) is does = record {}
    by (Does e) is does = comes w P (finish e (option_map_or (ending_changes c w) (gone s row) []) (writes_in s e.writes)) (more (gone s row) e (record { ended = record { does = is; key = refl }; ends = does }))

-- a packet's plan leads where it does: its list was denied, or the packet is sent, with the bytes that were read
pub leads-packet : (c : Configuration) (w : World) (P : World → List Mark → Type 0) (q : QueuePair) (room : Bool) (n : Numbered) (finish : Effects → List Update → List Write → Plan)
    → ((d : DeniedAsk) → first_denied (sight_in c w) (packet_asks q n) ≡ Some d → is_outstanding q ≡ false → Leads w P (finish (denied_list_effects q d) [] []))
    → (is_too_much q n ≡ false → room ≡ true → first_denied (sight_in c w) (packet_asks q n) ≡ None → Leads w P (finish (sent_packet q n (map (bytes_in (sight_in c w)) (packet_asks q n))) [] []))
    → Leads w P (Row_plan c (packet_row q room n) finish)
leads-packet c w P q room n finish denied sent = leads-from w P (Row_plan c (packet_row q room n) finish) (subst (Comes P) (sym (row-performs c w (packet_row q room n) finish)) (by (is_too_much q n) refl))
  where
    s : Sight
    s = sight_in c w

    row : Row
    row = record {
      asks = packet_asks q n;
      invalidation = None;
      denied = λ d.
          if is_outstanding q then NotPossible reasons.Outstanding
          else if not room then NotPossible reasons.NoRoom
          else Does (denied_list_effects q d);
      allowed = λ bytes refusal. if not room then NotPossible reasons.NoRoom else Does (sent_packet q n bytes);
    }

    changes : Option DeniedAsk → List Update
    changes (Some d) = []
    changes None = []

    end : Option DeniedAsk → Ending
    end (Some d) = row.denied d
    end None = row.allowed (map (bytes_in s) (packet_asks q n)) None

    fails : (d : DeniedAsk) → first_denied s (packet_asks q n) ≡ Some d → (b z : Bool) → is_outstanding q ≡ b
        → Comes P (perform_ending w s finish [] (if b then NotPossible reasons.Outstanding else if not z then NotPossible reasons.NoRoom else Does (denied_list_effects q d)))
    fails d is false true none = comes w P (finish (denied_list_effects q d) [] []) (denied d is none)
    fails d is true z none = record {}
    fails d is false false none = record {}

    goes : is_too_much q n ≡ false → first_denied s (packet_asks q n) ≡ None → (z : Bool) → room ≡ z
        → Comes P (perform_ending w s finish [] (if not z then NotPossible reasons.NoRoom else Does (sent_packet q n (map (bytes_in s) (packet_asks q n)))))
    goes few is true has = comes w P (finish (sent_packet q n (map (bytes_in s) (packet_asks q n))) [] []) (sent few has is)
    goes few is false has = record {}

    at : is_too_much q n ≡ false → (d : Option DeniedAsk) → first_denied s (packet_asks q n) ≡ d → Comes P (perform_ending w s finish (changes d) (end d))
    at few (Some d) is = fails d is (is_outstanding q) room refl
    at few None is = goes few is room refl

    by : (b : Bool) → is_too_much q n ≡ b
        → Comes P (perform_ending w s finish (row_changes c w (if b then plain_row (NotPossible reasons.Outstanding) else row)) (ending_of s (if b then plain_row (NotPossible reasons.Outstanding) else row)))
    by true few = record {}
    by false few = at few (first_denied s (packet_asks q n)) refl
