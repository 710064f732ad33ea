-- What the requester's turn, responses, timers and wakes make of the numbers that only events raise.
use Rattle.std.proofs.Common.{◌≡◌, ℕ, suc, ◌+◌, ◌-◌, ◌≤◌, ◌<◌, nat_le, nat_lt, arith, Bool, true, false, List, [], ◌∷◌, Option, None, Some, ◌&&◌, ◌==◌, not, true≢false, if◌then◌else◌, refl}
use Rattle.std.proofs.lemmas.Bool.{and_parts, ltb-true}
use Rattle.std.specs.Option.{option_and_then}
use Rattle.ca_base.specs.declared.change.State.TheVariants as states
use Rattle.ca_base.specs.declared.completion.WcStatus.{WcStatus}
use Rattle.ca_base.specs.declared.completion.WcStatus.TheVariants.{BadResponse, LocalProtection, MemoryManagement, RemoteAccess, RemoteInvalidRequest, RemoteOperation, RetryExceeded, RnrRetryExceeded}
use Rattle.ca_base.specs.declared.denied_ask.DeniedAsk.{DeniedAsk}
use Rattle.ca_base.specs.declared.limits.TheConstants.{MAX_RETRY}
use Rattle.ca_base.specs.declared.refusals.OpRefusal.{OpRefusal}
use Rattle.ca_base.specs.declared.step.Reason.TheVariants as reasons
use Rattle.ca_base.specs.objects.QueuePair.{QueuePair, in_error, without_answers}
use Rattle.ca_base.specs.objects.StateTable.{is_among}
use Rattle.ca_wire.specs.Packet.{Fields}
use Rattle.ca_wire.specs.declared.opcode.TheConstants.{ACKNOWLEDGE}
use Rattle.ca_wire.specs.Syndrome.{syndrome_in}
use Rattle.ca_wire.specs.declared.syndrome.NakCode.{NakCode}
use Rattle.ca_wire.specs.declared.syndrome.NakCode.TheVariants.{PsnSequenceError, InvalidRequest, RemoteAccessError, RemoteOperationalError}
use Rattle.ca_wire.specs.declared.syndrome.Syndrome.{Syndrome}
use Rattle.ca_wire.specs.declared.syndrome.Syndrome.TheVariants.{Ack, Nak, RnrNak}
use Rattle.ca_model.specs.declared.mark.Drop1.TheVariants as drops
use Rattle.ca_model.specs.machine.Acknowledgements.{Acknowledgement, acknowledgement_below, after_finished, and_then, failure_effects, first_unanswered, one_retry, progress_to, with_cursor, with_requester, with_una}
use Rattle.ca_model.specs.machine.Invariants.{IsQueue, begun_end, is_sending}
use Rattle.ca_model.specs.machine.LocalOperations.{after_operation, operation_effects}
use Rattle.ca_model.specs.machine.Numbering.{Numbered, begun_requests, request_at}
use Rattle.ca_base.specs.objects.LocalRequest.{LocalMarks}
use Rattle.ca_model.specs.machine.Requester.{begins, denied_list_effects, is_outstanding, is_too_much, packet_asks, packet_row, sent_packet}
use Rattle.ca_model.specs.machine.Responses.{acknowledge_row, answer_row, drop_effects, fits_request, fitting_row, is_outstanding_at, nak_effects, outstanding_row, response_psn, response_row, rnr_nak_effects, unless_back}
use Rattle.ca_model.specs.machine.Row.{Effects, NotPossible, Does, Row, plain_row, queue_and_marks}
use Rattle.ca_model.specs.machine.Timers.{after_timeout}
use Rattle.ca_law_parts.specs.Raised.{AreNumbersWithin}
use Rattle.ca_law_parts.proofs.Numbers.NumberLemmas.{begun-more, error-within, none-end, oldest-within, raised, requester-within, responder-within}
use Rattle.ca_law_world.proofs.Sound.NumberingLemmas.{finished-end}
use Rattle.ca_law_world.proofs.Sound.RequesterLemmas.{finished-count, sending-not-fresh}
use Rattle.ca_law_world.proofs.Sound.ResponseLemmas.{IsBetween, unanswered-between}
use Rattle.ca_law_world.proofs.Sound.WorldLemmas.{EndingDoes, RowDoes}

-- effects of one event, which raises whole PSNs by 4096 and counts by one, at most
abbrev pub IsRaised : ℕ → ℕ → Effects → Type 0
IsRaised b n e = AreNumbersWithin (b + 4096) (suc n) e.queue

pub more-within : (b n : ℕ) (q : QueuePair) → AreNumbersWithin b n q → AreNumbersWithin (b + 4096) (suc n) q
more-within b n q w = raised b (b + 4096) n (suc n) q (omega arith) (omega arith) w

pub plain-raised : (b n : ℕ) (e : Effects) → IsRaised b n e → RowDoes (IsRaised b n) (plain_row (Does e))
plain-raised b n e within = record { denied = λ d. within; allowed = λ bytes refusal. within }

-- the request fails, and the queue pair moves to Error
pub failure-within : (b n : ℕ) (status : WcStatus) (cause : Option OpRefusal) (q : QueuePair) → AreNumbersWithin b n q → AreNumbersWithin b n (failure_effects status cause q).queue
failure-within b n status cause q w = silent-within b n (in_error q) (error-within b n q w)
  where
    silent-within : (b n : ℕ) (q : QueuePair) → AreNumbersWithin b n q → AreNumbersWithin b n (without_answers q)
    silent-within b n q w = responder-within b n q (record q.responder { answers = [] }) w refl w.expected

-- numbers within bounds, with no finished request that is not posted
record AreHeld (b n : ℕ) (q : QueuePair) : Type 0 where
  within : AreNumbersWithin b n q
  finished : q.sends.first ≤ q.requester.oldest

una-held : (b n psn : ℕ) (q : QueuePair) → psn ≤ b → AreHeld b n q → AreHeld b n (with_una psn q)
una-held b n psn q le h = by (nat_lt q.requester.una psn)
  where
    by : (z : Bool) → AreHeld b n (if z then with_requester (record q.requester { una = psn; retries = 0; rnrs = 0 }) q else q)
    by true = record {
      within = requester-within b n q (record q.requester { una = psn; retries = 0; rnrs = 0 }) h.within le h.within.cursor h.within.begun_end h.within.timers (omega arith) h.within.fresh;
      finished = h.finished;
    }
    by false = h

finished-held : (b n : ℕ) (q : QueuePair) → AreHeld b n q → AreHeld b n (after_finished q)
finished-held b n q h = record {
  within = requester-within b n q (after_finished q).requester h.within h.within.una h.within.cursor (omega (arith, h.within.begun_end, finished-end q h.finished)) h.within.timers
      h.within.rnrs (λ fresh. omega (arith, h.within.fresh fresh, finished-count q));
  finished = omega (arith, h.finished);
}

progress-held : (b n psn : ℕ) (q : QueuePair) → psn ≤ b → AreHeld b n q → AreHeld b n (progress_to psn q).queue
progress-held b n psn q le h = finished-held b n (with_una psn q) (una-held b n psn q le h)

pub retry-within : (b n psn : ℕ) (q : QueuePair) → psn ≤ b → AreNumbersWithin b n q → AreNumbersWithin b n (one_retry psn q).queue
retry-within b n psn q le w = by (nat_le q.requester.retry q.requester.retries)
  where
    counted : QueuePair
    counted = with_requester (record q.requester { retries = suc q.requester.retries }) q

    by : (z : Bool) → AreNumbersWithin b n (if z then failure_effects RetryExceeded None counted else queue_and_marks (with_cursor psn counted) []).queue
    by true = failure-within b n RetryExceeded None counted
        (requester-within b n q counted.requester w w.una w.cursor w.begun_end w.timers w.rnrs w.fresh)
    by false = requester-within b n q (with_cursor psn counted).requester w w.una le w.begun_end w.timers w.rnrs w.fresh

-- all below a PSN is acknowledged; a finished request is one that was posted, unless that went back
record IsAcknowledgedWithin (b n : ℕ) (a : Acknowledgement) : Type 0 where
  within : AreNumbersWithin b n a.effects.queue
  finished : a.went_back ≡ false → a.effects.queue.sends.first ≤ a.effects.queue.requester.oldest

below-within : (b n psn : ℕ) (q : QueuePair) → psn ≤ b → AreHeld b n q → IsAcknowledgedWithin b n (acknowledgement_below psn q)
below-within b n psn q le h =
    by (first_unanswered q.requester.una psn (begun_requests q)) (unanswered-between q.requester.una psn (begun_requests q))
  where
    after : Option ℕ → Acknowledgement
    after None = record { effects = progress_to psn q; went_back = false }
    after (Some back) = record { effects = and_then (progress_to back q) (one_retry back); went_back = true }

    by : (back : Option ℕ) → IsBetween q.requester.una psn back → IsAcknowledgedWithin b n (after back)
    by None between = record { within = (progress-held b n psn q le h).within; finished = λ e. (progress-held b n psn q le h).finished }
    by (Some back) between = record {
      within = retry-within b n back (progress_to back q).queue (omega (arith, le, between.1)) (progress-held b n back q (omega (arith, le, between.1)) h).within;
      finished = λ e. absurd (true≢false e);
    }

back-within : (b n : ℕ) (a : Acknowledgement) (f : QueuePair → Effects) → AreNumbersWithin b n a.effects.queue → AreNumbersWithin b n (f a.effects.queue).queue
    → AreNumbersWithin b n (unless_back a f).queue
back-within b n a f one other = by a.went_back
  where
    by : (z : Bool) → AreNumbersWithin b n (if z then a.effects else and_then a.effects f).queue
    by true = one
    by false = other

rnr-within : (b n psn : ℕ) (q : QueuePair) → psn ≤ b → AreNumbersWithin b n q → AreNumbersWithin b (suc n) (rnr_nak_effects psn q).queue
rnr-within b n psn q le w = by (nat_lt q.requester.rnr_retry MAX_RETRY && nat_le q.requester.rnr_retry q.requester.rnrs) (raised b b n (suc n) q (omega arith) (omega arith) w)
  where
    counted : QueuePair
    counted = with_requester (record q.requester { rnrs = suc q.requester.rnrs }) q

    by : (z : Bool) → AreNumbersWithin b (suc n) q → AreNumbersWithin b (suc n) (if z then failure_effects RnrRetryExceeded None counted
        else queue_and_marks (with_requester (record counted.requester { cursor = psn; waiting = true }) q) []).queue
    by true more = failure-within b (suc n) RnrRetryExceeded None counted
        (requester-within b (suc n) q counted.requester more w.una w.cursor w.begun_end more.timers (omega (arith, w.rnrs)) w.fresh)
    by false more = requester-within b (suc n) q (record counted.requester { cursor = psn; waiting = true }) more w.una le w.begun_end more.timers (omega (arith, w.rnrs)) w.fresh

nak-within : (b n psn : ℕ) (code : NakCode) (q : QueuePair) → psn ≤ b → AreNumbersWithin b n q → AreNumbersWithin b n (nak_effects psn code q).queue
nak-within b n psn PsnSequenceError q le w = retry-within b n psn q le w
nak-within b n psn InvalidRequest q le w = failure-within b n RemoteInvalidRequest None q w
nak-within b n psn RemoteAccessError q le w = failure-within b n RemoteAccess None q w
nak-within b n psn RemoteOperationalError q le w = failure-within b n RemoteOperation None q w

acknowledge-within : (b n psn : ℕ) (syndrome : Option Syndrome) (q : QueuePair) → psn < b → AreHeld b n q → AreNumbersWithin b (suc n) (acknowledge_row psn syndrome q).queue
acknowledge-within b n psn (Some (Ack credits)) q lt h = raised b b n (suc n) _ (omega arith) (omega arith) (below-within b n (suc psn) q lt h).within
acknowledge-within b n psn (Some (RnrNak timer)) q lt h = back-within b (suc n) (acknowledgement_below psn q) (rnr_nak_effects psn)
    (raised b b n (suc n) _ (omega arith) (omega arith) (below-within b n psn q (omega (arith, lt)) h).within)
    (rnr-within b n psn (acknowledgement_below psn q).effects.queue (omega (arith, lt)) (below-within b n psn q (omega (arith, lt)) h).within)
acknowledge-within b n psn (Some (Nak code)) q lt h = raised b b n (suc n) _ (omega arith) (omega arith)
    (back-within b n (acknowledgement_below psn q) (nak_effects psn code) (below-within b n psn q (omega (arith, lt)) h).within
    (nak-within b n psn code (acknowledgement_below psn q).effects.queue (omega (arith, lt)) (below-within b n psn q (omega (arith, lt)) h).within))
acknowledge-within b n psn None q lt h = raised b b n (suc n) q (omega arith) (omega arith) h.within

answer-raised : (b n psn : ℕ) (p : Fields) (before : Effects) (m : Numbered) → psn < b → AreHeld b n before.queue → RowDoes (IsRaised b n) (answer_row psn p before m)
answer-raised b n psn p before m lt h = record {
  denied = λ d. more-within b n _ (failure-within b n LocalProtection None before.queue h.within);
  allowed = λ bytes refusal. more-within b n _ (progress-held b n (suc psn) before.queue lt h).within;
}

fitting-raised : (b n psn : ℕ) (p : Fields) (a : Acknowledgement) → psn < b → IsAcknowledgedWithin b n a → RowDoes (IsRaised b n) (fitting_row psn p a)
fitting-raised b n psn p a lt after = back a.went_back refl
  where
    bad : Row
    bad = plain_row (Does (and_then a.effects (failure_effects BadResponse None)))

    at : Option Numbered → Row
    at None = bad
    at (Some m) = if fits_request psn p a.effects.queue m then answer_row psn p a.effects m else bad

    is_bad : RowDoes (IsRaised b n) bad
    is_bad = plain-raised b n (and_then a.effects (failure_effects BadResponse None)) (more-within b n _ (failure-within b n BadResponse None a.effects.queue after.within))

    fits : (m : Numbered) → a.went_back ≡ false → (z : Bool) → RowDoes (IsRaised b n) (if z then answer_row psn p a.effects m else bad)
    fits m e true = answer-raised b n psn p a.effects m lt (record { within = after.within; finished = after.finished e })
    fits m e false = is_bad

    by : (m : Option Numbered) → a.went_back ≡ false → RowDoes (IsRaised b n) (at m)
    by None e = is_bad
    by (Some m) e = fits m e (fits_request psn p a.effects.queue m)

    back : (z : Bool) → a.went_back ≡ z → RowDoes (IsRaised b n) (if z then plain_row (Does a.effects) else at (request_at psn a.effects.queue))
    back true e = plain-raised b n a.effects (more-within b n _ after.within)
    back false e = by (request_at psn a.effects.queue) e

pub response-raised : (b n : ℕ) (p : Fields) (q : QueuePair) → IsQueue q → AreNumbersWithin b n q → RowDoes (IsRaised b n) (response_row p q)
response-raised b n p q s w = by (is_among (states.Rts ∷ states.Sqd ∷ []) q.state)
  where
    psn : ℕ
    psn = response_psn q p

    held : AreHeld b n q
    held = record { within = w; finished = s.requester.finished }

    opcode : psn < b → (z : Bool) → RowDoes (IsRaised b n) (if z then plain_row (Does (acknowledge_row psn (option_and_then (λ a. syndrome_in a.syndrome) p.aeth) q))
        else fitting_row psn p (acknowledgement_below psn q))
    opcode lt true = plain-raised b n _ (raised b (b + 4096) (suc n) (suc n) _ (omega arith) (omega arith)
        (acknowledge-within b n psn (option_and_then (λ a. syndrome_in a.syndrome) p.aeth) q lt held))
    opcode lt false = fitting-raised b n psn p (acknowledgement_below psn q) lt (below-within b n psn q (omega (arith, lt)) held)

    below : is_outstanding_at psn q ≡ true → psn < b
    below e = omega (arith, w.cursor, ltb-true psn q.requester.cursor (and_parts (nat_le q.requester.una psn) (nat_lt psn q.requester.cursor) e).1)

    there : (z : Bool) → is_outstanding_at psn q ≡ z → RowDoes (IsRaised b n) (if not z then plain_row (Does (drop_effects q drops.Stale)) else outstanding_row psn p q)
    there true e = opcode (below e) (p.opcode == ACKNOWLEDGE)
    there false e = plain-raised b n (drop_effects q drops.Stale) (more-within b n q w)

    by : (z : Bool) → RowDoes (IsRaised b n) (if not z then plain_row (Does (drop_effects q drops.State))
        else if not (is_outstanding_at psn q) then plain_row (Does (drop_effects q drops.Stale)) else outstanding_row psn p q)
    by true = there (is_outstanding_at psn q) refl
    by false = plain-raised b n (drop_effects q drops.State) (more-within b n q w)

-- a packet that is sent begins one request at most
sent-raised : (b n : ℕ) (q : QueuePair) (m : Numbered) (bytes : List (List ℕ)) → IsQueue q → is_sending q.state ≡ true → AreNumbersWithin b n q
    → IsQueue (sent_packet q m bytes).queue → IsRaised b n (sent_packet q m bytes)
sent-raised b n q m bytes s sending w after = requester-within (b + 4096) (suc n) q (sent_packet q m bytes).queue.requester more more.una
    (omega (arith, after.begun sending, end)) end more.timers more.rnrs (λ fresh. absurd (sending-not-fresh q.state sending fresh))
  where
    more : AreNumbersWithin (b + 4096) (suc n) q
    more = more-within b n q w

    ends : (z : Bool) → begun_end (with_requester (record q.requester { next = if z then suc q.requester.next else q.requester.next }) q) ≤ b + 4096
    ends true = omega (arith, w.begun_end, begun-more q s (suc q.requester.next - q.requester.oldest) (omega (arith, s.requester.begun)))
    ends false = more.begun_end

    end : begun_end (sent_packet q m bytes).queue ≤ b + 4096
    end = ends (begins q)

pub packet-raised : (b n : ℕ) (q : QueuePair) (room : Bool) (m : Numbered) → IsQueue q → is_sending q.state ≡ true → AreNumbersWithin b n q
    → RowDoes (λ e. IsQueue e.queue) (packet_row q room m) → RowDoes (IsRaised b n) (packet_row q room m)
packet-raised b n q room m s sending w sound = by (is_too_much q m) sound
  where
    row : Row
    row = record {
      asks = packet_asks q m;
      invalidation = None;
      denied = λ d.
          if is_outstanding q then NotPossible reasons.Outstanding
          else if not room then NotPossible reasons.NoRoom
          else Does (denied_list_effects q d);
      allowed = λ bytes refusal. if not room then NotPossible reasons.NoRoom else Does (sent_packet q m bytes);
    }

    denied : (d : DeniedAsk) (y z : Bool) → EndingDoes (IsRaised b n) (if y then NotPossible reasons.Outstanding else if not z then NotPossible reasons.NoRoom else Does (denied_list_effects q d))
    denied d true z = record {}
    denied d false true = more-within b n _ (failure-within b n LocalProtection None q w)
    denied d false false = record {}

    allowed : (bytes : List (List ℕ)) (z : Bool) → EndingDoes (λ e. IsQueue e.queue) (if not z then NotPossible reasons.NoRoom else Does (sent_packet q m bytes))
        → EndingDoes (IsRaised b n) (if not z then NotPossible reasons.NoRoom else Does (sent_packet q m bytes))
    allowed bytes true after = sent-raised b n q m bytes s sending w after
    allowed bytes false after = record {}

    by : (z : Bool) → RowDoes (λ e. IsQueue e.queue) (if z then plain_row (NotPossible reasons.Outstanding) else row)
        → RowDoes (IsRaised b n) (if z then plain_row (NotPossible reasons.Outstanding) else row)
    by true after = record { denied = λ d. record {}; allowed = λ bytes refusal. record {} }
    by false after = record { denied = λ d. denied d (is_outstanding q) room; allowed = λ bytes refusal. allowed bytes room (after.allowed bytes refusal) }

-- a local operation ends: it is the oldest and the next one, and no other has begun
pub operation-raised : (b n : ℕ) (q : QueuePair) (m : Numbered) (windows : ℕ) (marks : LocalMarks) (refusal : Option OpRefusal) → AreNumbersWithin b n q → windows ≤ suc n
    → IsRaised b n (operation_effects q m (record q { windows = windows }) marks refusal)
operation-raised b n q m windows marks (Some cause) w few = more-within b n _ (failure-within b n MemoryManagement (Some cause) q w)
operation-raised b n q m windows marks None w few = record {
  una = more.una;
  cursor = more.cursor;
  begun_end = omega (arith, none-end (after_operation m (record q { windows = windows })) refl, oldest-within b n q w);
  expected = more.expected;
  incarnation = more.incarnation;
  timers = more.timers;
  rnrs = more.rnrs;
  sends = more.sends;
  receives = more.receives;
  windows = few;
  fresh = λ fresh. refl;
}
  where
    more : AreNumbersWithin (b + 4096) (suc n) q
    more = more-within b n q w

pub timeout-raised : (b n : ℕ) (q : QueuePair) (silent : Bool) → AreNumbersWithin b n q → IsRaised b n (after_timeout silent q)
timeout-raised b n q silent w = retry-within (b + 4096) (suc n) q.requester.una counted more.una
    (requester-within (b + 4096) (suc n) q counted.requester more more.una more.cursor more.begun_end (omega (arith, w.timers)) more.rnrs w.fresh)
  where
    more : AreNumbersWithin (b + 4096) (suc n) q
    more = more-within b n q w

    counted : QueuePair
    counted = with_requester (record q.requester { timers = suc q.requester.timers }) q

pub wake-raised : (b n : ℕ) (q : QueuePair) → AreNumbersWithin b n q → AreNumbersWithin (b + 4096) (suc n) (with_requester (record q.requester { waiting = false }) q)
wake-raised b n q w = requester-within (b + 4096) (suc n) q (record q.requester { waiting = false }) more more.una more.cursor more.begun_end more.timers more.rnrs w.fresh
  where
    more : AreNumbersWithin (b + 4096) (suc n) q
    more = more-within b n q w
