-- A response that arrives leaves no more to be done, unless it lowers the cursor. For proofs only.
use Rattle.std.proofs.Common.{◌≡◌, ℕ, suc, ◌≤◌, ◌==◌, ◌&&◌, Bool, true, false, nat_le, nat_lt, not, if◌then◌else◌, [], Option, None, Some, refl, ap, ◌∙◌, arith, true≢false}
use Rattle.std.specs.List.{prefix_len, sum_by}
use Rattle.ca_base.specs.declared.completion.WcStatus.{WcStatus}
use Rattle.ca_base.specs.declared.completion.WcStatus.TheVariants.{BadResponse, RemoteAccess, RemoteInvalidRequest, RemoteOperation, RetryExceeded, RnrRetryExceeded}
use Rattle.ca_base.specs.declared.limits.TheConstants.{MAX_RETRY}
use Rattle.ca_base.specs.declared.refusals.OpRefusal.{OpRefusal}
use Rattle.ca_base.specs.declared.step.Sent.TheVariants.{Silent}
use Rattle.ca_base.specs.objects.QueuePair.{QueuePair}
use Rattle.ca_law_world.proofs.Steady.SameLemmas.{progress-first, unfinished-after}
use Rattle.ca_model.specs.declared.mark.Drop1.{Drop1}
use Rattle.ca_model.specs.declared.mark.Drop1.TheVariants as drops
use Rattle.ca_model.specs.machine.Acknowledgements.{Acknowledgement, acknowledgement_below, after_finished, and_then, failure_effects, first_unanswered, one_retry, progress_to, with_cursor, with_requester, with_una}
use Rattle.ca_model.specs.machine.Invariants.{is_sending}
use Rattle.ca_model.specs.machine.Numbering.{Numbered, begun_requests, psn_end, request_at, unfinished_requests}
use Rattle.ca_model.specs.machine.Responses.{acknowledge_row, answer_row, drop_effects, fits_request, fitting_row, is_outstanding_at, nak_effects, response_psn, response_row, rnr_nak_effects, unless_back}
use Rattle.ca_model.specs.machine.Row.{Does, Effects, Row, plain_row, queue_and_marks}
use Rattle.ca_wire.specs.Packet.{Fields}
use Rattle.ca_wire.specs.declared.opcode.TheConstants.{ACKNOWLEDGE}
use Rattle.ca_law_once.proofs.Rows.RequestRowLemmas.{cond-row, plain}
use Rattle.ca_law_once.specs.Entries.{syndrome_of}
use Rattle.ca_law_once.specs.Moves.{RowLeads}
use Rattle.ca_wire.specs.declared.syndrome.NakCode.{NakCode}
use Rattle.ca_wire.specs.declared.syndrome.NakCode.TheVariants as codes
use Rattle.ca_wire.specs.declared.syndrome.Syndrome.{Syndrome}
use Rattle.ca_wire.specs.declared.syndrome.Syndrome.TheVariants as syndromes
use Rattle.ca_law_bounds.proofs.SumLemmas.{error-weighs, request-less, sum-drop, sum-le}
use Rattle.ca_law_bounds.specs.Weights.{queue_weight, request_weight, requests_weight}

-- nothing is sent; and the queue pair weighs no more than this, unless its cursor lies below this one
pub record Spends (cursor weight : ℕ) (e : Effects) : Type 0 where
  pub silent : e.sent ≡ Silent
  pub falls : cursor ≤ e.queue.requester.cursor → queue_weight e.queue ≤ weight

-- a queue pair that went on: its cursor is this one, it weighs no more than this, and what is finished is retired
-- in order
record WentOn (cursor weight : ℕ) (q : QueuePair) : Type 0 where
  cursor_is : q.requester.cursor ≡ cursor
  weighs : queue_weight q ≤ weight
  finished : q.sends.first ≤ q.requester.oldest

-- ---- progress

una-weighs : (psn : ℕ) (q : QueuePair) → queue_weight (with_una psn q) ≡ queue_weight q
una-weighs psn q = by (nat_lt q.requester.una psn)
  where
    by : (b : Bool) → queue_weight (if b then with_requester (record q.requester { una = psn; retries = 0; rnrs = 0 }) q else q) ≡ queue_weight q
    by true = refl
    by false = refl

una-cursor : (psn : ℕ) (q : QueuePair) → (with_una psn q).requester.cursor ≡ q.requester.cursor
una-cursor psn q = by (nat_lt q.requester.una psn)
  where
    by : (b : Bool) → (if b then with_requester (record q.requester { una = psn; retries = 0; rnrs = 0 }) q else q).requester.cursor ≡ q.requester.cursor
    by true = refl
    by false = refl

una-first : (psn : ℕ) (q : QueuePair) → q.sends.first ≤ q.requester.oldest → (with_una psn q).sends.first ≤ (with_una psn q).requester.oldest
una-first psn q first = by (nat_lt q.requester.una psn)
  where
    by : (b : Bool) → (if b then with_requester (record q.requester { una = psn; retries = 0; rnrs = 0 }) q else q).sends.first
        ≤ (if b then with_requester (record q.requester { una = psn; retries = 0; rnrs = 0 }) q else q).requester.oldest
    by true = first
    by false = first

-- what is finished is left out of the sum
finished-weighs : (q : QueuePair) → q.sends.first ≤ q.requester.oldest → requests_weight (after_finished q) ≤ requests_weight q
finished-weighs q first = omega (
  arith,
  ap (sum_by (request_weight q.requester.cursor q.requester.next)) (unfinished-after q first),
  sum-drop (request_weight q.requester.cursor q.requester.next) (prefix_len (λ n. nat_le (psn_end n) q.requester.una) (begun_requests q)) (unfinished_requests q),
)

progress-on : (cursor weight psn : ℕ) (q : QueuePair) → WentOn cursor weight q → WentOn cursor weight (progress_to psn q).queue
progress-on cursor weight psn q on = record {
  cursor_is = una-cursor psn q ∙ on.cursor_is;
  weighs = omega (arith, finished-weighs (with_una psn q) (una-first psn q on.finished), una-weighs psn q, on.weighs);
  finished = progress-first psn q on.finished;
}

spent : (cursor weight : ℕ) (e : Effects) → e.sent ≡ Silent → WentOn cursor weight e.queue → Spends cursor weight e
spent cursor weight e silent on = record { silent = silent; falls = λ back. on.weighs }

-- ---- what fails, and what goes back

failure-spends : (cursor weight : ℕ) (q : QueuePair) (status : WcStatus) (cause : Option OpRefusal) → Spends cursor weight (failure_effects status cause q)
failure-spends cursor weight q status cause = record { silent = refl; falls = λ on. omega (arith, error-weighs q) }

-- the same with another cursor, where this does not lie below
cursor-weighs : (q : QueuePair) (psn : ℕ) → q.requester.cursor ≤ psn → queue_weight (with_cursor psn q) ≤ queue_weight q
cursor-weighs q psn on = omega (
  arith,
  sum-le (request_weight psn q.requester.next) (request_weight q.requester.cursor q.requester.next)
      (request-less q.requester.cursor q.requester.next psn q.requester.next on (omega arith)) (unfinished_requests q),
)

retry-spends : (cursor weight psn : ℕ) (q : QueuePair) → WentOn cursor weight q → Spends cursor weight (one_retry psn q)
retry-spends cursor weight psn q on = by (nat_le q.requester.retry q.requester.retries)
  where
    counted : QueuePair
    counted = with_requester (record q.requester { retries = suc q.requester.retries }) q

    by : (b : Bool) → Spends cursor weight (if b then failure_effects RetryExceeded None counted else queue_and_marks (with_cursor psn counted) [])
    by true = failure-spends cursor weight counted RetryExceeded None
    by false = record { silent = refl; falls = λ up. omega (arith, cursor-weighs q psn (omega (arith, up, on.cursor_is)), on.weighs) }

then-spends : (cursor weight : ℕ) (e : Effects) (f : QueuePair → Effects) → Spends cursor weight (f e.queue) → Spends cursor weight (and_then e f)
then-spends cursor weight e f s = record { silent = s.silent; falls = s.falls }

record AckSpends (cursor weight : ℕ) (a : Acknowledgement) : Type 0 where
  spends : Spends cursor weight a.effects
  on : a.went_back ≡ false → WentOn cursor weight a.effects.queue

ack-spends : (cursor weight psn : ℕ) (q : QueuePair) → WentOn cursor weight q → AckSpends cursor weight (acknowledgement_below psn q)
ack-spends cursor weight psn q on = by (first_unanswered q.requester.una psn (begun_requests q))
  where
    after : Option ℕ → Acknowledgement
    after None = record { effects = progress_to psn q; went_back = false }
    after (Some back) = record { effects = and_then (progress_to back q) (one_retry back); went_back = true }

    by : (back : Option ℕ) → AckSpends cursor weight (after back)
    by None = record { spends = spent cursor weight (progress_to psn q) refl (progress-on cursor weight psn q on); on = λ e. progress-on cursor weight psn q on }
    by (Some back) = record {
      spends = then-spends cursor weight (progress_to back q) (one_retry back) (retry-spends cursor weight back (progress_to back q).queue (progress-on cursor weight back q on));
      on = λ e. absurd (true≢false e);
    }

unless-spends : (cursor weight : ℕ) (a : Acknowledgement) (f : QueuePair → Effects) → AckSpends cursor weight a → ((q : QueuePair) → WentOn cursor weight q → Spends cursor weight (f q))
    → Spends cursor weight (unless_back a f)
unless-spends cursor weight a f after more = by a.went_back refl
  where
    by : (b : Bool) → a.went_back ≡ b → Spends cursor weight (if b then a.effects else and_then a.effects f)
    by true e = after.spends
    by false e = then-spends cursor weight a.effects f (more a.effects.queue (after.on e))

rnr-spends : (cursor weight w : ℕ) (q : QueuePair) → WentOn cursor weight q → Spends cursor weight (rnr_nak_effects w q)
rnr-spends cursor weight w q on = by (nat_lt q.requester.rnr_retry MAX_RETRY && nat_le q.requester.rnr_retry q.requester.rnrs)
  where
    counted : QueuePair
    counted = with_requester (record q.requester { rnrs = suc q.requester.rnrs }) q

    by : (b : Bool) → Spends cursor weight (if b then failure_effects RnrRetryExceeded None counted
        else queue_and_marks (with_requester (record counted.requester { cursor = w; waiting = true }) q) [])
    by true = failure-spends cursor weight counted RnrRetryExceeded None
    by false = record { silent = refl; falls = λ up. omega (arith, cursor-weighs q w (omega (arith, up, on.cursor_is)), on.weighs) }

nak-spends : (cursor weight w : ℕ) (code : NakCode) (q : QueuePair) → WentOn cursor weight q → Spends cursor weight (nak_effects w code q)
nak-spends cursor weight w codes.PsnSequenceError q on = retry-spends cursor weight w q on
nak-spends cursor weight w codes.InvalidRequest q on = failure-spends cursor weight q RemoteInvalidRequest None
nak-spends cursor weight w codes.RemoteAccessError q on = failure-spends cursor weight q RemoteAccess None
nak-spends cursor weight w codes.RemoteOperationalError q on = failure-spends cursor weight q RemoteOperation None

drop-spends : (cursor weight : ℕ) (q : QueuePair) (cause : Drop1) → WentOn cursor weight q → Spends cursor weight (drop_effects q cause)
drop-spends cursor weight q cause on = spent cursor weight (drop_effects q cause) refl on

acknowledge-spends : (cursor weight w : ℕ) (syndrome : Option Syndrome) (q : QueuePair) → WentOn cursor weight q → Spends cursor weight (acknowledge_row w syndrome q)
acknowledge-spends cursor weight w (Some (syndromes.Ack credits)) q on = (ack-spends cursor weight (suc w) q on).spends
acknowledge-spends cursor weight w (Some (syndromes.RnrNak timer)) q on =
    unless-spends cursor weight (acknowledgement_below w q) (rnr_nak_effects w) (ack-spends cursor weight w q on) (rnr-spends cursor weight w)
acknowledge-spends cursor weight w (Some (syndromes.Nak code)) q on =
    unless-spends cursor weight (acknowledgement_below w q) (nak_effects w code) (ack-spends cursor weight w q on) (nak-spends cursor weight w code)
acknowledge-spends cursor weight w None q on = drop-spends cursor weight q drops.Stale on

-- ---- answers

answer-spends : (cursor weight w : ℕ) (p : Fields) (before : Effects) (n : Numbered) → WentOn cursor weight before.queue → RowLeads (Spends cursor weight) (answer_row w p before n)
answer-spends cursor weight w p before n on = record {
  denied = λ b. record { silent = refl; falls = λ up. omega (arith, error-weighs before.queue) };
  allowed = λ bytes refusal. record { silent = refl; falls = λ up. (progress-on cursor weight (suc w) before.queue on).weighs };
}

fitting-spends : (cursor weight w : ℕ) (p : Fields) (a : Acknowledgement) → AckSpends cursor weight a → RowLeads (Spends cursor weight) (fitting_row w p a)
fitting-spends cursor weight w p a after = by a.went_back refl
  where
    bad : Row
    bad = plain_row (Does (and_then a.effects (failure_effects BadResponse None)))

    is_bad : RowLeads (Spends cursor weight) bad
    is_bad = plain (Spends cursor weight) _ (then-spends cursor weight a.effects (failure_effects BadResponse None) (failure-spends cursor weight a.effects.queue BadResponse None))

    row : Option Numbered → Row
    row None = bad
    row (Some n) = if fits_request w p a.effects.queue n then answer_row w p a.effects n else bad

    at : (n : Option Numbered) → a.went_back ≡ false → RowLeads (Spends cursor weight) (row n)
    at None e = is_bad
    at (Some n) e = cond-row (Spends cursor weight) (fits_request w p a.effects.queue n) _ _ (answer-spends cursor weight w p a.effects n (after.on e)) is_bad

    by : (b : Bool) → a.went_back ≡ b → RowLeads (Spends cursor weight) (if b then plain_row (Does a.effects) else row (request_at w a.effects.queue))
    by true e = plain (Spends cursor weight) a.effects after.spends
    by false e = at (request_at w a.effects.queue) e

pub response-spends : (p : Fields) (q : QueuePair) → q.sends.first ≤ q.requester.oldest → RowLeads (Spends q.requester.cursor (queue_weight q)) (response_row p q)
response-spends p q first = cond-row S (not (is_sending q.state)) _ _ (plain S _ (drop-spends q.requester.cursor (queue_weight q) q drops.State here))
    (cond-row S (not (is_outstanding_at w q)) _ _ (plain S _ (drop-spends q.requester.cursor (queue_weight q) q drops.Stale here))
    (cond-row S (p.opcode == ACKNOWLEDGE) _ _ (plain S _ (acknowledge-spends q.requester.cursor (queue_weight q) w (syndrome_of p) q here))
    (fitting-spends q.requester.cursor (queue_weight q) w p (acknowledgement_below w q) (ack-spends q.requester.cursor (queue_weight q) w q here))))
  where
    S : Effects → Type 0
    S = Spends q.requester.cursor (queue_weight q)

    w : ℕ
    w = response_psn q p

    here : WentOn q.requester.cursor (queue_weight q) q
    here = record { cursor_is = refl; weighs = omega arith; finished = first }
