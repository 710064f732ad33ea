-- What responses, timers and wakes make of a queue pair that can come up.
use Rattle.std.proofs.Common.{◌≡◌, ℕ, suc, ◌≤◌, ◌<◌, max, nat_le, nat_lt, arith, Bool, true, false, List, [], ◌∷◌, ◌++◌, length, Option, None, Some, IfSome, ◌∙◌, ◌&&◌, ap, true≢false, if◌then◌else◌, refl, rules, subst}
use Rattle.std.proofs.lemmas.Bool.{and_parts, leb-true, ltb-true}
use Rattle.std.specs.Option.{option_and_then}
use Rattle.ca_keys.specs.declared.access.Ask.{Ask}
use Rattle.ca_keys.specs.declared.access.Kind.TheVariants as kinds
use Rattle.ca_base.specs.declared.completion.WcStatus.TheVariants.{BadResponse, LocalProtection, RemoteAccess, RemoteInvalidRequest, RemoteOperation, RetryExceeded, RnrRetryExceeded}
use Rattle.ca_base.specs.declared.limits.TheConstants.{MAX_PIECES, MAX_RETRY}
use Rattle.ca_base.specs.declared.refusals.OpRefusal.{OpRefusal}
use Rattle.ca_base.specs.declared.denied_ask.DeniedAsk.{DeniedAsk}
use Rattle.ca_base.specs.objects.QueuePair.{QueuePair}
use Rattle.ca_model.specs.ca_wire.declared.syndrome.NakCode.{NakCode}
use Rattle.ca_model.specs.ca_wire.declared.syndrome.NakCode.TheVariants.{PsnSequenceError, InvalidRequest, RemoteAccessError, RemoteOperationalError}
use Rattle.ca_model.specs.ca_wire.Packet.{Fields}
use Rattle.ca_model.specs.ca_wire.declared.syndrome.Syndrome.{Syndrome}
use Rattle.ca_model.specs.ca_wire.declared.syndrome.Syndrome.TheVariants.{Ack, Nak, RnrNak}
use Rattle.ca_model.specs.ca_wire.Syndrome.{syndrome_in}
use Rattle.ca_model.specs.declared.mark.Drop1.{Drop1}
use Rattle.ca_model.specs.declared.mark.Drop1.TheVariants as drops
use Rattle.ca_model.specs.declared.mark.Mark.{Mark}
use Rattle.ca_model.specs.Requests.{list_of}
use Rattle.ca_model.specs.machine.Acknowledgements.{Acknowledgement, acknowledgement_below, and_then, failure_effects, first_unanswered, one_retry, progress_to, with_cursor, with_requester}
use Rattle.ca_model.specs.machine.Numbering.{Numbered, begun_requests, is_answered_op, psn_end}
use Rattle.ca_model.specs.machine.Requester.{local_denial}
use Rattle.ca_model.specs.machine.Responses.{acknowledge_row, answer_asks, answer_bytes, answer_row, drop_effects, fitting_row, local_writes, nak_effects, response_psn, response_row, rnr_nak_effects, segment_at, unless_back, writes_by}
use Rattle.ca_model.specs.machine.Places.{completions_in}
use Rattle.ca_model.specs.machine.Row.{Ending, NotPossible, Does, Effects, Row, plain_row, queue_and_marks}
use Rattle.ca_model.specs.machine.Invariants.{IsQueue, is_sending}
use Rattle.ca_law_world.proofs.Sound.GoodLemmas.{IsGood, IsLater, failure-good, good-then, later-same, requester-queue, settled-append, settled-quiet, taken-same}
use Rattle.ca_law_world.proofs.Sound.OrderLemmas.{order-as, order-behind, order-still}
use Rattle.ca_law_world.proofs.Sound.NumberingLemmas.{IsShort, found-short, list-asks}
use Rattle.ca_law_world.proofs.Sound.RequesterLemmas.{good-from, progress-after, progress-good, retry-good}
use Rattle.ca_law_world.proofs.Sound.RowWalks.{walk-fitting, walk-response}

-- an ending that leaves a queue pair that can come up
abbrev pub IsGoodEnding : QueuePair → Ending → Type 0
IsGoodEnding q (NotPossible reason) = Unit {0}
IsGoodEnding q (Does e) = IsGood q e

-- a row of which each ending does
pub record IsGoodRow (q : QueuePair) (row : Row) : Type 0 where
  pub denied : (d : DeniedAsk) → IsGoodEnding q (row.denied d)
  pub allowed : (bytes : List (List ℕ)) (refusal : Option OpRefusal) → IsGoodEnding q (row.allowed bytes refusal)
  pub few : length row.asks ≤ MAX_PIECES

pub plain-good : (q : QueuePair) (e : Ending) → IsGoodEnding q e → IsGoodRow q (plain_row e)
plain-good q e good = record { denied = λ d. good; allowed = λ bytes refusal. good; few = omega arith }

pub drop-good : (q : QueuePair) (cause : Drop1) → IsQueue q → IsGood q (drop_effects q cause)
drop-good q cause s = record {
  sound = s;
  later = later-same q;
  settled = (record {}, record {});
  order = order-still q (drop_effects q cause) (record { sends = refl; receives = refl; oldest = refl; in_use = refl }) refl;
}

-- what stands after all below a PSN was acknowledged
record IsAcknowledged (psn : ℕ) (q : QueuePair) (a : Acknowledgement) : Type 0 where
  good : IsGood q a.effects
  takes : a.effects.takes_shared ≡ false
  low : a.went_back ≡ false → a.effects.queue.requester.una ≤ psn
  high : a.went_back ≡ false → psn ≤ a.effects.queue.requester.cursor
  cursor : a.went_back ≡ false → a.effects.queue.requester.cursor ≡ q.requester.cursor
  state : a.went_back ≡ false → a.effects.queue.state ≡ q.state

-- a READ or an atomic that was not answered stands from `una` on, and before the PSN
abbrev pub IsBetween : ℕ → ℕ → Option ℕ → Type 0
IsBetween una psn None = Unit {0}
IsBetween una psn (Some back) = (una ≤ back) × (back < psn)

pub unanswered-between : (una psn : ℕ) (ns : List Numbered) → IsBetween una psn (first_unanswered una psn ns)
unanswered-between una psn [] = record {}
unanswered-between una psn (n ∷ ns) =
    by (is_answered_op n.request.op && nat_lt una (psn_end n)) (nat_lt (max una n.first) psn) refl (unanswered-between una psn ns)
  where
    by : (b z : Bool) → nat_lt (max una n.first) psn ≡ z → IsBetween una psn (first_unanswered una psn ns)
        → IsBetween una psn (if b && z then Some (max una n.first) else first_unanswered una psn ns)
    by true true e rest = (omega arith, ltb-true (max una n.first) psn e)
    by true false e rest = rest
    by false z e rest = rest

-- a retry takes no receive
pub retry-takes : (psn : ℕ) (q : QueuePair) → (one_retry psn q).takes_shared ≡ false
retry-takes psn q = by (nat_le q.requester.retry q.requester.retries)
  where
    counted : QueuePair
    counted = with_requester (record q.requester { retries = suc q.requester.retries }) q

    by : (b : Bool) → (if b then failure_effects RetryExceeded None counted else queue_and_marks (with_cursor psn counted) []).takes_shared ≡ false
    by true = refl
    by false = refl

acknowledged : (psn : ℕ) (q : QueuePair) → IsQueue q → is_sending q.state ≡ true → q.requester.una ≤ psn → psn ≤ q.requester.cursor
    → IsAcknowledged psn q (acknowledgement_below psn q)
acknowledged psn q s sending low high =
    by (first_unanswered q.requester.una psn (begun_requests q)) (unanswered-between q.requester.una psn (begun_requests q))
  where
    after : Option ℕ → Acknowledgement
    after None = record { effects = progress_to psn q; went_back = false }
    after (Some back) = record { effects = and_then (progress_to back q) (one_retry back); went_back = true }

    by : (back : Option ℕ) → IsBetween q.requester.una psn back → IsAcknowledged psn q (after back)
    by None between = record {
      good = progress-good psn q s high;
      takes = refl;
      low = λ e. omega (arith, low, (progress-after psn q).una);
      high = λ e. omega (arith, high, (progress-after psn q).cursor);
      cursor = λ e. (progress-after psn q).cursor;
      state = λ e. (progress-after psn q).state;
    }
    by (Some back) between = record {
      good = good-then q (progress_to back q) (one_retry back) refl progress
          (retry-good back (progress_to back q).queue progress.sound (ap is_sending (progress-after back q).state ∙ sending)
          (progress.sound.requester.retries (ap is_sending (progress-after back q).state ∙ sending))
          (omega (arith, between.0, (progress-after back q).una)) (omega (arith, between.1, high, (progress-after back q).cursor)));
      takes = retry-takes back (progress_to back q).queue;
      low = λ e. absurd (true≢false e);
      high = λ e. absurd (true≢false e);
      cursor = λ e. absurd (true≢false e);
      state = λ e. absurd (true≢false e);
    }
      where
        progress : IsGood q (progress_to back q)
        progress = progress-good back q s (omega (arith, between.1, high))

unless-back-good : (psn : ℕ) (q : QueuePair) (a : Acknowledgement) (f : QueuePair → Effects) → IsAcknowledged psn q a
    → (a.went_back ≡ false → IsGood a.effects.queue (f a.effects.queue)) → IsGood q (unless_back a f)
unless-back-good psn q a f after then_good = by a.went_back refl
  where
    by : (b : Bool) → a.went_back ≡ b → IsGood q (if b then a.effects else and_then a.effects f)
    by true e = after.good
    by false e = good-then q a.effects f after.takes after.good (then_good e)

rnr-good : (psn : ℕ) (q : QueuePair) → IsQueue q → q.requester.una ≤ psn → psn ≤ q.requester.cursor → IsGood q (rnr_nak_effects psn q)
rnr-good psn q s low high = by (nat_lt q.requester.rnr_retry MAX_RETRY && nat_le q.requester.rnr_retry q.requester.rnrs)
  where
    counted : QueuePair
    counted = with_requester (record q.requester { rnrs = suc q.requester.rnrs }) q

    same : IsLater q counted
    same = record { queue = refl; domain = refl; send_cq = refl; recv_cq = refl; srq = refl; finished = omega arith; taken = taken-same q.receives }

    by : (b : Bool) → IsGood q (if b then failure_effects RnrRetryExceeded None counted
        else queue_and_marks (with_requester (record counted.requester { cursor = psn; waiting = true }) q) [])
    by true = good-from q counted (failure_effects RnrRetryExceeded None counted) same (record { sends = refl; receives = refl; oldest = refl; in_use = refl })
        (failure-good RnrRetryExceeded None counted (requester-queue q counted.requester s (search rules) s.begun))
    by false = record {
      sound = requester-queue q (record counted.requester { cursor = psn; waiting = true }) s (search rules) (λ sending. omega (arith, high, s.begun sending));
      later = record { queue = refl; domain = refl; send_cq = refl; recv_cq = refl; srq = refl; finished = omega arith; taken = taken-same q.receives };
      settled = record {};
      order = order-still q (queue_and_marks (with_requester (record counted.requester { cursor = psn; waiting = true }) q) [])
          (record { sends = refl; receives = refl; oldest = refl; in_use = refl }) refl;
    }

nak-good : (psn : ℕ) (code : NakCode) (q : QueuePair) → IsQueue q → is_sending q.state ≡ true → q.requester.retries ≤ q.requester.retry → q.requester.una ≤ psn
    → psn ≤ q.requester.cursor → IsGood q (nak_effects psn code q)
nak-good psn PsnSequenceError q s sending few low high = retry-good psn q s sending few low high
nak-good psn InvalidRequest q s sending few low high = failure-good RemoteInvalidRequest None q s
nak-good psn RemoteAccessError q s sending few low high = failure-good RemoteAccess None q s
nak-good psn RemoteOperationalError q s sending few low high = failure-good RemoteOperation None q s

few-retries : (psn : ℕ) (q : QueuePair) (a : Acknowledgement) → is_sending q.state ≡ true → IsAcknowledged psn q a → a.went_back ≡ false
    → a.effects.queue.requester.retries ≤ a.effects.queue.requester.retry
few-retries psn q a sending after e = after.good.sound.requester.retries (ap is_sending (after.state e) ∙ sending)

acknowledge-good : (psn : ℕ) (syndrome : Option Syndrome) (q : QueuePair) → IsQueue q → is_sending q.state ≡ true → q.requester.una ≤ psn → psn < q.requester.cursor
    → IsGood q (acknowledge_row psn syndrome q)
acknowledge-good psn (Some (Ack credits)) q s sending low high = (acknowledged (suc psn) q s sending (omega (arith, low)) high).good
acknowledge-good psn (Some (RnrNak timer)) q s sending low high =
    unless-back-good psn q (acknowledgement_below psn q) (rnr_nak_effects psn) after (λ e. rnr-good psn _ after.good.sound (after.low e) (after.high e))
  where
    after : IsAcknowledged psn q (acknowledgement_below psn q)
    after = acknowledged psn q s sending low (omega (arith, high))
acknowledge-good psn (Some (Nak code)) q s sending low high =
    unless-back-good psn q (acknowledgement_below psn q) (nak_effects psn code) after
    (λ e. nak-good psn code _ after.good.sound (ap is_sending (after.state e) ∙ sending) (few-retries psn q (acknowledgement_below psn q) sending after e) (after.low e) (after.high e))
  where
    after : IsAcknowledged psn q (acknowledgement_below psn q)
    after = acknowledged psn q s sending low (omega (arith, high))
acknowledge-good psn None q s sending low high = drop-good q drops.Stale s

pub local-writes-quiet : (xs : List (Ask × List ℕ)) → completions_in (local_writes xs) ≡ []
local-writes-quiet [] = refl
local-writes-quiet (x ∷ xs) = local-writes-quiet xs

-- marks that tell of no completion, before those of effects
pub more-marks : (q : QueuePair) (e : Effects) (ms : List Mark) → completions_in ms ≡ [] → IsGood q e → IsGood q (record e { marks = ms ++ e.marks })
more-marks q e ms quiet good = record {
  sound = good.sound;
  later = good.later;
  settled = settled-append e.queue ms e.marks (settled-quiet e.queue ms quiet) good.settled;
  order = order-behind q e ms quiet good.order;
}

pub more-writes : (q : QueuePair) (e : Effects) (writes : List (Ask × List ℕ)) → IsGood q e → IsGood q (record e { writes = writes })
more-writes q e writes good = record {
  sound = good.sound;
  later = good.later;
  settled = good.settled;
  order = order-as q e (record e { writes = writes }) (record { sends = refl; receives = refl; oldest = refl; in_use = refl }) refl refl good.order;
}

answer-good : (psn : ℕ) (p : Fields) (q : QueuePair) (before : Effects) (n : Numbered) → before.takes_shared ≡ false → IsGood q before → psn < before.queue.requester.cursor
    → IsShort n → IsGoodRow q (answer_row psn p before n)
answer-good psn p q before n takes good high short = record {
  denied = λ d. good-then q before (denied d) takes good
      (more-marks before.queue (failure_effects LocalProtection None before.queue) (local_denial d ∷ []) refl
      (failure-good LocalProtection None before.queue good.sound));
  allowed = λ bytes refusal. more-writes q (and_then before placed) writes (good-then q before placed takes good
      (more-marks before.queue (progress_to (suc psn) before.queue) (local_writes writes)
      (local-writes-quiet writes) (progress-good (suc psn) before.queue good.sound high)));
  few = list-asks before.queue kinds.Write (segment_at psn before.queue n) (length (answer_bytes p)) (list_of n.request.op) short;
}
  where
    writes : List (Ask × List ℕ)
    writes = writes_by (answer_asks psn p before.queue n) (answer_bytes p)

    denied : DeniedAsk → QueuePair → Effects
    denied d q = record (failure_effects LocalProtection None q) { marks = local_denial d ∷ (failure_effects LocalProtection None q).marks }

    placed : QueuePair → Effects
    placed q = record (progress_to (suc psn) q) { marks = local_writes writes ++ (progress_to (suc psn) q).marks }

fitting-good : (psn : ℕ) (p : Fields) (q : QueuePair) (a : Acknowledgement) → IsAcknowledged psn q a → psn < q.requester.cursor → IsGoodRow q (fitting_row psn p a)
fitting-good psn p q a after high = walk-fitting (IsGoodRow q) psn p a (λ back. plain-good q (Does a.effects) after.good)
    (plain-good q _ (good-then q a.effects (failure_effects BadResponse None) after.takes after.good (failure-good BadResponse None a.effects.queue after.good.sound)))
    (λ n on is. answer-good psn p q a.effects n after.takes after.good (omega (arith, high, after.cursor on)) (subst (λ o. IfSome o IsShort) is (found-short psn a.effects.queue after.good.sound)))

pub response-good : (p : Fields) (q : QueuePair) → IsQueue q → IsGoodRow q (response_row p q)
response-good p q s = walk-response (IsGoodRow q) p q (λ cause. plain-good q _ (drop-good q cause s))
    (λ sending there. by sending (and_parts (nat_le q.requester.una (response_psn q p)) (nat_lt (response_psn q p) q.requester.cursor) there))
  where
    psn : ℕ
    psn = response_psn q p

    by : is_sending q.state ≡ true → (nat_le q.requester.una psn ≡ true) × (nat_lt psn q.requester.cursor ≡ true)
        → IsGoodRow q (plain_row (Does (acknowledge_row psn (option_and_then (λ a. syndrome_in a.syndrome) p.aeth) q))) × IsGoodRow q (fitting_row psn p (acknowledgement_below psn q))
    by sending parts = (
      plain-good q _ (acknowledge-good psn (option_and_then (λ a. syndrome_in a.syndrome) p.aeth) q s sending low high),
      fitting-good psn p q (acknowledgement_below psn q) (acknowledged psn q s sending low (omega (arith, high))) high,
    )
      where
        low : q.requester.una ≤ psn
        low = leb-true q.requester.una psn parts.0

        high : psn < q.requester.cursor
        high = ltb-true psn q.requester.cursor parts.1
