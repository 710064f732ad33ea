-- Offers that are gone past at once are told one after another to be not ready. For proofs only.
use Rattle.std.proofs.Common.{◌≡◌, ◌∙◌, refl, sym, ap, ℕ, zero, suc, ◌-◌, ◌<◌, ◌==◌, ◌||◌, min, not, true, false, arith, List, [], ◌∷◌, length, drop, replicate, Option, None, Some}
use Rattle.std.proofs.lemmas.Bool.Decides.{nat_tests}
use Rattle.ca_engine.proofs.EngineLemmas.{or_not}
use Rattle.ca_engine.specs.Engine.{EngineValue, engine_after, engine_after_all}
use Rattle.ca_engine.specs.Passing.{gone_past_all, has_other_clock, most_passed, passed_over}
use Rattle.ca_engine.specs.declared.offer.Offer.{Offer}
use Rattle.ca_engine.specs.declared.outcome.Outcome.TheVariants as outcomes
use Rattle.ca_engine.specs.declared.pass.Pass.{Pass}
use Rattle.ca_engine.specs.declared.pass.Pass.TheVariants as passes

-- ---- what is left

drop-none : (k : ℕ) → drop {A = Offer} k [] ≡ []
drop-none zero = refl
drop-none (suc k) = refl

drop-first : (k : ℕ) (xs : List Offer) → drop (suc k) xs ≡ drop k (drop 1 xs)
drop-first k [] = sym (drop-none k)
drop-first k (x ∷ xs) = refl

-- ---- one after another

same-clock : (now : ℕ) → not (now == now) ≡ false
same-clock now = let same : (now == now) ≡ true = grind (arith, nat_tests) in ap not same

-- one offer of a round, behind which there are more
pub passed_one : (e : EngineValue) (now : ℕ) → e.pass ≡ passes.Round → 1 < length e.left → engine_after e (outcomes.NotReady now) ≡ gone_past_all e 1 now
passed_one e now round more = at e.pass round
  where
    by : (left : List Offer) (clock : Option ℕ) → 1 < length left
        → engine_after (record e { pass = passes.Round; left = left; clock = clock }) (outcomes.NotReady now) ≡ gone_past_all (record e { pass = passes.Round; left = left; clock = clock }) 1 now
    by [] clock more = absurd (omega (arith, more))
    by (x ∷ []) clock more = absurd (omega (arith, more))
    by (x ∷ y ∷ rest) None more = refl
    by (x ∷ y ∷ rest) (Some before) more = refl

    at : (pass : Pass) → pass ≡ passes.Round → engine_after (record e { pass = pass }) (outcomes.NotReady now) ≡ gone_past_all (record e { pass = pass }) 1 now
    at passes.Round is = by e.left e.clock more
    at passes.Timers is = absurd cc

-- one more
passed-more : (e : EngineValue) (k now : ℕ) → gone_past_all (gone_past_all e 1 now) (suc k) now ≡ gone_past_all e (suc (suc k)) now
passed-more e k now = λ i. record e {
  left = sym (drop-first (suc k) e.left) i;
  happened = (ap (λ b. (e.happened || has_other_clock e.clock now) || b) (same-clock now) ∙ or_not (e.happened || has_other_clock e.clock now)) i;
  clock = Some now;
}

fewer-left : (xs : List Offer) (k : ℕ) → suc k < length xs → k < length (drop 1 xs)
fewer-left [] k more = absurd (omega (arith, more))
fewer-left (x ∷ xs) k more = omega (arith, more)

-- so many offers of a round, behind which there are more
pub passed_all : (k : ℕ) (e : EngineValue) (now : ℕ) → e.pass ≡ passes.Round → suc k < length e.left
    → engine_after_all e (replicate (suc k) (outcomes.NotReady now)) ≡ gone_past_all e (suc k) now
passed_all zero e now round more = passed_one e now round more
passed_all (suc k) e now round more =
    ap (λ f. engine_after_all f (replicate (suc k) (outcomes.NotReady now))) (passed_one e now round (omega (arith, more)))
    ∙ passed_all k (gone_past_all e 1 now) now round (fewer-left e.left (suc k) more)
    ∙ passed-more e k now

-- the same of as many as are gone past at once
pub passed_at_once : (e f : EngineValue) (n count now : ℕ) → n ≡ most_passed e count → 0 < n → f ≡ gone_past_all e n now → f ≡ passed_over e count now
passed_at_once e f n count now is some past = past ∙ one-by-one n some few ∙ ap (λ k. engine_after_all e (replicate k (outcomes.NotReady now))) is
  where
    in-round : (pass : Pass) → 0 < most_passed (record e { pass = pass }) count → pass ≡ passes.Round
    in-round passes.Round some = refl
    in-round passes.Timers some = absurd (omega (arith, some))

    round : e.pass ≡ passes.Round
    round = in-round e.pass (omega (arith, is, some))

    most : most_passed e count ≡ min count (length e.left - 1)
    most = ap (λ pass. most_passed (record e { pass = pass }) count) round

    few : n < length e.left
    few = omega (arith, is, some, most)

    one-by-one : (k : ℕ) → 0 < k → k < length e.left → gone_past_all e k now ≡ engine_after_all e (replicate k (outcomes.NotReady now))
    one-by-one zero some more = absurd (omega (arith, some))
    one-by-one (suc k) some more = sym (passed_all k e now round more)
