-- What is left of a pass, one offer further. For proofs only.
use Rattle.std.proofs.Common.{◌==◌, ◌≤◌, length, length-drop, ◌≡◌, ℕ, zero, suc, ◌+◌, ◌-◌, ◌||◌, Bool, true, false, List, [], ◌∷◌, Option, drop, refl, ap, ◌∙◌, arith}
use Rattle.ca_engine.specs.Engine.{EngineValue, offers_of_pass, is_over}
use Rattle.std.proofs.lemmas.Bool.Decides.{nat_tests}
use Rattle.ca_engine.specs.declared.offer.Offer.{Offer}
use Rattle.ca_engine.specs.declared.pass.Pass.{Pass}

abbrev at_place : List Offer → List Offer → Pass → ℕ → Bool → Option ℕ → EngineValue
at_place round timers pass place happened clock = record {
  round = round;
  timers = timers;
  pass = pass;
  left = drop place (offers_of_pass pass round timers);
  happened = happened;
  clock = clock;
}

pub drop-drop : (n : ℕ) (xs : List Offer) → drop (suc n) xs ≡ drop 1 (drop n xs)
drop-drop zero xs = refl
drop-drop (suc n) [] = refl
drop-drop (suc n) (x ∷ xs) = drop-drop n xs

-- one offer further
pub gone_past : (round timers : List Offer) (pass : Pass) (place : ℕ) (happened after : Bool) (clock later : Option ℕ) (now : EngineValue)
    → at_place round timers pass place happened clock ≡ now
    → at_place round timers pass (place + 1) after later ≡ record now { left = drop 1 now.left; happened = after; clock = later }
gone_past round timers pass place happened after clock later now now_is =
    ap (λ left. record { round = round; timers = timers; pass = pass; left = left; happened = after; clock = later })
    (ap (λ (k : ℕ). drop k (offers_of_pass pass round timers)) {y = suc place} (omega arith) ∙ drop-drop place (offers_of_pass pass round timers))
    ∙ ap (λ (e : EngineValue). record e { left = drop 1 e.left; happened = after; clock = later }) now_is

-- a place is behind all offers where nothing is left
pub over_at : (xs : List Offer) (k : ℕ) → k ≤ length xs → (k == length xs) ≡ is_over (drop k xs)
over_at xs k within = by (drop k xs) (length-drop k xs)
  where
    by : (ys : List Offer) → length ys ≡ length xs - k → (k == length xs) ≡ is_over ys
    by [] is = grind (arith, nat_tests)
    by (y ∷ ys) is = grind (arith, nat_tests)

-- where it was so before, or is so now
pub or_so : (b : Bool) → (b || true) ≡ true
or_so true = refl
or_so false = refl

pub or_not : (b : Bool) → (b || false) ≡ b
or_not true = refl
or_not false = refl

pub ruleset ways = (or_so, or_not)
