-- How often a PSN stands among those of numbers that follow each other. For proofs only.
use Rattle.std.proofs.Common.{◌≡◌, ℕ, zero, suc, ◌+◌, ◌%◌, ◌^◌, ◌<◌, ◌≤◌, ◌⊎◌, inl, inr, ◌==◌, arith, Bool, true, false, List, [], ◌∷◌, refl, ap, sym, ◌∙◌, true≢false}
use Rattle.std.proofs.lemmas.Bool.{eqb-false, eqb-true}
use Rattle.std.proofs.lemmas.Bool.Decides.{nat_tests}
use Rattle.std.specs.List.{count_by, list_all}
use Rattle.ca_law_once.proofs.Once.FoundTolds.{count-not, count-yes}
use Rattle.ca_law_once.proofs.Once.NoteLemmas.{Among}
use Rattle.ca_law_once.specs.Written.{psns_falling, times_wrote}

other-psn : (low n k : ℕ) → n < k → k < n + 2 ^ 24 → (low + n) % 2 ^ 24 ≡ (low + k) % 2 ^ 24 → ⊥
other-psn low n k below above same = omega (arith, below, above, same)

differ : (m n : ℕ) → (m ≡ n → ⊥) → (m == n) ≡ false
differ m n apart = by (m == n) refl
  where
    by : (b : Bool) → (m == n) ≡ b → b ≡ false
    by true is = absurd (apart (eqb-true m n is))
    by false is = refl

-- a number behind all of them has another PSN
falling-none : (low n k : ℕ) → n ≤ k → k < 2 ^ 24 → times_wrote (psns_falling low n) ((low + k) % 2 ^ 24) ≡ 0
falling-none low zero k behind few = refl
falling-none low (suc n) k behind few = count-not (λ m. m == ((low + k) % 2 ^ 24)) ((low + n) % 2 ^ 24) (psns_falling low n)
    (differ ((low + n) % 2 ^ 24) ((low + k) % 2 ^ 24) (other-psn low n k (omega (arith, behind)) (omega (arith, few)))) ∙ falling-none low n k (omega (arith, behind)) few

pub falling-once : (low n psn : ℕ) → n ≤ 2 ^ 24 → times_wrote (psns_falling low n) psn ≤ 1
falling-once low zero psn few = omega arith
falling-once low (suc n) psn few = by (((low + n) % 2 ^ 24) == psn) refl (falling-once low n psn (omega (arith, few)))
  where
    by : (b : Bool) → (((low + n) % 2 ^ 24) == psn) ≡ b → times_wrote (psns_falling low n) psn ≤ 1 → times_wrote (psns_falling low (suc n)) psn ≤ 1
    by true is rest = omega (
      arith,
      count-yes (λ m. m == psn) ((low + n) % 2 ^ 24) (psns_falling low n) is,
      ap (times_wrote (psns_falling low n)) (sym (eqb-true ((low + n) % 2 ^ 24) psn is)) ∙ falling-none low n n (omega arith) (omega (arith, few)),
    )
    by false is rest = omega (arith, count-not (λ m. m == psn) ((low + n) % 2 ^ 24) (psns_falling low n) is, rest)

-- what stands in a list stands there at least once
among-some : (psn : ℕ) (xs : List ℕ) → Among psn xs → 1 ≤ times_wrote xs psn
among-some psn [] among = absurd among
among-some psn (x ∷ xs) among = by (x == psn) refl among (among-some psn xs)
  where
    by : (b : Bool) → (x == psn) ≡ b → (x ≡ psn) ⊎ Among psn xs → (Among psn xs → 1 ≤ times_wrote xs psn) → 1 ≤ times_wrote (x ∷ xs) psn
    by true is here rest = omega (arith, count-yes (λ m. m == psn) x xs is)
    by false is (inl same) rest = absurd (eqb-false x psn is same)
    by false is (inr later) rest = omega (arith, count-not (λ m. m == psn) x xs is, rest later)

one-test : (m : ℕ) → m ≤ 1 → 1 ≤ m → (m == 1) ≡ true
one-test m most least = grind (arith, nat_tests)

pub falling-each : (low n : ℕ) (psn : ℕ) → n ≤ 2 ^ 24 → Among psn (psns_falling low n) → (times_wrote (psns_falling low n) psn == 1) ≡ true
falling-each low n psn few among = one-test (times_wrote (psns_falling low n) psn) (falling-once low n psn few) (among-some psn (psns_falling low n) among)
