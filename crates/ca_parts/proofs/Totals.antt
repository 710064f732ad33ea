-- Lemmas on sums over the views of all passes.
use Rattle.std.proofs.Common.{◌≡◌, ◌≢◌, ℕ, zero, suc, ◌+◌, ◌≤◌, List, [], ◌∷◌, ◌++◌, set, sym, refl, ap, arith}
use mathlib.Core.Option.{some, some-injective, some-ne-none}
use lib.ListN.{get_elem?}
use Rattle.ca_parts.specs.Lists.{total}

module _ {A : Type 0} (f : A → ℕ) where
  pub total_set : (xs : List A) (i : ℕ) (v w : A) → get_elem? xs i ≡ some v → total f (set xs i w) + f v ≡ total f xs + f w
  total_set [] i v w e = absurd (some-ne-none v (sym e))
  total_set (x ∷ xs) zero v w e = let same : f x ≡ f v = ap f (some-injective x v e) in let out : (f w + total f xs) + f v ≡ (f x + total f xs) + f w = omega arith in out
  total_set (x ∷ xs) (suc i) v w e = let rest : total f (set xs i w) + f v ≡ total f xs + f w = total_set xs i v w e in let out : (f x + total f (set xs i w)) + f v ≡ (f x + total f xs) + f w = omega arith in out

  pub total_last : (xs : List A) (w : A) → total f (xs ++ w ∷ []) ≡ total f xs + f w
  total_last [] w = omega arith
  total_last (x ∷ xs) w = omega (arith, total_last xs w)

  pub total_one : (xs : List A) (i : ℕ) (v : A) → get_elem? xs i ≡ some v → f v ≤ total f xs
  total_one [] i v e = absurd (some-ne-none v (sym e))
  total_one (x ∷ xs) zero v e = let same : f x ≡ f v = ap f (some-injective x v e) in let out : f v ≤ f x + total f xs = omega arith in out
  total_one (x ∷ xs) (suc i) v e = let rest : f v ≤ total f xs = total_one xs i v e in let out : f v ≤ f x + total f xs = omega arith in out

  pub total_two : (xs : List A) (i j : ℕ) (v w : A) → j ≢ i → get_elem? xs i ≡ some v → get_elem? xs j ≡ some w → f v + f w ≤ total f xs
  total_two [] i j v w ne e d = absurd (some-ne-none v (sym e))
  total_two (x ∷ xs) zero zero v w ne e d = absurd (ne refl)
  total_two (x ∷ xs) zero (suc j) v w ne e d = let same : f x ≡ f v = ap f (some-injective x v e) in let rest : f w ≤ total f xs = total_one xs j w d in let out : f v + f w ≤ f x + total f xs = omega arith in out
  total_two (x ∷ xs) (suc i) zero v w ne e d = let same : f x ≡ f w = ap f (some-injective x w d) in let rest : f v ≤ total f xs = total_one xs i v e in let out : f v + f w ≤ f x + total f xs = omega arith in out
  total_two (x ∷ xs) (suc i) (suc j) v w ne e d = let rest : f v + f w ≤ total f xs = total_two xs i j v w (λ q. ne (ap suc q)) e d in let out : f v + f w ≤ f x + total f xs = omega arith in out

  pub total_zero : (xs : List A) → ((j : ℕ) (u : A) → get_elem? xs j ≡ some u → f u ≡ 0) → total f xs ≡ 0
  total_zero [] none = refl
  total_zero (x ∷ xs) none = let here : f x ≡ 0 = none 0 x refl in let rest : total f xs ≡ 0 = total_zero xs (λ j u e. none (suc j) u e) in let out : f x + total f xs ≡ 0 = omega arith in out

  -- where all others have none, the whole is the one's
  pub total_alone : (xs : List A) (i : ℕ) (v : A) → get_elem? xs i ≡ some v → ((j : ℕ) (u : A) → j ≢ i → get_elem? xs j ≡ some u → f u ≡ 0) → total f xs ≡ f v
  total_alone [] i v e none = absurd (some-ne-none v (sym e))
  total_alone (x ∷ xs) zero v e none = let same : f x ≡ f v = ap f (some-injective x v e) in let rest : total f xs ≡ 0 = total_zero xs (λ j u d. none (suc j) u (λ q. absurd (omega arith)) d) in let out : f x + total f xs ≡ f v = omega arith in out
  total_alone (x ∷ xs) (suc i) v e none = let here : f x ≡ 0 = none 0 x (λ q. absurd (omega arith)) refl in let rest : total f xs ≡ f v = total_alone xs i v e (λ j u ne d. none (suc j) u (λ q. ne (omega arith)) d) in let out : f x + total f xs ≡ f v = omega arith in out

pub total_more : {A : Type 0} (f g : A → ℕ) (xs : List A) → ((u : A) → f u ≤ g u) → total f xs ≤ total g xs
total_more f g [] more = omega arith
total_more f g (x ∷ xs) more = let here : f x ≤ g x = more x in let rest : total f xs ≤ total g xs = total_more f g xs more in let out : f x + total f xs ≤ g x + total g xs = omega arith in out
