-- Lemmas on a list whose elements pass from the front to the back, or go. For proofs only.
use Rattle.std.proofs.Common.{◌≡◌, ℕ, suc, zero, ◌+◌, ◌<◌, Bool, List, [], ◌∷◌, ◌++◌, length, take, drop, filter, refl, arith, append_assoc}
use Rattle.std.proofs.lemmas.Grind.{common_steps}
use Rattle.std.proofs.lemmas.List.Elements.{filter-append}

module _ {X : Type 0} where
  -- the first elements, with the next one
  take-more : (k : ℕ) (xs : List X) → take (k + 1) xs ≡ take k xs ++ take 1 (drop k xs)
  take-more zero xs = refl
  take-more (suc k) [] = grind (arith, common_steps)
  take-more (suc k) (x ∷ xs) = grind (arith, take-more k xs)

  -- the element in front goes behind others, if it stays
  pass : (p : X → Bool) (k : ℕ) (xs others : List X) → k < length xs →
      drop 1 (drop k xs ++ others) ++ filter p (take 1 (drop k xs ++ others)) ≡ drop (k + 1) xs ++ (others ++ filter p (take 1 (drop k xs)))
  pass p k [] others h = grind (arith, h)
  pass p zero (x ∷ xs) others h = append_assoc xs others (filter p (x ∷ []))
  pass p (suc k) (x ∷ xs) others h = grind (arith, pass p k xs others (omega (arith, h)))

  -- of those that stay, one more
  filter-more : (p : X → Bool) (k : ℕ) (xs : List X) → filter p (take (k + 1) xs) ≡ filter p (take k xs) ++ filter p (take 1 (drop k xs))
  filter-more p k xs = rw (take-more k xs) (filter-append p (take k xs) (take 1 (drop k xs)))

  -- the element in front goes behind those that stay, if it stays
  pub pass-front : (p : X → Bool) (k : ℕ) (xs : List X) → k < length xs →
      drop 1 (drop k xs ++ filter p (take k xs)) ++ filter p (take 1 (drop k xs ++ filter p (take k xs)))
      ≡ drop (k + 1) xs ++ filter p (take (k + 1) xs)
  pass-front p k xs h = rw (filter-more p k xs) (pass p k xs (filter p (take k xs)) h)
