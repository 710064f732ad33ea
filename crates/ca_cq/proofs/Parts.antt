-- Lemmas on the first elements of a list, one more at a time. For proofs only.
use Rattle.std.proofs.Common.{◌≡◌, ℕ, suc, zero, ◌+◌, ◌<◌, ◌≤◌, Bool, true, List, [], ◌∷◌, ◌++◌, length, take, drop, filter, slice_get, Some, None, refl, arith}
use Rattle.std.proofs.lemmas.Grind.{common_steps}
use Rattle.std.proofs.lemmas.List.Elements.{filter-append}

module _ {X : Type 0} where
  -- the first elements, with the next one
  pub take-more : (k : ℕ) (xs : List X) → take (k + 1) xs ≡ take k xs ++ take 1 (drop k xs)
  take-more zero xs = refl
  take-more (suc k) [] = grind (arith, common_steps)
  take-more (suc k) (x ∷ xs) = grind (arith, take-more k xs)

  -- of those that stay, one more
  pub filter-more : (p : X → Bool) (k : ℕ) (xs : List X) → filter p (take (k + 1) xs) ≡ filter p (take k xs) ++ filter p (take 1 (drop k xs))
  filter-more p k xs = rw (take-more k xs) (filter-append p (take k xs) (take 1 (drop k xs)))

  -- the element at a place, alone
  pub take-at : (k : ℕ) (xs : List X) (x : X) → slice_get xs k ≡ Some x → take 1 (drop k xs) ≡ x ∷ []
  take-at k [] x h = grind (arith, common_steps, h)
  take-at zero (y ∷ xs) x h = grind (arith, common_steps, h)
  take-at (suc k) (y ∷ xs) x h = grind (arith, common_steps, take-at k xs x (grind (arith, common_steps, h)))

  -- behind all there is none
  pub take-none : (k : ℕ) (xs : List X) → slice_get xs k ≡ None → take 1 (drop k xs) ≡ []
  take-none k [] h = grind (arith, common_steps)
  take-none zero (y ∷ xs) h = grind (arith, common_steps, h)
  take-none (suc k) (y ∷ xs) h = grind (arith, common_steps, take-none k xs (grind (arith, common_steps, h)))

  -- of those that stay, fewer stand before one of them than there are
  pub length-filter-before : (p : X → Bool) (k : ℕ) (xs : List X) (x : X) → slice_get xs k ≡ Some x → p x ≡ true →
      length (filter p (take k xs)) < length (filter p xs)
  length-filter-before p k [] x h is = grind (arith, common_steps, h)
  length-filter-before p zero (y ∷ xs) x h is = grind (arith, common_steps, h, is)
  length-filter-before p (suc k) (y ∷ xs) x h is =
      grind (arith, common_steps, length-filter-before p k xs x (grind (arith, common_steps, h)) is)

  -- one element less
  pub drop-next : (k : ℕ) (xs : List X) → drop 1 (drop k xs) ≡ drop (k + 1) xs
  drop-next k [] = grind (arith, common_steps)
  drop-next zero (y ∷ xs) = refl
  drop-next (suc k) (y ∷ xs) = grind (arith, drop-next k xs)

  -- no more elements stay than there are
  pub length-filter-le : (p : X → Bool) (xs : List X) → length (filter p xs) ≤ length xs
  length-filter-le p [] = omega arith
  length-filter-le p (x ∷ xs) = grind (arith, length-filter-le p xs)
