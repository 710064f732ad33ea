-- Lemmas on the places that are left of a list. For proofs only.
use Rattle.std.proofs.Common.{◌≡◌, ℕ, ◌+◌, ◌-◌, ◌==◌, Bool, not, List, [], ◌∷◌, filter, length, arith}
use Rattle.std.proofs.lemmas.Grind.{common_steps}
use Rattle.ca_srq.specs.Taken.{places_left}

-- the elements that stay, and those that do not
both-filters : (p : ℕ → Bool) (xs : List ℕ) → length (filter p xs) + length (filter (λ x. not (p x)) xs) ≡ length xs
both-filters p [] = omega arith
both-filters p (x ∷ xs) = grind (arith, common_steps, both-filters p xs)

-- one place fewer is left
pub length-places_left : (place : ℕ) (places : List ℕ) → length (places_left place places) ≡ length places - 1
length-places_left place places = grind (arith, common_steps, both-filters (λ p. p == place) places)
