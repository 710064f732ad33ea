-- The places of a shared receive queue that were taken, when one of them is freed. Contracts cite it.
use Rattle.std.specs.Prelude.{ℕ, ◌==◌, Bool, not, if◌then◌else◌, List, drop, filter, length}

-- the place stands among these exactly once
abbrev pub stands_once : ℕ → List ℕ → Bool
stands_once place places = length (filter (λ p. p == place) places) == 1

-- the places that are left when one is freed; where it does not stand there once, one fewer is left all the same
abbrev pub places_left : ℕ → List ℕ → List ℕ
places_left place places = if stands_once place places then filter (λ p. not (p == place)) places else drop 1 places
