-- Refusals as data: a list of tests with their answers, of which the first that holds decides. Contracts cite it.
use Rattle.std.specs.Prelude.{Bool, false, ◌≡◌, List, [], ◌∷◌, if◌then◌else◌, Option, None, Some}
use Rattle.std.specs.List.{AllByRecursion}

-- the answer of the first test that holds
abbrev pub first_of : {R : Type 0} → List (Bool × R) → Option R
first_of [] = None
first_of (t ∷ ts) = if t.0 then Some t.1 else first_of ts

-- no test of the list holds
abbrev pub AllFail : {R : Type 0} → List (Bool × R) → Type 0
AllFail tests = AllByRecursion (λ t. t.0 ≡ false) tests
