-- Words on lists that the facts of parts use: what stands in a list, how often, and what each element follows. Contracts cite it.
use Rattle.std.specs.Prelude.{◌≡◌, ℕ, ◌+◌, Bool, true, false, ◌⊎◌, List, [], ◌∷◌, ◌++◌, map, ◌==◌, nat_lt, if◌then◌else◌}

-- a stands in the list
abbrev pub Has : {A : Type 0} → A → List A → Type 0
Has a [] = ⊥
Has a (x ∷ xs) = (a ≡ x) ⊎ Has a xs

-- each element of the second list is related by R to all that stands before it: the first list, and then the elements up to it
abbrev pub EachFollows : {A : Type 0} → (List A → A → Type 0) → List A → List A → Type 0
EachFollows R before [] = Unit {0}
EachFollows R before (x ∷ xs) = R before x × EachFollows R (before ++ x ∷ []) xs

abbrev pub bit : Bool → ℕ
bit true = 1
bit false = 0

-- 1 where n is below m, and else 0
abbrev pub below : ℕ → ℕ → ℕ
below n m = bit (nat_lt n m)

-- how often n stands in the list
abbrev pub times : ℕ → List ℕ → ℕ
times n [] = 0
times n (x ∷ xs) = bit (n == x) + times n xs

-- f of each element, added up
abbrev pub total : {A : Type 0} → (A → ℕ) → List A → ℕ
total f [] = 0
total f (x ∷ xs) = f x + total f xs

-- the numbers of a list of numbered things
abbrev pub numbers_of : {A : Type 0} → List (ℕ × A) → List ℕ
numbers_of xs = map (λ x. x.0) xs

-- the list without its first thing of this number
abbrev pub without : {A : Type 0} → ℕ → List (ℕ × A) → List (ℕ × A)
without k [] = []
without k (x ∷ xs) = if k == x.0 then xs else x ∷ without k xs
