-- What is kept of a list.
use Rattle.std.proofs.Common.{ℕ, zero, suc, Bool, true, false, if◌then◌else◌, List, [], ◌∷◌, filter, map, take}
use Rattle.ca_connection.specs.Moves.{Keeps}
use Rattle.ca_connection.specs.Moves.Keeps.{none as keeps_none, keep as keeps_one, leave as leaves_one}

pub keeps-all : {A : Type 0} (xs : List A) → Keeps xs xs
keeps-all [] = keeps_none
keeps-all (x ∷ xs) = keeps_one (keeps-all xs)

pub keeps-nothing : {A : Type 0} (xs : List A) → Keeps xs []
keeps-nothing [] = keeps_none
keeps-nothing (x ∷ xs) = leaves_one (keeps-nothing xs)

pub keeps-filter : {A B : Type 0} (f : A → B) (test : A → Bool) (xs : List A) → Keeps (map f xs) (map f (filter test xs))
keeps-filter f test [] = keeps_none
keeps-filter f test (x ∷ xs) = by (test x) (keeps-filter f test xs)
  where
    by : (b : Bool) → Keeps (map f xs) (map f (filter test xs))
        → Keeps (f x ∷ map f xs) (map f (if b then x ∷ filter test xs else filter test xs))
    by true rest = keeps_one rest
    by false rest = leaves_one rest

pub keeps-take : {A B : Type 0} (f : A → B) (k : ℕ) (xs : List A) → Keeps (map f xs) (map f (take k xs))
keeps-take f zero xs = keeps-nothing (map f xs)
keeps-take f (suc k) [] = keeps_none
keeps-take f (suc k) (x ∷ xs) = keeps_one (keeps-take f k xs)
