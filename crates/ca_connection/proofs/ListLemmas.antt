-- Items of lists.
use Rattle.std.proofs.Common.{◌≡◌, zero, suc, ◌⊎◌, inl, inr, List, [], ◌∷◌, Option, None, Some, refl, arith}
use Rattle.std.proofs.lemmas.List.Elements.{Contains-append_right}
use Rattle.std.specs.List.{Contains}
use Rattle.ca_connection.specs.Moves.{Keeps, with_one}
use Rattle.ca_connection.specs.Moves.Keeps.{none as keeps_none, keep as keeps_one, leave as leaves_one}

pub contains-head : {A : Type 0} (x : A) (xs : List A) → Contains (x ∷ xs) x
contains-head x xs = (0, omega arith, refl)

pub contains-more : {A : Type 0} (y x : A) (xs : List A) → Contains xs x → Contains (y ∷ xs) x
contains-more y x xs here = Contains-append_right (y ∷ []) xs x here

pub contains-cases : {A : Type 0} (y x : A) (xs : List A) → Contains (y ∷ xs) x → (y ≡ x) ⊎ Contains xs x
contains-cases y x xs (zero, below, is) = inl is
contains-cases y x xs (suc k, below, is) = inr (k, omega arith, is)

pub keeps-contains : {A : Type 0} {xs ys : List A} (x : A) → Keeps xs ys → Contains ys x → Contains xs x
keeps-contains x keeps_none has = has
keeps-contains x (keeps_one {x = y} {xs = xs} {ys = ys} rest) has = go (keeps-contains x rest) (contains-cases y x ys has)
  where
    go : (Contains ys x → Contains xs x) → (y ≡ x) ⊎ Contains ys x → Contains (y ∷ xs) x
    go step (inl same) = (0, omega arith, same)
    go step (inr later) = contains-more y x xs (step later)
keeps-contains x (leaves_one {x = y} {xs = xs} rest) has = contains-more y x xs (keeps-contains x rest has)

pub one-grows : {A : Type 0} (one : Option A) (xs : List A) (x : A) → Contains xs x → Contains (with_one one xs) x
one-grows None xs x has = has
one-grows (Some y) xs x has = contains-more y x xs has
