-- Places in a row of parts. For proofs only.
use Rattle.std.proofs.Common.{◌≡◌, ◌∙◌, refl, sym, ap, subst, ℕ, zero, suc, ◌<◌, ◌==◌, arith, Bool, true, false, List, [], ◌∷◌, length, Option, None, Some, is_some, slice_get, slice_set, true≢false}
use Rattle.std.proofs.lemmas.Bool.{eq-eqb, eqb-true}
use Rattle.std.proofs.lemmas.Option.{slice_get_within}
use Rattle.std.specs.Option.{option_and_then}
use Rattle.ca_base.specs.Configuration.{Configuration}
use Rattle.ca_adapter_parts.specs.declared.part.Part.{Part}
use Rattle.ca_adapter.proofs.of_ca_law_parts.Parts.NeedsLemmas.{part-refl}
use Rattle.ca_model.specs.declared.part_name.PartName.{PartName}
use Rattle.ca_model.specs.machine.Parts.{part_eq}
use Rattle.ca_model.specs.machine.Sound.{AreLimited}
use Rattle.ca_model_places.proofs.AmongLemmas.{place-apart}
use Rattle.ca_model_places.specs.Places.{place_of}
use Rattle.ca_adapter_store.proofs.PartLemmas.{part-path}
use Rattle.ca_adapter_store.specs.Hand.{HasPlaces, IsOfKind, LeavesOthers}
use Rattle.ca_adapter_store.specs.Rows.{part_at}

get-set : {A : Type 0} (xs : List A) (i : ℕ) (v : A) → i < length xs → slice_get (slice_set xs i v) i ≡ Some v
get-set [] i v within = absurd (omega (arith, within))
get-set (x ∷ xs) zero v within = refl
get-set (x ∷ xs) (suc i) v within = get-set xs i v (omega (arith, within))

get-other : {A : Type 0} (xs : List A) (i j : ℕ) (v : A) → (i ≡ j → ⊥) → slice_get (slice_set xs i v) j ≡ slice_get xs j
get-other [] i j v apart = refl
get-other (x ∷ xs) zero zero v apart = absurd (apart refl)
get-other (x ∷ xs) zero (suc j) v apart = refl
get-other (x ∷ xs) (suc i) zero v apart = refl
get-other (x ∷ xs) (suc i) (suc j) v apart = get-other xs i j v (λ e. apart (ap suc e))

-- a name without a place has no part
pub no_place : (c : Configuration) (row : List Part) (name : PartName) → place_of c name ≡ None → part_at c row name ≡ None
no_place c row name none = ap (option_and_then (slice_get row)) none

pub at_place : (c : Configuration) (row : List Part) (name : PartName) (i : ℕ) → place_of c name ≡ Some i → part_at c row name ≡ slice_get row i
at_place c row name i is = ap (option_and_then (slice_get row)) is

-- the place of a name that has a part is one of the row
pub within_row : (c : Configuration) (row : List Part) (name : PartName) (i : ℕ) → place_of c name ≡ Some i → is_some (part_at c row name) ≡ true → i < length row
within_row c row name i is some = by (slice_get row i) refl (sym (ap is_some (at_place c row name i is)) ∙ some)
  where
    by : (o : Option Part) → slice_get row i ≡ o → is_some o ≡ true → i < length row
    by None there some = absurd (true≢false (sym some))
    by (Some part) there some = slice_get_within row i part there

pub kind_there : (name : PartName) (o : Option Part) → IsOfKind name o → is_some o ≡ true
kind_there name None is = absurd is
kind_there name (Some part) is = refl

-- another part at a place is there, and all others stay
pub set_there : (c : Configuration) (row : List Part) (name : PartName) (i : ℕ) (part : Part) → place_of c name ≡ Some i → i < length row
    → part_at c (slice_set row i part) name ≡ Some part
set_there c row name i part is within = at_place c (slice_set row i part) name i is ∙ get-set row i part within

pub set_leaves : (c : Configuration) (row : List Part) (name : PartName) (i : ℕ) (part : Part) → AreLimited c → place_of c name ≡ Some i
    → LeavesOthers c name row (slice_set row i part)
set_leaves c row name i part limited is p other = by (place_of c p) refl
  where
    by : (o : Option ℕ) → place_of c p ≡ o → option_and_then (slice_get (slice_set row i part)) o ≡ option_and_then (slice_get row) o
    by None there = refl
    by (Some j) there = at (i == j) refl
      where
        at : (b : Bool) → (i == j) ≡ b → slice_get (slice_set row i part) j ≡ slice_get row j
        at true same = absurd (true≢false (sym (part-refl name) ∙ ap (part_eq name) (place-apart c name p j limited (is ∙ ap Some (eqb-true i j same)) there) ∙ other))
        at false apart = get-other row i j part (λ e. true≢false (sym (eq-eqb i j e) ∙ apart))

pub set_places : (c : Configuration) (row : List Part) (name : PartName) (i : ℕ) (part : Part) → AreLimited c → place_of c name ≡ Some i → i < length row
    → HasPlaces c row → HasPlaces c (slice_set row i part)
set_places c row name i part limited is within all p set = by (part_eq name p) refl
  where
    by : (b : Bool) → part_eq name p ≡ b → is_some (part_at c (slice_set row i part) p) ≡ true
    by true e = subst (λ q. is_some (part_at c (slice_set row i part) q) ≡ true) (part-path name p e) (ap is_some (set_there c row name i part is within))
    by false e = ap is_some (set_leaves c row name i part limited is p e) ∙ all p set
