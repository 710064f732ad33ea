-- The part at the place of a name. For proofs only.
use Rattle.std.proofs.Common.{◌≡◌, ◌∙◌, refl, sym, ap, subst, ℕ, zero, suc, arith, List, [], ◌∷◌, length, Some, IfSome, slice_get, true≢false, is_some}
use Rattle.std.specs.Option.{option_map_or}
use Rattle.ca_base.specs.Configuration.{Configuration, part_count}
use Rattle.ca_adapter_parts.specs.declared.part.Part.{Part}
use Rattle.ca_model.specs.declared.part_name.PartName.{PartName}
use Rattle.ca_model.specs.machine.Sound.{AreLimited}
use Rattle.ca_model_places.specs.Places.{all_parts, place_of}
use Rattle.ca_model_places.proofs.AmongLemmas.{IsAt, place-at}
use Rattle.ca_model_places.proofs.NumberLemmas.{from-length}
use Rattle.ca_adapter_opening.specs.Opening.{AreParts}

are-many : (P : PartName → Part → Type 0) (ns : List PartName) (ps : List Part) → AreParts P ns ps → length ps ≡ length ns
are-many P [] [] are = refl
are-many P [] (p ∷ ps) are = absurd are
are-many P (n ∷ ns) [] are = absurd are
are-many P (n ∷ ns) (p ∷ ps) are = ap suc (are-many P ns ps are.1)

are-at : (P : PartName → Part → Type 0) (ns : List PartName) (ps : List Part) (i : ℕ) (name : PartName) → AreParts P ns ps → slice_get ns i ≡ Some name
    → IfSome (slice_get ps i) (P name)
are-at P [] ps i name are at = absurd (true≢false (sym (ap is_some at)))
are-at P (n ∷ ns) [] i name are at = absurd are
are-at P (n ∷ ns) (p ∷ ps) zero name are at = subst (λ x. P x p) (ap (λ o. option_map_or (λ x. x) o n) at) are.0
are-at P (n ∷ ns) (p ∷ ps) (suc i) name are at = are-at P ns ps i name are.1 at

pub each-there : (c : Configuration) (P : PartName → Part → Type 0) (ps : List Part) (name : PartName) (n : ℕ) → AreLimited c → AreParts P (all_parts c) ps → place_of c name ≡ Some n
    → IfSome (slice_get ps n) (P name)
each-there c P ps name n limited are at = by (place-at c name n limited at)
  where
    by : IsAt c (all_parts c) 0 name n → IfSome (slice_get ps n) (P name)
    by found = subst (λ k. IfSome (slice_get ps k) (P name)) (omega (arith, found.number)) (are-at P (all_parts c) ps found.index name are found.part)

pub count-there : (c : Configuration) (P : PartName → Part → Type 0) (ps : List Part) → AreParts P (all_parts c) ps → length ps ≡ part_count c
count-there c P ps are = are-many P (all_parts c) ps are ∙ from-length 0 c.adapters
