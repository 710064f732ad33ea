-- How far places are covered by runs, one after another. For proofs only.
use Rattle.std.proofs.Common.{◌≡◌, ◌∙◌, ℕ, ◌+◌, ◌<◌, ◌≤◌, min, arith, ◌||◌, false, List, take, length, slice_index_or, ap, subst, sym}
use Rattle.std.proofs.lemmas.List.{take_all}
use Rattle.std.proofs.lemmas.List.Folds.{list_any_at, list_any_more}
use Rattle.ca_keys.specs.Memory.{is_in}
use Rattle.ca_keys.specs.declared.place.Run.{Run}
use Rattle.ca_isolation.specs.Cover.{covers}
use Rattle.ca_isolation.specs.Extents.{IsAlong, IsExtent, behind, place_of}
use Rattle.ca_isolation.specs.declared.extent.Extent.TheVariants as extents
use Rattle.ca_isolation.specs.declared.extent.Spot.{Spot}

-- none of the first runs covers a byte, of so many from a spot on
pub record IsBare (rs : List Run) (at : Spot) (n : ℕ) : Type 0 where
  pub some : 0 < n
  pub along : IsAlong (covers rs) false (place_of at) n

-- what one run covers
pub covered-by : (rs : List Run) (i : ℕ) (r : Run) (at : Spot) (n : ℕ) → i < length rs → r ≡ slice_index_or rs i r
    → IsExtent (is_in r) at (extents.Covered n) → IsExtent (covers rs) at (extents.Covered n)
covered-by rs i r at n less is e = record {
  some = e.some;
  along = λ j below. list_any_at (λ x. is_in x (behind (place_of at) j)) rs i r less (ap (λ x. is_in x (behind (place_of at) j)) (sym is) ∙ e.along j below);
  reach = e.reach;
}

-- one run more
pub bare-more : (rs : List Run) (i : ℕ) (r : Run) (at : Spot) (m n : ℕ) → i < length rs → r ≡ slice_index_or rs i r
    → IsBare (take i rs) at m → IsExtent (is_in r) at (extents.Bare n) → IsBare (take (i + 1) rs) at (min m n)
bare-more rs i r at m n less is bare e = record {
  some = omega (arith, bare.some, e.some);
  along = λ j below.
      list_any_more (λ x. is_in x (behind (place_of at) j)) rs i r less
      ∙ ap (λ b. b || is_in (slice_index_or rs i r) (behind (place_of at) j)) (bare.along j (omega (arith, below)))
      ∙ ap (λ x. is_in x (behind (place_of at) j)) (sym is)
      ∙ e.along j (omega (arith, below));
}

-- all runs
pub bare-all : (rs : List Run) (i : ℕ) (at : Spot) (n : ℕ) → length rs ≤ i → IsBare (take i rs) at n → IsExtent (covers rs) at (extents.Bare n)
bare-all rs i at n all bare = record {
  some = bare.some;
  along = subst (λ xs. IsAlong (covers xs) false (place_of at) n) (take_all i rs all) bare.along;
  reach = record {};
}
