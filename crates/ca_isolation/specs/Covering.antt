-- Runs that are added to those that cover a group's bytes. Contracts of the crate's own functions cite it.
use Rattle.std.specs.Prelude.{◌≡◌, ◌+◌, ◌==◌, ◌&&◌, ◌||◌, nat_le, Bool, if◌then◌else◌, List, []}
use Rattle.std.specs.List.{AllByRecursion, list_any}
use Rattle.ca_isolation.specs.Groups.{Group}
use Rattle.ca_keys.specs.declared.place.Place.{Place}
use Rattle.ca_keys.specs.declared.place.Run.{Run}
use Rattle.ca_isolation.specs.Cover.{EndsInReach, covers}
use Rattle.ca_model.specs.declared.mark.Mark.{Mark}
use Rattle.ca_model.specs.declared.mark.Mark.TheVariants as marks

-- the runs that a mark grants to a group
abbrev pub runs_granted : Group → Mark → List Run
runs_granted group (marks.Granted g) = if group g.domain then g.runs else []
runs_granted group mark = []

-- a run lies within another
abbrev pub lies_within : Run → Run → Bool
lies_within r s =
    (r.adapter == s.adapter) && (r.buffer == s.buffer) && nat_le s.offset r.offset
    && nat_le (r.offset + r.length) (s.offset + s.length)

-- Runs came to cover more, all of them in reach: where what they came from is in reach, they cover just its places more.
pub record AddsPlaces (IsFit : Type 0) (more : Place → Bool) (old new : List Run) : Type 0 where
  pub reach : AllByRecursion EndsInReach old → AllByRecursion EndsInReach new
  pub places : IsFit → (p : Place) → covers new p ≡ (covers old p || more p)

-- the same of what comes from each of a list
abbrev pub AddsPlacesOfEach : {A : Type 0} → (A → Type 0) → (A → Place → Bool) → List A → List Run → List Run → Type 0
AddsPlacesOfEach IsFit more xs old new = AddsPlaces (AllByRecursion IsFit xs) (λ p. list_any (λ x. more x p) xs) old new
