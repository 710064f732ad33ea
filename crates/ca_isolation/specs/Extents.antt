-- How far covered places, or places that are not, go on. Contracts of the crate's own functions cite it.
use Rattle.std.specs.Prelude.{◌≡◌, ℕ, ◌+◌, ◌<◌, ◌^◌, Bool, true, false}
use Rattle.ca_keys.specs.declared.place.Place.{Place}
use Rattle.ca_isolation.specs.declared.extent.Extent.{Extent}
use Rattle.ca_isolation.specs.declared.extent.Extent.TheVariants as extents
use Rattle.ca_isolation.specs.declared.extent.Spot.{Spot}

-- the place of a spot
abbrev pub place_of : Spot → Place
place_of at = record { adapter = at.adapter; buffer = at.buffer; offset = at.offset }

-- the place so many bytes behind another
abbrev pub behind : Place → ℕ → Place
behind p n = record p { offset = p.offset + n }

-- the test says the same of so many places from one on
abbrev pub IsAlong : (Place → Bool) → Bool → Place → ℕ → Type 0
IsAlong cover b p n = (i : ℕ) → i < n → cover (behind p i) ≡ b

-- a covered spot is one that a place can name
abbrev pub StartsInReach : Spot → Extent → Type 0
StartsInReach at (extents.Covered n) = at.offset < 2 ^ 32
StartsInReach at (extents.Bare n) = Unit {0}

-- how many bytes an extent has
abbrev pub bytes_of_extent : Extent → ℕ
bytes_of_extent (extents.Covered n) = n
bytes_of_extent (extents.Bare n) = n

-- whether its places are covered
abbrev pub is_covered : Extent → Bool
is_covered (extents.Covered n) = true
is_covered (extents.Bare n) = false

-- from a spot on, so many places, and some, are covered, or none of them is
pub record IsExtent (cover : Place → Bool) (at : Spot) (extent : Extent) : Type 0 where
  pub some : 0 < bytes_of_extent extent
  pub along : IsAlong cover (is_covered extent) (place_of at) (bytes_of_extent extent)
  pub reach : StartsInReach at extent
