-- What the fields of a region stand for. Contracts see it through the type.
use Rattle.std.specs.Prelude.{ℕ}
use Rattle.ca_base.specs.Grants.{grant_of_registration, grant_of_fast_registration}
use Rattle.ca_base.specs.objects.Region as regions
use Rattle.ca_region.specs.declared.mapping.Mapping.{Mapping}
use Rattle.ca_region.specs.declared.places.Places.{Places}
use Rattle.ca_region.specs.declared.places.Places.TheVariants.{OneRun, PageList}
use Rattle.ca_region.specs.declared.region.Region.TheInside.{Inside}
use Rattle.ca_region.specs.declared.region.State.{State}
use Rattle.ca_region.specs.declared.region.State.TheVariants.{Vacant, Free, Valid}

-- a valid region, under this low byte, by where its bytes lie
abbrev pub state_by_places : ℕ → Mapping → Places → regions.RegionState
state_by_places low m (OneRun at) = regions.Registered (grant_of_registration m.slot at m.rights low)
state_by_places low m (PageList allocated buffer pages) =
    regions.FastRegistered allocated (grant_of_fast_registration m.slot low buffer m.address m.bytes m.rights pages)

-- what stands in the slot, under this low byte
abbrev pub state_of : ℕ → State → regions.RegionState
state_of low Vacant = regions.NoRegion
state_of low (Free pages) = regions.Free pages
state_of low (Valid m) = state_by_places low m m.places

abbrev pub view_of : Inside → regions.Region
view_of r = record { low = r.low; bound = r.bound; state = state_of r.low r.state }
