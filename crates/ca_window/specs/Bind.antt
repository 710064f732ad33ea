-- Which region a bind names. Contracts cite it.
use Rattle.std.specs.Prelude.{ℕ, Option}
use Rattle.std.specs.Option.{option_map_or}
use Rattle.ca_base.specs.ca_keys.declared.names.DomainId.{DomainId}
use Rattle.ca_base.specs.declared.region_view.RegionView.{RegionView}
use Rattle.ca_base.specs.objects.Slices.{slot_of_key}

-- the slot of the region that is seen, by its key, in this domain
abbrev pub region_of_view : DomainId → Option RegionView → ℕ
region_of_view d view = option_map_or (λ v. (slot_of_key d v.key).slot) view 0
