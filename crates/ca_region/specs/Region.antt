-- What a region stands for, and which bytes it has. Contracts cite it.
use Rattle.std.specs.Prelude.{◌≡◌, ℕ, ◌+◌, ◌≤◌, true, List, [], ◌∷◌, Option, None, Some}
use Rattle.std.specs.Option.{option_and_then, option_map, option_map_or}
use Rattle.ca_keys.specs.declared.grant.Grant.{Grant}
use Rattle.ca_keys.specs.declared.key.Key.{Key}
use Rattle.ca_keys.specs.declared.place.Run.{Run}
use Rattle.ca_base.specs.declared.refusals.RegionError.{RegionError}
use Rattle.ca_keys.specs.Memory.{runs_at}
use Rattle.ca_base.specs.objects.Region.{Region, grant_of_region}
use Rattle.ca_base.specs.objects.Slices.{is_key_of}
use Rattle.ca_base.specs.declared.refusals.RegistrationError.{RegistrationError}
use Rattle.ca_base.specs.declared.refusals.RegistrationError.TheVariants.{Refused, Memory}

-- the error is the first refusal that applies, and out of memory comes only where none does
abbrev pub RefusesBy : Option RegionError → RegistrationError → Type 0
RefusesBy first Memory = first ≡ None
RefusesBy first (Refused error) = first ≡ Some error

-- the key that is valid, if one is
abbrev pub valid_key : Region → Option Key
valid_key r = option_map (λ g. g.key) (grant_of_region r)

-- a region's grant is for every queue pair of its domain, by L_Key too, under a key of that domain
abbrev pub IsOfRegion : Grant → Type 0
IsOfRegion g = (g.queue ≡ None) × (g.local ≡ true) × (is_key_of g.domain g.key ≡ true)

-- there is a grant, and this many bytes from an address on are its own
abbrev pub HasBytes : ℕ → ℕ → Option Grant → Type 0
HasBytes address count None = ⊥
HasBytes address count (Some g) = (g.address ≤ address) × (address + count ≤ g.address + g.length)

-- the runs of this many bytes from an address on: those of the region's grant, cut to these bytes
abbrev pub region_runs_at : Region → ℕ → ℕ → List Run
region_runs_at r address count = option_map_or (λ g. runs_at g address count) (grant_of_region r) []

-- the buffer in which runs lie, by its adapter and its number there, as the first of them tells it
abbrev pub buffer_of_runs : List Run → Option (ℕ × ℕ)
buffer_of_runs [] = None
buffer_of_runs (r ∷ rs) = Some (r.adapter, r.buffer)

-- the buffer in which a region's bytes lie
abbrev pub buffer_of_region : Region → Option (ℕ × ℕ)
buffer_of_region r = option_and_then (λ g. buffer_of_runs g.runs) (grant_of_region r)
