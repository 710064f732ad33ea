-- The key check by what is seen of a region and of a window. Contracts of this crate's own functions cite it.
use Rattle.std.specs.Prelude.{ℕ, ◌+◌, ◌&&◌, nat_le, Bool, not, [], ◌∷◌, Option}
use Rattle.ca_keys.specs.declared.access.Ask.{Ask}
use Rattle.ca_keys.specs.declared.access.Denial.{Denial}
use Rattle.ca_keys.specs.declared.access.Denial.TheVariants.{NoGrant, WrongQueue, NoRight, OutOfRange}
use Rattle.ca_keys.specs.declared.names.QueueId.{QueueId}
use Rattle.ca_base.specs.declared.region_view.RegionView.{RegionView}
use Rattle.ca_keys.specs.declared.rights.Rights.{Rights}
use Rattle.ca_keys.specs.Allowed.{key_use, serves, suffice}
use Rattle.ca_keys.specs.Equal.{key_eq}
use Rattle.ca_keys.specs.Refusals.{first_of}
use Rattle.ca_base.specs.objects.Slices.{is_key_of}
use Rattle.ca_window.specs.declared.view.WindowView.{WindowView}

-- all addresses that are asked for are within this many from an address on
abbrev pub range_covers : ℕ → ℕ → Ask → Bool
range_covers address count ask = nat_le address ask.address && nat_le (ask.address + ask.length) (address + count)

-- whether a key fits, then the queue pair, the right and the range
abbrev pub denial_by_parts : Bool → Option QueueId → Rights → ℕ → ℕ → Ask → Option Denial
denial_by_parts is_fitting queue rights address count ask = first_of (
    (not is_fitting, NoGrant)
    ∷ (not (serves queue ask.queue), WrongQueue)
    ∷ (not (suffice rights (key_use ask.local) ask.kind), NoRight)
    ∷ (not (range_covers address count ask), OutOfRange)
    ∷ [])

-- the key fits a region that is seen
abbrev pub fits_region : RegionView → Ask → Bool
fits_region v ask = v.valid && key_eq v.key ask.key && is_key_of ask.domain ask.key

-- the key fits a window that is seen; no window is named by an L_Key
abbrev pub fits_window : WindowView → Ask → Bool
fits_window v ask = not ask.local && key_eq v.key ask.key && is_key_of ask.domain ask.key
