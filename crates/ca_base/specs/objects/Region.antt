-- A memory region: what stands in its slot, why a change of it is refused, and what the change makes of it. Contracts
-- cite it.
use Rattle.std.specs.Prelude.{ℕ, suc, ◌+◌, ◌-◌, ◌/◌, ◌%◌, ◌^◌, ◌==◌, ◌||◌, nat_lt, Bool, true, false, not, List, [], ◌∷◌, length, Option, None, Some, is_none}
use Rattle.std.specs.List.{list_any}
use Rattle.std.specs.Option.{option_map_or}
use Rattle.ca_keys.specs.declared.grant.Grant.{Grant}
use Rattle.ca_keys.specs.declared.key.Key.{Key}
use Rattle.ca_base.specs.declared.limits.TheConstants.{PAGE_BYTES}
use Rattle.ca_keys.specs.declared.names.Slot.{Slot}
use Rattle.ca_keys.specs.declared.place.Run.{Run}
use Rattle.ca_base.specs.declared.refusals.RegionError.{RegionError}
use Rattle.ca_base.specs.declared.refusals.RegionError.TheVariants.{RightsNeedLocalWrite, NotFree, BadPages, OutsideBuffer, NotValid, KeyDiffers, NotFastRegistered, WindowsBound, Vacant}
use Rattle.ca_base.specs.declared.region_view.RegionView.{RegionView}
use Rattle.ca_keys.specs.declared.rights.Rights.{Rights}
use Rattle.ca_keys.specs.Equal.{key_eq}
use Rattle.ca_base.specs.Grants.{next_low, needs_local_write, grant_of_registration, grant_of_fast_registration, page_runs}

-- what stands in a region's slot
pub data RegionState : Type 0 where
  NoRegion : RegionState
  -- allocated for fast registrations of at most so many pages
  Free : ℕ → RegionState
  -- valid by an ordinary registration
  Registered : Grant → RegionState
  -- valid by a fast registration, in a region that was allocated for so many pages
  FastRegistered : ℕ → Grant → RegionState

-- a region's slot: the low byte of its latest key, which stays while the slot is vacant, how many windows are bound to
-- the region, and what stands there
pub record Region : Type 0 where
  pub low : ℕ
  pub bound : ℕ
  pub state : RegionState

-- a slot before its first region
abbrev pub vacant_region : Region
vacant_region = record { low = 0; bound = 0; state = NoRegion }

abbrev pub has_no_region : RegionState → Bool
has_no_region NoRegion = true
has_no_region state = false

abbrev pub is_vacant_region : Region → Bool
is_vacant_region r = has_no_region r.state

-- the grant for which a region stands, where it is valid
abbrev pub grant_in_state : RegionState → Option Grant
grant_in_state (Registered g) = Some g
grant_in_state (FastRegistered pages g) = Some g
grant_in_state state = None

abbrev pub grant_of_region : Region → Option Grant
grant_of_region r = grant_in_state r.state

-- the pages for which a free region was allocated
abbrev pub free_pages : RegionState → Option ℕ
free_pages (Free pages) = Some pages
free_pages state = None

abbrev pub is_fast_registered : RegionState → Bool
is_fast_registered (FastRegistered pages g) = true
is_fast_registered state = false

-- windows are bound to the region
abbrev pub has_windows_bound : Region → Bool
has_windows_bound r = nat_lt 0 r.bound

-- what others see of a region that stands for this grant
abbrev pub view_of_grant : Grant → RegionView
view_of_grant g = record { valid = true; key = g.key; rights = g.rights; address = g.address; length = g.length }

-- no right
abbrev pub no_rights : Rights
no_rights = record {
  local_write = false;
  remote_read = false;
  remote_write = false;
  remote_atomic = false;
  window_bind = false;
}

-- what others see of a region that is not valid
abbrev pub invalid_view : RegionView
invalid_view = record { valid = false; key = record { 0 = 0 }; rights = no_rights; address = 0; length = 0 }

abbrev pub view_of_region : Region → RegionView
view_of_region r = option_map_or view_of_grant (grant_of_region r) invalid_view

-- a registration: it takes the next low byte
abbrev pub after_registration : Slot → Run → Rights → Region → Region
after_registration slot at rights r = record r {
  low = next_low r.low;
  state = Registered (grant_of_registration slot at rights (next_low r.low));
}

-- an allocation for fast registrations
abbrev pub after_allocation : ℕ → Region → Region
after_allocation pages r = record r { state = Free pages }

-- how many pages hold so many bytes from an address on
abbrev pub pages_needed : ℕ → ℕ → ℕ
pages_needed address count = (address % PAGE_BYTES + count + PAGE_BYTES - 1) / PAGE_BYTES

-- a number stands twice in the list
abbrev pub has_repeat : List ℕ → Bool
has_repeat [] = false
has_repeat (page ∷ pages) = list_any (λ other. other == page) pages || has_repeat pages

-- the page list does not fit the range, the end of all addresses, or what was allocated
abbrev pub has_bad_pages : Option ℕ → ℕ → ℕ → List ℕ → Bool
has_bad_pages allocated address count pages =
    (count == 0) || nat_lt (2 ^ 64) (address + count) || nat_lt (option_map_or (λ n. n) allocated 0) (length pages)
    || has_repeat pages || not (length pages == pages_needed address count)

-- a run passes_end the end of its buffer
abbrev pub passes_end : ℕ → Run → Bool
passes_end count at = nat_lt count (at.offset + at.length)

-- why a fast registration is refused, in order
abbrev pub fast_registration_refusals : Slot → ℕ → ℕ → ℕ → ℕ → Rights → List ℕ → Region → List (Bool × RegionError)
fast_registration_refusals slot buffer bytes address count rights pages r =
    (is_none (free_pages r.state), NotFree)
    ∷ (needs_local_write rights, RightsNeedLocalWrite)
    ∷ (has_bad_pages (free_pages r.state) address count pages, BadPages)
    ∷ (list_any (passes_end bytes) (page_runs slot.domain.adapter buffer address count pages), OutsideBuffer)
    ∷ []

-- a fast registration: it takes the low byte that it names
abbrev pub after_fast_registration : Slot → ℕ → ℕ → ℕ → ℕ → Rights → List ℕ → Region → Region
after_fast_registration slot low buffer address count rights pages r = record r {
  low = low;
  state = FastRegistered (option_map_or (λ n. n) (free_pages r.state) 0)
      (grant_of_fast_registration slot low buffer address count rights pages);
}

-- a region's key is another than this one
abbrev pub has_other_key : Key → Option Grant → Bool
has_other_key key None = true
has_other_key key (Some g) = not (key_eq g.key key)

-- why an invalidation by a key is refused, in order
abbrev pub region_invalidation_refusals : Key → Region → List (Bool × RegionError)
region_invalidation_refusals key r =
    (is_none (grant_of_region r), NotValid)
    ∷ (has_other_key key (grant_of_region r), KeyDiffers)
    ∷ (not (is_fast_registered r.state), NotFastRegistered)
    ∷ (has_windows_bound r, WindowsBound)
    ∷ []

-- what stands in the slot when the key is gone
abbrev pub state_after_invalidation : RegionState → RegionState
state_after_invalidation (FastRegistered pages g) = Free pages
state_after_invalidation state = state

-- an invalidation: the region is free again
abbrev pub after_region_invalidation : Region → Region
after_region_invalidation r = record r { state = state_after_invalidation r.state }

-- why a deregistration is refused, in order
abbrev pub deregistration_refusals : Region → List (Bool × RegionError)
deregistration_refusals r = (is_vacant_region r, Vacant) ∷ (has_windows_bound r, WindowsBound) ∷ []

-- a deregistration: the slot is vacant, and keeps its low byte
abbrev pub after_deregistration : Region → Region
after_deregistration r = record r { state = NoRegion }

-- one window more is bound to the region
abbrev pub with_window_bound : Region → Region
with_window_bound r = record r { bound = suc r.bound }

-- one window fewer
abbrev pub with_window_unbound : Region → Region
with_window_unbound r = record r { bound = r.bound - 1 }
