-- What is at hand of the windows, the regions and the buffers that keys reach. Contracts cite it.
use Rattle.std.specs.Prelude.{◌≡◌, ℕ, ◌+◌, ◌<◌, ◌≤◌, true, List, length, IfSome, IsSomeAnd}
use Rattle.std.specs.List.{AllByRecursion}
use Rattle.ca_keys.specs.declared.access.Ask.{Ask}
use Rattle.ca_keys.specs.declared.names.Slot.{Slot}
use Rattle.ca_keys.specs.declared.place.Run.{Run}
use Rattle.ca_keys.specs.Equal.{slot_eq}
use Rattle.ca_keys.specs.Numbers.{is_window_key}
use Rattle.ca_base.specs.Sight.{Invalidation, runs_in}
use Rattle.ca_base.specs.objects.Region.{Region, grant_of_region}
use Rattle.ca_base.specs.objects.Slices.{is_key_of, slot_of_key}
use Rattle.ca_base.specs.objects.Window.{Binding, Window}
use Rattle.ca_adapter_reach.specs.declared.shelf.Named.{Named}
use Rattle.ca_adapter_reach.specs.Shelved.{thing_under}
use Rattle.ca_adapter_reach.specs.declared.reached.BufferId.{BufferId}
use Rattle.ca_adapter_reach.specs.declared.reached.Reached.{Reached}
use Rattle.ca_adapter_reach.specs.Names.{buffer_eq, buffer_of_run}
use Rattle.ca_adapter_reach.specs.Seen.{region_in, sight_of, slot_under, window_in}

-- a binding lies within what its region grants, if the region is valid, and is counted by it
abbrev pub LiesInValid : Binding → Region → Type 0
LiesInValid b r =
    IfSome (grant_of_region r) (λ g. ((g.address ≤ b.address) × (b.address + b.length ≤ g.address + g.length)) × (0 < r.bound))

-- regions and windows fit each other: each grant is of the domain of its slot, each window is in its slot, and a window
-- that is bound lies in its region, where this is valid
pub record FitTogether (region : Slot → Region) (window : Slot → Window) : Type 0 where
  pub domains : (s : Slot) → IfSome (grant_of_region (region s)) (λ g. g.domain ≡ s.domain)
  pub slots : (s : Slot) → (window s).slot ≡ s
  pub bound : (s : Slot) → IfSome (window s).binding (λ b. LiesInValid b (region (slot_under (window s) b)))

-- the parts by which any ask is judged are at hand: those in hand fit each other, and the others are vacant
abbrev pub CanJudge : Reached → Ask → Type 0
CanJudge r ask = FitTogether (region_in r) (window_in r)

-- the buffer of a run is in hand, and has its places
abbrev pub IsRunAtHand : List (Named BufferId (List ℕ)) → Run → Type 0
IsRunAtHand buffers x =
    IsSomeAnd (thing_under buffer_eq (buffer_of_run x) buffers) (λ bytes. x.offset + x.length ≤ length bytes)

abbrev pub AreRunsAtHand : List (Named BufferId (List ℕ)) → List Run → Type 0
AreRunsAtHand buffers runs = AllByRecursion (IsRunAtHand buffers) runs

-- the bytes are at hand that an ask touches
abbrev pub HasBytesAtHand : Reached → Ask → Type 0
HasBytesAtHand r ask = AreRunsAtHand r.buffers.things (runs_in (sight_of r) ask)

-- a region is in hand, and counts a window
abbrev pub IsCounting : Reached → Slot → Type 0
IsCounting r s = IsSomeAnd (thing_under slot_eq s r.regions.things) (λ region. 0 < region.bound)

-- the parts of a key that ends are at hand: of a window that is bound its region too, which counts it
pub record CanEnd (r : Reached) (i : Invalidation) : Type 0 where
  pub fit : FitTogether (region_in r) (window_in r)
  pub under : is_key_of i.domain i.key ≡ true → is_window_key i.key ≡ true
      → IfSome (window_in r (slot_of_key i.domain i.key)).binding (λ b. IsCounting r (slot_under (window_in r (slot_of_key i.domain i.key)) b))
