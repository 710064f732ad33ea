-- A window, a region and a buffer as all that an engine reaches: what is seen of them, what is at hand, and what a write
-- and the end of a key leave. Contracts cite it.
use Rattle.std.specs.Prelude.{◌≡◌, ℕ, ◌<◌, if◌then◌else◌, List, Option, None, Some, length}
use Rattle.ca_keys.specs.declared.access.Ask.{Ask}
use Rattle.ca_keys.specs.declared.grant.Grant.{Grant}
use Rattle.ca_keys.specs.declared.key.Key.{Key}
use Rattle.ca_keys.specs.Allowed.{grant_for}
use Rattle.ca_base.specs.Sight.{Sight, Invalidation, runs_in}
use Rattle.ca_base.specs.objects.Region.{Region, grant_of_region}
use Rattle.ca_keys.specs.Numbers.{is_window_key}
use Rattle.ca_base.specs.objects.Slices.{slot_of_key}
use Rattle.ca_base.specs.objects.Window.{Binding}
use Rattle.ca_grant.specs.Access.{FitInBytes, AreOfBuffer, buffer_after, memory_of_buffer}
use Rattle.ca_grant.specs.Parts.{LiesWithin, grants_of_parts}
use Rattle.ca_localops.specs.Operations.{key_refusal, region_without_key, window_without_key}
use Rattle.test_fixture_reach.specs.declared.small_reach.SmallReach.{SmallReach}

-- the grants that a key names: of the window, or of the region
abbrev pub grants_by_key : SmallReach → Key → List Grant
grants_by_key s key =
    if is_window_key key then grants_of_parts (Some s.window) (Some s.region) else grants_of_parts None (Some s.region)

-- what is seen of keys and memory
abbrev pub sight_of : SmallReach → Sight
sight_of s = record {
  grant = λ ask. grant_for ask (grants_by_key s ask.key);
  byte = memory_of_buffer s.slot.domain.adapter s.number s.buffer;
  refusal = λ i. key_refusal i.key i.queue (Some s.window) (Some s.region);
}

-- the region's grant, if it has one, is of its slot's adapter, and lies in the buffer
abbrev pub IsInBuffer : SmallReach → Option Grant → Type 0
IsInBuffer s None = Unit {0}
IsInBuffer s (Some g) =
    (g.domain.adapter ≡ s.slot.domain.adapter)
    × FitInBytes (length s.buffer) g.runs
    × AreOfBuffer s.slot.domain.adapter s.number g.runs

-- a window that is bound is counted by its region
abbrev pub IsCounted : Option Binding → Region → Type 0
IsCounted None r = Unit {0}
IsCounted (Some b) r = 0 < r.bound

-- the parts fit each other: they are of one adapter, the region lies in the buffer, and the window in the region
pub record FitTogether (s : SmallReach) : Type 0 where
  pub window : s.window.slot.domain.adapter ≡ s.slot.domain.adapter
  pub region : IsInBuffer s (grant_of_region s.region)
  pub lies : LiesWithin s.window.binding (grant_of_region s.region)
  pub counted : IsCounted s.window.binding s.region

-- an ask of this adapter
pub record IsAskHere (s : SmallReach) (ask : Ask) : Type 0 where
  pub parts : FitTogether s
  pub adapter : ask.domain.adapter ≡ s.slot.domain.adapter

-- a key's end, where the key names the window or the region
pub record IsEndHere (s : SmallReach) (i : Invalidation) : Type 0 where
  pub parts : FitTogether s
  pub adapter : i.domain.adapter ≡ s.slot.domain.adapter
  pub named : slot_of_key i.domain i.key ≡ (if is_window_key i.key then s.window.slot else s.slot)

-- what is left by a write to the places that an ask touches
abbrev pub after_write_by : SmallReach → Ask → List ℕ → SmallReach
after_write_by s ask bytes = record s { buffer = buffer_after (runs_in (sight_of s) ask) bytes s.buffer }

-- what is left by the end of a key
abbrev pub after_end_of : SmallReach → Invalidation → SmallReach
after_end_of s i = record s { window = window_without_key i.key s.window; region = region_without_key i.key s.region }
