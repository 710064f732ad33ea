-- A memory window: what stands in its slot, why a change of it is refused, and what the change makes of it. Contracts
-- cite it.
use Rattle.std.specs.Prelude.{ℕ, ◌+◌, ◌-◌, ◌==◌, ◌&&◌, ◌||◌, nat_le, Bool, true, false, not, if◌then◌else◌, List, [], ◌∷◌, Option, None, Some, is_none}
use Rattle.std.specs.Option.{option_map, option_map_or}
use Rattle.ca_keys.specs.declared.grant.Grant.{Grant}
use Rattle.ca_keys.specs.declared.key.Key.{Key}
use Rattle.ca_keys.specs.declared.names.QueueId.{QueueId}
use Rattle.ca_keys.specs.declared.names.Slot.{Slot}
use Rattle.ca_base.specs.declared.queue_numbers.WindowCount.{WindowCount}
use Rattle.ca_base.specs.declared.refusals.WindowError.{WindowError}
use Rattle.ca_base.specs.declared.refusals.WindowError.TheVariants.{NoWindow, WrongType, RegionNotValid, NoBindRight, RightsNeedLocalWrite, OutsideRegion, StillBound, Empty, Type1, NotBound, KeyDiffers, WrongQueue}
use Rattle.ca_base.specs.declared.region_view.RegionView.{RegionView}
use Rattle.ca_keys.specs.declared.rights.Rights.{Rights}
use Rattle.ca_keys.specs.Equal.{key_eq, queue_eq}
use Rattle.ca_base.specs.Grants.{next_low, remote_rights, grant_of_bind}
use Rattle.ca_keys.specs.Numbers.{key_at, window_index}
use Rattle.ca_keys.specs.Numbers.{is_window_key}

-- a window's binding: the region, by slot, the range, the rights, and of a type 2 window the queue pair
pub record Binding : Type 0 where
  pub region : ℕ
  pub queue : Option QueueId
  pub address : ℕ
  pub length : ℕ
  pub rights : Rights

-- a window's slot: its type, 0 where the slot is vacant; the low byte of its latest key and the byte that was drawn
-- last, which both stay while the slot is vacant; and its binding
pub record Window : Type 0 where
  pub slot : Slot
  pub kind : ℕ
  pub low : ℕ
  pub drawn : ℕ
  pub binding : Option Binding

-- a slot before its first window
abbrev pub vacant_window : Slot → Window
vacant_window slot = record { slot = slot; kind = 0; low = 0; drawn = 0; binding = None }

-- the key of a window's latest binding
abbrev pub key_of_window : Window → Key
key_of_window w = key_at (window_index w.slot) w.low

-- the key in force
abbrev pub bound_key : Window → Option Key
bound_key w = option_map (λ b. key_of_window w) w.binding

-- the grant for which a binding stands, over the grant of its region
abbrev pub grant_of_binding : Window → Binding → Grant → Grant
grant_of_binding w b g = grant_of_bind w.slot w.low b.queue g b.address b.length b.rights

-- an allocation of a window of this type
abbrev pub after_window_allocation : ℕ → Window → Window
after_window_allocation kind w = record w { kind = kind }

-- the byte that a draw gives; a window that is not of type 1 draws none
abbrev pub byte_drawn : Window → Option ℕ
byte_drawn w = if w.kind == 1 then Some (next_low w.drawn) else None

-- a draw
abbrev pub after_draw : Window → Window
after_draw w = if w.kind == 1 then record w { drawn = next_low w.drawn } else w

-- the region is there and valid
abbrev pub is_valid_view : Option RegionView → Bool
is_valid_view view = option_map_or (λ v. v.valid) view false

-- remote write or remote atomic, over a region without local write
abbrev pub exceeds_region : Rights → RegionView → Bool
exceeds_region rights view = (rights.remote_write || rights.remote_atomic) && not view.rights.local_write

-- the range is within the region
abbrev pub is_within : ℕ → ℕ → RegionView → Bool
is_within address count view = nat_le view.address address && nat_le (address + count) (view.address + view.length)

-- why a bind over a region is refused, in order
abbrev pub binding_refusals : Option RegionView → ℕ → ℕ → Rights → List (Bool × WindowError)
binding_refusals view address count rights =
    (not (is_valid_view view), RegionNotValid)
    ∷ (not (option_map_or (λ v. v.rights.window_bind) view false), NoBindRight)
    ∷ (option_map_or (exceeds_region rights) view true, RightsNeedLocalWrite)
    ∷ (not (option_map_or (is_within address count) view false), OutsideRegion)
    ∷ []

-- why a bind of a type 1 window is refused, in order; a bind of no bytes asks nothing of a region
abbrev pub bind1_refusals : Option RegionView → ℕ → ℕ → Rights → Window → List (Bool × WindowError)
bind1_refusals view address count rights w =
    (w.kind == 0, NoWindow)
    ∷ (not (w.kind == 1), WrongType)
    ∷ (if count == 0 then [] else binding_refusals view address count rights)

-- why a bind of a type 2 window is refused, in order
abbrev pub bind2_refusals : Option RegionView → ℕ → ℕ → Rights → Window → List (Bool × WindowError)
bind2_refusals view address count rights w =
    (w.kind == 0, NoWindow)
    ∷ (not (w.kind == 2), WrongType)
    ∷ (not (is_none w.binding), StillBound)
    ∷ (count == 0, Empty)
    ∷ binding_refusals view address count rights

-- a window without a binding; it keeps its low byte
abbrev pub without_binding : Window → Window
without_binding w = record w { binding = None }

-- a binding under a low byte
abbrev pub after_binding : ℕ → Option QueueId → ℕ → ℕ → ℕ → Rights → Window → Window
after_binding low queue region address count rights w = record w {
  low = low;
  binding = Some (record {
    region = region;
    queue = queue;
    address = address;
    length = count;
    rights = remote_rights rights;
  });
}

-- a bind of a type 1 window: an earlier binding ends; one of no bytes leaves the window unbound
abbrev pub after_bind1 : ℕ → ℕ → ℕ → ℕ → Rights → Window → Window
after_bind1 drawn region address count rights w =
    if count == 0 then without_binding w else after_binding drawn None region address count rights w

-- a binding is of another queue pair
abbrev pub is_of_other_queue : QueueId → Option Binding → Bool
is_of_other_queue queue None = true
is_of_other_queue queue (Some b) = not (option_map_or (queue_eq queue) b.queue false)

-- why an invalidation by a key, by a queue pair, is refused, in order
abbrev pub window_invalidation_refusals : Key → QueueId → Window → List (Bool × WindowError)
window_invalidation_refusals key queue w =
    (w.kind == 0, NoWindow)
    ∷ (w.kind == 1, Type1)
    ∷ (is_none w.binding, NotBound)
    ∷ (not (key_eq (key_of_window w) key), KeyDiffers)
    ∷ (is_of_other_queue queue w.binding, WrongQueue)
    ∷ []

-- a deallocation: the slot is vacant
abbrev pub after_deallocation : Window → Window
after_deallocation w = record w { kind = 0; binding = None }

-- the count of the type 2 windows that are bound to a queue pair, after one of its keys ended
abbrev pub count_without : Key → WindowCount → WindowCount
count_without key windows = if is_window_key key then record { count = windows.count - 1 } else windows
