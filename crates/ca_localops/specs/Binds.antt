-- A bind over parts: what refuses it, what it revokes and grants, and what it leaves. Contracts cite it.
use Rattle.std.specs.Prelude.{◌≡◌, ℕ, suc, ◌<◌, ◌==◌, ◌&&◌, not, Bool, true, if◌then◌else◌, List, Option, None, Some, is_none, IsSomeAnd}
use Rattle.std.specs.Option.{option_map, option_map_or, option_and_then}
use Rattle.ca_keys.specs.declared.grant.Grant.{Grant}
use Rattle.ca_keys.specs.declared.key.Key.{Key}
use Rattle.ca_keys.specs.declared.names.QueueId.{QueueId}
use Rattle.ca_base.specs.declared.queue_numbers.WindowCount.{WindowCount}
use Rattle.ca_base.specs.declared.refusals.OpRefusal.{OpRefusal}
use Rattle.ca_base.specs.declared.region_view.RegionView.{RegionView}
use Rattle.ca_base.specs.Grants.{grant_of_bind}
use Rattle.ca_base.specs.objects.LocalRequest.{bind1_request_refusals, bind2_request_refusals, view_by_key}
use Rattle.ca_base.specs.objects.Region.{Region, with_window_bound, with_window_unbound}
use Rattle.ca_base.specs.objects.Slices.{slot_of_key}
use Rattle.ca_base.specs.objects.Window.{Window, after_bind1, after_binding, bound_key}
use Rattle.ca_localops.specs.declared.request.BindKind.{BindKind}
use Rattle.ca_localops.specs.declared.request.BindKind.TheVariants.{Type1, Type2}
use Rattle.ca_localops.specs.declared.request.BindRequest.{BindRequest}

-- what is seen of the region that a bind names
abbrev pub view_for_bind : Key → Option Region → Option RegionView
view_for_bind key named = option_and_then (view_by_key key) named

-- why a bind is refused, by what is seen of the region that it names
abbrev pub bind_refusals : BindRequest → Option RegionView → Window → List (Bool × OpRefusal)
bind_refusals b view w = by b.kind
  where
    by : BindKind → List (Bool × OpRefusal)
    by (Type1 drawn) = bind1_request_refusals drawn view b.address b.length b.rights w
    by (Type2 low queue) = bind2_request_refusals view b.address b.length b.rights w

-- the slot of the region that a bind of a window names
abbrev pub slot_for_bind : BindRequest → Window → ℕ
slot_for_bind b w = (slot_of_key w.slot.domain b.key).slot

-- the window after a bind
abbrev pub window_after_bind : BindRequest → Window → Window
window_after_bind b w = by b.kind
  where
    by : BindKind → Window
    by (Type1 drawn) = after_bind1 (option_map_or (λ low. low) drawn 0) (slot_for_bind b w) b.address b.length b.rights w
    by (Type2 low queue) = after_binding low (Some queue) (slot_for_bind b w) b.address b.length b.rights w

-- the key that a bind ends: that of the window's earlier binding
abbrev pub key_ended_by_bind : BindRequest → Window → Option Key
key_ended_by_bind b w = by b.kind
  where
    by : BindKind → Option Key
    by (Type1 drawn) = bound_key w
    by (Type2 low queue) = None

-- the low byte of the key that a bind of this kind makes
abbrev pub low_for_bind : BindKind → ℕ
low_for_bind (Type1 drawn) = option_map_or (λ low. low) drawn 0
low_for_bind (Type2 low queue) = low

-- the queue pair for which a bind of this kind is
abbrev pub queue_for_bind : BindKind → Option QueueId
queue_for_bind (Type1 drawn) = None
queue_for_bind (Type2 low queue) = Some queue

-- what a bind of a window over a region's grant grants; one of no bytes grants nothing
abbrev pub granted_by_bind : BindRequest → Window → Option Grant → Option Grant
granted_by_bind b w region =
    if b.length == 0 then None
    else option_map (λ g. grant_of_bind w.slot (low_for_bind b.kind) (queue_for_bind b.kind) g b.address b.length b.rights) region

-- a window is bound in the region that is named, and not in another one that is handed in
abbrev pub is_bound_in_named : Window → Option Region → Bool
is_bound_in_named w former = not (is_none w.binding) && is_none former

-- the named region, after the window left it, if it was bound there
abbrev pub region_freed : Bool → Region → Region
region_freed was_bound r = if was_bound then with_window_unbound r else r

-- the named region after a bind of so many bytes
abbrev pub named_after_bind : ℕ → Bool → Region → Region
named_after_bind count was_bound r =
    if count == 0 then region_freed was_bound r else with_window_bound (region_freed was_bound r)

-- the count of the type 2 windows that are bound to a queue pair, after a bind
abbrev pub count_after_bind : BindRequest → WindowCount → WindowCount
count_after_bind b q = by b.kind
  where
    by : BindKind → WindowCount
    by (Type1 drawn) = q
    by (Type2 low queue) = record { count = suc q.count }

-- The region in which a window is bound is handed in, as the former one or as the one that is named, and counts it.
abbrev pub CountsBinding : Window → Option Region → Option Region → Type 0
CountsBinding w None named = not (is_none w.binding) ≡ true → IsSomeAnd named (λ r. 0 < r.bound)
CountsBinding w (Some former) named = 0 < former.bound
