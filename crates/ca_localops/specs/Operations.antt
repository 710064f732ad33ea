-- Local operations over parts: what refuses each, and what it leaves. Contracts cite it.
use Rattle.std.specs.Prelude.{◌≡◌, ℕ, ◌<◌, Bool, if◌then◌else◌, List, [], Option, None, Some, IsTrue, IsSomeAnd}
use Rattle.std.specs.Option.{option_map_or}
use Rattle.ca_keys.specs.declared.grant.Grant.{Grant}
use Rattle.ca_keys.specs.declared.key.Key.{Key}
use Rattle.ca_keys.specs.declared.names.QueueId.{QueueId}
use Rattle.ca_keys.specs.declared.names.Slot.{Slot}
use Rattle.ca_base.specs.declared.refusals.OpRefusal.{OpRefusal}
use Rattle.ca_base.specs.declared.request.SendOp.{SendOp}
use Rattle.ca_base.specs.declared.request.SendOp.TheVariants as ops
use Rattle.ca_base.specs.Grants.{grant_of_fast_registration}
use Rattle.ca_base.specs.objects.LocalRequest.{fast_request_refusals, region_refusal, window_refusal, unnamed_refusal}
use Rattle.ca_base.specs.objects.Region.{Region, after_fast_registration, after_region_invalidation, with_window_unbound}
use Rattle.ca_keys.specs.Numbers.{is_window_key}
use Rattle.ca_base.specs.objects.Window.{Window, without_binding}

-- why the invalidation of a key is refused: by the window that a window's key names, or by the region that a region's
-- key names; a key without its part names nothing
abbrev pub key_refusal : Key → QueueId → Option Window → Option Region → Option OpRefusal
key_refusal key queue w r =
    if is_window_key key then option_map_or (window_refusal key queue) w (Some (unnamed_refusal key))
    else option_map_or (region_refusal key) r (Some (unnamed_refusal key))

-- why the invalidation of a key is refused where a region is all that it may name
abbrev pub key_refusal_by_region : Key → Region → Option OpRefusal
key_refusal_by_region key r = if is_window_key key then Some (unnamed_refusal key) else region_refusal key r

-- the window after the end of its own key, or of a region's
abbrev pub window_without_key : Key → Window → Window
window_without_key key w = if is_window_key key then without_binding w else w

-- the region after the end of its own key, or of the key of a window that was bound in it
abbrev pub region_without_key : Key → Region → Region
region_without_key key r = if is_window_key key then with_window_unbound r else after_region_invalidation r

-- Where a window's key can end, it is bound, and the region of its binding is handed in and counts it.
abbrev pub CountsWindow : Key → QueueId → Option Window → Option Region → Type 0
CountsWindow key queue w r =
    IsTrue (is_window_key key) → key_refusal key queue w r ≡ None → IsSomeAnd r (λ region. 0 < region.bound)

-- the operation is a fast registration
abbrev pub IsFastRegistration : SendOp → Type 0
IsFastRegistration (ops.FastReg region low buffer address count rights pages) = Unit {0}
IsFastRegistration op = ⊥

-- why a fast registration in a slot, over a buffer of so many bytes, is refused
abbrev pub fast_refusals : SendOp → Slot → ℕ → Region → List (Bool × OpRefusal)
fast_refusals (ops.FastReg region low buffer address count rights pages) slot bytes r =
    fast_request_refusals slot buffer (Some bytes) address count rights pages r
fast_refusals op slot bytes r = []

-- what a fast registration in a slot grants
abbrev pub grant_of_fast : SendOp → Slot → Option Grant
grant_of_fast (ops.FastReg region low buffer address count rights pages) slot =
    Some (grant_of_fast_registration slot low buffer address count rights pages)
grant_of_fast op slot = None

-- the region after a fast registration
abbrev pub region_after_fast : SendOp → Slot → Region → Region
region_after_fast (ops.FastReg region low buffer address count rights pages) slot r =
    after_fast_registration slot low buffer address count rights pages r
region_after_fast op slot r = r
