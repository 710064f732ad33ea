-- A local request: a bind, a fast registration or an invalidation, over the window and the regions that it names. What
-- refuses it, and what it revokes and grants. Contracts cite it.
use Rattle.std.specs.Prelude.{ℕ, Bool, if◌then◌else◌, List, ◌∷◌, map, Option, None, is_none}
use Rattle.std.specs.Option.{option_map, option_map_or}
use Rattle.ca_keys.specs.declared.grant.Grant.{Grant}
use Rattle.ca_keys.specs.declared.key.Key.{Key}
use Rattle.ca_keys.specs.declared.names.QueueId.{QueueId}
use Rattle.ca_keys.specs.declared.names.Slot.{Slot}
use Rattle.ca_base.specs.declared.refusals.OpRefusal.{OpRefusal}
use Rattle.ca_base.specs.declared.refusals.OpRefusal.TheVariants as refusals
use Rattle.ca_base.specs.declared.refusals.RegionError.{RegionError}
use Rattle.ca_base.specs.declared.refusals.RegionError.TheVariants.{NotValid}
use Rattle.ca_base.specs.declared.refusals.WindowError.{WindowError}
use Rattle.ca_base.specs.declared.refusals.WindowError.TheVariants.{NoWindow, WrongType}
use Rattle.ca_base.specs.declared.region_view.RegionView.{RegionView}
use Rattle.ca_keys.specs.declared.rights.Rights.{Rights}
use Rattle.ca_keys.specs.Refusals.{first_of}
use Rattle.ca_base.specs.objects.Region.{Region, grant_of_region, has_other_key, view_of_grant, fast_registration_refusals, region_invalidation_refusals}
use Rattle.ca_keys.specs.Numbers.{is_window_key}
use Rattle.ca_base.specs.objects.Window.{Window, bind1_refusals, bind2_refusals, window_invalidation_refusals}

-- what a local request revokes and grants
pub record LocalMarks : Type 0 where
  pub revoked : Option Key
  pub granted : Option Grant

-- refusals of a region, and of a window, as those of a local request
abbrev pub of_region : List (Bool × RegionError) → List (Bool × OpRefusal)
of_region tests = map (λ t. (t.0, refusals.Region t.1)) tests

abbrev pub of_window : List (Bool × WindowError) → List (Bool × OpRefusal)
of_window tests = map (λ t. (t.0, refusals.Window t.1)) tests

-- what is seen of the region that a bind names by this key: nothing where the key that is valid there is another
abbrev pub view_by_key : Key → Region → Option RegionView
view_by_key key r = if has_other_key key (grant_of_region r) then None else option_map view_of_grant (grant_of_region r)

-- why a bind of a type 1 window is refused; one that drew no byte found another window when it was posted
abbrev pub bind1_request_refusals : Option ℕ → Option RegionView → ℕ → ℕ → Rights → Window → List (Bool × OpRefusal)
bind1_request_refusals drawn view address count rights w =
    (is_none drawn, refusals.Window WrongType) ∷ of_window (bind1_refusals view address count rights w)

-- why a bind of a type 2 window is refused
abbrev pub bind2_request_refusals : Option RegionView → ℕ → ℕ → Rights → Window → List (Bool × OpRefusal)
bind2_request_refusals view address count rights w = of_window (bind2_refusals view address count rights w)

-- why a fast registration is refused; a buffer that is not configured has no bytes
abbrev pub fast_request_refusals : Slot → ℕ → Option ℕ → ℕ → ℕ → Rights → List ℕ → Region → List (Bool × OpRefusal)
fast_request_refusals slot buffer bytes address count rights pages r =
    of_region (fast_registration_refusals slot buffer (option_map_or (λ n. n) bytes 0) address count rights pages r)

-- why the invalidation of a region's key is refused
abbrev pub region_refusal : Key → Region → Option OpRefusal
region_refusal key r = first_of (of_region (region_invalidation_refusals key r))

-- why the invalidation of a window's key by a queue pair is refused
abbrev pub window_refusal : Key → QueueId → Window → Option OpRefusal
window_refusal key queue w = first_of (of_window (window_invalidation_refusals key queue w))

-- why the invalidation of a key that names nothing in the domain is refused
abbrev pub unnamed_refusal : Key → OpRefusal
unnamed_refusal key = if is_window_key key then refusals.Window NoWindow else refusals.Region NotValid
