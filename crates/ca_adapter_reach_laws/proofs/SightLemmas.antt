-- What is seen by the parts in hand is what the machine sees in their small world. For proofs only.
use Rattle.std.proofs.Common.{◌≡◌, ◌∙◌, ◌⊎◌, inl, inr, refl, sym, ap, Bool, true, false, not, ◌&&◌, ◌||◌, if◌then◌else◌, Option, None, Some, is_some}
use Rattle.std.proofs.Math.Path.{fun_ext}
use Rattle.std.specs.Option.{option_and_then, option_map}
use Rattle.ca_keys.specs.declared.access.Ask.{Ask}
use Rattle.ca_keys.specs.declared.grant.Grant.{Grant}
use Rattle.ca_keys.specs.declared.names.Slot.{Slot}
use Rattle.ca_keys.specs.Allowed.{fits, grant_for}
use Rattle.ca_keys.specs.Equal.{domain_eq, key_eq, slot_eq}
use Rattle.ca_keys.specs.Numbers.{is_window_key}
use Rattle.ca_base.specs.Configuration.{Configuration}
use Rattle.ca_base.specs.Sight.{Invalidation}
use Rattle.ca_base.specs.objects.LocalRequest.{region_refusal, unnamed_refusal, window_refusal}
use Rattle.ca_base.specs.objects.Region.{FastRegistered, Free, NoRegion, Region, RegionState, Registered, grant_in_state, grant_of_region, vacant_region}
use Rattle.ca_base.specs.objects.Slices.{has_slot, is_key_of, slot_of_key}
use Rattle.ca_base.specs.objects.Window.{Binding, Window, grant_of_binding, vacant_window}
use Rattle.ca_adapter_reach.specs.ca_grant.KeySlot.{list_of_grant}
use Rattle.ca_model.specs.machine.Parts.{ShowsHeld}
use Rattle.ca_model.specs.machine.Row.{grant_if_fitting, grant_over, region_under}
use Rattle.ca_model.specs.machine.Seen.{grant_in, refusal_in, sight_in}
use Rattle.ca_model.specs.machine.World.{Region_of, Window_of, World}
use Rattle.ca_adapter_reach.specs.Shelved.{has_thing, thing_under}
use Rattle.ca_adapter_reach.specs.Seen.{grant_named, grant_of_window, or_vacant, refusal_named, region_in, sight_of, slot_under, window_in}
use Rattle.ca_adapter_parts.specs.declared.held.Held.{Held}
use Rattle.ca_adapter_parts.specs.HeldView.{held_world, holding}
use Rattle.ca_adapter_reach_laws.specs.Ties.{IsVacantOutside}

absent : {A : Type 0} (vacant : A) (o : Option A) → is_some o ≡ false → or_vacant vacant o ≡ vacant
absent vacant None e = refl
absent vacant (Some x) e = cc

-- a region in hand is that of a world which shows it, and any other is vacant
pub region-or : (h : Held) (w : World) → ShowsHeld (holding h).parts (holding h).world w → (s : Slot)
    → (region_in h.reached s ≡ w.region s) ⊎ (region_in h.reached s ≡ vacant_region)
unfolding holding
region-or h w shows s = by (has_thing slot_eq s h.reached.regions.things) refl
  where
    by : (b : Bool) → has_thing slot_eq s h.reached.regions.things ≡ b → (region_in h.reached s ≡ w.region s) ⊎ (region_in h.reached s ≡ vacant_region)
    by true e = inl (shows (Region_of s) e)
    by false e = inr (absent vacant_region (thing_under slot_eq s h.reached.regions.things) e)

pub window-or : (h : Held) (w : World) → ShowsHeld (holding h).parts (holding h).world w → (s : Slot)
    → (window_in h.reached s ≡ w.window s) ⊎ (window_in h.reached s ≡ vacant_window s)
unfolding holding
window-or h w shows s = by (has_thing slot_eq s h.reached.windows.things) refl
  where
    by : (b : Bool) → has_thing slot_eq s h.reached.windows.things ≡ b → (window_in h.reached s ≡ w.window s) ⊎ (window_in h.reached s ≡ vacant_window s)
    by true e = inl (shows (Window_of s) e)
    by false e = inr (absent (vacant_window s) (thing_under slot_eq s h.reached.windows.things) e)

pub vacant-outside : (c : Configuration) (h : Held) (w : World) → IsVacantOutside c w → ShowsHeld (holding h).parts (holding h).world w
    → IsVacantOutside c (holding h).world
unfolding holding
vacant-outside c h w out shows = record {
  regions = λ s e. region s e (region-or h w shows s);
  windows = λ s e. window s e (window-or h w shows s);
}
  where
    region : (s : Slot) → has_slot c (λ a. a.regions) s ≡ false → (region_in h.reached s ≡ w.region s) ⊎ (region_in h.reached s ≡ vacant_region)
        → region_in h.reached s ≡ vacant_region
    region s e (inl same) = same ∙ out.regions s e
    region s e (inr vacant) = vacant

    window : (s : Slot) → has_slot c (λ a. a.windows) s ≡ false → (window_in h.reached s ≡ w.window s) ⊎ (window_in h.reached s ≡ vacant_window s)
        → window_in h.reached s ≡ vacant_window s
    window s e (inl same) = same ∙ out.windows s e
    window s e (inr vacant) = vacant

fitting : (ask : Ask) (o : Option Grant) → grant_if_fitting ask o ≡ grant_for ask (list_of_grant o)
fitting ask None = refl
fitting ask (Some g) = refl

-- a window's grant over its region, in either words
over-region : (w : Window) (b : Binding) (r : Region) → grant_over w b r ≡ option_map (grant_of_binding w b) (grant_of_region r)
over-region w b r = by r.state
  where
    by : (st : RegionState) → grant_over w b (record r { state = st }) ≡ option_map (grant_of_binding w b) (grant_in_state st)
    by NoRegion = refl
    by (Free pages) = refl
    by (Registered g) = refl
    by (FastRegistered pages g) = refl

-- no window's grant serves an L_Key
local-none : (ask : Ask) (w : Window) (f : Binding → Option Grant) (o : Option Binding) → ask.local ≡ true
    → None ≡ grant_for ask (list_of_grant (option_and_then (λ b. option_map (grant_of_binding w b) (f b)) o))
local-none ask w f None local = refl
local-none ask w f (Some b) local = by (f b)
  where
    unfit : (g : Grant) → g.local ≡ false → fits ask g ≡ false
    unfit g remote = each (key_eq g.key ask.key) (domain_eq g.domain ask.domain)
      where
        each : (x y : Bool) → (x && y && (not ask.local || g.local)) ≡ false
        each x y = rw (local, remote) (both x y)
          where
            both : (x y : Bool) → (x && y && false) ≡ false
            both true true = refl
            both true false = refl
            both false y = refl

    by : (o : Option Grant) → None ≡ grant_for ask (list_of_grant (option_map (grant_of_binding w b) o))
    by None = refl
    by (Some g) = rw (unfit (grant_of_binding w b g) refl) refl

grants-agree : (c : Configuration) (w : World) → IsVacantOutside c w → (ask : Ask)
    → grant_in c w ask ≡ grant_for ask (list_of_grant (grant_named w.region w.window ask.domain ask.key))
grants-agree c w out ask =
    by (is_window_key ask.key) (is_key_of ask.domain ask.key) (has_slot c (λ a. a.regions) slot) refl (has_slot c (λ a. a.windows) slot) refl ask.local refl
  where
    slot : Slot
    slot = slot_of_key ask.domain ask.key

    grant : Window → Option Binding → Option Grant
    grant window None = None
    grant window (Some b) = grant_if_fitting ask (grant_over window b (w.region (region_under window b)))

    named : (o : Option Binding)
        → grant (w.window slot) o ≡ grant_for ask (list_of_grant (option_and_then
        (λ b. option_map (grant_of_binding (w.window slot) b) (grant_of_region (w.region (slot_under (w.window slot) b)))) o))
    named None = refl
    named (Some b) = fitting ask (grant_over (w.window slot) b (w.region (region_under (w.window slot) b)))
        ∙ ap (λ o. grant_for ask (list_of_grant o)) (over-region (w.window slot) b (w.region (region_under (w.window slot) b)))

    by : (k d r : Bool) → has_slot c (λ a. a.regions) slot ≡ r → (x : Bool) → has_slot c (λ a. a.windows) slot ≡ x → (l : Bool) → ask.local ≡ l
        → (if not k && d && r then grant_if_fitting ask (grant_of_region (w.region slot))
        else if (if l then false else k && d && x) then grant (w.window slot) (w.window slot).binding else None)
        ≡ grant_for ask (list_of_grant (if not d then None else if k then grant_of_window w.region (w.window slot) else grant_of_region (w.region slot)))
    by false true true er x ex l el = fitting ask (grant_of_region (w.region slot))
    by false true false er x ex true el = sym (ap (λ r. grant_for ask (list_of_grant (grant_of_region r))) (out.regions slot er))
    by false true false er x ex false el = sym (ap (λ r. grant_for ask (list_of_grant (grant_of_region r))) (out.regions slot er))
    by false false r er x ex true el = refl
    by false false r er x ex false el = refl
    by true false r er x ex true el = refl
    by true false r er x ex false el = refl
    by true true r er x ex true el = local-none ask (w.window slot) (λ b. grant_of_region (w.region (slot_under (w.window slot) b))) (w.window slot).binding el
    by true true r er true ex false el = named (w.window slot).binding
    by true true r er false ex false el = sym (ap (λ v. grant_for ask (list_of_grant (grant_of_window w.region v))) (out.windows slot ex))

refusals-agree : (c : Configuration) (w : World) → IsVacantOutside c w → (i : Invalidation) → refusal_in c w i ≡ refusal_named w.region w.window i
refusals-agree c w out i =
    by (is_window_key i.key) refl (is_key_of i.domain i.key) (has_slot c (λ a. a.regions) slot) refl (has_slot c (λ a. a.windows) slot) refl
  where
    slot : Slot
    slot = slot_of_key i.domain i.key

    by : (k : Bool) → is_window_key i.key ≡ k → (d r : Bool) → has_slot c (λ a. a.regions) slot ≡ r → (x : Bool) → has_slot c (λ a. a.windows) slot ≡ x
        → (if not k && d && r then region_refusal i.key (w.region slot)
        else if k && d && x then window_refusal i.key i.queue (w.window slot) else Some (unnamed_refusal i.key))
        ≡ (if not d then Some (unnamed_refusal i.key) else if k then window_refusal i.key i.queue (w.window slot) else region_refusal i.key (w.region slot))
    by false e true true er x ex = refl
    by false e true false er x ex = rw e refl ∙ sym (ap (region_refusal i.key) (out.regions slot er))
    by false e false r er x ex = refl
    by true e false r er x ex = refl
    by true e true r er true ex = refl
    by true e true r er false ex = rw e refl ∙ sym (ap (window_refusal i.key i.queue) (out.windows slot ex))

-- the two sights are one
pub sights-agree : (c : Configuration) (h : Held) → IsVacantOutside c (holding h).world → sight_in c (holding h).world ≡ sight_of h.reached
unfolding holding
sights-agree c h out = λ i. record {
  grant = fun_ext (grants-agree c (held_world h) out) i;
  byte = (held_world h).byte;
  refusal = fun_ext (refusals-agree c (held_world h) out) i;
}
