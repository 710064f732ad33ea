-- The end of a window's key, over the parts in hand. For proofs only.
use Rattle.std.proofs.Common.{◌≡◌, ◌<◌, refl, sym, ap, subst, arith, true, Option, None, Some, IfSome, IsSomeAnd, is_some}
use Rattle.std.proofs.lemmas.Bool.Decides.{nat_tests}
use Rattle.std.specs.Option.{option_map}
use Rattle.ca_keys.specs.declared.key.Key.{Key}
use Rattle.ca_keys.specs.declared.names.QueueId.{QueueId}
use Rattle.ca_keys.specs.declared.names.Slot.{Slot}
use Rattle.ca_keys.specs.Equal.{slot_eq}
use Rattle.ca_base.specs.objects.LocalRequest.{window_refusal}
use Rattle.ca_base.specs.objects.Region.{Region, with_window_unbound}
use Rattle.ca_base.specs.objects.Window.{Binding, Window, without_binding}
use Rattle.ca_adapter_reach.specs.Shelved.{has_thing, thing_under}
use Rattle.ca_adapter_reach.specs.declared.reached.Reached.{Reached}
use Rattle.ca_adapter_reach.specs.AtHand.{IsCounting}
use Rattle.ca_adapter_reach.specs.Changed.{put_region, put_window, without_window_key}
use Rattle.ca_adapter_reach.specs.Seen.{region_in, slot_under}

-- the key of a window that is not bound does not end
pub unbound_refused : (key : Key) (queue : QueueId) (w : Window) → w.binding ≡ None → window_refusal key queue w ≡ None → ⊥
unbound_refused key queue w unbound accepted = grind (arith, nat_tests)

-- the region of a binding is in hand, and counts it
pub counting_under : (r : Reached) (w : Window) (o : Option Binding) (s : Slot) → option_map (slot_under w) o ≡ Some s
    → IfSome o (λ b. IsCounting r (slot_under w b)) → IsCounting r s
counting_under r w None s e counts = cc
counting_under r w (Some b) s e counts = let same : slot_under w b ≡ s = cc in subst (IsCounting r) same counts

pub counting_has : (r : Reached) (s : Slot) → IsCounting r s → has_thing slot_eq s r.regions.things ≡ true
counting_has r s counts = by (thing_under slot_eq s r.regions.things) counts
  where
    by : (o : Option Region) → IsSomeAnd o (λ region. 0 < region.bound) → is_some o ≡ true
    by None none = absurd none
    by (Some region) counts = refl

pub counting_bound : (r : Reached) (s : Slot) (region : Region) → IsCounting r s → Some region ≡ thing_under slot_eq s r.regions.things → 0 < region.bound
counting_bound r s region counts is = let P : Option Region → Type 0 = λ o. IsSomeAnd o (λ region. 0 < region.bound) in subst P (sym is) counts

-- what the end of a bound window's key leaves
pub ended_under : (r : Reached) (slot : Slot) (w : Window) (s : Slot) → option_map (slot_under w) w.binding ≡ Some s
    → put_region (put_window r slot (without_binding w)) s (with_window_unbound (region_in r s)) ≡ without_window_key r slot w
ended_under r slot w s e = by w.binding e
  where
    by : (o : Option Binding) → option_map (slot_under w) o ≡ Some s
        → put_region (put_window r slot (without_binding w)) s (with_window_unbound (region_in r s)) ≡ without_window_key r slot (record w { binding = o })
    by None e = cc
    by (Some b) e = let same : s ≡ slot_under w b = cc in
        ap (λ s. put_region (put_window r slot (without_binding w)) s (with_window_unbound (region_in r s))) same

pub ruleset ended = (counting_under, counting_has, counting_bound, ended_under)
