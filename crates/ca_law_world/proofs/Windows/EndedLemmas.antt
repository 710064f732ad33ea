-- A window's key that can end: its window is counted by the queue pair that ends it, and by its region.
use Rattle.std.proofs.Common.{◌≡◌, ◌∙◌, ◌&&◌, ◌<◌, Bool, true, false, not, Option, None, Some, IfSome, ap, is_some, subst, sym, if◌then◌else◌, refl, true≢false}
use Rattle.std.proofs.lemmas.Bool.{not-false}
use Rattle.std.specs.Option.{option_map_or}
use Rattle.ca_keys.specs.declared.names.QueueId.{QueueId}
use Rattle.ca_keys.specs.declared.names.Slot.{Slot}
use Rattle.ca_keys.specs.Equal.{queue_eq}
use Rattle.ca_keys.specs.Numbers.{is_window_key}
use Rattle.ca_base.specs.Configuration.{Configuration}
use Rattle.ca_base.specs.Sight.{Invalidation}
use Rattle.ca_base.specs.objects.LocalRequest.{of_window, region_refusal, unnamed_refusal, window_refusal}
use Rattle.ca_base.specs.objects.QueuePair.{Present, QueuePair}
use Rattle.ca_base.specs.objects.Slices.{has_slot, is_key_of, names_region, names_window, slot_of_key}
use Rattle.ca_base.specs.objects.Window.{Binding, is_of_other_queue, window_invalidation_refusals}
use Rattle.ca_model.specs.machine.Seen.{refusal_in}
use Rattle.ca_model.specs.machine.World.{World}
use Rattle.ca_law_world.specs.Bindings.{IsBoundWorld, windows_of}
use Rattle.ca_law_world.proofs.Windows.BindingLemmas.{counted-binding}
use Rattle.ca_keys.specs.Refusals.{AllFail}
use Rattle.ca_law_world.proofs.Sound.SettledLemmas.{queue-path}
use Rattle.ca_law_world.proofs.Sound.TurnLemmas.{all-fail}

-- what an invalidation that is not refused finds in its window
record IsEnded (w : World) (s : Slot) (queue : QueueId) : Type 0 where
  binding : Binding
  bound : (w.window s).binding ≡ Some binding
  by : binding.queue ≡ Some queue

ended-window : (w : World) (s : Slot) (i : Invalidation) → window_refusal i.key i.queue (w.window s) ≡ None → IsEnded w s i.queue
ended-window w s i none = parts (all-fail (of_window (window_invalidation_refusals i.key i.queue (w.window s))) none)
  where
    of : (b : Binding) (o : Option QueueId) → b.queue ≡ o → not (option_map_or (queue_eq i.queue) o false) ≡ false → b.queue ≡ Some i.queue
    of b None is other = absurd (true≢false other)
    of b (Some p) is other = is ∙ ap Some (sym (queue-path i.queue p (not-false (queue_eq i.queue p) other)))

    at : (o : Option Binding) → (w.window s).binding ≡ o → is_of_other_queue i.queue o ≡ false → IsEnded w s i.queue
    at None is other = absurd (true≢false other)
    at (Some b) is other = record { binding = b; bound = is; by = of b b.queue refl other }

    parts : AllFail (of_window (window_invalidation_refusals i.key i.queue (w.window s))) → IsEnded w s i.queue
    parts all = at (w.window s).binding refl all.1.1.1.1.0

-- where the end of a window's key is not refused, its window stands in the slot that the key names
ended-slot : (c : Configuration) (w : World) (i : Invalidation) → is_window_key i.key ≡ true → refusal_in c w i ≡ None → IsEnded w (slot_of_key i.domain i.key) i.queue
ended-slot c w i key none = by (names_region c i.domain i.key) no-region (names_window c i.domain i.key) none
  where
    slot : Slot
    slot = slot_of_key i.domain i.key

    no-region : names_region c i.domain i.key ≡ false
    no-region = ap (λ b. not b && is_key_of i.domain i.key && has_slot c (λ a. a.regions) slot) key

    by : (b : Bool) → b ≡ false → (z : Bool)
        → (if b then region_refusal i.key (w.region slot) else if z then window_refusal i.key i.queue (w.window slot) else Some (unnamed_refusal i.key)) ≡ None → IsEnded w slot i.queue
    by true region z none = absurd (true≢false region)
    by false region true none = ended-window w slot i none
    by false region false none = absurd (true≢false (ap is_some none))

pub ended-counted : (c : Configuration) (w : World) (i : Invalidation) (q : QueuePair) → IsBoundWorld w → is_window_key i.key ≡ true → refusal_in c w i ≡ None
    → w.queue i.queue ≡ Present q → 0 < q.windows
ended-counted c w i q bound key none is = at (ended-slot c w i key none)
  where
    at : IsEnded w (slot_of_key i.domain i.key) i.queue → 0 < q.windows
    at ended = subst (λ s. 0 < windows_of s) is (subst (λ o. IfSome o (λ p. 0 < windows_of (w.queue p))) ended.by
        (counted-binding w.window w.region w.queue (slot_of_key i.domain i.key) ended.binding bound ended.bound).by_queue)
