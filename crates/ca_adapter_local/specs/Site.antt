-- Where a bind takes place, and what it makes of the parts in hand. Contracts cite it.
use Rattle.std.specs.Prelude.{◌≡◌, ℕ, if◌then◌else◌, true, false, Bool, Option, None, Some, Result, Ok, Err, IfSome}
use Rattle.std.specs.Option.{option_and_then, option_map}
use Rattle.ca_adapter_local.specs.Parts.{has_region, has_window, region_at}
use Rattle.ca_adapter_local.specs.declared.bind.Site.{Site}
use Rattle.ca_base.specs.Configuration.{Configuration}
use Rattle.ca_base.specs.declared.queue_numbers.WindowCount.{WindowCount}
use Rattle.ca_base.specs.declared.refusals.OpRefusal.{OpRefusal}
use Rattle.ca_base.specs.declared.request.SendOp.{SendOp}
use Rattle.ca_base.specs.declared.request.SendOp.TheVariants as ops
use Rattle.ca_base.specs.objects.QueuePair.{QueuePair}
use Rattle.ca_base.specs.objects.Region.{Region, grant_of_region, vacant_region, with_window_unbound}
use Rattle.ca_base.specs.objects.Slices.{names_region, slot_of_key}
use Rattle.ca_base.specs.objects.Window.{Window}
use Rattle.ca_adapter_reach.specs.AtHand.{IsCounting}
use Rattle.ca_adapter_reach.specs.Changed.{put_region, put_window}
use Rattle.ca_adapter_reach.specs.Seen.{region_in, slot_under, window_in}
use Rattle.ca_adapter_reach.specs.declared.reached.Reached.{Reached}
use Rattle.ca_keys.specs.declared.key.Key.{Key}
use Rattle.ca_keys.specs.declared.names.DomainId.{DomainId}
use Rattle.ca_keys.specs.declared.names.Slot.{Slot}
use Rattle.ca_keys.specs.Equal.{slot_eq}
use Rattle.ca_keys.specs.Refusals.{first_of}
use Rattle.ca_localops.specs.Binds.{CountsBinding, bind_refusals, count_after_bind, granted_by_bind, is_bound_in_named, key_ended_by_bind, named_after_bind, view_for_bind, window_after_bind}
use Rattle.ca_localops.specs.Errors.{FailsBy}
use Rattle.ca_localops.specs.declared.marks.Marks2.{Marks2}
use Rattle.ca_localops.specs.declared.marks.OpError.{OpError}
use Rattle.ca_localops.specs.declared.request.BindRequest.{BindRequest}
use Rattle.ca_model.specs.machine.LocalOperations.{window_slot}

-- the window that a bind names, by slot
abbrev pub window_of : SendOp → ℕ
window_of (ops.Bind1 window key address count rights) = window
window_of (ops.Bind2 window key low address count rights) = window
window_of op = 0

-- the key of the region that it names
abbrev pub key_of : SendOp → Key
key_of (ops.Bind1 window key address count rights) = key
key_of (ops.Bind2 window key low address count rights) = key
key_of op = record { 0 = 0 }

-- the slot of the region that a key of a domain names
abbrev pub slot_named : Configuration → DomainId → Key → Option Slot
slot_named c d key = if names_region c d key then Some (slot_of_key d key) else None

-- the slot of the region in which a window is bound
abbrev pub slot_bound : Window → Option Slot
slot_bound w = option_map (slot_under w) w.binding

-- the former slot, where it is another than the named one
abbrev pub apart_from : Option Slot → Option Slot → Option Slot
apart_from None former = former
apart_from (Some n) None = None
apart_from (Some n) (Some f) = if slot_eq f n then None else Some f

-- where a bind of a queue pair takes place
abbrev pub site_of : Configuration → Reached → QueuePair → Option ℕ → SendOp → Site
site_of c r q drawn op = record {
  window = window_slot q (window_of op);
  former = apart_from (slot_named c q.domain (key_of op)) (slot_bound (window_in r (window_slot q (window_of op))));
  named = slot_named c q.domain (key_of op);
  drawn = drawn;
  queue = q.queue;
}

-- its parts are in hand, each but once; and a window that is bound is counted where it is
pub record IsAtHand (r : Reached) (site : Site) : Type 0 where
  pub window : has_window r site.window ≡ true
  pub former : IfSome site.former (IsCounting r)
  pub named : IfSome site.named (λ s. has_region r s ≡ true)
  pub apart : (f n : Slot) → site.former ≡ Some f → site.named ≡ Some n → slot_eq f n ≡ false
  pub here : site.former ≡ None → CountsBinding (window_in r site.window) None (region_at r site.named)

-- what a bind leaves of its window, and of the region that it names, in which the window was bound or not
abbrev pub after_bind : Reached → Site → Bool → BindRequest → Reached
after_bind r site was_bound b = by site.named
  where
    bound : Reached
    bound = put_window r site.window (window_after_bind b (window_in r site.window))

    by : Option Slot → Reached
    by None = bound
    by (Some s) = put_region bound s (named_after_bind b.length was_bound (region_in r s))

-- what a bind leaves of all its parts
abbrev pub after_bind_at : Reached → Site → BindRequest → Reached
after_bind_at r site b = by site.former
  where
    by : Option Slot → Reached
    by None = after_bind r site (is_bound_in_named (window_in r site.window) None) b
    by (Some f) = put_region
        (after_bind (put_region r f vacant_region) site (is_bound_in_named (window_in r site.window) (Some (region_in r f))) b)
        f (with_window_unbound (region_in r f))

-- why a bind of a window is refused, over the region that it names, if it names one
abbrev pub refusal_over : BindRequest → Window → Option Region → Option OpRefusal
refusal_over b x named = first_of (bind_refusals b (view_for_bind b.key named) x)

-- a bind of a window was done, with these marks, and leaves this count
pub record IsBound (m : Marks2) (b : BindRequest) (x : Window) (named : Option Region) (before after : WindowCount) : Type 0 where
  pub accepted : refusal_over b x named ≡ None
  pub revoked : m.revoked ≡ key_ended_by_bind b x
  pub granted : m.granted ≡ granted_by_bind b x (option_and_then grant_of_region named)
  pub count : after ≡ count_after_bind b before

-- it was done, or it failed
abbrev pub HasBound : Result Marks2 OpError → BindRequest → Window → Option Region → WindowCount → WindowCount → Type 0
HasBound (Ok m) b x named before after = IsBound m b x named before after
HasBound (Err error) b x named before after = FailsBy (refusal_over b x named) error
