-- What is at hand of the parts that a local operation names, and what a bind leaves of them. Contracts cite it.
use Rattle.std.specs.Prelude.{◌≡◌, ℕ, ◌<◌, true, Bool, Option, None, IfSome}
use Rattle.std.specs.Option.{option_map}
use Rattle.ca_base.specs.Configuration.{Configuration}
use Rattle.ca_base.specs.declared.request.SendOp.{SendOp}
use Rattle.ca_base.specs.declared.request.SendOp.TheVariants as ops
use Rattle.ca_base.specs.objects.QueuePair.{QueuePair}
use Rattle.ca_base.specs.objects.Region.{Region}
use Rattle.ca_base.specs.objects.Slices.{names_region, slot_of_key}
use Rattle.ca_adapter_reach.specs.AtHand.{CanEnd, IsCounting}
use Rattle.ca_adapter_reach.specs.Seen.{region_in, sight_of, slot_under, window_in}
use Rattle.ca_adapter_reach.specs.declared.reached.Reached.{Reached}
use Rattle.ca_keys.specs.declared.key.Key.{Key}
use Rattle.ca_keys.specs.declared.names.Slot.{Slot}
use Rattle.ca_keys.specs.Equal.{slot_eq}
use Rattle.ca_keys.specs.Numbers.{domain_of, is_window_key}
use Rattle.ca_model.specs.machine.LocalOperations.{region_slot, window_slot}
use Rattle.ca_adapter_reach.specs.Shelved.{has_thing}
use Rattle.ca_adapter_local.specs.Local.{invalidation_of}

-- the region in a slot is in hand
abbrev pub has_region : Reached → Slot → Bool
has_region r s = has_thing slot_eq s r.regions.things

-- the window in a slot is in hand
abbrev pub has_window : Reached → Slot → Bool
has_window r s = has_thing slot_eq s r.windows.things

-- the parts of a bind are in hand: its window, which is that of its slot; the region in which that is bound, which
-- counts it; and the region that its key names
pub record AreBindParts (c : Configuration) (r : Reached) (q : QueuePair) (number : ℕ) (key : Key) : Type 0 where
  pub window : has_window r (window_slot q number) ≡ true
  pub slot : (window_in r (window_slot q number)).slot ≡ window_slot q number
  pub former : IfSome (window_in r (window_slot q number)).binding
      (λ b. IsCounting r (slot_under (window_in r (window_slot q number)) b))
  pub named : names_region c q.domain key ≡ true → has_region r (slot_of_key q.domain key) ≡ true

-- the parts of a key that is to end are in hand, and the queue pair counts the window that it unbinds
pub record AreEndParts (r : Reached) (q : QueuePair) (key : Key) : Type 0 where
  pub ends : CanEnd r (invalidation_of q key)
  pub domain : q.domain ≡ domain_of q.queue
  pub counted : is_window_key key ≡ true → (sight_of r).refusal (invalidation_of q key) ≡ None → 0 < q.windows

-- the parts that a local operation names are in hand
abbrev pub AreParts : Configuration → Reached → QueuePair → SendOp → Type 0
AreParts c r q (ops.Bind1 window key address count rights) = AreBindParts c r q window key
AreParts c r q (ops.Bind2 window key low address count rights) = AreBindParts c r q window key
AreParts c r q (ops.FastReg region low buffer address count rights pages) = has_region r (region_slot q region) ≡ true
AreParts c r q (ops.LocalInv key) = AreEndParts r q key
AreParts c r q op = ⊥

-- the region in a slot, if one is named
abbrev pub region_at : Reached → Option Slot → Option Region
region_at r s = option_map (region_in r) s
