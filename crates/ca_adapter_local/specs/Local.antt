-- What a local operation comes to in a world: why it is refused, and else what it revokes, grants and changes.
-- Contracts cite it.
use Rattle.std.specs.Prelude.{◌≡◌, ℕ, suc, ◌-◌, ◌==◌, if◌then◌else◌, List, [], Option, None, Some}
use Rattle.std.specs.Option.{option_map, option_map_or}
use Rattle.ca_base.specs.Configuration.{Configuration}
use Rattle.ca_base.specs.Sight.{Invalidation}
use Rattle.ca_base.specs.declared.refusals.OpRefusal.{OpRefusal}
use Rattle.ca_base.specs.declared.request.SendOp.{SendOp}
use Rattle.ca_base.specs.declared.request.SendOp.TheVariants as ops
use Rattle.ca_base.specs.objects.LocalRequest.{LocalMarks, bind1_request_refusals, bind2_request_refusals}
use Rattle.ca_base.specs.objects.QueuePair.{Present, QueuePair}
use Rattle.ca_base.specs.objects.Region.{Region}
use Rattle.ca_base.specs.objects.Slices.{names_region, slot_of_key}
use Rattle.ca_base.specs.objects.Window.{Window, bound_key}
use Rattle.ca_keys.specs.declared.key.Key.{Key}
use Rattle.ca_keys.specs.declared.names.DomainId.{DomainId}
use Rattle.ca_keys.specs.declared.names.QueueId.{QueueId}
use Rattle.ca_keys.specs.declared.rights.Rights.{Rights}
use Rattle.ca_keys.specs.Numbers.{is_window_key}
use Rattle.ca_keys.specs.Refusals.{first_of}
use Rattle.ca_model.specs.machine.CanStep.{CanStep}
use Rattle.ca_model.specs.machine.LocalOperations.{PlacedRegion, bind1_changes, bind2_changes, bind2_marks, bind_grant, fast_changes, fast_marks, fast_refusal, operation_effects, region_slot, view_named, window_slot}
use Rattle.ca_model.specs.machine.Numbering.{Numbered}
use Rattle.ca_model.specs.machine.Plan.{Update}
use Rattle.ca_model.specs.machine.Row.{Effects, region_under, unless_none}
use Rattle.ca_model.specs.machine.Seen.{ending_changes, refusal_in}
use Rattle.ca_model.specs.machine.World.{World}
use Rattle.ca_adapter_turns.specs.ca_requester_sends.Turn.{PerformsFound}
use Rattle.ca_adapter_turns.specs.ca_requester_sends.declared.turn.Found.{Found}

-- what an operation comes to: why it is refused, if it is, and else its marks, the count of the windows that are
-- bound to its queue pair after it, and its changes
pub record LocalEnd : Type 0 where
  pub refusal : Option OpRefusal
  pub marks : LocalMarks
  pub windows : ℕ
  pub changes : List Update

-- the region that a key of a domain names in a world
abbrev pub named_in : Configuration → World → DomainId → Key → Option PlacedRegion
named_in c w d key =
    if names_region c d key then Some (record { slot = slot_of_key d key; region = w.region (slot_of_key d key) }) else None

-- the region in which a window is bound in a world
abbrev pub former_in : World → Window → Option PlacedRegion
former_in w x = option_map (λ b. record { slot = region_under x b; region = w.region (region_under x b) }) x.binding

-- the byte that a bind drew
abbrev pub byte_of : Option ℕ → ℕ
byte_of drawn = option_map_or (λ b. b) drawn 0

-- a bind of a type 1 window, in these regions
abbrev pub bind1_end : QueuePair → Option ℕ → Window → Option PlacedRegion → Option PlacedRegion → ℕ → Key → ℕ → ℕ → Rights → LocalEnd
bind1_end q drawn x former named window key address count rights = record {
  refusal = first_of (bind1_request_refusals drawn (view_named key named) address count rights x);
  marks = record {
    revoked = bound_key x;
    granted = if count == 0 then None else bind_grant (window_slot q window) (byte_of drawn) None named address count rights;
  };
  windows = q.windows;
  changes = bind1_changes (window_slot q window) (byte_of drawn) x former named address count rights;
}

-- a bind of a type 2 window, in the region that is named
abbrev pub bind2_end : QueuePair → Window → Option PlacedRegion → ℕ → Key → ℕ → ℕ → ℕ → Rights → LocalEnd
bind2_end q x named window key low address count rights = record {
  refusal = first_of (bind2_request_refusals (view_named key named) address count rights x);
  marks = bind2_marks q window low named address count rights;
  windows = suc q.windows;
  changes = bind2_changes (window_slot q window) low q.queue x named address count rights;
}

-- a fast registration, in this region
abbrev pub fast_end : Configuration → QueuePair → Region → ℕ → ℕ → ℕ → ℕ → ℕ → Rights → List ℕ → LocalEnd
fast_end c q r region low buffer address count rights pages = record {
  refusal = fast_refusal c q region buffer address count rights pages r;
  marks = fast_marks q region low buffer address count rights pages;
  windows = q.windows;
  changes = fast_changes q region low buffer address count rights pages r;
}

-- a queue pair wants to end a key of its domain
abbrev pub invalidation_of : QueuePair → Key → Invalidation
invalidation_of q key = record { queue = q.queue; domain = q.domain; key = key }

-- a Local Invalidate
abbrev pub invalidation_end : Configuration → World → QueuePair → Key → LocalEnd
invalidation_end c w q key = record {
  refusal = refusal_in c w (invalidation_of q key);
  marks = record { revoked = Some key; granted = None };
  windows = if is_window_key key then q.windows - 1 else q.windows;
  changes = ending_changes c w (invalidation_of q key);
}

-- what no local operation comes to
abbrev pub no_end : QueuePair → LocalEnd
no_end q = record { refusal = None; marks = record { revoked = None; granted = None }; windows = q.windows; changes = [] }

-- what an operation of a queue pair comes to in a world, with the byte that it drew
abbrev pub local_end : Configuration → World → QueuePair → Option ℕ → SendOp → LocalEnd
local_end c w q drawn (ops.Bind1 window key address count rights) =
    bind1_end q drawn (w.window (window_slot q window)) (former_in w (w.window (window_slot q window))) (named_in c w q.domain key)
    window key address count rights
local_end c w q drawn (ops.Bind2 window key low address count rights) =
    bind2_end q (w.window (window_slot q window)) (named_in c w q.domain key) window key low address count rights
local_end c w q drawn (ops.FastReg region low buffer address count rights pages) =
    fast_end c q (w.region (region_slot q region)) region low buffer address count rights pages
local_end c w q drawn (ops.LocalInv key) = invalidation_end c w q key
local_end c w q drawn op = no_end q

-- what the end of an operation makes of its queue pair, with its marks
abbrev pub end_effects : QueuePair → Numbered → LocalEnd → Effects
end_effects q n end = operation_effects q n (record q { windows = end.windows }) end.marks end.refusal

-- what it changes elsewhere: nothing where it is refused
abbrev pub end_changes : LocalEnd → List Update
end_changes end = unless_none end.refusal end.changes

-- the queue pair of a name is there, and its turn performs the local operation that was found
pub record IsPerforming (w : World) (name : QueueId) (f : Found) : Type 0 where
  pub queue : QueuePair
  pub there : w.queue name ≡ Present queue
  pub named : queue.queue ≡ name
  pub step : CanStep queue
  pub performs : PerformsFound queue f
