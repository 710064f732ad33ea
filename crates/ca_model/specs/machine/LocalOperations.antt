-- The local operations of a send queue: a bind, a fast registration and a Local Invalidate, as the requester's turn
-- performs them. Contracts cite it.
use Rattle.std.specs.Prelude.{ℕ, suc, ◌==◌, false, if◌then◌else◌, List, [], ◌∷◌, ◌++◌, Option, None, Some}
use Rattle.std.specs.Option.{option_map, option_map_or, option_and_then}
use Rattle.ca_base.specs.declared.completion.WcStatus.TheVariants.{MemoryManagement}
use Rattle.ca_keys.specs.declared.grant.Grant.{Grant}
use Rattle.ca_keys.specs.declared.key.Key.{Key}
use Rattle.ca_keys.specs.declared.names.DomainId.{DomainId}
use Rattle.ca_keys.specs.declared.names.QueueId.{QueueId}
use Rattle.ca_keys.specs.declared.names.Slot.{Slot}
use Rattle.ca_base.specs.declared.refusals.OpRefusal.{OpRefusal}
use Rattle.ca_base.specs.declared.region_view.RegionView.{RegionView}
use Rattle.ca_base.specs.declared.request.SendOp.{SendOp}
use Rattle.ca_base.specs.declared.request.SendOp.TheVariants as ops
use Rattle.ca_keys.specs.declared.rights.Rights.{Rights}
use Rattle.ca_base.specs.Configuration.{Configuration}
use Rattle.ca_keys.specs.Equal.{slot_eq}
use Rattle.ca_base.specs.Grants.{grant_of_bind, grant_of_fast_registration}
use Rattle.ca_keys.specs.Refusals.{first_of}
use Rattle.ca_base.specs.Sight.{Invalidation}
use Rattle.ca_base.specs.objects.LocalRequest.{LocalMarks, bind1_request_refusals, bind2_request_refusals, fast_request_refusals, view_by_key}
use Rattle.ca_base.specs.objects.QueuePair.{QueuePair}
use Rattle.ca_base.specs.objects.Region.{Region, grant_of_region, after_fast_registration, with_window_bound, with_window_unbound}
use Rattle.ca_base.specs.objects.Slices.{buffer_length, names_region, slot_of_key}
use Rattle.ca_base.specs.objects.Window.{Window, Binding, after_bind1, after_binding, bound_key}
use Rattle.ca_model.specs.declared.mark.Mark.{Mark}
use Rattle.ca_model.specs.declared.mark.Mark.TheVariants as marks
use Rattle.ca_model.specs.machine.Acknowledgements.{failure_effects, with_requester}
use Rattle.ca_model.specs.machine.Completions.{success_marks}
use Rattle.ca_model.specs.machine.Expected.{with_window_gone}
use Rattle.ca_model.specs.machine.Numbering.{Numbered}
use Rattle.ca_model.specs.machine.Plan.{Plan, Look, If, Update, ◌:=◌, Write}
use Rattle.ca_model.specs.machine.Row.{Effects, queue_and_marks, Row, Row_plan, Does, region_under, unless_none}
use Rattle.ca_model.specs.machine.World.{Region_of, Window_of}

-- a region with its slot
pub record PlacedRegion : Type 0 where
  pub slot : Slot
  pub region : Region

-- looks at the region that a key of the domain names
abbrev pub With_named : Configuration → DomainId → Key → (Option PlacedRegion → Plan) → Plan
With_named c d key k =
    If (names_region c d key) (Look (Region_of slot) (λ region. k (Some (record { slot = slot; region = region })))) (k None)
  where
    slot : Slot
    slot = slot_of_key d key

-- looks at the region in which a window is bound
abbrev pub With_former : Window → (Option PlacedRegion → Plan) → Plan
With_former w k = by w.binding
  where
    by : Option Binding → Plan
    by None = k None
    by (Some b) = Look (Region_of (region_under w b)) (λ region. k (Some (record { slot = region_under w b; region = region })))

-- the operation is finished: the next one is the oldest unfinished, and none of the requests that began is left
abbrev pub after_operation : Numbered → QueuePair → QueuePair
after_operation n q = with_requester (record q.requester { oldest = suc n.place; next = suc n.place }) q

-- what the operation revoked and granted, as marks
abbrev pub local_marks : QueuePair → LocalMarks → List Mark
local_marks q m =
    option_map_or (λ key. marks.Revoked q.queue.adapter key ∷ []) m.revoked []
    ++ option_map_or (λ g. marks.Granted g ∷ []) m.granted []

-- the operation's end: a success, or a failure with its cause; `after` is the queue pair with its windows counted
abbrev pub operation_effects : QueuePair → Numbered → QueuePair → LocalMarks → Option OpRefusal → Effects
operation_effects q n after m (Some cause) = failure_effects MemoryManagement (Some cause) q
operation_effects q n after m None =
    queue_and_marks (after_operation n after) (local_marks q m ++ success_marks q.queue n.place n.request)

-- the region in which a window was bound has one window fewer
abbrev pub former_updates : Option PlacedRegion → List Update
former_updates former = option_map_or (λ f. (Region_of f.slot := with_window_unbound f.region) ∷ []) former []

-- the named region, after the window left the former one
abbrev pub region_left : Option PlacedRegion → PlacedRegion → Region
region_left former n =
    if option_map_or (λ f. slot_eq f.slot n.slot) former false then with_window_unbound n.region else n.region

-- the named region has one window more
abbrev pub named_updates : Option PlacedRegion → Option PlacedRegion → List Update
named_updates former named =
    option_map_or (λ n. (Region_of n.slot := with_window_bound (region_left former n)) ∷ []) named []

-- the grant of a bind over the named region
abbrev pub bind_grant : Slot → ℕ → Option QueueId → Option PlacedRegion → ℕ → ℕ → Rights → Option Grant
bind_grant slot low queue named address count rights =
    option_map (λ g. grant_of_bind slot low queue g address count rights) (option_and_then (λ n. grant_of_region n.region) named)

-- what is seen of the named region
abbrev pub view_named : Key → Option PlacedRegion → Option RegionView
view_named key named = option_and_then (λ n. view_by_key key n.region) named

-- the slot of the region that is named
abbrev pub named_slot : Option PlacedRegion → ℕ
named_slot named = option_map_or (λ n. n.slot.slot) named 0

-- how an operation's plan goes on with what it changes
abbrev pub Finishing : Type 0
Finishing = Effects → List Update → List Write → Plan

-- what a bind of a type 1 window changes: the window, the region that it leaves, and the one that is named
abbrev pub bind1_changes : Slot → ℕ → Window → Option PlacedRegion → Option PlacedRegion → ℕ → ℕ → Rights → List Update
bind1_changes slot drawn w former named address count rights =
    (Window_of slot := after_bind1 drawn (named_slot named) address count rights w)
    ∷ former_updates former ++ (if count == 0 then [] else named_updates former named)

-- what a bind of a type 2 window changes: the window, and the region that is named
abbrev pub bind2_changes : Slot → ℕ → QueueId → Window → Option PlacedRegion → ℕ → ℕ → Rights → List Update
bind2_changes slot low queue w named address count rights =
    (Window_of slot := after_binding low (Some queue) (named_slot named) address count rights w) ∷ named_updates None named

-- the slot of the window that a bind names
abbrev pub window_slot : QueuePair → ℕ → Slot
window_slot q window = record { domain = q.domain; slot = window }

-- the byte that a bind drew
abbrev pub drawn_by : Numbered → ℕ
drawn_by n = option_map_or (λ b. b) n.drawn 0

-- why a bind of a type 1 window is refused
abbrev pub bind1_refusal : Numbered → Key → Option PlacedRegion → ℕ → ℕ → Rights → Window → Option OpRefusal
bind1_refusal n key named address count rights w =
    first_of (bind1_request_refusals n.drawn (view_named key named) address count rights w)

-- what a bind of a type 1 window revokes and grants; one of no bytes grants nothing
abbrev pub bind1_marks : QueuePair → Numbered → ℕ → Option PlacedRegion → ℕ → ℕ → Rights → Window → LocalMarks
bind1_marks q n window named address count rights w = record {
  revoked = bound_key w;
  granted = if count == 0 then None else bind_grant (window_slot q window) (drawn_by n) None named address count rights;
}

-- a bind of a type 1 window
abbrev pub Bind1_plan : Configuration → QueuePair → Numbered → ℕ → Key → ℕ → ℕ → Rights → Finishing → Plan
Bind1_plan c q n window key address count rights finish =
    Look (Window_of (window_slot q window)) (λ w. With_named c q.domain key (λ named. With_former w (λ former.
    finish
    (operation_effects q n q (bind1_marks q n window named address count rights w) (bind1_refusal n key named address count rights w))
    (unless_none (bind1_refusal n key named address count rights w)
    (bind1_changes (window_slot q window) (drawn_by n) w former named address count rights))
    [])))

-- why a bind of a type 2 window is refused
abbrev pub bind2_refusal : Key → Option PlacedRegion → ℕ → ℕ → Rights → Window → Option OpRefusal
bind2_refusal key named address count rights w =
    first_of (bind2_request_refusals (view_named key named) address count rights w)

-- what a bind of a type 2 window grants, to this queue pair
abbrev pub bind2_marks : QueuePair → ℕ → ℕ → Option PlacedRegion → ℕ → ℕ → Rights → LocalMarks
bind2_marks q window low named address count rights = record {
  revoked = None;
  granted = bind_grant (window_slot q window) low (Some q.queue) named address count rights;
}

-- a bind of a type 2 window, for this queue pair
abbrev pub Bind2_plan : Configuration → QueuePair → Numbered → ℕ → Key → ℕ → ℕ → ℕ → Rights → Finishing → Plan
Bind2_plan c q n window key low address count rights finish =
    Look (Window_of (window_slot q window)) (λ w. With_named c q.domain key (λ named. With_former w (λ former.
    finish
    (operation_effects q n (record q { windows = suc q.windows }) (bind2_marks q window low named address count rights)
    (bind2_refusal key named address count rights w))
    (unless_none (bind2_refusal key named address count rights w)
    (bind2_changes (window_slot q window) low q.queue w named address count rights))
    [])))

-- the slot of the region that a fast registration names
abbrev pub region_slot : QueuePair → ℕ → Slot
region_slot q region = record { domain = q.domain; slot = region }

-- why a fast registration is refused
abbrev pub fast_refusal : Configuration → QueuePair → ℕ → ℕ → ℕ → ℕ → Rights → List ℕ → Region → Option OpRefusal
fast_refusal c q region buffer address count rights pages r = first_of
    (fast_request_refusals (region_slot q region) buffer (buffer_length c q.domain.adapter buffer) address count rights pages r)

-- what a fast registration grants
abbrev pub fast_marks : QueuePair → ℕ → ℕ → ℕ → ℕ → ℕ → Rights → List ℕ → LocalMarks
fast_marks q region low buffer address count rights pages = record {
  revoked = None;
  granted = Some (grant_of_fast_registration (region_slot q region) low buffer address count rights pages);
}

-- what it changes
abbrev pub fast_changes : QueuePair → ℕ → ℕ → ℕ → ℕ → ℕ → Rights → List ℕ → Region → List Update
fast_changes q region low buffer address count rights pages r =
    (Region_of (region_slot q region)
    := after_fast_registration (region_slot q region) low buffer address count rights pages r) ∷ []

-- a fast registration
abbrev pub Fast_plan : Configuration → QueuePair → Numbered → ℕ → ℕ → ℕ → ℕ → ℕ → Rights → List ℕ → Finishing → Plan
Fast_plan c q n region low buffer address count rights pages finish = Look (Region_of (region_slot q region)) (λ r. finish
    (operation_effects q n q (fast_marks q region low buffer address count rights pages)
    (fast_refusal c q region buffer address count rights pages r))
    (unless_none (fast_refusal c q region buffer address count rights pages r)
    (fast_changes q region low buffer address count rights pages r))
    [])

-- a Local Invalidate
abbrev pub invalidate_row : QueuePair → Numbered → Key → Row
invalidate_row q n key = record {
  asks = [];
  invalidation = Some i;
  denied = λ d. Does (queue_and_marks q []);
  allowed = λ bytes refusal. Does (operation_effects q n (with_window_gone (Some i) q) (record { revoked = Some key; granted = None }) refusal);
}
  where
    i : Invalidation
    i = record { queue = q.queue; domain = q.domain; key = key }

-- a local operation of this kind is performed
abbrev pub Perform_op : Configuration → QueuePair → Numbered → Finishing → SendOp → Plan
Perform_op c q n finish (ops.Bind1 window key address count rights) = Bind1_plan c q n window key address count rights finish
Perform_op c q n finish (ops.Bind2 window key low address count rights) =
    Bind2_plan c q n window key low address count rights finish
Perform_op c q n finish (ops.FastReg region low buffer address count rights pages) =
    Fast_plan c q n region low buffer address count rights pages finish
Perform_op c q n finish (ops.LocalInv key) = Row_plan c (invalidate_row q n key) finish
Perform_op c q n finish op = finish (queue_and_marks q []) [] []

-- a local operation is performed
abbrev pub Perform_plan : Configuration → QueuePair → Numbered → Finishing → Plan
Perform_plan c q n finish = Perform_op c q n finish n.request.op
