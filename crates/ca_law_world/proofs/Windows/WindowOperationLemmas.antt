-- The local operations keep windows counted.
use Rattle.ca_base.specs.Grants.{remote_rights}
use Rattle.std.proofs.Common.{◌≡◌, inl, ℕ, suc, ◌+◌, ◌≤◌, arith, Bool, true, false, List, [], ◌∷◌, ◌++◌, Option, None, Some, subst, ◌∙◌, ◌==◌, ap, sym, true≢false, if◌then◌else◌, is_none, refl}
use Rattle.std.proofs.lemmas.Bool.{not-false}
use Rattle.std.specs.Option.{option_map, option_map_or}
use Rattle.ca_keys.specs.declared.key.Key.{Key}
use Rattle.ca_keys.specs.declared.names.QueueId.{QueueId}
use Rattle.ca_keys.specs.declared.names.Slot.{Slot}
use Rattle.ca_base.specs.declared.refusals.OpRefusal.{OpRefusal}
use Rattle.ca_base.specs.declared.request.SendOp.{SendOp}
use Rattle.ca_keys.specs.declared.rights.Rights.{Rights}
use Rattle.ca_base.specs.Configuration.{Configuration}
use Rattle.ca_keys.specs.Equal.{queue_eq}
use Rattle.ca_keys.specs.Refusals.{AllFail}
use Rattle.ca_base.specs.objects.LocalRequest.{LocalMarks, bind1_request_refusals, bind2_request_refusals, fast_request_refusals, of_window}
use Rattle.ca_base.specs.objects.QueuePair.{QueuePair, Present}
use Rattle.ca_base.specs.objects.Region.{Region, RegionState, NoRegion, Free, Registered, FastRegistered, free_pages, grant_in_state}
use Rattle.ca_base.specs.objects.Slices.{buffer_length, names_region, slot_of_key}
use Rattle.ca_base.specs.objects.Window.{Binding, Window, after_binding, binding_refusals, is_within, without_binding}
use Rattle.ca_model.specs.Past.{with_at}
use Rattle.ca_model.specs.machine.LocalOperations.{Finishing, PlacedRegion, Bind1_plan, Bind2_plan, Fast_plan, Perform_op, bind1_changes, bind1_marks, bind1_refusal, bind2_changes, bind2_marks, bind2_refusal, drawn_by, fast_changes, fast_marks, fast_refusal, former_updates, invalidate_row, named_slot, named_updates, operation_effects, region_slot, view_named, window_slot}
use Rattle.ca_model.specs.machine.Numbering.{Numbered}
use Rattle.ca_model.specs.machine.Plan.{Plan, Look, Update, ◌:=◌, Write}
use Rattle.ca_model.specs.machine.Row.{Effects, queue_and_marks, region_under, unless_none}
use Rattle.ca_model.specs.machine.World.{World, Region_of, Window_of}
use Rattle.ca_model.specs.machine.Sound.{IsSoundWorld}
use Rattle.ca_law_world.specs.Bindings.{IsBoundWorld, is_bound_by, windows_of}
use Rattle.ca_law_world.proofs.Windows.BindingLemmas.{IsUnused, one}
use Rattle.ca_law_world.proofs.Windows.WindowBindLemmas.{IsInside, again-leaves, named-region, named-within, new-leaves, none-leaves}
use Rattle.ca_law_world.proofs.Windows.WindowRowLemmas.{invalidate-counts}
use Rattle.ca_law_world.proofs.Windows.WindowWorldLemmas.{Leaves, ends-row-bound, kept-leaves, region-leaves, window-leaves, queue-counts}
use Rattle.ca_law_world.proofs.Sound.SettledLemmas.{queue-path}
use Rattle.ca_law_world.proofs.Sound.TurnLemmas.{all-fail}
use Rattle.ca_law_world.proofs.Sound.WorldLemmas.{EndsIn}
use Rattle.ca_law_world.proofs.Sound.PlanWalks.{walk-perform}

-- how an operation's plan may go on
abbrev pub GoesOnBound : World → QueuePair → (List Update → Type 0) → Finishing → Type 0
GoesOnBound w q P finish = (e : Effects) (cs : List Update) (ws : List Write) → Leaves w q e.queue.windows cs → EndsIn w P (finish e cs ws)

-- an operation's changes, unless it is refused
operation-leaves : (w : World) (q : QueuePair) (n : Numbered) (windows : ℕ) (m : LocalMarks) (refusal : Option OpRefusal) (cs : List Update) → IsBoundWorld w → w.queue q.queue ≡ Present q
    → (refusal ≡ None → Leaves w q windows cs) → Leaves w q (operation_effects q n (record q { windows = windows }) m refusal).queue.windows (unless_none refusal cs)
operation-leaves w q n windows m (Some cause) cs bound is leaves = kept-leaves w q bound is
operation-leaves w q n windows m None cs bound is leaves = leaves refl

-- a queue pair of that many windows counts a window that is bound to it
bound-counts : (w : World) (q p : QueuePair) (name : QueueId) (more : ℕ) → w.queue q.queue ≡ Present q → p.windows ≡ suc q.windows
    → windows_of (w.queue name) + one (queue_eq q.queue name) ≤ windows_of (with_at queue_eq w.queue q.queue (Present p) name) + more
bound-counts w q p name more is same = by (queue_eq q.queue name) refl
  where
    by : (b : Bool) → queue_eq q.queue name ≡ b → windows_of (w.queue name) + one b ≤ windows_of (if b then Present p else w.queue name) + more
    by true e = subst (λ m. windows_of (w.queue m) + 1 ≤ p.windows + more) (queue-path q.queue name e) (omega (arith, ap windows_of is, same))
    by false e = omega arith

-- the region that a key names, where it names one
abbrev named_of : World → QueuePair → Key → Bool → Option PlacedRegion
named_of w q key true = Some (record { slot = slot_of_key q.domain key; region = w.region (slot_of_key q.domain key) })
named_of w q key false = None

-- the region in which a window was bound, where it was
abbrev former_of : World → Window → Option Binding → Option PlacedRegion
former_of w x o = option_map (λ b. record { slot = region_under x b; region = w.region (region_under x b) }) o

bind1-leaves : (c : Configuration) (w : World) (q : QueuePair) (n : Numbered) (window : ℕ) (key : Key) (address count : ℕ) (rights : Rights) (z : Bool) (o : Option Binding) → IsSoundWorld c w → IsBoundWorld w
    → w.queue q.queue ≡ Present q → names_region c q.domain key ≡ z → (w.window (window_slot q window)).binding ≡ o
    → bind1_refusal n key (named_of w q key z) address count rights (w.window (window_slot q window)) ≡ None
    → Leaves w q q.windows (bind1_changes (window_slot q window) (drawn_by n) (w.window (window_slot q window)) (former_of w (w.window (window_slot q window)) o) (named_of w q key z) address count rights)
bind1-leaves c w q n window key address count rights z o sound bound is has was none =
    by (count == 0) refl (all-fail (bind1_request_refusals n.drawn (view_named key (named_of w q key z)) address count rights x) none).1.1.1
  where
    slot : Slot
    slot = window_slot q window

    x : Window
    x = w.window slot

    changed : Bool → Option PlacedRegion → Option PlacedRegion → List Update
    changed b named former = (Window_of slot := (if b then without_binding x else after_binding (drawn_by n) None (named_slot named) address count rights x))
        ∷ former_updates former ++ (if b then [] else named_updates former named)

    empty : (o : Option Binding) → x.binding ≡ o → Leaves w q q.windows (changed true (named_of w q key z) (former_of w x o))
    empty None e = none-leaves w q slot (without_binding x) bound is refl
    empty (Some b) e = λ p same. window-leaves w slot (without_binding x) b _ bound e refl
        (λ name. omega (arith, queue-counts w q p (λ m. false) is (omega (arith, same)) name))

    binding : Binding
    binding = record { region = (slot_of_key q.domain key).slot; queue = None; address = address; length = count; rights = remote_rights rights }

    under : names_region c q.domain key ≡ true → region_under x binding ≡ slot_of_key q.domain key
    under has = λ i. record { domain = (ap (λ (s : Slot). s.domain) (sound.things (Window_of slot)).0 ∙ sym (named-region c w q.domain key has).domain) i; slot = (slot_of_key q.domain key).slot }

    some : names_region c q.domain key ≡ true → (o : Option Binding) → x.binding ≡ o → IsInside address count (w.region (slot_of_key q.domain key))
        → Leaves w q q.windows (changed false (named_of w q key true) (former_of w x o))
    some has None e inside = new-leaves w q slot (slot_of_key q.domain key) (after_binding (drawn_by n) None (slot_of_key q.domain key).slot address count rights x) binding q.windows bound is
        refl (under has) inside (λ p same name. omega (arith, queue-counts w q p (λ m. false) is (omega (arith, same)) name))
    some has (Some b) e inside = again-leaves w q slot (region_under x b) (slot_of_key q.domain key) (after_binding (drawn_by n) None (slot_of_key q.domain key).slot address count rights x) binding b bound is
        refl (under has) e refl inside (λ name. refl)

    bind : (z : Bool) → names_region c q.domain key ≡ z → AllFail (of_window (binding_refusals (view_named key (named_of w q key z)) address count rights))
        → Leaves w q q.windows (changed false (named_of w q key z) (former_of w x o))
    bind false has fails = absurd (true≢false (named-within key None address count (not-false (option_map_or (is_within address count) (view_named key None) false) fails.1.1.1.0)).1)
    bind true has fails = some has o was (named-within key (named_of w q key true) address count
        (not-false (option_map_or (is_within address count) (view_named key (named_of w q key true)) false) fails.1.1.1.0)).0

    by : (b : Bool) → (count == 0) ≡ b → AllFail (of_window (if b then [] else binding_refusals (view_named key (named_of w q key z)) address count rights))
        → Leaves w q q.windows (changed b (named_of w q key z) (former_of w x o))
    by true e fails = empty o was
    by false e fails = bind z has fails

bind2-leaves : (c : Configuration) (w : World) (q : QueuePair) (window : ℕ) (key : Key) (low address count : ℕ) (rights : Rights) (z : Bool) → IsSoundWorld c w → IsBoundWorld w
    → w.queue q.queue ≡ Present q → names_region c q.domain key ≡ z
    → bind2_refusal key (named_of w q key z) address count rights (w.window (window_slot q window)) ≡ None
    → Leaves w q (suc q.windows) (bind2_changes (window_slot q window) low q.queue (w.window (window_slot q window)) (named_of w q key z) address count rights)
bind2-leaves c w q window key low address count rights z sound bound is has none =
    bind z has (all-fail (bind2_request_refusals (view_named key (named_of w q key z)) address count rights x) none).1.1.1.1
  where
    slot : Slot
    slot = window_slot q window

    x : Window
    x = w.window slot

    binding : Binding
    binding = record { region = (slot_of_key q.domain key).slot; queue = Some q.queue; address = address; length = count; rights = remote_rights rights }

    under : names_region c q.domain key ≡ true → region_under x binding ≡ slot_of_key q.domain key
    under has = λ i. record { domain = (ap (λ (s : Slot). s.domain) (sound.things (Window_of slot)).0 ∙ sym (named-region c w q.domain key has).domain) i; slot = (slot_of_key q.domain key).slot }

    some : names_region c q.domain key ≡ true → IsInside address count (w.region (slot_of_key q.domain key))
        → Leaves w q (suc q.windows) (bind2_changes slot low q.queue x (named_of w q key true) address count rights)
    some has inside = new-leaves w q slot (slot_of_key q.domain key) (after_binding low (Some q.queue) (slot_of_key q.domain key).slot address count rights x) binding (suc q.windows) bound is
        refl (under has) inside (λ p same name. bound-counts w q p name (one (is_bound_by name x)) is same)

    bind : (z : Bool) → names_region c q.domain key ≡ z → AllFail (of_window (binding_refusals (view_named key (named_of w q key z)) address count rights))
        → Leaves w q (suc q.windows) (bind2_changes slot low q.queue x (named_of w q key z) address count rights)
    bind false has fails = absurd (true≢false (named-within key None address count (not-false (option_map_or (is_within address count) (view_named key None) false) fails.1.1.1.0)).1)
    bind true has fails = some has (named-within key (named_of w q key true) address count
        (not-false (option_map_or (is_within address count) (view_named key (named_of w q key true)) false) fails.1.1.1.0)).0

ends-bind1-bound : (c : Configuration) (w : World) (P : List Update → Type 0) (q : QueuePair) (n : Numbered) (window : ℕ) (key : Key) (address count : ℕ) (rights : Rights) (finish : Finishing)
    → IsSoundWorld c w → IsBoundWorld w → w.queue q.queue ≡ Present q → GoesOnBound w q P finish → EndsIn w P (Bind1_plan c q n window key address count rights finish)
ends-bind1-bound c w P q n window key address count rights finish sound bound is more = (λ has. former true has x.binding refl, λ none. former false none x.binding refl)
  where
    x : Window
    x = w.window (window_slot q window)

    ending : Option PlacedRegion → Option PlacedRegion → Plan
    ending named former = finish
        (operation_effects q n q (bind1_marks q n window named address count rights x) (bind1_refusal n key named address count rights x))
        (unless_none (bind1_refusal n key named address count rights x) (bind1_changes (window_slot q window) (drawn_by n) x former named address count rights)) []

    plan : Option PlacedRegion → Option Binding → Plan
    plan named None = ending named None
    plan named (Some b) = Look (Region_of (region_under x b)) (λ region. ending named (Some (record { slot = region_under x b; region = region })))

    end : (z : Bool) → names_region c q.domain key ≡ z → (o : Option Binding) → x.binding ≡ o → EndsIn w P (ending (named_of w q key z) (former_of w x o))
    end z has o was = more _ _ [] (operation-leaves w q n q.windows (bind1_marks q n window (named_of w q key z) address count rights x)
        (bind1_refusal n key (named_of w q key z) address count rights x)
        (bind1_changes (window_slot q window) (drawn_by n) x (former_of w x o) (named_of w q key z) address count rights) bound is
        (bind1-leaves c w q n window key address count rights z o sound bound is has was))

    former : (z : Bool) → names_region c q.domain key ≡ z → (o : Option Binding) → x.binding ≡ o → EndsIn w P (plan (named_of w q key z) o)
    former z has None was = end z has None was
    former z has (Some b) was = end z has (Some b) was

ends-bind2-bound : (c : Configuration) (w : World) (P : List Update → Type 0) (q : QueuePair) (n : Numbered) (window : ℕ) (key : Key) (low address count : ℕ) (rights : Rights) (finish : Finishing)
    → IsSoundWorld c w → IsBoundWorld w → w.queue q.queue ≡ Present q → GoesOnBound w q P finish → EndsIn w P (Bind2_plan c q n window key low address count rights finish)
ends-bind2-bound c w P q n window key low address count rights finish sound bound is more = (λ has. former true has x.binding, λ none. former false none x.binding)
  where
    x : Window
    x = w.window (window_slot q window)

    ending : Option PlacedRegion → Plan
    ending named = finish
        (operation_effects q n (record q { windows = suc q.windows }) (bind2_marks q window low named address count rights) (bind2_refusal key named address count rights x))
        (unless_none (bind2_refusal key named address count rights x) (bind2_changes (window_slot q window) low q.queue x named address count rights)) []

    plan : Option PlacedRegion → Option Binding → Plan
    plan named None = ending named
    plan named (Some b) = Look (Region_of (region_under x b)) (λ region. ending named)

    end : (z : Bool) → names_region c q.domain key ≡ z → EndsIn w P (ending (named_of w q key z))
    end z has = more _ _ [] (operation-leaves w q n (suc q.windows) (bind2_marks q window low (named_of w q key z) address count rights)
        (bind2_refusal key (named_of w q key z) address count rights x)
        (bind2_changes (window_slot q window) low q.queue x (named_of w q key z) address count rights) bound is
        (bind2-leaves c w q window key low address count rights z sound bound is has))

    former : (z : Bool) → names_region c q.domain key ≡ z → (o : Option Binding) → EndsIn w P (plan (named_of w q key z) o)
    former z has None = end z has
    former z has (Some b) = end z has

-- a free region stands for no grant
free-unused : (r : Region) → is_none (free_pages r.state) ≡ false → IsUnused r
free-unused r e = inl (by r.state e)
  where
    by : (s : RegionState) → is_none (free_pages s) ≡ false → grant_in_state s ≡ None
    by NoRegion e = absurd (true≢false e)
    by (Free pages) e = refl
    by (Registered g) e = absurd (true≢false e)
    by (FastRegistered pages g) e = absurd (true≢false e)

ends-fast-bound : (c : Configuration) (w : World) (P : List Update → Type 0) (q : QueuePair) (n : Numbered) (region low buffer address count : ℕ) (rights : Rights) (pages : List ℕ) (finish : Finishing)
    → IsBoundWorld w → w.queue q.queue ≡ Present q → GoesOnBound w q P finish → EndsIn w P (Fast_plan c q n region low buffer address count rights pages finish)
ends-fast-bound c w P q n region low buffer address count rights pages finish bound is more = more _ _ []
    (operation-leaves w q n q.windows (fast_marks q region low buffer address count rights pages) (fast_refusal c q region buffer address count rights pages r)
    (fast_changes q region low buffer address count rights pages r) bound is
    (λ none. region-leaves w q (region_slot q region) _ bound is
    (free-unused r (all-fail (fast_request_refusals (region_slot q region) buffer (buffer_length c q.domain.adapter buffer) address count rights pages r) none).0)))
  where
    r : Region
    r = w.region (region_slot q region)

pub ends-perform-bound : (c : Configuration) (w : World) (P : List Update → Type 0) (q : QueuePair) (n : Numbered) (finish : Finishing) (op : SendOp) → IsSoundWorld c w → IsBoundWorld w
    → w.queue q.queue ≡ Present q → GoesOnBound w q P finish → EndsIn w P (Perform_op c q n finish op)
ends-perform-bound c w P q n finish op sound bound is more = walk-perform c w P q n finish op (more (queue_and_marks q []) [] [] (kept-leaves w q bound is))
    (λ window key address count rights. ends-bind1-bound c w P q n window key address count rights finish sound bound is more)
    (λ window key low address count rights. ends-bind2-bound c w P q n window key low address count rights finish sound bound is more)
    (λ region low buffer address count rights pages. ends-fast-bound c w P q n region low buffer address count rights pages finish bound is more)
    (λ key. ends-row-bound c w P q (invalidate_row q n key) finish bound is (invalidate-counts q n key) more)
