-- What a local operation grants lies in its buffers. For proofs only.
use Rattle.std.proofs.Common.{◌≡◌, ℕ, suc, ◌+◌, ◌-◌, ◌≤◌, ◌==◌, not, Bool, true, false, if◌then◌else◌, List, [], ◌∷◌, length, Option, None, Some, IfSome, is_some, sym, ap, subst, true≢false}
use Rattle.std.proofs.lemmas.Bool.{eqb-true, not-false, or_parts}
use Rattle.std.specs.List.{AllByRecursion}
use Rattle.std.specs.Option.{option_map}
use Rattle.ca_law_endings.proofs.LeadsLemmas.{leads-row}
use Rattle.ca_law_endings.specs.Runs.{Leads}
use Rattle.ca_base.specs.Configuration.{Configuration}
use Rattle.ca_base.specs.Grants.{grant_of_bind, grant_of_fast_registration}
use Rattle.ca_base.specs.declared.request.SendOp.{SendOp}
use Rattle.ca_base.specs.declared.request.SendOp.TheVariants as ops
use Rattle.ca_base.specs.objects.LocalRequest.{fast_request_refusals}
use Rattle.ca_base.specs.objects.QueuePair.{QueuePair}
use Rattle.ca_base.specs.objects.Region.{Region, RegionState, NoRegion, Free, Registered, FastRegistered, grant_in_state, grant_of_region, pages_needed}
use Rattle.ca_base.specs.objects.Slices.{buffer_length, slot_of_key}
use Rattle.ca_base.specs.objects.Window.{Binding, Window}
use Rattle.ca_keys.specs.Refusals.{AllFail}
use Rattle.ca_keys.specs.declared.grant.Grant.{Grant}
use Rattle.ca_keys.specs.declared.key.Key.{Key}
use Rattle.ca_keys.specs.declared.names.DomainId.{DomainId}
use Rattle.ca_keys.specs.declared.names.QueueId.{QueueId}
use Rattle.ca_keys.specs.declared.names.Slot.{Slot}
use Rattle.ca_keys.specs.declared.place.Run.{Run}
use Rattle.ca_keys.specs.declared.rights.Rights.{Rights}
use Rattle.ca_law_keys.proofs.Judged.WholeLemmas.{some-path}
use Rattle.ca_law_parts.proofs.Names.PlanLemmas.{GrantIn, cut-in}
use Rattle.ca_law_world.proofs.Sound.RegionLemmas.{sound-fast}
use Rattle.ca_law_world.proofs.Sound.TurnLemmas.{all-fail}
use Rattle.ca_law_isolation.proofs.BoundedRows.{IsIn, invalidate-in, operation-in}
use Rattle.ca_law_isolation.specs.Bounds.{LiesInBuffer}
use Rattle.ca_model.specs.declared.mark.Mark.{Mark}
use Rattle.ca_model.specs.machine.LocalOperations.{Bind1_plan, Bind2_plan, Finishing, Perform_op, PlacedRegion, With_former, With_named, bind1_changes, bind1_marks, bind1_refusal, bind2_changes, bind2_marks, bind2_refusal, bind_grant, drawn_by, fast_marks, fast_refusal, invalidate_row, operation_effects, region_slot, window_slot}
use Rattle.ca_model.specs.machine.Numbering.{Numbered}
use Rattle.ca_model.specs.machine.Plan.{Plan, Look, Update, Write}
use Rattle.ca_model.specs.machine.Row.{Effects, queue_and_marks, region_under, unless_none}
use Rattle.ca_model.specs.machine.Sound.{IsRegionGrant, IsSoundState, IsSoundWorld, LieIn}
use Rattle.ca_model.specs.machine.Step.{bytes_of_buffer}
use Rattle.ca_model.specs.machine.World.{Region_of, World}

-- what a local operation leaves
abbrev pub GoesOn : Configuration → World → (World → List Mark → Type 0) → Finishing → Type 0
GoesOn c w P finish = (e : Effects) (cs : List Update) (ws : List Write) → IsIn c e → Leads w P (finish e cs ws)

-- the runs of a region's grant lie in its buffer
pub grant-lies : (c : Configuration) (s : Slot) (low : ℕ) (g : Grant) → IsRegionGrant c s low g → AllByRecursion (LiesInBuffer c) g.runs
grant-lies c s low g one = by g.runs one.inside
  where
    by : (rs : List Run) → LieIn s.domain.adapter one.buffer (bytes_of_buffer c s.domain.adapter one.buffer) rs → AllByRecursion (LiesInBuffer c) rs
    by [] all = record {}
    by (r ∷ rs) all = (
      subst (λ a. r.offset + r.length ≤ bytes_of_buffer c a r.buffer) (sym all.0.0)
          (subst (λ b. r.offset + r.length ≤ bytes_of_buffer c s.domain.adapter b) (sym all.0.1) all.0.2),
      by rs all.1,
    )

-- a region's, in a sound world
region-lies : (c : Configuration) (w : World) (s : Slot) → IsSoundWorld c w → GrantIn c (grant_of_region (w.region s))
region-lies c w s sound = by (w.region s).state (sound.things (Region_of s))
  where
    by : (state : RegionState) → IsSoundState c s (w.region s).low state → GrantIn c (grant_in_state state)
    by NoRegion one = record {}
    by (Free pages) one = record {}
    by (Registered g) one = grant-lies c s (w.region s).low g one
    by (FastRegistered pages g) one = grant-lies c s (w.region s).low g one

-- a region that is named, whose grant lies in its buffer
abbrev IsNamedIn : Configuration → Option PlacedRegion → Type 0
IsNamedIn c named = IfSome named (λ n. GrantIn c (grant_of_region n.region))

leads-named : (c : Configuration) (w : World) (P : World → List Mark → Type 0) (d : DomainId) (key : Key) (k : Option PlacedRegion → Plan) → IsSoundWorld c w
    → ((r : Option PlacedRegion) → IsNamedIn c r → Leads w P (k r)) → Leads w P (With_named c d key k)
leads-named c w P d key k sound more = (λ named. more _ (region-lies c w (slot_of_key d key) sound), λ none. more None (record {}))

leads-former : (w : World) (P : World → List Mark → Type 0) (x : Window) (k : Option PlacedRegion → Plan) → ((r : Option PlacedRegion) → Leads w P (k r)) → Leads w P (With_former x k)
leads-former w P x k more = by x.binding
  where
    former : Option Binding → Plan
    former None = k None
    former (Some b) = Look (Region_of (region_under x b)) (λ region. k (Some (record { slot = region_under x b; region = region })))

    by : (o : Option Binding) → Leads w P (former o)
    by None = more None
    by (Some b) = more _

-- the grant of a bind lies where its region's does
bind-lies : (c : Configuration) (slot : Slot) (low : ℕ) (queue : Option QueueId) (named : Option PlacedRegion) (address count : ℕ) (rights : Rights) → IsNamedIn c named
    → (g : Grant) → bind_grant slot low queue named address count rights ≡ Some g → AllByRecursion (LiesInBuffer c) g.runs
bind-lies c slot low queue None address count rights lies g is = absurd (true≢false (sym (ap is_some is)))
bind-lies c slot low queue (Some n) address count rights lies g is = by (grant_of_region n.region) lies is
  where
    by : (o : Option Grant) → GrantIn c o → option_map (λ h. grant_of_bind slot low queue h address count rights) o ≡ Some g → AllByRecursion (LiesInBuffer c) g.runs
    by None lies is = absurd (true≢false (sym (ap is_some is)))
    by (Some h) lies is = subst (λ (x : Grant). AllByRecursion (LiesInBuffer c) x.runs) (some-path (grant_of_bind slot low queue h address count rights) g is)
        (cut-in c (address - h.address) count h.runs lies)

leads-bind1 : (c : Configuration) (w : World) (P : World → List Mark → Type 0) (q : QueuePair) (n : Numbered) (window : ℕ) (key : Key) (address count : ℕ) (rights : Rights) (finish : Finishing) → IsSoundWorld c w
    → GoesOn c w P finish → Leads w P (Bind1_plan c q n window key address count rights finish)
leads-bind1 c w P q n window key address count rights finish sound more = leads-named c w P q.domain key (λ named. With_former x (λ former. ending named former)) sound (λ named lies.
    leads-former w P x (λ former. ending named former) (λ former. more (operation_effects q n q (bind1_marks q n window named address count rights x) (bind1_refusal n key named address count rights x)) _ []
    (operation-in c q q n (bind1_marks q n window named address count rights x) (bind1_refusal n key named address count rights x) (λ none. told named lies (count == 0)))))
  where
    x : Window
    x = w.window (window_slot q window)

    ending : Option PlacedRegion → Option PlacedRegion → Plan
    ending named former = finish (operation_effects q n q (bind1_marks q n window named address count rights x) (bind1_refusal n key named address count rights x))
        (unless_none (bind1_refusal n key named address count rights x) (bind1_changes (window_slot q window) (drawn_by n) x former named address count rights)) []

    told : (named : Option PlacedRegion) → IsNamedIn c named → (b : Bool) (g : Grant) → (if b then None else bind_grant (window_slot q window) (drawn_by n) None named address count rights) ≡ Some g
        → AllByRecursion (LiesInBuffer c) g.runs
    told named lies true g is = absurd (true≢false (sym (ap is_some is)))
    told named lies false g is = bind-lies c (window_slot q window) (drawn_by n) None named address count rights lies g is

leads-bind2 : (c : Configuration) (w : World) (P : World → List Mark → Type 0) (q : QueuePair) (n : Numbered) (window : ℕ) (key : Key) (low address count : ℕ) (rights : Rights) (finish : Finishing) → IsSoundWorld c w
    → GoesOn c w P finish → Leads w P (Bind2_plan c q n window key low address count rights finish)
leads-bind2 c w P q n window key low address count rights finish sound more = leads-named c w P q.domain key (λ named. With_former x (λ former. ending named)) sound (λ named lies.
    leads-former w P x (λ former. ending named) (λ former. more (operation_effects q n (record q { windows = suc q.windows }) (bind2_marks q window low named address count rights) (bind2_refusal key named address count rights x)) _ []
    (operation-in c q (record q { windows = suc q.windows }) n (bind2_marks q window low named address count rights) (bind2_refusal key named address count rights x)
    (λ none. bind-lies c (window_slot q window) low (Some q.queue) named address count rights lies))))
  where
    x : Window
    x = w.window (window_slot q window)

    ending : Option PlacedRegion → Plan
    ending named = finish (operation_effects q n (record q { windows = suc q.windows }) (bind2_marks q window low named address count rights) (bind2_refusal key named address count rights x))
        (unless_none (bind2_refusal key named address count rights x) (bind2_changes (window_slot q window) low q.queue x named address count rights)) []

-- what a fast registration grants lies in its buffer
fast-lies : (c : Configuration) (q : QueuePair) (region low buffer address count : ℕ) (rights : Rights) (pages : List ℕ) (r : Region) → fast_refusal c q region buffer address count rights pages r ≡ None
    → (g : Grant) → (fast_marks q region low buffer address count rights pages).granted ≡ Some g → AllByRecursion (LiesInBuffer c) g.runs
fast-lies c q region low buffer address count rights pages r none g is = subst (λ (x : Grant). AllByRecursion (LiesInBuffer c) x.runs)
    (some-path (grant_of_fast_registration (region_slot q region) low buffer address count rights pages) g is)
    (grant-lies c (region_slot q region) low (grant_of_fast_registration (region_slot q region) low buffer address count rights pages)
    (sound-fast c (region_slot q region) low buffer address count rights pages
    (eqb-true (length pages) (pages_needed address count) (not-false (length pages == pages_needed address count) (or_parts _ (not (length pages == pages_needed address count)) fails.1.1.0).1)) fails.1.1.1.0))
  where
    fails : AllFail (fast_request_refusals (region_slot q region) buffer (buffer_length c q.domain.adapter buffer) address count rights pages r)
    fails = all-fail (fast_request_refusals (region_slot q region) buffer (buffer_length c q.domain.adapter buffer) address count rights pages r) none

pub leads-perform : (c : Configuration) (w : World) (P : World → List Mark → Type 0) (q : QueuePair) (n : Numbered) (finish : Finishing) (op : SendOp) → IsSoundWorld c w → GoesOn c w P finish → Leads w P (Perform_op c q n finish op)
leads-perform c w P q n finish (ops.Bind1 window key address count rights) sound more = leads-bind1 c w P q n window key address count rights finish sound more
leads-perform c w P q n finish (ops.Bind2 window key low address count rights) sound more = leads-bind2 c w P q n window key low address count rights finish sound more
leads-perform c w P q n finish (ops.FastReg region low buffer address count rights pages) sound more =
    more (operation_effects q n q (fast_marks q region low buffer address count rights pages) (fast_refusal c q region buffer address count rights pages r)) _ []
    (operation-in c q q n (fast_marks q region low buffer address count rights pages) (fast_refusal c q region buffer address count rights pages r) (fast-lies c q region low buffer address count rights pages r))
  where
    r : Region
    r = w.region (region_slot q region)
leads-perform c w P q n finish (ops.LocalInv key) sound more = leads-row c w P (IsIn c) (invalidate_row q n key) finish (invalidate-in c q n key) (λ e cs ws bounded aside. more e cs ws bounded)
leads-perform c w P q n finish (ops.Send list) sound more = more (queue_and_marks q []) [] [] (record {})
leads-perform c w P q n finish (ops.SendImm imm list) sound more = more (queue_and_marks q []) [] [] (record {})
leads-perform c w P q n finish (ops.SendInv key list) sound more = more (queue_and_marks q []) [] [] (record {})
leads-perform c w P q n finish (ops.Write address key list) sound more = more (queue_and_marks q []) [] [] (record {})
leads-perform c w P q n finish (ops.WriteImm address key imm list) sound more = more (queue_and_marks q []) [] [] (record {})
leads-perform c w P q n finish (ops.Read address key list) sound more = more (queue_and_marks q []) [] [] (record {})
leads-perform c w P q n finish (ops.CmpSwap address key compare swap list) sound more = more (queue_and_marks q []) [] [] (record {})
leads-perform c w P q n finish (ops.FetchAdd address key add list) sound more = more (queue_and_marks q []) [] [] (record {})
