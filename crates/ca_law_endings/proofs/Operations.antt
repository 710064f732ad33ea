-- What a local operation of a requester's turn does in a world: what it tells, what refuses it, and what it changes. For
-- proofs only.
use Rattle.std.proofs.Common.{◌≡◌, suc, Bool, true, false, if◌then◌else◌, List, [], Option, None, Some, sym, subst, true≢false}
use Rattle.std.specs.Option.{option_map}
use Rattle.ca_law_endings.proofs.LeadsLemmas.{comes}
use Rattle.ca_law_endings.specs.Runs.{Comes, Leads}
use Rattle.ca_law_endings.proofs.Leading.{leads-from}
use Rattle.ca_base.specs.Configuration.{Configuration}
use Rattle.ca_base.specs.Sight.{Invalidation}
use Rattle.ca_base.specs.declared.refusals.OpRefusal.{OpRefusal}
use Rattle.ca_base.specs.declared.request.SendOp.{SendOp}
use Rattle.ca_base.specs.declared.request.SendOp.TheVariants as ops
use Rattle.ca_base.specs.objects.LocalRequest.{LocalMarks}
use Rattle.ca_base.specs.objects.QueuePair.{QueuePair}
use Rattle.ca_base.specs.objects.Slices.{names_region, slot_of_key}
use Rattle.ca_base.specs.objects.Window.{Binding, Window}
use Rattle.ca_keys.specs.declared.key.Key.{Key}
use Rattle.ca_model.specs.Requests.{is_local}
use Rattle.ca_model.specs.declared.mark.Mark.{Mark}
use Rattle.ca_model.proofs.PerformLemmas.{row-performs}
use Rattle.ca_model.specs.machine.Expected.{with_window_gone}
use Rattle.ca_model.specs.machine.LocalOperations.{Finishing, Perform_op, PlacedRegion, bind1_changes, bind1_marks, bind1_refusal, bind2_changes, bind2_marks, bind2_refusal, drawn_by, fast_changes, fast_marks, fast_refusal, invalidate_row, operation_effects, region_slot, window_slot}
use Rattle.ca_model.specs.machine.Numbering.{Numbered}
use Rattle.ca_model.specs.machine.Plan.{Plan, Look, Update, perform}
use Rattle.ca_model.specs.machine.Row.{Row_plan, region_under, unless_none}
use Rattle.ca_model.specs.machine.Seen.{ending_changes, refusal_in, sight_in, writes_in}
use Rattle.ca_model.specs.machine.World.{Region_of, World}

-- the region that a key names, where it names one
abbrev pub named_if : World → QueuePair → Key → Bool → Option PlacedRegion
named_if w q key z = if z then Some (record { slot = slot_of_key q.domain key; region = w.region (slot_of_key q.domain key) }) else None

abbrev pub named_in : Configuration → World → QueuePair → Key → Option PlacedRegion
named_in c w q key = named_if w q key (names_region c q.domain key)

-- the region in which a window is bound
abbrev pub former_of : World → Window → Option Binding → Option PlacedRegion
former_of w x o = option_map (λ b. record { slot = region_under x b; region = w.region (region_under x b) }) o

-- what an operation does: the queue pair with its windows counted, what it revokes and grants, why it is refused, and
-- what it changes if it is not
pub record LocalDone : Type 0 where
  pub after : QueuePair
  pub marks : LocalMarks
  pub refusal : Option OpRefusal
  pub changes : List Update

abbrev pub done_by : Configuration → World → QueuePair → Numbered → SendOp → LocalDone
done_by c w q n (ops.Bind1 window key address count rights) = record {
  after = q;
  marks = bind1_marks q n window (named_in c w q key) address count rights (w.window (window_slot q window));
  refusal = bind1_refusal n key (named_in c w q key) address count rights (w.window (window_slot q window));
  changes = bind1_changes (window_slot q window) (drawn_by n) (w.window (window_slot q window))
      (former_of w (w.window (window_slot q window)) (w.window (window_slot q window)).binding) (named_in c w q key) address count rights;
}
done_by c w q n (ops.Bind2 window key low address count rights) = record {
  after = record q { windows = suc q.windows };
  marks = bind2_marks q window low (named_in c w q key) address count rights;
  refusal = bind2_refusal key (named_in c w q key) address count rights (w.window (window_slot q window));
  changes = bind2_changes (window_slot q window) low q.queue (w.window (window_slot q window)) (named_in c w q key) address count rights;
}
done_by c w q n (ops.FastReg region low buffer address count rights pages) = record {
  after = q;
  marks = fast_marks q region low buffer address count rights pages;
  refusal = fast_refusal c q region buffer address count rights pages (w.region (region_slot q region));
  changes = fast_changes q region low buffer address count rights pages (w.region (region_slot q region));
}
done_by c w q n (ops.LocalInv key) = record {
  after = with_window_gone (Some (record { queue = q.queue; domain = q.domain; key = key })) q;
  marks = record { revoked = Some key; granted = None };
  refusal = refusal_in c w (record { queue = q.queue; domain = q.domain; key = key });
  changes = ending_changes c w (record { queue = q.queue; domain = q.domain; key = key });
}
done_by c w q n op = record { after = q; marks = record { revoked = None; granted = None }; refusal = None; changes = [] }

-- a local operation's plan goes on with what it does
pub leads-done : (c : Configuration) (w : World) (P : World → List Mark → Type 0) (q : QueuePair) (n : Numbered) (finish : Finishing) (op : SendOp) → is_local op ≡ true
    → Leads w P (finish (operation_effects q n (done_by c w q n op).after (done_by c w q n op).marks (done_by c w q n op).refusal) (unless_none (done_by c w q n op).refusal (done_by c w q n op).changes) [])
    → Leads w P (Perform_op c q n finish op)
leads-done c w P q n finish (ops.Bind1 window key address count rights) local more =
    (λ has. former true x.binding (subst (λ z. Leads w P (ending (named_if w q key z) (former_of w x x.binding))) has more), λ none. former false x.binding (subst (λ z. Leads w P (ending (named_if w q key z) (former_of w x x.binding))) none more))
  where
    x : Window
    x = w.window (window_slot q window)

    ending : Option PlacedRegion → Option PlacedRegion → Plan
    ending named former = finish (operation_effects q n q (bind1_marks q n window named address count rights x) (bind1_refusal n key named address count rights x))
        (unless_none (bind1_refusal n key named address count rights x) (bind1_changes (window_slot q window) (drawn_by n) x former named address count rights)) []

    plan : Option PlacedRegion → Option Binding → Plan
    plan named None = ending named None
    plan named (Some b) = Look (Region_of (region_under x b)) (λ region. ending named (Some (record { slot = region_under x b; region = region })))

    former : (z : Bool) (o : Option Binding) → Leads w P (ending (named_if w q key z) (former_of w x o)) → Leads w P (plan (named_if w q key z) o)
    former z None more = more
    former z (Some b) more = more
leads-done c w P q n finish (ops.Bind2 window key low address count rights) local more =
    (λ has. former true x.binding (subst (λ z. Leads w P (ending (named_if w q key z))) has more), λ none. former false x.binding (subst (λ z. Leads w P (ending (named_if w q key z))) none more))
  where
    x : Window
    x = w.window (window_slot q window)

    ending : Option PlacedRegion → Plan
    ending named = finish (operation_effects q n (record q { windows = suc q.windows }) (bind2_marks q window low named address count rights) (bind2_refusal key named address count rights x))
        (unless_none (bind2_refusal key named address count rights x) (bind2_changes (window_slot q window) low q.queue x named address count rights)) []

    plan : Option PlacedRegion → Option Binding → Plan
    plan named None = ending named
    plan named (Some b) = Look (Region_of (region_under x b)) (λ region. ending named)

    former : (z : Bool) (o : Option Binding) → Leads w P (ending (named_if w q key z)) → Leads w P (plan (named_if w q key z) o)
    former z None more = more
    former z (Some b) more = more
leads-done c w P q n finish (ops.FastReg region low buffer address count rights pages) local more = more
leads-done c w P q n finish (ops.LocalInv key) local more =
    leads-from w P (Row_plan c (invalidate_row q n key) finish) (subst (Comes P) (sym (row-performs c w (invalidate_row q n key) finish)) (by (refusal_in c w gone) more))
  where
    gone : Invalidation
    gone = record { queue = q.queue; domain = q.domain; key = key }

    m : LocalMarks
    m = record { revoked = Some key; granted = None }

    by : (r : Option OpRefusal) → Leads w P (finish (operation_effects q n (with_window_gone (Some gone) q) m r) (unless_none r (ending_changes c w gone)) [])
        → Comes P (perform w (finish (operation_effects q n (with_window_gone (Some gone) q) m r) (unless_none r (ending_changes c w gone)) (writes_in (sight_in c w) (operation_effects q n (with_window_gone (Some gone) q) m r).writes)))
    by None more = comes w P (finish (operation_effects q n (with_window_gone (Some gone) q) m None) (ending_changes c w gone) []) more
    by (Some cause) more = comes w P (finish (operation_effects q n (with_window_gone (Some gone) q) m (Some cause)) [] []) more
leads-done c w P q n finish (ops.Send list) local more = absurd (true≢false (sym local))
leads-done c w P q n finish (ops.SendImm imm list) local more = absurd (true≢false (sym local))
leads-done c w P q n finish (ops.SendInv key list) local more = absurd (true≢false (sym local))
leads-done c w P q n finish (ops.Write address key list) local more = absurd (true≢false (sym local))
leads-done c w P q n finish (ops.WriteImm address key imm list) local more = absurd (true≢false (sym local))
leads-done c w P q n finish (ops.Read address key list) local more = absurd (true≢false (sym local))
leads-done c w P q n finish (ops.CmpSwap address key compare swap list) local more = absurd (true≢false (sym local))
leads-done c w P q n finish (ops.FetchAdd address key add list) local more = absurd (true≢false (sym local))
