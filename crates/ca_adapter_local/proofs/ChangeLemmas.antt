-- What a local operation changes of regions and windows stands apart from its queue pair and completion queues. For proofs only.
use Rattle.std.proofs.Common.{◌≡◌, ◌∙◌, refl, sym, ap, subst, ℕ, ◌==◌, Bool, true, false, if◌then◌else◌, List, [], ◌∷◌, ◌++◌, Option, None, Some, Ok, Err}
use Rattle.ca_adapter_turns.specs.ca_adapter_acts.Act.{IsAct}
use Rattle.ca_adapter_turns.specs.ca_adapter_acts.Binders.{changed_by}
use Rattle.ca_adapter_turns.specs.ca_adapter_acts.declared.done.Outlets.{Outlets}
use Rattle.ca_adapter_turns.specs.ca_adapter_acts.Outlets.{completions_by, done_updates, outlets_of, recv_slot, send_slot}
use Rattle.ca_adapter_turns.specs.ca_adapter_acts.Room.{FitIn, FitsDone}
use Rattle.ca_adapter_local.specs.Local.{LocalEnd, end_changes, end_effects, former_in, invalidation_of, local_end, named_in}
use Rattle.ca_adapter_turns.proofs.TurnLemmas.{done_cqs, puts-append, receives-fit, sends-fit, turned}
use Rattle.ca_base.specs.Configuration.{Configuration}
use Rattle.ca_base.specs.Sight.{Invalidation}
use Rattle.ca_base.specs.declared.refusals.OpRefusal.{OpRefusal}
use Rattle.ca_base.specs.declared.request.SendOp.{SendOp}
use Rattle.ca_base.specs.declared.request.SendOp.TheVariants as ops
use Rattle.ca_base.specs.declared.step.ActError.TheVariants as steps
use Rattle.ca_base.specs.objects.CompletionQueue.{CompletionQueue}
use Rattle.ca_base.specs.objects.QueuePair.{Present, QueuePair, QueueSlot}
use Rattle.ca_base.specs.objects.Region.{after_region_invalidation, with_window_unbound}
use Rattle.ca_base.specs.objects.Slices.{names_region, names_window, slot_of_key}
use Rattle.ca_base.specs.objects.Window.{Binding, without_binding}
use Rattle.ca_adapter_parts.specs.HeldView.{Holding, hold}
use Rattle.ca_keys.specs.declared.names.QueueId.{QueueId}
use Rattle.ca_keys.specs.declared.names.Slot.{Slot}
use Rattle.ca_keys.specs.Equal.{queue_eq}
use Rattle.ca_model.proofs.PerformLemmas.{around_at}
use Rattle.ca_model.specs.Marks.{MarkList}
use Rattle.ca_model.specs.Past.{with_at}
use Rattle.ca_model.specs.declared.mark.Mark.{Mark}
use Rattle.ca_model.specs.machine.Around.{Around, cq_updates, srq_updates, updates_of}
use Rattle.ca_base.specs.objects.SharedReceives.{after_receive_take}
use Rattle.ca_model.specs.machine.LocalOperations.{PlacedRegion, former_updates, named_updates, operation_effects, window_slot}
use Rattle.ca_model.specs.machine.Numbering.{Numbered}
use Rattle.ca_model.specs.machine.Plan.{Did, NotReady, Outcome, Update, put_all, ◌:=◌}
use Rattle.ca_model.specs.machine.Row.{Effects, region_under, unless_none}
use Rattle.ca_model.specs.machine.Seen.{ending_changes}
use Rattle.ca_model.specs.machine.World.{Byte_at, Cq_of, Domain_of, Mailbox_of, Name, Queue_of, Region_of, Srq_of, Thing, Window_of, World, put}

-- a name of what keys reach
abbrev pub IsOfKey : Name → Type 0
IsOfKey (Region_of s) = Unit {0}
IsOfKey (Window_of s) = Unit {0}
IsOfKey n = ⊥

-- changes of what keys reach
abbrev pub AreOfKeys : List Update → Type 0
AreOfKeys [] = Unit {0}
AreOfKeys (u ∷ us) = IsOfKey u.name × AreOfKeys us

both-of : (xs ys : List Update) → AreOfKeys xs → AreOfKeys ys → AreOfKeys (xs ++ ys)
both-of [] ys of other = other
both-of (x ∷ xs) ys of other = (of.0, both-of xs ys of.1 other)

-- the regions that a bind changes
former-of : (o : Option PlacedRegion) → AreOfKeys (former_updates o)
former-of None = tt
former-of (Some f) = (tt, tt)

named-of : (former named : Option PlacedRegion) → AreOfKeys (named_updates former named)
named-of former None = tt
named-of former (Some n) = (tt, tt)

counted-of : (b : Bool) (former named : Option PlacedRegion) → AreOfKeys (if b then [] else named_updates former named)
counted-of true former named = tt
counted-of false former named = named-of former named

ending-of : (c : Configuration) (w : World) (i : Invalidation) → AreOfKeys (ending_changes c w i)
ending-of c w i = by (names_region c i.domain i.key) (names_window c i.domain i.key)
  where
    slot : Slot
    slot = slot_of_key i.domain i.key

    changed : Option Binding → List Update
    changed None = []
    changed (Some b) = (Window_of slot := without_binding (w.window slot)) ∷ (Region_of (region_under (w.window slot) b) := with_window_unbound (w.region (region_under (w.window slot) b))) ∷ []

    bound : (o : Option Binding) → AreOfKeys (changed o)
    bound None = tt
    bound (Some b) = (tt, (tt, tt))

    by : (r x : Bool) → AreOfKeys (if r then (Region_of slot := after_region_invalidation (w.region slot)) ∷ [] else if x then changed (w.window slot).binding else [])
    by true x = (tt, tt)
    by false true = bound (w.window slot).binding
    by false false = tt

-- what an operation changes
changes-of : (c : Configuration) (w : World) (q : QueuePair) (drawn : Option ℕ) (op : SendOp) → AreOfKeys (local_end c w q drawn op).changes
changes-of c w q drawn (ops.Bind1 window key address count rights) =
    let former : Option PlacedRegion = former_in w (w.window (window_slot q window)) in
    let named : Option PlacedRegion = named_in c w q.domain key in
    (tt, both-of (former_updates former) (if count == 0 then [] else named_updates former named) (former-of former) (counted-of (count == 0) former named))
changes-of c w q drawn (ops.Bind2 window key low address count rights) = (tt, named-of None (named_in c w q.domain key))
changes-of c w q drawn (ops.FastReg region low buffer address count rights pages) = (tt, tt)
changes-of c w q drawn (ops.LocalInv key) = ending-of c w (invalidation_of q key)
changes-of c w q drawn op = tt

unless-of : (o : Option OpRefusal) (us : List Update) → AreOfKeys us → AreOfKeys (unless_none o us)
unless-of None us of = of
unless-of (Some cause) us of = tt

pub end-of : (c : Configuration) (w : World) (q : QueuePair) (drawn : Option ℕ) (op : SendOp) → AreOfKeys (end_changes (local_end c w q drawn op))
end-of c w q drawn op = unless-of (local_end c w q drawn op).refusal (local_end c w q drawn op).changes (changes-of c w q drawn op)

-- such changes leave other things, and do the same whatever these are
apart-one : (n : Name) (v : Thing n) → IsOfKey n → (w : World) (f : QueueId → QueueSlot) (g : Slot → Option CompletionQueue)
    → put (record w { queue = f; cq = g }) n v ≡ record (put w n v) { queue = f; cq = g }
apart-one (Domain_of d) v of w f g = absurd of
apart-one (Region_of s) v of w f g = refl
apart-one (Window_of s) v of w f g = refl
apart-one (Cq_of s) v of w f g = absurd of
apart-one (Srq_of s) v of w f g = absurd of
apart-one (Queue_of q) v of w f g = absurd of
apart-one (Mailbox_of q) v of w f g = absurd of
apart-one (Byte_at p) v of w f g = absurd of

apart-all : (us : List Update) → AreOfKeys us → (w : World) (f : QueueId → QueueSlot) (g : Slot → Option CompletionQueue)
    → put_all us (record w { queue = f; cq = g }) ≡ record (put_all us w) { queue = f; cq = g }
apart-all [] of w f g = refl
apart-all (u ∷ us) of w f g = ap (put_all us) (apart-one u.name u.thing of.0 w f g) ∙ apart-all us of.1 (put w u.name u.thing) f g

module _ (us : List Update) (of : AreOfKeys us) (w : World) where
  pub queues-kept : (put_all us w).queue ≡ w.queue
  queues-kept = ap (λ v. v.queue) (apart-all us of w w.queue w.cq)

  pub cqs-kept : (put_all us w).cq ≡ w.cq
  cqs-kept = ap (λ v. v.cq) (apart-all us of w w.queue w.cq)

-- a queue pair's effects that take no receive change its slot and its completion queues
effects-put : (w : World) (q : QueuePair) (a : Around) (e : Effects) → e.takes_shared ≡ false
    → put_all (updates_of q a e) w ≡ put_all ((Queue_of q.queue := Present e.queue) ∷ cq_updates q a e.marks) w
effects-put w q a e none = ap (λ b. put_all ((Queue_of q.queue := Present e.queue) ∷ cq_updates q a e.marks ++ (if b then srq_updates q a after_receive_take else [])) w) none

-- an end takes no receive
takes-none : (q : QueuePair) (n : Numbered) (end : LocalEnd) → (end_effects q n end).takes_shared ≡ false
takes-none q n end = by end.refusal
  where
    by : (o : Option OpRefusal) → (operation_effects q n (record q { windows = end.windows }) end.marks o).takes_shared ≡ false
    by None = refl
    by (Some cause) = refl

-- such changes are the same before those of a queue pair and its completion queues, and behind them
module _ (us : List Update) (of : AreOfKeys us) (w : World) (q : QueuePair) (e : Effects) (none : e.takes_shared ≡ false) where
  abbrev moved : World
  moved = put_all us w

  abbrev slots : (QueueId → QueueSlot) → QueueId → QueueSlot
  slots f = with_at queue_eq f q.queue (Present e.queue)

  pub same-put : put_all (updates_of q (around_at w q) e ++ us) w ≡ put_all (updates_of q (around_at (put_all us w) q) e) (put_all us w)
  same-put = puts-append (updates_of q (around_at w q) e) us w
      ∙ ap (put_all us) (effects-put w q (around_at w q) e none)
      ∙ apart-all us of w (slots w.queue) (done_cqs q e.marks w.cq)
      ∙ ap (λ f. record moved { queue = slots f; cq = done_cqs q e.marks w.cq }) (sym (queues-kept us of w))
      ∙ ap (λ g. record moved { queue = slots moved.queue; cq = done_cqs q e.marks g }) (sym (cqs-kept us of w))
      ∙ sym (effects-put moved q (around_at moved q) e none)

-- an operation was performed, and its completions put
module _ (h mid : Holding) (name : QueueId) (q : QueuePair) (n : Numbered) (end : LocalEnd) (of : AreOfKeys (end_changes end)) (o : Outlets) (ms : List Mark) (p : Outcome)
    (did : p ≡ Did (put_all (updates_of q (around_at h.world q) (end_effects q n end) ++ end_changes end) h.world) (end_effects q n end).marks)
    (stepped : mid ≡ hold (changed_by (end_changes end) h) (Queue_of name) (Present (end_effects q n end).queue))
    (outlets : o ≡ outlets_of q) (marks : ms ≡ (end_effects q n end).marks) where
  abbrev e : Effects
  e = end_effects q n end

  abbrev between : Holding
  between = changed_by (end_changes end) h

  abbrev after : World
  after = put_all (updates_of q (around_at between.world q) e) between.world

  so : p ≡ Did after e.marks
  so = did ∙ ap (λ v. Did v e.marks) (same-put (end_changes end) of h.world q e (takes-none q n end))

  fits-so : FitsDone h.world p → FitsDone between.world (Did after e.marks)
  fits-so fits = λ s x put is now. (subst (FitsDone h.world) so fits) s x put (ap (λ g. g s) (sym (cqs-kept (end_changes end) of h.world)) ∙ is) now

  pub end-sends : FitsDone h.world p → FitIn (mid.world.cq (send_slot o)) (completions_by o o.send ms)
  end-sends fits = sends-fit q name e between mid o ms e.marks after stepped outlets marks refl (fits-so fits)

  pub end-receives : FitsDone h.world p → FitIn (mid.world.cq (recv_slot o)) (completions_by o o.recv ms)
  end-receives fits = receives-fit q name e between mid o ms e.marks after stepped outlets marks refl (fits-so fits)

  pub end-acts : q.queue ≡ name → (new : Holding) (m : MarkList) → m.marks ≡ ms → new ≡ changed_by (done_updates o ms mid.world) mid → IsAct (Ok m) p h new
  end-acts named new m same put = subst (λ out. IsAct (Ok m) out h new) (sym so) (
    same ∙ marks,
    turned q name e between mid new o ms named outlets marks (takes-none q n end) stepped put,
  )

-- want of memory leaves all as it was
pub memory-acts : (p : Outcome) (h new : Holding) → new ≡ h → IsAct (Err steps.Memory) p h new
memory-acts (NotReady reason) h new same = same
memory-acts (Did v ms) h new same = same
