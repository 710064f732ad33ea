-- What the plan of a local operation comes to, and what it looks at. For proofs only.
use Rattle.std.proofs.Common.{◌≡◌, ◌∙◌, refl, sym, ap, subst, ℕ, suc, ◌-◌, Bool, true, false, not, ◌&&◌, if◌then◌else◌, List, [], ◌∷◌, ◌++◌, Option, None, Some, IfSome, true≢false}
use Rattle.std.specs.Option.{option_map}
use Rattle.ca_adapter_local.specs.Local.{LocalEnd, end_changes, end_effects, former_in, invalidation_end, invalidation_of, local_end, named_in}
use Rattle.ca_base.specs.Configuration.{Configuration}
use Rattle.ca_base.specs.declared.lot.Lot.{Lot}
use Rattle.ca_base.specs.declared.refusals.OpRefusal.{OpRefusal}
use Rattle.ca_base.specs.declared.request.SendOp.{SendOp}
use Rattle.ca_base.specs.declared.request.SendOp.TheVariants as ops
use Rattle.ca_base.specs.declared.step.Reason.{Reason}
use Rattle.ca_base.specs.declared.step.Reason.TheVariants as reasons
use Rattle.ca_base.specs.Sight.{Invalidation}
use Rattle.ca_base.specs.objects.LocalRequest.{LocalMarks, region_refusal, unnamed_refusal, window_refusal}
use Rattle.ca_base.specs.objects.QueuePair.{NoQueue, Present, QueuePair, QueueSlot, recv_cq_of, send_cq_of}
use Rattle.ca_base.specs.objects.Region.{after_region_invalidation, with_window_unbound}
use Rattle.ca_base.specs.objects.Slices.{has_queue, has_slot, is_key_of, names_region, names_window, slot_of_key}
use Rattle.ca_base.specs.objects.Window.{Binding, Window, without_binding}
use Rattle.ca_keys.specs.declared.key.Key.{Key}
use Rattle.ca_keys.specs.declared.names.DomainId.{DomainId}
use Rattle.ca_keys.specs.declared.names.QueueId.{QueueId}
use Rattle.ca_keys.specs.declared.names.Slot.{Slot}
use Rattle.ca_keys.specs.declared.rights.Rights.{Rights}
use Rattle.ca_keys.specs.Numbers.{is_window_key}
use Rattle.ca_keys.specs.Refusals.{first_of}
use Rattle.ca_model.proofs.PerformLemmas.{around-performs, around_at, queue-performs, row-performs}
use Rattle.ca_model.specs.Requests.{is_local}
use Rattle.ca_model.specs.machine.Around.{Around, With_around, updates_of}
use Rattle.ca_model.specs.machine.Frame.{AllPass}
use Rattle.ca_model.specs.machine.LocalOperations.{Finishing, PlacedRegion, bind1_changes, bind1_marks, bind1_refusal, bind2_changes, bind2_marks, bind2_refusal, drawn_by, Perform_op, With_former, With_named, invalidate_row, operation_effects, window_slot}
use Rattle.ca_model.specs.machine.Numbering.{Numbered}
use Rattle.ca_model.specs.machine.Plan.{Did, Finish, Look, NotReady, Plan, Stuck, Update, perform, put_all, touches, ◌:=◌}
use Rattle.ca_model.specs.machine.Requester.{Performs, RequestTurn, Sends, Waits, next_request, turn_of, turn_refusals}
use Rattle.ca_model.specs.machine.Row.{Row_plan, With_invalidation, region_under, unless_none}
use Rattle.ca_model.specs.machine.Seen.{ending_changes, refusal_in, sight_in, writes_in}
use Rattle.ca_model.specs.machine.Turns.{Request_around, request_plan}
use Rattle.ca_model.specs.machine.World.{Cq_of, Name, Queue_of, Region_of, Window_of, World}
use Rattle.ca_adapter_turns.proofs.TurnLemmas.{IsAroundHeld, around-held, with-queue-held, with-queue-rest}
use Rattle.ca_adapter_parts.specs.HeldView.{Holding}

-- the region that a key names is looked at
named-performs : (c : Configuration) (w : World) (d : DomainId) (key : Key) (k : Option PlacedRegion → Plan)
    → perform w (With_named c d key k) ≡ perform w (k (named_in c w d key))
named-performs c w d key k = by (names_region c d key)
  where
    here : PlacedRegion
    here = record { slot = slot_of_key d key; region = w.region (slot_of_key d key) }

    by : (b : Bool) → (if b then perform w (k (Some here)) else perform w (k None)) ≡ perform w (k (if b then Some here else None))
    by true = refl
    by false = refl

-- and the one in which a window is bound
former-performs : (w : World) (x : Window) (k : Option PlacedRegion → Plan) → perform w (With_former x k) ≡ perform w (k (former_in w x))
former-performs w x k = by x.binding
  where
    plan : Option Binding → Plan
    plan None = k None
    plan (Some b) = Look (Region_of (region_under x b)) (λ region. k (Some (record { slot = region_under x b; region = region })))

    by : (o : Option Binding) → perform w (plan o)
        ≡ perform w (k (option_map (λ b. record { slot = region_under x b; region = w.region (region_under x b) }) o))
    by None = refl
    by (Some b) = refl

both-perform : (c : Configuration) (w : World) (x : Window) (d : DomainId) (key : Key) (k : Option PlacedRegion → Option PlacedRegion → Plan)
    → perform w (With_named c d key (λ named. With_former x (λ former. k named former))) ≡ perform w (k (named_in c w d key) (former_in w x))
both-perform c w x d key k = named-performs c w d key (λ named. With_former x (λ former. k named former))
    ∙ former-performs w x (λ former. k (named_in c w d key) former)

-- a Local Invalidate
end-performs : (c : Configuration) (w : World) (q : QueuePair) (n : Numbered) (finish : Finishing) (key : Key)
    → let end : LocalEnd = invalidation_end c w q key in
    perform w (Row_plan c (invalidate_row q n key) finish) ≡ perform w (finish (end_effects q n end) (end_changes end) [])
end-performs c w q n finish key = row-performs c w (invalidate_row q n key) finish ∙ by (refusal_in c w (invalidation_of q key))
  where
    marks : LocalMarks
    marks = record { revoked = Some key; granted = None }

    gone : QueuePair
    gone = record q { windows = if is_window_key key then q.windows - 1 else q.windows }

    changes : Option OpRefusal → List Update
    changes o = unless_none o (ending_changes c w (invalidation_of q key))

    by : (o : Option OpRefusal)
        → perform w (finish (operation_effects q n gone marks o) (changes o) (writes_in (sight_in c w) (operation_effects q n gone marks o).writes))
        ≡ perform w (finish (operation_effects q n gone marks o) (changes o) [])
    by None = refl
    by (Some cause) = refl

-- how the plan of a bind goes on with the regions that it looked at
abbrev pub bind1-finish : QueuePair → Numbered → Finishing → ℕ → Key → ℕ → ℕ → Rights → Window → Option PlacedRegion → Option PlacedRegion → Plan
bind1-finish q n finish window key address count rights x named former = finish
    (operation_effects q n q (bind1_marks q n window named address count rights x) (bind1_refusal n key named address count rights x))
    (unless_none (bind1_refusal n key named address count rights x) (bind1_changes (window_slot q window) (drawn_by n) x former named address count rights))
    []

abbrev pub bind2-finish : QueuePair → Numbered → Finishing → ℕ → Key → ℕ → ℕ → ℕ → Rights → Window → Option PlacedRegion → Option PlacedRegion → Plan
bind2-finish q n finish window key low address count rights x named former = finish
    (operation_effects q n (record q { windows = suc q.windows }) (bind2_marks q window low named address count rights) (bind2_refusal key named address count rights x))
    (unless_none (bind2_refusal key named address count rights x) (bind2_changes (window_slot q window) low q.queue x named address count rights))
    []

-- the plan of an operation does what the operation comes to
pub op-performs : (c : Configuration) (w : World) (q : QueuePair) (n : Numbered) (finish : Finishing) (op : SendOp) → is_local op ≡ true
    → let end : LocalEnd = local_end c w q n.drawn op in
    perform w (Perform_op c q n finish op) ≡ perform w (finish (end_effects q n end) (end_changes end) [])
op-performs c w q n finish (ops.Bind1 window key address count rights) local =
    both-perform c w (w.window (window_slot q window)) q.domain key (bind1-finish q n finish window key address count rights (w.window (window_slot q window)))
op-performs c w q n finish (ops.Bind2 window key low address count rights) local =
    both-perform c w (w.window (window_slot q window)) q.domain key (bind2-finish q n finish window key low address count rights (w.window (window_slot q window)))
op-performs c w q n finish (ops.FastReg region low buffer address count rights pages) local = refl
op-performs c w q n finish (ops.LocalInv key) local = end-performs c w q n finish key
op-performs c w q n finish op local = absurd (true≢false (sym local))

-- what an operation looks at is held
pub record AreBindNamed (test : Name → Bool) (c : Configuration) (w : World) (q : QueuePair) (number : ℕ) (key : Key) : Type 0 where
  pub window : test (Window_of (window_slot q number)) ≡ true
  pub named : names_region c q.domain key ≡ true → test (Region_of (slot_of_key q.domain key)) ≡ true
  pub former : IfSome (w.window (window_slot q number)).binding
      (λ b. test (Region_of (region_under (w.window (window_slot q number)) b)) ≡ true)

pub record AreEndNamed (test : Name → Bool) (c : Configuration) (w : World) (i : Invalidation) : Type 0 where
  pub region : names_region c i.domain i.key ≡ true → test (Region_of (slot_of_key i.domain i.key)) ≡ true
  pub window : names_window c i.domain i.key ≡ true → test (Window_of (slot_of_key i.domain i.key)) ≡ true
  pub under : names_window c i.domain i.key ≡ true → IfSome (w.window (slot_of_key i.domain i.key)).binding
      (λ b. test (Region_of (region_under (w.window (slot_of_key i.domain i.key)) b)) ≡ true)

named-held : (test : Name → Bool) (c : Configuration) (w : World) (d : DomainId) (key : Key) (k : Option PlacedRegion → Plan)
    → AllPass test (touches w (With_named c d key k))
    → (names_region c d key ≡ true → test (Region_of (slot_of_key d key)) ≡ true) × AllPass test (touches w (k (named_in c w d key)))
named-held test c w d key k all = by (names_region c d key) all
  where
    here : PlacedRegion
    here = record { slot = slot_of_key d key; region = w.region (slot_of_key d key) }

    by : (b : Bool) → AllPass test (if b then Region_of (slot_of_key d key) ∷ touches w (k (Some here)) else touches w (k None))
        → (b ≡ true → test (Region_of (slot_of_key d key)) ≡ true) × AllPass test (touches w (k (if b then Some here else None)))
    by true all = (λ is. all.0, all.1)
    by false all = (λ is. absurd (true≢false (sym is)), all)

former-held : (test : Name → Bool) (w : World) (x : Window) (k : Option PlacedRegion → Plan) → AllPass test (touches w (With_former x k))
    → IfSome x.binding (λ b. test (Region_of (region_under x b)) ≡ true)
former-held test w x k all = by x.binding all
  where
    plan : Option Binding → Plan
    plan None = k None
    plan (Some b) = Look (Region_of (region_under x b)) (λ region. k (Some (record { slot = region_under x b; region = region })))

    by : (o : Option Binding) → AllPass test (touches w (plan o)) → IfSome o (λ b. test (Region_of (region_under x b)) ≡ true)
    by None all = tt
    by (Some b) all = all.0

pub bind-held : (test : Name → Bool) (c : Configuration) (w : World) (q : QueuePair) (window : ℕ) (key : Key) (k : Window → Option PlacedRegion → Option PlacedRegion → Plan)
    → AllPass test (touches w (Look (Window_of (window_slot q window)) (λ x. With_named c q.domain key (λ named. With_former x (λ former. k x named former)))))
    → AreBindNamed test c w q window key
bind-held test c w q window key k all = record { window = all.0; named = behind.0; former = former-held test w x (k x (named_in c w q.domain key)) behind.1 }
  where
    x : Window
    x = w.window (window_slot q window)

    behind : (names_region c q.domain key ≡ true → test (Region_of (slot_of_key q.domain key)) ≡ true)
        × AllPass test (touches w (With_former x (k x (named_in c w q.domain key))))
    behind = named-held test c w q.domain key (λ named. With_former x (k x named)) all.1

-- a key names no region and a window too
pub not-both : (key : Key) (c : Configuration) (d : DomainId) → names_region c d key ≡ true → names_window c d key ≡ true → ⊥
not-both key c d region window = by (is_window_key key) region window
  where
    by : (k : Bool) → (not k && is_key_of d key && has_slot c (λ a. a.regions) (slot_of_key d key)) ≡ true
        → (k && is_key_of d key && has_slot c (λ a. a.windows) (slot_of_key d key)) ≡ true → ⊥
    by true region window = true≢false (sym region)
    by false region window = true≢false (sym window)

pub end-named : (test : Name → Bool) (c : Configuration) (w : World) (i : Invalidation) (k : Option OpRefusal → List Update → Plan)
    → AllPass test (touches w (With_invalidation c (Some i) k)) → AreEndNamed test c w i
end-named test c w i k all = part (names_region c i.domain i.key) (names_window c i.domain i.key) refl refl all
  where
    slot : Slot
    slot = slot_of_key i.domain i.key

    Under : Type 0
    Under = IfSome (w.window slot).binding (λ b. test (Region_of (region_under (w.window slot) b)) ≡ true)

    plan : Option Binding → Plan
    plan None = k (window_refusal i.key i.queue (w.window slot)) []
    plan (Some b) = Look (Region_of (region_under (w.window slot) b)) (λ region.
        k (window_refusal i.key i.queue (w.window slot))
        ((Window_of slot := without_binding (w.window slot)) ∷ (Region_of (region_under (w.window slot) b) := with_window_unbound region) ∷ []))

    under : (o : Option Binding) → AllPass test (touches w (plan o)) → IfSome o (λ b. test (Region_of (region_under (w.window slot) b)) ≡ true)
    under None all = tt
    under (Some b) all = all.0

    part : (r x : Bool) → names_region c i.domain i.key ≡ r → names_window c i.domain i.key ≡ x
        → AllPass test (if r then Region_of slot ∷ touches w (k (region_refusal i.key (w.region slot)) ((Region_of slot := after_region_invalidation (w.region slot)) ∷ []))
        else if x then Window_of slot ∷ touches w (plan (w.window slot).binding) else touches w (k (Some (unnamed_refusal i.key)) []))
        → AreEndNamed test c w i
    part true x er ex all = record {
      region = λ is. all.0;
      window = λ is. absurd (not-both i.key c i.domain er is);
      under = λ is. absurd (not-both i.key c i.domain er is);
    }
    part false true er ex all = record {
      region = λ is. absurd (true≢false (sym is ∙ er));
      window = λ is. all.0;
      under = λ is. under (w.window slot).binding all.1;
    }
    part false false er ex all = record {
      region = λ is. absurd (true≢false (sym is ∙ er));
      window = λ is. absurd (true≢false (sym is ∙ ex));
      under = λ is. absurd (true≢false (sym is ∙ ex));
    }

-- what a turn performs is a local operation
pub turn-local : (q : QueuePair) (n : Numbered) → turn_of q ≡ Performs n → is_local n.request.op ≡ true
turn-local q n turn = by (first_of (turn_refusals q)) (next_request q) turn
  where
    on : Option Reason → Option Numbered → RequestTurn
    on (Some reason) m = Waits reason
    on None None = Waits reasons.Empty
    on None (Some m) = if is_local m.request.op then Performs m else Sends m

    is : (m : Numbered) (b : Bool) → is_local m.request.op ≡ b → (if b then Performs m else Sends m) ≡ Performs n → is_local n.request.op ≡ true
    is m true local same = let one : m ≡ n = cc in ap (λ (k : Numbered). is_local k.request.op) (sym one) ∙ local
    is m false local same = cc

    by : (o : Option Reason) (m : Option Numbered) → on o m ≡ Performs n → is_local n.request.op ≡ true
    by (Some reason) m same = cc
    by None None same = cc
    by None (Some m) same = is m (is_local m.request.op) refl same

-- the turn of a queue pair that performs an operation
module _ (c : Configuration) (name : QueueId) (lot : Lot) (q : QueuePair) (n : Numbered) (has : has_queue c name ≡ true) (turn : turn_of q ≡ Performs n) where
  abbrev turn-plan : QueuePair → Plan
  turn-plan q = With_around q (λ a. Request_around c lot q a q.peer (turn_of q))

  abbrev finish : Around → Finishing
  finish a e changes writes = Finish (updates_of q a e ++ changes) writes e.marks

  pub request-performs : (w : World) → w.queue name ≡ Present q
      → let end : LocalEnd = local_end c w q n.drawn n.request.op in
      perform w (request_plan c name lot) ≡ Did (put_all (updates_of q (around_at w q) (end_effects q n end) ++ end_changes end) w) (end_effects q n end).marks
  request-performs w there = queue-performs c w name reasons.State turn-plan q has there
      ∙ around-performs w q (λ a. Request_around c lot q a q.peer (turn_of q))
      ∙ ap (λ t. perform w (Request_around c lot q (around_at w q) q.peer t)) turn
      ∙ op-performs c w q n (finish (around_at w q)) n.request.op (turn-local q n turn)

  module _ (h : Holding) (there : h.world.queue name ≡ Present q) (all : AllPass h.has (touches h.world (request_plan c name lot))) where
    pub request-queue : h.has (Queue_of name) ≡ true
    request-queue = with-queue-held h c name reasons.State turn-plan all has

    around : IsAroundHeld h q (Request_around c lot q (around_at h.world q) q.peer (turn_of q))
    around = around-held h q (λ a. Request_around c lot q a q.peer (turn_of q)) (with-queue-rest h c name reasons.State turn-plan q all has there)

    pub request-send : h.has (Cq_of (send_cq_of q)) ≡ true
    request-send = around.send

    pub request-recv : h.has (Cq_of (recv_cq_of q)) ≡ true
    request-recv = around.recv

    pub request-op : AllPass h.has (touches h.world (Perform_op c q n (finish (around_at h.world q)) n.request.op))
    request-op = subst (λ t. AllPass h.has (touches h.world (Request_around c lot q (around_at h.world q) q.peer t))) turn around.rest

-- what the plan of a turn that performs an operation does and touches goes by no lot
module _ (c : Configuration) (name : QueueId) (q : QueuePair) (n : Numbered) (w : World) (there : w.queue name ≡ Present q) (turn : turn_of q ≡ Performs n) where
  abbrev by-lot : Lot → QueueSlot → Plan
  by-lot lot (NoQueue incarnation timers) = Stuck reasons.State
  by-lot lot (Present q) = With_around q (λ a. Request_around c lot q a q.peer (turn_of q))

  abbrev by-turn : Lot → RequestTurn → Plan
  by-turn lot t = With_around q (λ a. Request_around c lot q a q.peer t)

  pub lots-perform : (lot other : Lot) → perform w (request_plan c name lot) ≡ perform w (request_plan c name other)
  lots-perform lot other = go lot ∙ sym (go other)
    where
      go : (l : Lot) → perform w (request_plan c name l) ≡ (if has_queue c name then perform w (by-turn lot (Performs n)) else NotReady reasons.State)
      go l = ap (λ s. if has_queue c name then perform w (by-lot l s) else NotReady reasons.State) there
          ∙ ap (λ t. if has_queue c name then perform w (by-turn l t) else NotReady reasons.State) turn

  pub lots-touch : (lot other : Lot) → touches w (request_plan c name lot) ≡ touches w (request_plan c name other)
  lots-touch lot other = go lot ∙ sym (go other)
    where
      go : (l : Lot) → touches w (request_plan c name l) ≡ (if has_queue c name then Queue_of name ∷ touches w (by-turn lot (Performs n)) else [])
      go l = ap (λ s. if has_queue c name then Queue_of name ∷ touches w (by-lot l s) else []) there
          ∙ ap (λ t. if has_queue c name then Queue_of name ∷ touches w (by-turn l t) else []) turn
