-- What a local operation asks of the parts in hand, from what its caller shows of them. For proofs only.
use Rattle.std.proofs.Common.{◌≡◌, ◌∙◌, refl, sym, ap, subst, ℕ, ◌<◌, Bool, true, false, if◌then◌else◌, [], ◌++◌, Option, None, Some, IfSome, IsSomeAnd, is_some, true≢false}
use Rattle.ca_adapter_local.proofs.PlanLemmas.{AreBindNamed, AreEndNamed, bind1-finish, bind2-finish, bind-held, end-named, request-op, turn-local}
use Rattle.ca_adapter_local.specs.Local.{invalidation_of}
use Rattle.ca_adapter_local.specs.Parts.{AreBindParts, AreEndParts, AreParts}
use Rattle.ca_adapter_turns.specs.Shown.{AreShown}
use Rattle.ca_base.specs.Configuration.{Configuration}
use Rattle.ca_base.specs.Sight.{Invalidation}
use Rattle.ca_base.specs.declared.lot.Lot.{Lot}
use Rattle.ca_base.specs.declared.request.SendOp.{SendOp}
use Rattle.ca_base.specs.declared.request.SendOp.TheVariants as ops
use Rattle.ca_base.specs.objects.LocalRequest.{region_refusal, unnamed_refusal, window_refusal}
use Rattle.ca_base.specs.objects.QueuePair.{Present, QueuePair}
use Rattle.ca_base.specs.objects.Region.{Region, vacant_region}
use Rattle.ca_base.specs.objects.Slices.{has_queue, names_region, names_window, slot_of_key, slot_of_queue}
use Rattle.ca_base.specs.objects.Window.{Binding, Window}
use Rattle.ca_adapter_parts.specs.HeldView.{holding}
use Rattle.ca_adapter_parts.specs.declared.held.Held.{Held}
use Rattle.ca_adapter_reach.specs.AtHand.{IsCounting}
use Rattle.ca_adapter_reach.specs.Seen.{or_vacant, slot_under, window_in}
use Rattle.ca_keys.specs.declared.key.Key.{Key}
use Rattle.ca_keys.specs.declared.names.QueueId.{QueueId}
use Rattle.ca_keys.specs.declared.names.Slot.{Slot}
use Rattle.ca_keys.specs.Equal.{slot_eq}
use Rattle.ca_keys.specs.Numbers.{domain_of, is_window_key}
use Rattle.ca_adapter_turns.proofs.of_ca_law_world.Windows.BindingLemmas.{counted-binding}
use Rattle.ca_adapter_turns.proofs.of_ca_law_world.Windows.EndedLemmas.{ended-counted}
use Rattle.ca_adapter_turns.specs.ca_law_world.Bindings.{IsCounted}
use Rattle.ca_model.specs.Requests.{is_local}
use Rattle.ca_model.proofs.PerformLemmas.{around_at}
use Rattle.ca_model.specs.machine.Around.{updates_of}
use Rattle.ca_model.specs.machine.Frame.{AllPass}
use Rattle.ca_model.specs.machine.Invariants.{IsQueue}
use Rattle.ca_model.specs.machine.LocalOperations.{Finishing, Perform_op, invalidate_row, window_slot}
use Rattle.ca_model.specs.machine.Numbering.{Numbered}
use Rattle.ca_model.specs.machine.Plan.{Finish, touches}
use Rattle.ca_model.specs.machine.Requester.{Performs, turn_of}
use Rattle.ca_model.specs.machine.Row.{End_plan, region_under, unless_none}
use Rattle.ca_model.specs.machine.Seen.{refusal_in}
use Rattle.ca_model.specs.machine.Sound.{IsQueueOf}
use Rattle.ca_model.specs.machine.Turns.{request_plan}
use Rattle.ca_model.specs.machine.World.{Queue_of, Region_of, Window_of, World}
use Rattle.ca_adapter_turns.proofs.of_ca_adapter_reach_laws.FitLemmas.{ends-at-hand, parts-fit}
use Rattle.ca_adapter_turns.proofs.of_ca_adapter_reach_laws.SightLemmas.{sights-agree, vacant-outside}
use Rattle.ca_adapter_turns.specs.ca_adapter_reach_laws.Ties.{IsVacantOutside}
use Rattle.ca_adapter_reach.specs.Shelved.{thing_under}

-- why an invalidation of a window's key is refused, where two worlds have the window that it names
refusals-same : (c : Configuration) (v w : World) (i : Invalidation) → is_window_key i.key ≡ true
    → (names_window c i.domain i.key ≡ true → v.window (slot_of_key i.domain i.key) ≡ w.window (slot_of_key i.domain i.key)) → refusal_in c v i ≡ refusal_in c w i
refusals-same c v w i key same = by (names_region c i.domain i.key) refl (names_window c i.domain i.key) refl
  where
    slot : Slot
    slot = slot_of_key i.domain i.key

    apart : names_region c i.domain i.key ≡ true → ⊥
    apart is = true≢false (sym (rw key at is))

    by : (r : Bool) → names_region c i.domain i.key ≡ r → (x : Bool) → names_window c i.domain i.key ≡ x
        → (if r then region_refusal i.key (v.region slot) else if x then window_refusal i.key i.queue (v.window slot) else Some (unnamed_refusal i.key))
        ≡ (if r then region_refusal i.key (w.region slot) else if x then window_refusal i.key i.queue (w.window slot) else Some (unnamed_refusal i.key))
    by true er x ex = absurd (apart er)
    by false er true ex = ap (window_refusal i.key i.queue) (same ex)
    by false er false ex = refl

counting-of : (o : Option Region) → is_some o ≡ true → 0 < (or_vacant vacant_region o).bound → IsSomeAnd o (λ region. 0 < region.bound)
counting-of None has some = absurd (true≢false (sym has))
counting-of (Some region) has some = some

module _ (c : Configuration) (h : Held) (shown : AreShown c h) where
  abbrev pub v : World
  v = (holding h).world

  pub outside : IsVacantOutside c (holding h).world
  outside = vacant-outside c h shown.world shown.outside shown.shows

  -- a window in hand that is bound is counted by its region, where this is in hand
  counts : (s : Slot) → (holding h).has (Window_of s) ≡ true
      → IfSome (window_in h.reached s).binding (λ b. (holding h).has (Region_of (region_under (window_in h.reached s) b)) ≡ true)
      → IfSome (window_in h.reached s).binding (λ b. IsCounting h.reached (slot_under (window_in h.reached s) b))
  unfolding holding
  counts s has under = by (window_in h.reached s).binding refl under
    where
      x : Window
      x = window_in h.reached s

      same : x ≡ shown.world.window s
      same = shown.shows (Window_of s) has

      by : (o : Option Binding) → x.binding ≡ o → IfSome o (λ b. (holding h).has (Region_of (region_under x b)) ≡ true) → IfSome o (λ b. IsCounting h.reached (slot_under x b))
      by None e held = tt
      by (Some b) e held =
          let counted : IsCounted (shown.world.window s) b shown.world.region shown.world.queue =
          counted-binding shown.world.window shown.world.region shown.world.queue s b shown.bound (ap (λ x. x.binding) (sym same) ∙ e) in
          let P : Region → Type 0 = λ r. 0 < r.bound in
          let Q : Window → Type 0 = λ x. 0 < (shown.world.region (slot_under x b)).bound in
          counting-of (thing_under slot_eq (slot_under x b) h.reached.regions.things) held
          (subst P (sym (shown.shows (Region_of (slot_under x b)) held)) (subst Q (sym same) counted.by_region))

  -- the parts of a bind
  bind-parts : (q : QueuePair) (number : ℕ) (key : Key) → AreBindNamed (holding h).has c (holding h).world q number key → AreBindParts c h.reached q number key
  unfolding holding
  bind-parts q number key named = record {
    window = named.window;
    slot = (parts-fit c h shown.world shown.sound shown.bound shown.shows).slots (window_slot q number);
    former = counts (window_slot q number) named.window named.former;
    named = named.named;
  }

  -- those of a key that ends
  end-parts : (q : QueuePair) (name : QueueId) (key : Key) → (holding h).has (Queue_of name) ≡ true → (holding h).world.queue name ≡ Present q → q.queue ≡ name
      → AreEndNamed (holding h).has c (holding h).world (invalidation_of q key) → AreEndParts h.reached q key
  unfolding holding
  end-parts q name key has there named end = record {
    ends = ends-at-hand c h shown.world i shown.sound shown.bound shown.outside shown.shows (record { region = end.region; window = end.window; under = end.under });
    domain = so.1 ∙ ap domain_of (sym named);
    counted = λ window accepted. ended-counted c shown.world i q shown.bound window
        (sym (refusals-same c (holding h).world shown.world i window (λ is. shown.shows (Window_of (slot_of_key i.domain i.key)) (end.window is)))
        ∙ ap (λ s. s.refusal i) (sights-agree c h outside) ∙ accepted)
        (ap shown.world.queue named ∙ world-there);
  }
    where
      i : Invalidation
      i = invalidation_of q key

      world-there : shown.world.queue name ≡ Present q
      world-there = sym (shown.shows (Queue_of name) has) ∙ there

      so : (q.queue ≡ name) × (q.domain ≡ (slot_of_queue name).domain) × IsQueue q
      so = subst (IsQueueOf name) world-there (shown.sound.things (Queue_of name))

  op-parts : (q : QueuePair) (name : QueueId) (n : Numbered) (finish : Finishing) → (holding h).has (Queue_of name) ≡ true → (holding h).world.queue name ≡ Present q → q.queue ≡ name
      → (op : SendOp) → is_local op ≡ true → AllPass (holding h).has (touches (holding h).world (Perform_op c q n finish op)) → AreParts c h.reached q op
  unfolding holding
  op-parts q name n finish has there named (ops.Bind1 window key address count rights) local all =
      bind-parts q window key (bind-held (holding h).has c (holding h).world q window key (bind1-finish q n finish window key address count rights) all)
  op-parts q name n finish has there named (ops.Bind2 window key low address count rights) local all =
      bind-parts q window key (bind-held (holding h).has c (holding h).world q window key (bind2-finish q n finish window key low address count rights) all)
  op-parts q name n finish has there named (ops.FastReg region low buffer address count rights pages) local all = all.0
  op-parts q name n finish has there named (ops.LocalInv key) local all =
      end-parts q name key has there named (end-named (holding h).has c (holding h).world (invalidation_of q key)
      (λ refusal changes. End_plan c finish (unless_none refusal changes) ((invalidate_row q n key).allowed [] refusal)) all)
  op-parts q name n finish has there named op local all = absurd (true≢false (sym local))

  -- the parts that a turn's operation names are in hand
  pub parts-ready : (q : QueuePair) (name : QueueId) (n : Numbered) (lot : Lot) → has_queue c name ≡ true → turn_of q ≡ Performs n → (holding h).world.queue name ≡ Present q → q.queue ≡ name
      → (holding h).has (Queue_of name) ≡ true → AllPass (holding h).has (touches (holding h).world (request_plan c name lot)) → AreParts c h.reached q n.request.op
  parts-ready q name n lot configured turn there named has all = op-parts q name n (λ e changes writes. Finish (updates_of q (around_at (holding h).world q) e ++ changes) writes e.marks) has there named n.request.op (turn-local q n turn)
      (request-op c name lot q n configured turn (holding h) there all)
