-- A requester's turn that performs a local operation lowers the weight of a world: the walk over its plans.
use Rattle.std.proofs.Common.{◌≡◌, ℕ, suc, ◌-◌, ◌<◌, ◌==◌, Bool, true, false, if◌then◌else◌, List, [], ◌∷◌, ◌++◌, Option, None, Some, ap, sym, subst, ◌∙◌, arith, true≢false}
use Rattle.ca_law_endings.proofs.LeadsLemmas.{AreAside, comes, leads-around, leads-queue, leads-row, unless-aside}
use Rattle.ca_law_endings.specs.Runs.{Comes, Leads}
use Rattle.ca_base.specs.Configuration.{Configuration}
use Rattle.ca_base.specs.declared.lot.Lot.{Lot}
use Rattle.ca_base.specs.declared.refusals.OpRefusal.{OpRefusal}
use Rattle.ca_base.specs.declared.request.SendOp.{SendOp}
use Rattle.ca_base.specs.declared.request.SendOp.TheVariants as ops
use Rattle.ca_base.specs.declared.step.Reason.TheVariants as reasons
use Rattle.ca_base.specs.objects.LocalRequest.{LocalMarks}
use Rattle.ca_base.specs.objects.QueuePair.{QueuePair, Present}
use Rattle.ca_base.specs.objects.Region.{Region}
use Rattle.ca_base.specs.objects.Slices.{slot_of_key}
use Rattle.ca_base.specs.objects.Window.{Binding, Window}
use Rattle.ca_keys.specs.Equal.{queue_eq}
use Rattle.ca_keys.specs.Numbers.{is_window_key}
use Rattle.ca_keys.specs.Refusals.{first_of}
use Rattle.ca_keys.specs.declared.key.Key.{Key}
use Rattle.ca_keys.specs.declared.names.QueueId.{QueueId}
use Rattle.ca_keys.specs.declared.rights.Rights.{Rights}
use Rattle.ca_law_world.proofs.Sound.WorldLemmas.{around_in, shared_of}
use Rattle.ca_model.specs.Past.{with_at}
use Rattle.ca_model.specs.Requests.{is_local}
use Rattle.ca_model.specs.declared.event.Event.TheVariants as events
use Rattle.ca_model.specs.declared.mark.Mark.{Mark}
use Rattle.ca_model.specs.machine.Around.{With_around, updates_of}
use Rattle.ca_model.specs.machine.LocalOperations.{Bind1_plan, Bind2_plan, Fast_plan, Finishing, Perform_op, PlacedRegion, With_former, With_named, bind1_changes, bind1_marks, bind1_refusal, bind2_changes, bind2_marks, bind2_refusal, drawn_by, fast_changes, fast_marks, fast_refusal, former_updates, invalidate_row, named_updates, operation_effects, region_slot, window_slot}
use Rattle.ca_model.specs.machine.Numbering.{Numbered}
use Rattle.ca_model.specs.machine.Plan.{Finish, Look, Plan, Update, Write, put_all, write_all}
use Rattle.ca_model.specs.machine.Requester.{Performs, next_request, turn_of, turn_refusals}
use Rattle.ca_model.specs.machine.Row.{Effects, NotPossible, Row, region_under, unless_none}
use Rattle.ca_model.specs.machine.Sound.{IsSoundWorld}
use Rattle.ca_model.specs.machine.Step.{step}
use Rattle.ca_model.specs.machine.Turns.{Request_around, request_plan}
use Rattle.ca_model.specs.machine.World.{Region_of, World}
use Rattle.ca_law_once.proofs.Ties.DeliverLemmas.{present-same}
use Rattle.ca_law_once.proofs.Ties.DeliverWalk.{Has, has-aside, has-turn, has-writes, puts-append}
use Rattle.ca_law_once.proofs.Ties.TimerLemmas.{IsFoundAt, found-at}
use Rattle.ca_law_once.proofs.Verbs.PairLemmas.{Replaces, replaces-turned}
use Rattle.ca_law_bounds.specs.WorldWeights.{AreApart, is_among_names, mail_weight, pair_weight, world_weight}
use Rattle.ca_law_bounds.proofs.NameLemmas.{replaced-lowers}
use Rattle.ca_law_bounds.proofs.OperationWeights.{Falls, effects-fall, performs-parts}

-- ---- the walk over the plans of local operations

-- effects behind which a plan goes on, with any changes of windows and regions
abbrev Goes : World → (World → List Mark → Type 0) → Finishing → Effects → Type 0
Goes w P finish e = (cs : List Update) (ws : List Write) → AreAside cs → Leads w P (finish e cs ws)

-- those of an operation, however many windows it counts
abbrev AllGo : World → (World → List Mark → Type 0) → QueuePair → Numbered → Finishing → Type 0
AllGo w P q n finish = (windows : ℕ) (m : LocalMarks) (refusal : Option OpRefusal) → Goes w P finish (operation_effects q n (record q { windows = windows }) m refusal)

aside-append : (xs ys : List Update) → AreAside xs → AreAside ys → AreAside (xs ++ ys)
aside-append [] ys one other = other
aside-append (x ∷ xs) ys one other = (one.0, aside-append xs ys one.1 other)

former-aside : (former : Option PlacedRegion) → AreAside (former_updates former)
former-aside None = record {}
former-aside (Some f) = (record {}, record {})

named-aside : (former named : Option PlacedRegion) → AreAside (named_updates former named)
named-aside former None = record {}
named-aside former (Some n) = (record {}, record {})

module _ (c : Configuration) (w : World) (P : World → List Mark → Type 0) (q : QueuePair) (n : Numbered) (finish : Finishing) (all : AllGo w P q n finish) where
  leads-named : (key : Key) (k : Option PlacedRegion → Plan) → ((r : Option PlacedRegion) → Leads w P (k r)) → Leads w P (With_named c q.domain key k)
  leads-named key k more = (λ named. more (Some (record { slot = slot_of_key q.domain key; region = w.region (slot_of_key q.domain key) })), λ none. more None)

  leads-former : (x : Window) (k : Option PlacedRegion → Plan) → ((r : Option PlacedRegion) → Leads w P (k r)) → Leads w P (With_former x k)
  leads-former x k more = by x.binding
    where
      former : Option Binding → Plan
      former None = k None
      former (Some b) = Look (Region_of (region_under x b)) (λ region. k (Some (record { slot = region_under x b; region = region })))

      by : (o : Option Binding) → Leads w P (former o)
      by None = more None
      by (Some b) = more (Some (record { slot = region_under x b; region = w.region (region_under x b) }))

  leads-bind1 : (window : ℕ) (key : Key) (address count : ℕ) (rights : Rights) → Leads w P (Bind1_plan c q n window key address count rights finish)
  leads-bind1 window key address count rights =
      leads-named key (λ named. With_former x (λ former. ending named former)) (λ named.
      leads-former x (λ former. ending named former) (λ former.
      all q.windows (bind1_marks q n window named address count rights x) (refusal named)
      (unless_none (refusal named) (bind1_changes (window_slot q window) (drawn_by n) x former named address count rights)) []
      (unless-aside (refusal named) (bind1_changes (window_slot q window) (drawn_by n) x former named address count rights)
      (record {}, aside-append (former_updates former) (if count == 0 then [] else named_updates former named) (former-aside former) (regions named former (count == 0))))))
    where
      x : Window
      x = w.window (window_slot q window)

      refusal : Option PlacedRegion → Option OpRefusal
      refusal named = bind1_refusal n key named address count rights x

      regions : (named former : Option PlacedRegion) (b : Bool) → AreAside (if b then [] else named_updates former named)
      regions named former true = record {}
      regions named former false = named-aside former named

      ending : Option PlacedRegion → Option PlacedRegion → Plan
      ending named former = finish (operation_effects q n q (bind1_marks q n window named address count rights x) (refusal named))
          (unless_none (refusal named) (bind1_changes (window_slot q window) (drawn_by n) x former named address count rights)) []

  leads-bind2 : (window : ℕ) (key : Key) (low address count : ℕ) (rights : Rights) → Leads w P (Bind2_plan c q n window key low address count rights finish)
  leads-bind2 window key low address count rights =
      leads-named key (λ named. With_former x (λ former. ending named)) (λ named.
      leads-former x (λ former. ending named) (λ former.
      all (suc q.windows) (bind2_marks q window low named address count rights) (refusal named)
      (unless_none (refusal named) (bind2_changes (window_slot q window) low q.queue x named address count rights)) []
      (unless-aside (refusal named) (bind2_changes (window_slot q window) low q.queue x named address count rights) (record {}, named-aside None named))))
    where
      x : Window
      x = w.window (window_slot q window)

      refusal : Option PlacedRegion → Option OpRefusal
      refusal named = bind2_refusal key named address count rights x

      ending : Option PlacedRegion → Plan
      ending named = finish (operation_effects q n (record q { windows = suc q.windows }) (bind2_marks q window low named address count rights) (refusal named))
          (unless_none (refusal named) (bind2_changes (window_slot q window) low q.queue x named address count rights)) []

  leads-fast : (region low buffer address count : ℕ) (rights : Rights) (pages : List ℕ) → Leads w P (Fast_plan c q n region low buffer address count rights pages finish)
  leads-fast region low buffer address count rights pages = all q.windows (fast_marks q region low buffer address count rights pages) refusal
      (unless_none refusal (fast_changes q region low buffer address count rights pages r)) []
      (unless-aside refusal (fast_changes q region low buffer address count rights pages r) (record {}, record {}))
    where
      r : Region
      r = w.region (region_slot q region)

      refusal : Option OpRefusal
      refusal = fast_refusal c q region buffer address count rights pages r

  -- an invalidation asks for no access, so it is never denied one
  leads-invalidate : (key : Key) → Leads w P (Perform_op c q n finish (ops.LocalInv key))
  leads-invalidate key = leads-row c w P (Goes w P finish) row finish (record {
    denied = λ d. record {};
    allowed = λ bytes refusal. all (if is_window_key key then q.windows - 1 else q.windows) (record { revoked = Some key; granted = None }) refusal;
  }) (λ e cs ws goes aside. goes cs ws aside)
    where
      row : Row
      row = record (invalidate_row q n key) { denied = λ d. NotPossible reasons.Empty }

  leads-local : (op : SendOp) → is_local op ≡ true → Leads w P (Perform_op c q n finish op)
  leads-local (ops.Bind1 window key address count rights) local = leads-bind1 window key address count rights
  leads-local (ops.Bind2 window key low address count rights) local = leads-bind2 window key low address count rights
  leads-local (ops.FastReg region low buffer address count rights pages) local = leads-fast region low buffer address count rights pages
  leads-local (ops.LocalInv key) local = leads-invalidate key
  leads-local (ops.Send list) local = absurd (true≢false (sym local))
  leads-local (ops.SendImm imm list) local = absurd (true≢false (sym local))
  leads-local (ops.SendInv key list) local = absurd (true≢false (sym local))
  leads-local (ops.Write address key list) local = absurd (true≢false (sym local))
  leads-local (ops.WriteImm address key imm list) local = absurd (true≢false (sym local))
  leads-local (ops.Read address key list) local = absurd (true≢false (sym local))
  leads-local (ops.CmpSwap address key compare swap list) local = absurd (true≢false (sym local))
  leads-local (ops.FetchAdd address key add list) local = absurd (true≢false (sym local))

-- ---- the turn

-- a queue pair that weighs less, at its name
pub turned-lowers : (w v : World) (names : List QueueId) (name : QueueId) (q : QueuePair) (e : Effects) → AreApart names → is_among_names name names ≡ true → w.queue name ≡ Present q → Falls q e
    → Replaces w name (Present e.queue) (w.mailbox name) v → world_weight names v < world_weight names w
turned-lowers w v names name q e apart among is falls replaces = replaced-lowers w v names name (Present e.queue) (w.mailbox name) apart among replaces (omega (
  arith,
  falls.less,
  ap (λ m. mail_weight m (w.mailbox name).envelopes) falls.width,
  ap (λ t. pair_weight t (w.mailbox name)) is,
))

pub operation-lowers : (c : Configuration) (w : World) (names : List QueueId) (name : QueueId) (lot : Lot) (q : QueuePair) (n : Numbered) → IsSoundWorld c w → AreApart names → is_among_names name names ≡ true
    → w.queue name ≡ Present q → turn_of q ≡ Performs n → Comes (λ v ms. world_weight names v < world_weight names w) (step c w (events.Request name lot))
operation-lowers c w names name lot q n sound apart among stands turn = comes w P (request_plan c name lot)
    (leads-queue c w P name reasons.State (λ q. With_around q (λ a. Request_around c lot q a q.peer (turn_of q)))
    (λ t is. leads-around w P t (λ a. Request_around c lot t a t.peer (turn_of t))
    (subst (λ x. Leads w P (Request_around c lot x (around_in w x (shared_of w x)) x.peer (turn_of x))) (present-same q t (sym stands ∙ is))
    (subst (λ r. Leads w P (Request_around c lot q (around_in w q (shared_of w q)) q.peer r)) (sym turn)
    (leads-local c w P q n finish goes n.request.op (performs-parts (first_of (turn_refusals q)) (next_request q) n turn).2)))))
  where
    P : World → List Mark → Type 0
    P v ms = world_weight names v < world_weight names w

    there : IsFoundAt w name q
    there = found-at c w name q sound stands

    finish : Finishing
    finish e changes writes = Finish (updates_of q (around_in w q (shared_of w q)) e ++ changes) writes e.marks

    goes : AllGo w P q n finish
    goes windows m refusal cs ws aside = turned-lowers w (write_all ws (put_all (us ++ cs) w)) names name q e apart among stands (effects-fall q n windows m refusal there.sound turn)
        (replaces-turned w (write_all ws (put_all (us ++ cs) w)) name (Present e.queue)
        (subst (λ k. Has (with_at queue_eq w.queue k (Present e.queue)) w.mailbox (write_all ws (put_all (us ++ cs) w))) there.named
        (has-writes (with_at queue_eq w.queue q.queue (Present e.queue)) w.mailbox ws (put_all (us ++ cs) w)
        (subst (Has (with_at queue_eq w.queue q.queue (Present e.queue)) w.mailbox) (sym (puts-append us cs w))
        (has-aside (with_at queue_eq w.queue q.queue (Present e.queue)) w.mailbox cs (put_all us w) aside (has-turn w q (around_in w q (shared_of w q)) e))))))
      where
        e : Effects
        e = operation_effects q n (record q { windows = windows }) m refusal

        us : List Update
        us = updates_of q (around_in w q (shared_of w q)) e
