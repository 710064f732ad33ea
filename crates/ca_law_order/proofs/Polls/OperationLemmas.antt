-- The plans of local operations lead where effects of any kind do that theirs are of: they change windows and regions
-- alone. For proofs only.
use Rattle.std.proofs.Common.{ℕ, suc, ◌==◌, Bool, true, false, true≢false, ◌-◌, sym, ap, ◌≡◌, if◌then◌else◌, List, [], ◌∷◌, ◌++◌, Option, None, Some, refl}
use Rattle.ca_law_endings.specs.Runs.{Leads}
use Rattle.ca_base.specs.Configuration.{Configuration}
use Rattle.ca_base.specs.declared.refusals.OpRefusal.{OpRefusal}
use Rattle.ca_base.specs.declared.request.SendOp.{SendOp}
use Rattle.ca_base.specs.declared.request.SendOp.TheVariants as ops
use Rattle.ca_base.specs.objects.QueuePair.{QueuePair}
use Rattle.ca_base.specs.objects.Region.{Region}
use Rattle.ca_base.specs.objects.Slices.{slot_of_key}
use Rattle.ca_base.specs.objects.Window.{Binding, Window}
use Rattle.ca_keys.specs.declared.key.Key.{Key}
use Rattle.ca_keys.specs.declared.names.DomainId.{DomainId}
use Rattle.ca_keys.specs.declared.rights.Rights.{Rights}
use Rattle.ca_model.specs.declared.mark.Mark.{Mark}
use Rattle.ca_model.specs.machine.LocalOperations.{Bind1_plan, Bind2_plan, Fast_plan, Finishing, Perform_op, PlacedRegion, With_former, With_named, bind1_changes, bind1_marks, bind1_refusal, bind2_changes, bind2_marks, bind2_refusal, drawn_by, fast_changes, fast_marks, fast_refusal, invalidate_row, operation_effects, region_slot, window_slot}
use Rattle.ca_model.specs.machine.Numbering.{Numbered}
use Rattle.ca_model.specs.machine.Plan.{Plan, Look, Update, Write}
use Rattle.ca_model.specs.machine.Row.{Effects, queue_and_marks, region_under, unless_none}
use Rattle.ca_model.specs.machine.World.{Region_of, World}
use Rattle.ca_law_endings.proofs.LeadsLemmas.{AreAside, leads-row, unless-aside}
use Rattle.ca_law_endings.proofs.InnerLemmas.{operation-inner}
use Rattle.ca_model.specs.machine.LocalOperations.{former_updates, named_updates}
use Rattle.ca_law_order.proofs.Polls.FlushedLemmas.{operation-ends, sending-well}
use Rattle.ca_law_order.proofs.Polls.StepLemmas.{IsStep}
use Rattle.ca_base.specs.declared.step.Reason.{Reason}
use Rattle.ca_base.specs.objects.LocalRequest.{LocalMarks}
use Rattle.ca_base.specs.objects.SharedReceives.{SharedReceives}
use Rattle.ca_keys.specs.Numbers.{is_window_key}
use Rattle.ca_keys.specs.Refusals.{first_of}
use Rattle.ca_law_world.proofs.Sound.TakenLemmas.{none-takes, operation-takes}
use Rattle.ca_law_world.proofs.Sound.TurnLemmas.{nothing-good, operation-good, sending-parts, turn_from}
use Rattle.ca_model.specs.machine.Invariants.{IsQueue}
use Rattle.ca_model.specs.machine.Requester.{Performs, RequestTurn, next_request, turn_of, turn_refusals}

aside-append : (xs ys : List Update) → AreAside xs → AreAside ys → AreAside (xs ++ ys)
aside-append [] ys one other = other
aside-append (x ∷ xs) ys one other = (one.0, aside-append xs ys one.1 other)

former-aside : (former : Option PlacedRegion) → AreAside (former_updates former)
former-aside None = record {}
former-aside (Some f) = (record {}, record {})

named-aside : (former named : Option PlacedRegion) → AreAside (named_updates former named)
named-aside former None = record {}
named-aside former (Some n) = (record {}, record {})

-- how an operation's plan may go on, with effects of this kind
abbrev pub GoesOn : World → (World → List Mark → Type 0) → (Effects → Type 0) → Finishing → Type 0
GoesOn w P E finish = (e : Effects) (cs : List Update) (ws : List Write) → E e → AreAside cs → Leads w P (finish e cs ws)

-- an operation's effects are of this kind, however many windows it counts
abbrev pub AllOperations : (Effects → Type 0) → QueuePair → Numbered → Type 0
AllOperations E q n = (windows : ℕ) (m : LocalMarks) (refusal : Option OpRefusal) → E (operation_effects q n (record q { windows = windows }) m refusal)

leads-named : (c : Configuration) (w : World) (P : World → List Mark → Type 0) (d : DomainId) (key : Key) (k : Option PlacedRegion → Plan) → ((r : Option PlacedRegion) → Leads w P (k r)) → Leads w P (With_named c d key k)
leads-named c w P d key k more = (λ named. more (Some (record { slot = slot_of_key d key; region = w.region (slot_of_key d key) })), λ none. more None)

leads-former : (w : World) (P : World → List Mark → Type 0) (x : Window) (k : Option PlacedRegion → Plan) → ((r : Option PlacedRegion) → Leads w P (k r)) → Leads w P (With_former x k)
leads-former w P x k more = by x.binding
  where
    former : Option Binding → Plan
    former None = k None
    former (Some b) = Look (Region_of (region_under x b)) (λ region. k (Some (record { slot = region_under x b; region = region })))

    by : (o : Option Binding) → Leads w P (former o)
    by None = more None
    by (Some b) = more (Some (record { slot = region_under x b; region = w.region (region_under x b) }))

leads-bind1 : (c : Configuration) (w : World) (P : World → List Mark → Type 0) (E : Effects → Type 0) (q : QueuePair) (n : Numbered) (window : ℕ) (key : Key) (address count : ℕ) (rights : Rights) (finish : Finishing)
    → AllOperations E q n → GoesOn w P E finish → Leads w P (Bind1_plan c q n window key address count rights finish)
leads-bind1 c w P E q n window key address count rights finish all more =
    leads-named c w P q.domain key (λ named. With_former x (λ former. ending named former)) (λ named.
    leads-former w P x (λ former. ending named former) (λ former.
    more (operation_effects q n q (bind1_marks q n window named address count rights x) (refusal named))
    (unless_none (refusal named) (bind1_changes (window_slot q window) (drawn_by n) x former named address count rights)) []
    (all q.windows (bind1_marks q n window named address count rights x) (refusal named))
    (unless-aside (refusal named) (bind1_changes (window_slot q window) (drawn_by n) x former named address count rights)
    (record {}, aside-append (former_updates former) (if count == 0 then [] else named_updates former named) (former-aside former) (regions named former (count == 0))))))
  where
    x : Window
    x = w.window (window_slot q window)

    refusal : Option PlacedRegion → Option OpRefusal
    refusal named = bind1_refusal n key named address count rights x

    regions : (named former : Option PlacedRegion) (b : Bool) → AreAside (if b then [] else named_updates former named)
    regions named former true = record {}
    regions named former false = named-aside former named

    ending : Option PlacedRegion → Option PlacedRegion → Plan
    ending named former = finish (operation_effects q n q (bind1_marks q n window named address count rights x) (refusal named))
        (unless_none (refusal named) (bind1_changes (window_slot q window) (drawn_by n) x former named address count rights)) []

leads-bind2 : (c : Configuration) (w : World) (P : World → List Mark → Type 0) (E : Effects → Type 0) (q : QueuePair) (n : Numbered) (window : ℕ) (key : Key) (low address count : ℕ) (rights : Rights) (finish : Finishing)
    → AllOperations E q n → GoesOn w P E finish → Leads w P (Bind2_plan c q n window key low address count rights finish)
leads-bind2 c w P E q n window key low address count rights finish all more =
    leads-named c w P q.domain key (λ named. With_former x (λ former. ending named)) (λ named.
    leads-former w P x (λ former. ending named) (λ former.
    more (operation_effects q n (record q { windows = suc q.windows }) (bind2_marks q window low named address count rights) (refusal named))
    (unless_none (refusal named) (bind2_changes (window_slot q window) low q.queue x named address count rights)) []
    (all (suc q.windows) (bind2_marks q window low named address count rights) (refusal named))
    (unless-aside (refusal named) (bind2_changes (window_slot q window) low q.queue x named address count rights) (record {}, named-aside None named))))
  where
    x : Window
    x = w.window (window_slot q window)

    refusal : Option PlacedRegion → Option OpRefusal
    refusal named = bind2_refusal key named address count rights x

    ending : Option PlacedRegion → Plan
    ending named = finish (operation_effects q n (record q { windows = suc q.windows }) (bind2_marks q window low named address count rights) (refusal named))
        (unless_none (refusal named) (bind2_changes (window_slot q window) low q.queue x named address count rights)) []

leads-fast : (c : Configuration) (w : World) (P : World → List Mark → Type 0) (E : Effects → Type 0) (q : QueuePair) (n : Numbered) (region low buffer address count : ℕ) (rights : Rights) (pages : List ℕ) (finish : Finishing)
    → AllOperations E q n → GoesOn w P E finish → Leads w P (Fast_plan c q n region low buffer address count rights pages finish)
leads-fast c w P E q n region low buffer address count rights pages finish all more =
    more (operation_effects q n q (fast_marks q region low buffer address count rights pages) refusal)
    (unless_none refusal (fast_changes q region low buffer address count rights pages r)) []
    (all q.windows (fast_marks q region low buffer address count rights pages) refusal)
    (unless-aside refusal (fast_changes q region low buffer address count rights pages r) (record {}, record {}))
  where
    r : Region
    r = w.region (region_slot q region)

    refusal : Option OpRefusal
    refusal = fast_refusal c q region buffer address count rights pages r

pub leads-operation : (c : Configuration) (w : World) (P : World → List Mark → Type 0) (E : Effects → Type 0) (q : QueuePair) (n : Numbered) (finish : Finishing) (op : SendOp) → E (queue_and_marks q [])
    → AllOperations E q n → GoesOn w P E finish → Leads w P (Perform_op c q n finish op)
leads-operation c w P E q n finish (ops.Bind1 window key address count rights) none all more = leads-bind1 c w P E q n window key address count rights finish all more
leads-operation c w P E q n finish (ops.Bind2 window key low address count rights) none all more = leads-bind2 c w P E q n window key low address count rights finish all more
leads-operation c w P E q n finish (ops.FastReg region low buffer address count rights pages) none all more = leads-fast c w P E q n region low buffer address count rights pages finish all more
leads-operation c w P E q n finish (ops.LocalInv key) none all more = leads-row c w P E (invalidate_row q n key) finish (record {
  denied = λ d. none;
  allowed = λ bytes refusal. all (if is_window_key key then q.windows - 1 else q.windows) (record { revoked = Some key; granted = None }) refusal;
}) more
leads-operation c w P E q n finish (ops.Send list) none all more = more (queue_and_marks q []) [] [] none (record {})
leads-operation c w P E q n finish (ops.SendImm imm list) none all more = more (queue_and_marks q []) [] [] none (record {})
leads-operation c w P E q n finish (ops.SendInv key list) none all more = more (queue_and_marks q []) [] [] none (record {})
leads-operation c w P E q n finish (ops.Write address key list) none all more = more (queue_and_marks q []) [] [] none (record {})
leads-operation c w P E q n finish (ops.WriteImm address key imm list) none all more = more (queue_and_marks q []) [] [] none (record {})
leads-operation c w P E q n finish (ops.Read address key list) none all more = more (queue_and_marks q []) [] [] none (record {})
leads-operation c w P E q n finish (ops.CmpSwap address key compare swap list) none all more = more (queue_and_marks q []) [] [] none (record {})
leads-operation c w P E q n finish (ops.FetchAdd address key add list) none all more = more (queue_and_marks q []) [] [] none (record {})

-- where an operation is performed, nothing refuses the turn
abbrev is_performed : RequestTurn → Bool
is_performed (Performs n) = true
is_performed turn = false

performs-free : (r : Option Reason) (o : Option Numbered) (n : Numbered) → turn_from r o ≡ Performs n → r ≡ None
performs-free (Some reason) o n e = absurd (true≢false (sym (ap is_performed e)))
performs-free None o n e = refl

-- a local operation is a step, and so is nothing at all
pub operation-step : (shared : Option SharedReceives) (q : QueuePair) (n : Numbered) → IsQueue q → turn_of q ≡ Performs n → AllOperations (IsStep shared q) q n
operation-step shared q n s turn windows m refusal = record {
  good = operation-good q n windows m refusal s turn;
  inner = operation-inner q (record q { windows = windows }) n m refusal refl refl;
  takes = none-takes shared q (operation_effects q n (record q { windows = windows }) m refusal) (operation-takes q n (record q { windows = windows }) m refusal);
  flushed = λ is. (operation-ends q n windows m refusal (sending-well q.state (sending-parts q (performs-free (first_of (turn_refusals q)) (next_request q) n turn)).0)).flushed;
}

pub nothing-step : (shared : Option SharedReceives) (q : QueuePair) → IsQueue q → IsStep shared q (queue_and_marks q [])
nothing-step shared q s = record {
  good = nothing-good q s;
  inner = record { incarnation = refl; peer = refl; marks = record {} };
  takes = none-takes shared q (queue_and_marks q []) refl;
  flushed = λ is. is;
}
