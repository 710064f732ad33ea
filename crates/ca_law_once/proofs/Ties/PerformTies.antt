-- A local operation keeps a world tied to a link: the walk over its plans. For proofs only.
use Rattle.std.proofs.Common.{◌≡◌, ap, ℕ, suc, ◌==◌, Bool, true, false, if◌then◌else◌, List, [], ◌∷◌, ◌++◌, Option, None, Some, refl, inl, map, arith}
use Rattle.ca_law_endings.specs.Runs.{Leads}
use Rattle.ca_base.specs.Configuration.{Configuration}
use Rattle.ca_base.specs.declared.refusals.OpRefusal.{OpRefusal}
use Rattle.ca_base.specs.declared.request.SendOp.{SendOp}
use Rattle.ca_base.specs.declared.request.SendOp.TheVariants as ops
use Rattle.ca_base.specs.objects.QueuePair.{QueuePair}
use Rattle.ca_base.specs.objects.Region.{Region}
use Rattle.ca_base.specs.objects.Slices.{slot_of_key}
use Rattle.ca_base.specs.objects.Window.{Binding, Window}
use Rattle.ca_keys.specs.declared.key.Key.{Key}
use Rattle.ca_keys.specs.declared.names.DomainId.{DomainId}
use Rattle.ca_keys.specs.declared.rights.Rights.{Rights}
use Rattle.ca_model.specs.declared.mark.Mark.{Mark}
use Rattle.ca_model.specs.machine.LocalOperations.{Bind1_plan, Bind2_plan, Fast_plan, Finishing, Perform_op, PlacedRegion, With_former, With_named, bind1_changes, bind1_marks, bind1_refusal, bind2_changes, bind2_marks, bind2_refusal, drawn_by, fast_changes, fast_marks, fast_refusal, invalidate_row, operation_effects, region_slot, window_slot, former_updates, named_updates}
use Rattle.ca_model.specs.machine.Numbering.{Numbered}
use Rattle.ca_model.specs.machine.Plan.{Plan, Look, Update, Write}
use Rattle.ca_model.specs.machine.Row.{Effects, queue_and_marks, region_under, unless_none}
use Rattle.ca_model.specs.machine.World.{Region_of, World}
use Rattle.ca_law_endings.proofs.LeadsLemmas.{AreAside, leads-row, unless-aside}
use Rattle.ca_law_endings.proofs.InnerLemmas.{operation-inner}
use Rattle.ca_law_world.proofs.Sound.WorldLemmas.{RowDoes}
use Rattle.ca_model.specs.machine.Expected.{with_window_gone}
use Rattle.ca_model.specs.machine.Invariants.{IsQueue}
use Rattle.ca_model.specs.machine.Requester.{Performs, turn_of}
use Rattle.ca_base.specs.objects.LocalRequest.{LocalMarks}
use Rattle.ca_base.specs.Sight.{Invalidation}
use Rattle.ca_law_once.proofs.Ties.QuietLemmas.{IsQuiet}
use Rattle.ca_law_once.proofs.Rows.KeepLemmas.{keeps-all}
use Rattle.ca_law_once.proofs.Rows.OperationLemmas.{operation-stays}
use Rattle.ca_law_once.proofs.Rows.TurnLemmas.{operation-responder, operation-state}
use Rattle.ca_law_once.specs.Sides.{said}

-- a local operation sends nothing
operation-quiet : (q : QueuePair) (n : Numbered) (windows : ℕ) (m : LocalMarks) (refusal : Option OpRefusal) → IsQueue q → turn_of q ≡ Performs n → IsQuiet q (operation_effects q n (record q { windows = windows }) m refusal)
operation-quiet q n windows m refusal s turn = record {
  incarnation = (operation-inner q (record q { windows = windows }) n m refusal refl refl).incarnation;
  peer = (operation-inner q (record q { windows = windows }) n m refusal refl refl).peer;
  state = operation-state q n windows m refusal;
  requester = λ d laid. let own = operation-stays d q n windows m refusal s laid turn in record {
    una = ap (λ x. x.una) own.requester;
    low = omega (arith, s.requester.outstanding, ap (λ x. x.cursor) own.requester);
    high = omega (arith, ap (λ x. x.cursor) own.requester);
    laid = own.laid;
  };
  responder = λ d mtu. operation-responder d q n windows m refusal mtu;
}

nothing-quiet : (q : QueuePair) → IsQueue q → IsQuiet q (queue_and_marks q [])
nothing-quiet q s = record {
  incarnation = refl;
  peer = refl;
  state = (inl refl, refl);
  requester = λ d laid. record { una = refl; low = s.requester.outstanding; high = omega arith; laid = laid };
  responder = λ d mtu. record { expected = refl; queue = keeps-all (map said q.responder.answers); results = refl; mtu = mtu };
}

invalidate-quiet : (q : QueuePair) (n : Numbered) (key : Key) → IsQueue q → turn_of q ≡ Performs n → RowDoes (IsQuiet q) (invalidate_row q n key)
invalidate-quiet q n key s turn = record {
  denied = λ d. nothing-quiet q s;
  allowed = λ bytes refusal. operation-quiet q n (with_window_gone i q).windows (record { revoked = Some key; granted = None }) refusal s turn;
}
  where
    i : Option Invalidation
    i = Some (record { queue = q.queue; domain = q.domain; key = key })

aside-append : (xs ys : List Update) → AreAside xs → AreAside ys → AreAside (xs ++ ys)
aside-append [] ys one other = other
aside-append (x ∷ xs) ys one other = (one.0, aside-append xs ys one.1 other)

former-aside : (former : Option PlacedRegion) → AreAside (former_updates former)
former-aside None = record {}
former-aside (Some f) = (record {}, record {})

named-aside : (former named : Option PlacedRegion) → AreAside (named_updates former named)
named-aside former None = record {}
named-aside former (Some n) = (record {}, record {})

-- how an operation's plan may go on
abbrev pub GoesOn : World → (World → List Mark → Type 0) → QueuePair → Finishing → Type 0
GoesOn w P q finish = (e : Effects) (cs : List Update) (ws : List Write) → IsQuiet q e → AreAside cs → Leads w P (finish e cs ws)

leads-named : (c : Configuration) (w : World) (P : World → List Mark → Type 0) (d : DomainId) (key : Key) (k : Option PlacedRegion → Plan) → ((r : Option PlacedRegion) → Leads w P (k r)) → Leads w P (With_named c d key k)
leads-named c w P d key k more = (λ named. more (Some (record { slot = slot_of_key d key; region = w.region (slot_of_key d key) })), λ none. more None)

leads-former : (w : World) (P : World → List Mark → Type 0) (x : Window) (k : Option PlacedRegion → Plan) → ((r : Option PlacedRegion) → Leads w P (k r)) → Leads w P (With_former x k)
leads-former w P x k more = by x.binding
  where
    former : Option Binding → Plan
    former None = k None
    former (Some b) = Look (Region_of (region_under x b)) (λ region. k (Some (record { slot = region_under x b; region = region })))

    by : (o : Option Binding) → Leads w P (former o)
    by None = more None
    by (Some b) = more (Some (record { slot = region_under x b; region = w.region (region_under x b) }))

leads-bind1 : (c : Configuration) (w : World) (P : World → List Mark → Type 0) (q : QueuePair) (n : Numbered) (window : ℕ) (key : Key) (address count : ℕ) (rights : Rights) (finish : Finishing)
    → IsQueue q → turn_of q ≡ Performs n → GoesOn w P q finish → Leads w P (Bind1_plan c q n window key address count rights finish)
leads-bind1 c w P q n window key address count rights finish sound turn more =
    leads-named c w P q.domain key (λ named. With_former x (λ former. ending named former)) (λ named.
    leads-former w P x (λ former. ending named former) (λ former.
    more (operation_effects q n q (bind1_marks q n window named address count rights x) (refusal named))
    (unless_none (refusal named) (bind1_changes (window_slot q window) (drawn_by n) x former named address count rights)) []
    (operation-quiet q n q.windows (bind1_marks q n window named address count rights x) (refusal named) sound turn)
    (unless-aside (refusal named) (bind1_changes (window_slot q window) (drawn_by n) x former named address count rights)
    (record {}, aside-append (former_updates former) (if count == 0 then [] else named_updates former named) (former-aside former) (regions named former (count == 0))))))
  where
    x : Window
    x = w.window (window_slot q window)

    refusal : Option PlacedRegion → Option OpRefusal
    refusal named = bind1_refusal n key named address count rights x

    regions : (named former : Option PlacedRegion) (b : Bool) → AreAside (if b then [] else named_updates former named)
    regions named former true = record {}
    regions named former false = named-aside former named

    ending : Option PlacedRegion → Option PlacedRegion → Plan
    ending named former = finish (operation_effects q n q (bind1_marks q n window named address count rights x) (refusal named))
        (unless_none (refusal named) (bind1_changes (window_slot q window) (drawn_by n) x former named address count rights)) []

leads-bind2 : (c : Configuration) (w : World) (P : World → List Mark → Type 0) (q : QueuePair) (n : Numbered) (window : ℕ) (key : Key) (low address count : ℕ) (rights : Rights) (finish : Finishing)
    → IsQueue q → turn_of q ≡ Performs n → GoesOn w P q finish → Leads w P (Bind2_plan c q n window key low address count rights finish)
leads-bind2 c w P q n window key low address count rights finish sound turn more =
    leads-named c w P q.domain key (λ named. With_former x (λ former. ending named)) (λ named.
    leads-former w P x (λ former. ending named) (λ former.
    more (operation_effects q n (record q { windows = suc q.windows }) (bind2_marks q window low named address count rights) (refusal named))
    (unless_none (refusal named) (bind2_changes (window_slot q window) low q.queue x named address count rights)) []
    (operation-quiet q n (suc q.windows) (bind2_marks q window low named address count rights) (refusal named) sound turn)
    (unless-aside (refusal named) (bind2_changes (window_slot q window) low q.queue x named address count rights) (record {}, named-aside None named))))
  where
    x : Window
    x = w.window (window_slot q window)

    refusal : Option PlacedRegion → Option OpRefusal
    refusal named = bind2_refusal key named address count rights x

    ending : Option PlacedRegion → Plan
    ending named = finish (operation_effects q n (record q { windows = suc q.windows }) (bind2_marks q window low named address count rights) (refusal named))
        (unless_none (refusal named) (bind2_changes (window_slot q window) low q.queue x named address count rights)) []

leads-fast : (c : Configuration) (w : World) (P : World → List Mark → Type 0) (q : QueuePair) (n : Numbered) (region low buffer address count : ℕ) (rights : Rights) (pages : List ℕ) (finish : Finishing)
    → IsQueue q → turn_of q ≡ Performs n → GoesOn w P q finish → Leads w P (Fast_plan c q n region low buffer address count rights pages finish)
leads-fast c w P q n region low buffer address count rights pages finish sound turn more =
    more (operation_effects q n q (fast_marks q region low buffer address count rights pages) refusal)
    (unless_none refusal (fast_changes q region low buffer address count rights pages r)) []
    (operation-quiet q n q.windows (fast_marks q region low buffer address count rights pages) refusal sound turn)
    (unless-aside refusal (fast_changes q region low buffer address count rights pages r) (record {}, record {}))
  where
    r : Region
    r = w.region (region_slot q region)

    refusal : Option OpRefusal
    refusal = fast_refusal c q region buffer address count rights pages r

pub leads-perform : (c : Configuration) (w : World) (P : World → List Mark → Type 0) (q : QueuePair) (n : Numbered) (finish : Finishing) (op : SendOp) → IsQueue q → turn_of q ≡ Performs n → GoesOn w P q finish → Leads w P (Perform_op c q n finish op)
leads-perform c w P q n finish (ops.Bind1 window key address count rights) sound turn more = leads-bind1 c w P q n window key address count rights finish sound turn more
leads-perform c w P q n finish (ops.Bind2 window key low address count rights) sound turn more = leads-bind2 c w P q n window key low address count rights finish sound turn more
leads-perform c w P q n finish (ops.FastReg region low buffer address count rights pages) sound turn more = leads-fast c w P q n region low buffer address count rights pages finish sound turn more
leads-perform c w P q n finish (ops.LocalInv key) sound turn more = leads-row c w P (IsQuiet q) (invalidate_row q n key) finish (invalidate-quiet q n key sound turn) more
leads-perform c w P q n finish (ops.Send list) sound turn more = more (queue_and_marks q []) [] [] (nothing-quiet q sound) (record {})
leads-perform c w P q n finish (ops.SendImm imm list) sound turn more = more (queue_and_marks q []) [] [] (nothing-quiet q sound) (record {})
leads-perform c w P q n finish (ops.SendInv key list) sound turn more = more (queue_and_marks q []) [] [] (nothing-quiet q sound) (record {})
leads-perform c w P q n finish (ops.Write address key list) sound turn more = more (queue_and_marks q []) [] [] (nothing-quiet q sound) (record {})
leads-perform c w P q n finish (ops.WriteImm address key imm list) sound turn more = more (queue_and_marks q []) [] [] (nothing-quiet q sound) (record {})
leads-perform c w P q n finish (ops.Read address key list) sound turn more = more (queue_and_marks q []) [] [] (nothing-quiet q sound) (record {})
leads-perform c w P q n finish (ops.CmpSwap address key compare swap list) sound turn more = more (queue_and_marks q []) [] [] (nothing-quiet q sound) (record {})
leads-perform c w P q n finish (ops.FetchAdd address key add list) sound turn more = more (queue_and_marks q []) [] [] (nothing-quiet q sound) (record {})
