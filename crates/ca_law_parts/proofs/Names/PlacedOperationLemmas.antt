-- The local operations and the requester's turn in a placed world.
use Rattle.std.proofs.Common.{◌≡◌, ℕ, suc, ◌+◌, ◌-◌, Bool, true, false, List, [], ◌∷◌, ◌++◌, Option, None, Some, IfSome, subst, ◌==◌, true≢false, if◌then◌else◌, refl}
use Rattle.std.specs.List.{AllByRecursion}
use Rattle.std.specs.Option.{option_or}
use Rattle.ca_base.specs.declared.lot.Lot.{Lot}
use Rattle.ca_keys.specs.declared.key.Key.{Key}
use Rattle.ca_keys.specs.declared.names.DomainId.{DomainId}
use Rattle.ca_keys.specs.declared.names.QueueId.{QueueId}
use Rattle.ca_keys.specs.declared.names.Slot.{Slot}
use Rattle.ca_keys.specs.declared.rights.Rights.{Rights}
use Rattle.ca_base.specs.declared.correspondent.Correspondent.{Correspondent}
use Rattle.ca_base.specs.declared.refusals.OpRefusal.{OpRefusal}
use Rattle.ca_base.specs.declared.request.PostedSend.{PostedSend}
use Rattle.ca_base.specs.declared.request.SendOp.{SendOp}
use Rattle.ca_base.specs.declared.request.SendOp.TheVariants as ops
use Rattle.ca_base.specs.declared.step.Reason.{Reason}
use Rattle.ca_base.specs.declared.step.Reason.TheVariants as reasons
use Rattle.ca_base.specs.Configuration.{Configuration}
use Rattle.ca_keys.specs.Refusals.{AllFail, first_of}
use Rattle.ca_base.specs.objects.LocalRequest.{bind1_request_refusals, bind2_request_refusals, of_window}
use Rattle.ca_base.specs.objects.QueuePair.{QueuePair}
use Rattle.ca_base.specs.objects.Region.{Region}
use Rattle.ca_base.specs.objects.Slices.{slot_of_key}
use Rattle.ca_base.specs.objects.WorkQueue.{items_from}
use Rattle.ca_base.specs.objects.Window.{Binding, Window, after_binding, binding_refusals, without_binding}
use Rattle.ca_model.specs.machine.Around.{With_around, updates_of}
use Rattle.ca_model.specs.machine.LocalOperations.{Finishing, PlacedRegion, Bind1_plan, Bind2_plan, Fast_plan, Perform_op, With_former, With_named, bind1_changes, bind1_marks, bind1_refusal, bind2_changes, bind2_marks, bind2_refusal, drawn_by, fast_changes, fast_marks, fast_refusal, former_updates, invalidate_row, named_slot, named_updates, operation_effects, region_slot, view_named, window_slot}
use Rattle.ca_model.specs.machine.Numbering.{Numbered, begun_requests, has_psn, next_to_begin, numbers_of, request_at, unfinished_requests}
use Rattle.ca_model.specs.Requests.{is_local, psns_of}
use Rattle.ca_model.specs.machine.Plan.{Plan, Look, Finish, Update, Write, names_written}
use Rattle.ca_model.specs.machine.Requester.{RequestTurn, Waits, Performs, Sends, next_request, packet_row, turn_of, turn_refusals}
use Rattle.ca_model.specs.machine.Row.{Effects, queue_and_marks, region_under, unless_none}
use Rattle.ca_model.specs.machine.Step.{has_named_slot}
use Rattle.ca_model.specs.machine.Turns.{Request_around, has_room_for, request_plan}
use Rattle.ca_model.specs.machine.World.{World, Queue_of, Region_of, Window_of}
use Rattle.ca_law_world.proofs.Sound.NumberingLemmas.{all-found, all-got, all-taken}
use Rattle.ca_law_world.proofs.Sound.TurnLemmas.{all-fail}
use Rattle.ca_law_world.proofs.Sound.VerbLemmas.{all-dropped}
use Rattle.ca_law_world.proofs.Sound.WorldLemmas.{around_in, shared_of}
use Rattle.ca_law_world.proofs.Windows.WindowBindLemmas.{named-region}
use Rattle.ca_law_parts.specs.Placed.{IsConfigured, IsPlacedBinding, IsPlacedThing}
use Rattle.ca_law_parts.proofs.Names.KeptLemmas.{Keeps, invalidate-keeps, operation-kept, packet-keeps}
use Rattle.ca_law_parts.proofs.Names.PlanLemmas.{AreConfigured, ArePlaced, IsFit, IsPlacedPlan, named-region-in, placed-append, placed-row, under-in, unless-placed}
use Rattle.ca_law_parts.proofs.Names.PlacedTurnLemmas.{IsPlacedHere, around-placed, left-placed, queue-placed, turn-placed}

-- a region that a key of the domain names, and one in which a window was bound
abbrev IsNamedRegion : Configuration → DomainId → PlacedRegion → Type 0
IsNamedRegion c d f = (f.slot.domain ≡ d) × IsConfigured c (Region_of f.slot)

abbrev IsNamed : Configuration → DomainId → Option PlacedRegion → Type 0
IsNamed c d o = IfSome o (IsNamedRegion c d)

abbrev IsFormer : Configuration → Option PlacedRegion → Type 0
IsFormer c o = IfSome o (λ f. IsConfigured c (Region_of f.slot))

named-placed : (c : Configuration) (w : World) (d : DomainId) (key : Key) (k : Option PlacedRegion → Plan)
    → ((r : Option PlacedRegion) → IsNamed c d r → IsPlacedPlan c w (k r)) → IsPlacedPlan c w (With_named c d key k)
named-placed c w d key k more = (
  λ named. (named-region-in c d key named, more (Some (record { slot = slot_of_key d key; region = w.region (slot_of_key d key) })) ((named-region c w d key named).domain, named-region-in c d key named)),
  λ none. more None (record {}),
)

former-placed : (c : Configuration) (w : World) (s : Slot) (k : Option PlacedRegion → Plan) → IsFit c w
    → ((r : Option PlacedRegion) → IsFormer c r → IsPlacedPlan c w (k r)) → IsPlacedPlan c w (With_former (w.window s) k)
former-placed c w s k fit more = by (w.window s).binding (fit.placed.things (Window_of s))
  where
    plan : Option Binding → Plan
    plan None = k None
    plan (Some b) = Look (Region_of (region_under (w.window s) b)) (λ region. k (Some (record { slot = region_under (w.window s) b; region = region })))

    by : (o : Option Binding) → IfSome o (IsPlacedBinding c s) → IsPlacedPlan c w (plan o)
    by None one = more None (record {})
    by (Some b) one = (
      under-in c w s b fit.sound one,
      more (Some (record { slot = region_under (w.window s) b; region = w.region (region_under (w.window s) b) })) (under-in c w s b fit.sound one),
    )

former-changes : (c : Configuration) (former : Option PlacedRegion) → IsFormer c former → ArePlaced c (former_updates former)
former-changes c None one = record {}
former-changes c (Some f) one = ((one, record {}), record {})

named-changes : (c : Configuration) (d : DomainId) (former named : Option PlacedRegion) → IsNamed c d named → ArePlaced c (named_updates former named)
named-changes c d former None one = record {}
named-changes c d former (Some n) one = ((one.1, record {}), record {})

-- the window after a bind over the named region, which is there unless the bind is refused
bound-placed : (c : Configuration) (s : Slot) (key : Key) (low : ℕ) (queue : Option QueueId) (x : Window) (named : Option PlacedRegion) (address count : ℕ) (rights : Rights) → IsNamed c s.domain named
    → IfSome queue (λ q. IsConfigured c (Queue_of q)) → AllFail (of_window (binding_refusals (view_named key named) address count rights))
    → IsPlacedThing c (Window_of s) (after_binding low queue (named_slot named) address count rights x)
bound-placed c s key low queue x None address count rights one of_queue fails = absurd (true≢false fails.0)
bound-placed c s key low queue x (Some f) address count rights one of_queue fails = record {
  region = subst (λ (d : DomainId). IsConfigured c (Region_of (record { domain = d; slot = f.slot.slot }))) one.0 one.1;
  queue = of_queue;
}

bind1-changed : (c : Configuration) (q : QueuePair) (n : Numbered) (window : ℕ) (key : Key) (x : Window) (former named : Option PlacedRegion) (address count : ℕ) (rights : Rights)
    (refusal : Option OpRefusal) → bind1_refusal n key named address count rights x ≡ refusal → IsConfigured c (Window_of (window_slot q window)) → IsFormer c former → IsNamed c q.domain named
    → ArePlaced c (unless_none refusal (bind1_changes (window_slot q window) (drawn_by n) x former named address count rights))
bind1-changed c q n window key x former named address count rights (Some refusal) e has former-in named-in = record {}
bind1-changed c q n window key x former named address count rights None e has former-in named-in = (
  (has, after (count == 0) (all-fail (bind1_request_refusals n.drawn (view_named key named) address count rights x) e).1.1.1),
  placed-append c (former_updates former) (if count == 0 then [] else named_updates former named) (former-changes c former former-in) (regions (count == 0)),
)
  where
    after : (b : Bool) → AllFail (of_window (if b then [] else binding_refusals (view_named key named) address count rights))
        → IsPlacedThing c (Window_of (window_slot q window)) (if b then without_binding x else after_binding (drawn_by n) None (named_slot named) address count rights x)
    after true fails = record {}
    after false fails = bound-placed c (window_slot q window) key (drawn_by n) None x named address count rights named-in (record {}) fails

    regions : (b : Bool) → ArePlaced c (if b then [] else named_updates former named)
    regions true = record {}
    regions false = named-changes c q.domain former named named-in

bind2-changed : (c : Configuration) (q : QueuePair) (window : ℕ) (key : Key) (low : ℕ) (x : Window) (named : Option PlacedRegion) (address count : ℕ) (rights : Rights)
    (refusal : Option OpRefusal) → bind2_refusal key named address count rights x ≡ refusal → IsConfigured c (Window_of (window_slot q window)) → IsConfigured c (Queue_of q.queue)
    → IsNamed c q.domain named → ArePlaced c (unless_none refusal (bind2_changes (window_slot q window) low q.queue x named address count rights))
bind2-changed c q window key low x named address count rights (Some refusal) e has of_queue named-in = record {}
bind2-changed c q window key low x named address count rights None e has of_queue named-in = (
  (
    has,
    bound-placed c (window_slot q window) key low (Some q.queue) x named address count rights named-in of_queue
        (all-fail (bind2_request_refusals (view_named key named) address count rights x) e).1.1.1.1,
  ),
  named-changes c q.domain None named named-in,
)

-- how an operation's plan may go on
abbrev GoesOn : Configuration → World → QueuePair → Finishing → Type 0
GoesOn c w q finish = (e : Effects) (cs : List Update) (ws : List Write) → Keeps q e → ArePlaced c cs → AreConfigured c (names_written ws) → IsPlacedPlan c w (finish e cs ws)

bind1-placed : (c : Configuration) (w : World) (q : QueuePair) (n : Numbered) (window : ℕ) (key : Key) (address count : ℕ) (rights : Rights) (finish : Finishing) → IsFit c w
    → IsConfigured c (Window_of (window_slot q window)) → GoesOn c w q finish → IsPlacedPlan c w (Bind1_plan c q n window key address count rights finish)
bind1-placed c w q n window key address count rights finish fit has more = (
  has,
  named-placed c w q.domain key (λ named. With_former x (λ former. ending named former)) (λ named named-in.
      former-placed c w slot (λ former. ending named former) fit (λ former former-in.
      more (effects named) (unless_none (refusal named) (changed named former)) []
      (operation-kept q q n (bind1_marks q n window named address count rights x) (refusal named) refl)
      (bind1-changed c q n window key x former named address count rights (refusal named) refl has former-in named-in) (record {}))),
)
  where
    slot : Slot
    slot = window_slot q window

    x : Window
    x = w.window slot

    refusal : Option PlacedRegion → Option OpRefusal
    refusal named = bind1_refusal n key named address count rights x

    changed : Option PlacedRegion → Option PlacedRegion → List Update
    changed named former = bind1_changes slot (drawn_by n) x former named address count rights

    effects : Option PlacedRegion → Effects
    effects named = operation_effects q n q (bind1_marks q n window named address count rights x) (refusal named)

    ending : Option PlacedRegion → Option PlacedRegion → Plan
    ending named former = finish (effects named) (unless_none (refusal named) (changed named former)) []

bind2-placed : (c : Configuration) (w : World) (q : QueuePair) (n : Numbered) (window : ℕ) (key : Key) (low address count : ℕ) (rights : Rights) (finish : Finishing) → IsFit c w
    → IsConfigured c (Window_of (window_slot q window)) → IsConfigured c (Queue_of q.queue) → GoesOn c w q finish → IsPlacedPlan c w (Bind2_plan c q n window key low address count rights finish)
bind2-placed c w q n window key low address count rights finish fit has of_queue more = (
  has,
  named-placed c w q.domain key (λ named. With_former x (λ former. ending named)) (λ named named-in.
      former-placed c w slot (λ former. ending named) fit (λ former former-in.
      more (effects named) (unless_none (refusal named) (changed named)) []
      (operation-kept q after n (bind2_marks q window low named address count rights) (refusal named) refl)
      (bind2-changed c q window key low x named address count rights (refusal named) refl has of_queue named-in) (record {}))),
)
  where
    slot : Slot
    slot = window_slot q window

    x : Window
    x = w.window slot

    after : QueuePair
    after = record q { windows = suc q.windows }

    refusal : Option PlacedRegion → Option OpRefusal
    refusal named = bind2_refusal key named address count rights x

    changed : Option PlacedRegion → List Update
    changed named = bind2_changes slot low q.queue x named address count rights

    effects : Option PlacedRegion → Effects
    effects named = operation_effects q n after (bind2_marks q window low named address count rights) (refusal named)

    ending : Option PlacedRegion → Plan
    ending named = finish (effects named) (unless_none (refusal named) (changed named)) []

fast-placed : (c : Configuration) (w : World) (q : QueuePair) (n : Numbered) (region low buffer address count : ℕ) (rights : Rights) (pages : List ℕ) (finish : Finishing)
    → IsConfigured c (Region_of (region_slot q region)) → GoesOn c w q finish → IsPlacedPlan c w (Fast_plan c q n region low buffer address count rights pages finish)
fast-placed c w q n region low buffer address count rights pages finish has more = (
  has,
  more (operation_effects q n q (fast_marks q region low buffer address count rights pages) refusal) (unless_none refusal (fast_changes q region low buffer address count rights pages r)) []
      (operation-kept q q n (fast_marks q region low buffer address count rights pages) refusal refl)
      (unless-placed c refusal (fast_changes q region low buffer address count rights pages r) ((has, record {}), record {})) (record {}),
)
  where
    r : Region
    r = w.region (region_slot q region)

    refusal : Option OpRefusal
    refusal = fast_refusal c q region buffer address count rights pages r

perform-placed : (c : Configuration) (w : World) (q : QueuePair) (n : Numbered) (finish : Finishing) (op : SendOp) → IsFit c w → IsConfigured c (Queue_of q.queue)
    → has_named_slot c q.domain op ≡ true → GoesOn c w q finish → IsPlacedPlan c w (Perform_op c q n finish op)
perform-placed c w q n finish (ops.Bind1 window key address count rights) fit of_queue has more = bind1-placed c w q n window key address count rights finish fit has more
perform-placed c w q n finish (ops.Bind2 window key low address count rights) fit of_queue has more = bind2-placed c w q n window key low address count rights finish fit has of_queue more
perform-placed c w q n finish (ops.FastReg region low buffer address count rights pages) fit of_queue has more =
    fast-placed c w q n region low buffer address count rights pages finish has more
perform-placed c w q n finish (ops.LocalInv key) fit of_queue has more = placed-row c w (Keeps q) (invalidate_row q n key) finish fit (invalidate-keeps q n key) more
perform-placed c w q n finish (ops.Send list) fit of_queue has more = more (queue_and_marks q []) [] [] refl (record {}) (record {})
perform-placed c w q n finish (ops.SendImm imm list) fit of_queue has more = more (queue_and_marks q []) [] [] refl (record {}) (record {})
perform-placed c w q n finish (ops.SendInv key list) fit of_queue has more = more (queue_and_marks q []) [] [] refl (record {}) (record {})
perform-placed c w q n finish (ops.Write address key list) fit of_queue has more = more (queue_and_marks q []) [] [] refl (record {}) (record {})
perform-placed c w q n finish (ops.WriteImm address key imm list) fit of_queue has more = more (queue_and_marks q []) [] [] refl (record {}) (record {})
perform-placed c w q n finish (ops.Read address key list) fit of_queue has more = more (queue_and_marks q []) [] [] refl (record {}) (record {})
perform-placed c w q n finish (ops.CmpSwap address key compare swap list) fit of_queue has more = more (queue_and_marks q []) [] [] refl (record {}) (record {})
perform-placed c w q n finish (ops.FetchAdd address key add list) fit of_queue has more = more (queue_and_marks q []) [] [] refl (record {}) (record {})

-- a request whose local operation names a configured slot
abbrev pub IsNamedRequest : Configuration → QueuePair → Numbered → Type 0
IsNamedRequest c q n = has_named_slot c q.domain n.request.op ≡ true

abbrev pub IsNamedTurn : Configuration → QueuePair → RequestTurn → Type 0
IsNamedTurn c q (Waits reason) = Unit {0}
IsNamedTurn c q (Performs n) = IsNamedRequest c q n
IsNamedTurn c q (Sends n) = Unit {0}

numbers-named : (c : Configuration) (q : QueuePair) (mtu place psn : ℕ) (ps : List PostedSend) → AllByRecursion (λ p. has_named_slot c q.domain p.request.op ≡ true) ps
    → AllByRecursion (IsNamedRequest c q) (numbers_of mtu place psn ps)
numbers-named c q mtu place psn [] all = record {}
numbers-named c q mtu place psn (p ∷ ps) all = (all.0, numbers-named c q mtu (suc place) (psn + psns_of mtu p.request.op) ps all.1)

pub turn-named : (c : Configuration) (w : World) (q : QueuePair) → IsPlacedHere c w q → IsNamedTurn c q (turn_of q)
turn-named c w q here = by (first_of (turn_refusals q)) (next_request q) (next (request_at q.requester.cursor q) begun)
  where
    all : AllByRecursion (IsNamedRequest c q) (unfinished_requests q)
    all = numbers-named c q q.responder.mtu q.requester.oldest q.requester.oldest_psn (items_from q.requester.oldest q.sends)
        (all-dropped (λ p. has_named_slot c q.domain p.request.op ≡ true) (q.requester.oldest - q.sends.first) q.sends.items here.placed.posted)

    begun : IfSome (request_at q.requester.cursor q) (IsNamedRequest c q)
    begun = all-found (IsNamedRequest c q) (has_psn q.requester.cursor) (begun_requests q) (all-taken (IsNamedRequest c q) (q.requester.next - q.requester.oldest) (unfinished_requests q) all)

    next : (o : Option Numbered) → IfSome o (IsNamedRequest c q) → IfSome (option_or o (next_to_begin q)) (IsNamedRequest c q)
    next None one = all-got (IsNamedRequest c q) (unfinished_requests q) (q.requester.next - q.requester.oldest) all
    next (Some n) one = one

    turn : Option Reason → Option Numbered → RequestTurn
    turn (Some reason) n = Waits reason
    turn None None = Waits reasons.Empty
    turn None (Some n) = if is_local n.request.op then Performs n else Sends n

    local : (n : Numbered) (b : Bool) → IsNamedRequest c q n → IsNamedTurn c q (if b then Performs n else Sends n)
    local n true one = one
    local n false one = record {}

    by : (r : Option Reason) (o : Option Numbered) → IfSome o (IsNamedRequest c q) → IsNamedTurn c q (turn r o)
    by (Some reason) o one = record {}
    by None None one = record {}
    by None (Some n) one = local n (is_local n.request.op) one

pub request-placed : (c : Configuration) (w : World) (name : QueueId) (lot : Lot) → IsFit c w → IsPlacedPlan c w (request_plan c name lot)
request-placed c w name lot fit = queue-placed c w name reasons.State (λ q. With_around q (λ a. Request_around c lot q a q.peer (turn_of q))) fit
    (λ q here. around-placed c w q (λ a. Request_around c lot q a q.peer (turn_of q)) here (by q here q.peer here.placed.peer (turn_of q) (turn-named c w q here)))
  where
    by : (q : QueuePair) → IsPlacedHere c w q → (peer : Option Correspondent) → IfSome peer (λ p. IsConfigured c (Queue_of p.queue)) → (turn : RequestTurn) → IsNamedTurn c q turn
        → IsPlacedPlan c w (Request_around c lot q (around_in w q (shared_of w q)) peer turn)
    by q here peer named (Waits reason) one = record {}
    by q here peer named (Performs n) one = perform-placed c w q n (λ e changes writes. Finish (updates_of q (around_in w q (shared_of w q)) e ++ changes) writes e.marks)
        n.request.op fit here.name one (λ e cs ws keeps placed bytes. (turn-placed c w q e cs fit here keeps placed, bytes))
    by q here None named (Sends n) one = record {}
    by q here (Some peer) named (Sends n) one = (
      named,
      left-placed c w q peer lot (packet_row q (has_room_for q peer (w.mailbox peer.queue)) n) fit here named
          (packet-keeps q (has_room_for q peer (w.mailbox peer.queue)) n),
    )
