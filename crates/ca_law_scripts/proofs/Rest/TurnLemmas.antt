-- Where a response can be sent, a request, and where a local operation is performed. For proofs only.
use Rattle.std.proofs.Common.{◌≡◌, suc, Bool, true, false, not, if◌then◌else◌, List, [], ◌∷◌, ◌++◌, Option, None, Some, is_none, slice_get, refl, ap, sym, ◌∙◌, subst, true≢false}
use Rattle.ca_base.specs.Configuration.{Configuration}
use Rattle.ca_base.specs.declared.correspondent.Correspondent.{Correspondent}
use Rattle.ca_base.specs.declared.lot.Lot.{Lot}
use Rattle.ca_base.specs.declared.queue_numbers.Queued.{Queued}
use Rattle.ca_base.specs.declared.queue_numbers.Queued.TheVariants as queued
use Rattle.ca_base.specs.declared.refusals.OpRefusal.{OpRefusal}
use Rattle.ca_base.specs.declared.request.SendOp.{SendOp}
use Rattle.ca_base.specs.declared.request.SendOp.TheVariants as ops
use Rattle.ca_base.specs.declared.step.Reason.{Reason}
use Rattle.ca_base.specs.declared.step.Reason.TheVariants as reasons
use Rattle.ca_base.specs.objects.QueuePair.{QueuePair, Present}
use Rattle.ca_base.specs.objects.Slices.{has_queue, names_region, slot_of_key}
use Rattle.ca_base.specs.objects.Window.{Binding, Window}
use Rattle.ca_keys.specs.Refusals.{first_of}
use Rattle.ca_keys.specs.declared.key.Key.{Key}
use Rattle.ca_keys.specs.declared.names.DomainId.{DomainId}
use Rattle.ca_keys.specs.declared.names.QueueId.{QueueId}
use Rattle.ca_law_world.proofs.Sound.TurnLemmas.{turn_from}
use Rattle.ca_model.proofs.PerformLemmas.{around-performs, around_at, queue-performs}
use Rattle.ca_model.specs.Requests.{is_local}
use Rattle.ca_model.specs.machine.Around.{Around, With_around, updates_of}
use Rattle.ca_model.specs.machine.Invariants.{is_idle}
use Rattle.ca_model.specs.machine.LocalOperations.{Finishing, Perform_op, PlacedRegion, bind1_changes, bind1_marks, bind1_refusal, bind2_changes, bind2_marks, bind2_refusal, drawn_by, fast_changes, fast_marks, fast_refusal, invalidate_row, operation_effects, region_slot, window_slot, With_former, With_named}
use Rattle.ca_model.specs.machine.Numbering.{Numbered}
use Rattle.ca_model.specs.machine.Plan.{Finish, Look, Plan, Update, Write, perform}
use Rattle.ca_model.specs.machine.Requester.{Performs, Sends, is_outstanding, is_too_much, packet_row, turn_of}
use Rattle.ca_model.specs.machine.Respond.{answer_turn, respond_refusals, respond_row}
use Rattle.ca_model.specs.machine.Row.{Effects, Ending, NotPossible, Row, plain_row, queue_and_marks, region_under, unless_none}
use Rattle.ca_model.specs.machine.Turns.{Leave_plan, Request_around, Respond_around, has_room_for, request_plan, respond_plan}
use Rattle.ca_model.specs.machine.World.{Region_of, World}
use Rattle.ca_law_scripts.proofs.Rest.HappensLemmas.{AlwaysDoes, Happens, does, happens-row, is_done}

-- the first test fails, and none of the others refuses
pub first-none : {R : Type 0} (t : Bool) (r : R) (ts : List (Bool × R)) → t ≡ false → first_of ts ≡ None → first_of ((t, r) ∷ ts) ≡ None
first-none t r ts fails others = ap (λ b. if b then Some r else first_of ts) fails ∙ others

does-if : (b : Bool) (x y : Ending) → b ≡ false → does y ≡ true → does (if b then x else y) ≡ true
does-if b x y is rest = ap (λ b. does (if b then x else y)) is ∙ rest

cond-false : (b : Bool) (r s : Row) → b ≡ false → AlwaysDoes s → AlwaysDoes (if b then r else s)
cond-false true r s is rest = absurd (true≢false is)
cond-false false r s is rest = rest

-- ---- a response

answer-does : (q : QueuePair) (a : Queued) → AlwaysDoes (answer_turn q a)
answer-does q (queued.Ack psn) = record { denied = λ d. refl; allowed = λ bytes refusal. refl }
answer-does q (queued.Rnr psn) = record { denied = λ d. refl; allowed = λ bytes refusal. refl }
answer-does q (queued.Nak psn code) = record { denied = λ d. refl; allowed = λ bytes refusal. refl }
answer-does q (queued.Read psn key address left first envelope duplicate) = record { denied = λ d. refl; allowed = λ bytes refusal. refl }
answer-does q (queued.Atomic psn found duplicate) = record { denied = λ d. refl; allowed = λ bytes refusal. refl }

respond-does : (room : Bool) (q : QueuePair) (a : Queued) → room ≡ true → is_idle q.state ≡ false → slice_get q.responder.answers 0 ≡ Some a → AlwaysDoes (respond_row room q)
respond-does room q a roomy busy front =
    subst (λ r. AlwaysDoes (row r (slice_get q.responder.answers 0))) (sym none) (subst (λ o. AlwaysDoes (row None o)) (sym front) (answer-does q a))
  where
    row : Option Reason → Option Queued → Row
    row (Some reason) answer = plain_row (NotPossible reason)
    row None None = plain_row (NotPossible reasons.Empty)
    row None (Some answer) = answer_turn q answer

    none : first_of (respond_refusals room q) ≡ None
    none = first-none (is_idle q.state) reasons.State ((is_none (slice_get q.responder.answers 0), reasons.Empty) ∷ (not room, reasons.NoRoom) ∷ []) busy
        (first-none (is_none (slice_get q.responder.answers 0)) reasons.Empty ((not room, reasons.NoRoom) ∷ []) (ap is_none front) (first-none (not room) reasons.NoRoom [] (ap not roomy) refl))

pub respond-happens : (c : Configuration) (w : World) (name : QueueId) (lot : Lot) (q : QueuePair) (peer : Correspondent) (a : Queued) → has_queue c name ≡ true → w.queue name ≡ Present q
    → q.peer ≡ Some peer → has_room_for q peer (w.mailbox peer.queue) ≡ true → is_idle q.state ≡ false → slice_get q.responder.answers 0 ≡ Some a → Happens w (respond_plan c name lot)
respond-happens c w name lot q peer a has there named roomy busy front =
    ap is_done (queue-performs c w name reasons.State (λ p. With_around p (λ around. Respond_around c lot p around p.peer)) q has there)
    ∙ ap is_done (around-performs w q (λ around. Respond_around c lot q around q.peer))
    ∙ ap (λ o. is_done (perform w (Respond_around c lot q (around_at w q) o))) named
    ∙ happens-row c w (respond_row (has_room_for q peer (w.mailbox peer.queue)) q) (Leave_plan q (around_at w q) peer (w.mailbox peer.queue) lot)
    (respond-does _ q a roomy busy front) (λ e changes writes. refl)

-- ---- a local operation

named-happens : (c : Configuration) (w : World) (d : DomainId) (key : Key) (k : Option PlacedRegion → Plan) → ((o : Option PlacedRegion) → Happens w (k o)) → Happens w (With_named c d key k)
named-happens c w d key k all = by (names_region c d key)
  where
    placed : PlacedRegion
    placed = record { slot = slot_of_key d key; region = w.region (slot_of_key d key) }

    by : (b : Bool) → is_done (if b then perform w (k (Some placed)) else perform w (k None)) ≡ true
    by true = all (Some placed)
    by false = all None

former-happens : (w : World) (window : Window) (k : Option PlacedRegion → Plan) → ((o : Option PlacedRegion) → Happens w (k o)) → Happens w (With_former window k)
former-happens w window k all = by window.binding
  where
    plan : Option Binding → Plan
    plan None = k None
    plan (Some b) = Look (Region_of (region_under window b)) (λ region. k (Some (record { slot = region_under window b; region = region })))

    by : (o : Option Binding) → Happens w (plan o)
    by None = all None
    by (Some b) = all (Some (record { slot = region_under window b; region = w.region (region_under window b) }))

perform-happens : (c : Configuration) (w : World) (q : QueuePair) (n : Numbered) (finish : Finishing) → ((e : Effects) (changes : List Update) (writes : List Write) → Happens w (finish e changes writes))
    → (op : SendOp) → Happens w (Perform_op c q n finish op)
perform-happens c w q n finish done (ops.Send list) = done (queue_and_marks q []) [] []
perform-happens c w q n finish done (ops.SendImm imm list) = done (queue_and_marks q []) [] []
perform-happens c w q n finish done (ops.SendInv key list) = done (queue_and_marks q []) [] []
perform-happens c w q n finish done (ops.Write address key list) = done (queue_and_marks q []) [] []
perform-happens c w q n finish done (ops.WriteImm address key imm list) = done (queue_and_marks q []) [] []
perform-happens c w q n finish done (ops.Read address key list) = done (queue_and_marks q []) [] []
perform-happens c w q n finish done (ops.CmpSwap address key compare swap list) = done (queue_and_marks q []) [] []
perform-happens c w q n finish done (ops.FetchAdd address key add list) = done (queue_and_marks q []) [] []
perform-happens c w q n finish done (ops.Bind1 window key address count rights) =
    named-happens c w q.domain key (λ named. With_former v (plan named)) (λ named. former-happens w v (plan named) (λ former. done (effects named) (changes named former) []))
  where
    v : Window
    v = w.window (window_slot q window)

    refusal : Option PlacedRegion → Option OpRefusal
    refusal named = bind1_refusal n key named address count rights v

    effects : Option PlacedRegion → Effects
    effects named = operation_effects q n q (bind1_marks q n window named address count rights v) (refusal named)

    changes : Option PlacedRegion → Option PlacedRegion → List Update
    changes named former = unless_none (refusal named) (bind1_changes (window_slot q window) (drawn_by n) v former named address count rights)

    plan : Option PlacedRegion → Option PlacedRegion → Plan
    plan named former = finish (effects named) (changes named former) []
perform-happens c w q n finish done (ops.Bind2 window key low address count rights) =
    named-happens c w q.domain key (λ named. With_former v (plan named)) (λ named. former-happens w v (plan named) (λ former. done (effects named) (changes named) []))
  where
    v : Window
    v = w.window (window_slot q window)

    refusal : Option PlacedRegion → Option OpRefusal
    refusal named = bind2_refusal key named address count rights v

    effects : Option PlacedRegion → Effects
    effects named = operation_effects q n (record q { windows = suc q.windows }) (bind2_marks q window low named address count rights) (refusal named)

    changes : Option PlacedRegion → List Update
    changes named = unless_none (refusal named) (bind2_changes (window_slot q window) low q.queue v named address count rights)

    plan : Option PlacedRegion → Option PlacedRegion → Plan
    plan named former = finish (effects named) (changes named) []
perform-happens c w q n finish done (ops.FastReg region low buffer address count rights pages) =
    done (operation_effects q n q (fast_marks q region low buffer address count rights pages) refusal)
    (unless_none refusal (fast_changes q region low buffer address count rights pages (w.region (region_slot q region)))) []
  where
    refusal : Option OpRefusal
    refusal = fast_refusal c q region buffer address count rights pages (w.region (region_slot q region))
perform-happens c w q n finish done (ops.LocalInv key) = happens-row c w (invalidate_row q n key) finish (record { denied = λ d. refl; allowed = λ bytes refusal. refl }) done

-- ---- a request

-- with nothing outstanding, a packet that is not too much, and room for it, is sent, or its request fails
packet-does : (q : QueuePair) (room : Bool) (n : Numbered) → is_too_much q n ≡ false → is_outstanding q ≡ false → room ≡ true → AlwaysDoes (packet_row q room n)
packet-does q room n few none roomy = cond-false (is_too_much q n) _ _ few (record {
  denied = λ d. does-if (is_outstanding q) _ _ none (does-if (not room) _ _ (ap not roomy) refl);
  allowed = λ bytes refusal. does-if (not room) _ _ (ap not roomy) refl;
})

pub request-happens : (c : Configuration) (w : World) (name : QueueId) (lot : Lot) (q : QueuePair) (peer : Correspondent) (n : Numbered) → has_queue c name ≡ true → w.queue name ≡ Present q
    → q.peer ≡ Some peer → has_room_for q peer (w.mailbox peer.queue) ≡ true → is_outstanding q ≡ false → turn_of q ≡ turn_from None (Some n) → (is_local n.request.op ≡ false → is_too_much q n ≡ false)
    → Happens w (request_plan c name lot)
request-happens c w name lot q peer n has there named roomy none turn few =
    ap is_done (queue-performs c w name reasons.State (λ p. With_around p (λ around. Request_around c lot p around p.peer (turn_of p))) q has there)
    ∙ ap is_done (around-performs w q (λ around. Request_around c lot q around q.peer (turn_of q)))
    ∙ ap (λ o. is_done (perform w (Request_around c lot q a o (turn_of q)))) named
    ∙ ap (λ t. is_done (perform w (Request_around c lot q a (Some peer) t))) turn
    ∙ by (is_local n.request.op) refl
  where
    a : Around
    a = around_at w q

    by : (b : Bool) → is_local n.request.op ≡ b → Happens w (Request_around c lot q a (Some peer) (if b then Performs n else Sends n))
    by true is = perform-happens c w q n (λ e changes writes. Finish (updates_of q a e ++ changes) writes e.marks) (λ e changes writes. refl) n.request.op
    by false is = happens-row c w (packet_row q (has_room_for q peer (w.mailbox peer.queue)) n) (Leave_plan q a peer (w.mailbox peer.queue) lot)
        (packet-does q _ n (few is) none roomy) (λ e changes writes. refl)
