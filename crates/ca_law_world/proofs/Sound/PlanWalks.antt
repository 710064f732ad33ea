-- Walks over plans: what each ending of a plan leaves, whatever is asked of its changes. Each law that goes over all events
-- cites them, and says of the changes alone what it asks.
use Rattle.std.proofs.Common.{◌≡◌, ℕ, Bool, false, List, [], ◌∷◌, ◌++◌, Option, None, Some, ◌&&◌, ◌==◌, not, is_none, refl, rules, nat_lt, take}
use Rattle.std.specs.Option.{option_and_then, option_map}
use Rattle.ca_base.specs.Configuration.{Configuration}
use Rattle.ca_base.specs.declared.change.Change as state_change
use Rattle.ca_base.specs.declared.change.Change.TheVariants as changes
use Rattle.ca_base.specs.declared.change.Field.TheVariants as fields
use Rattle.ca_base.specs.declared.completion.Completion.{Completion}
use Rattle.ca_base.specs.declared.correspondent.Correspondent.{Correspondent}
use Rattle.ca_base.specs.declared.lot.Lot.{Lot}
use Rattle.ca_base.specs.declared.request.SendOp.{SendOp}
use Rattle.ca_base.specs.declared.request.SendOp.TheVariants as ops
use Rattle.ca_base.specs.declared.request.SendRequest.{SendRequest}
use Rattle.ca_base.specs.declared.step.Reason.TheVariants as reasons
use Rattle.ca_base.specs.objects.CompletionQueue.{CompletionQueue, after_reserve}
use Rattle.ca_base.specs.objects.Domain.{with_object, without_object}
use Rattle.ca_base.specs.objects.Mailbox.{after_delivery, bytes_lent, with_peer}
use Rattle.ca_base.specs.objects.QueuePair.{QueuePair, QueueSlot, NoQueue, Present, is_present, recv_cq_of, send_cq_of}
use Rattle.ca_base.specs.objects.Region.{with_window_unbound}
use Rattle.ca_base.specs.objects.SharedReceives.{SharedReceives, SrqSlot}
use Rattle.ca_base.specs.objects.StateTable.{modify_refusals, queue_after_change}
use Rattle.ca_base.specs.objects.Window.{Binding, Window, after_deallocation, after_draw, byte_drawn, key_of_window}
use Rattle.ca_keys.specs.Numbers.{queue_of}
use Rattle.ca_keys.specs.Refusals.{AllFail}
use Rattle.ca_keys.specs.declared.key.Key.{Key}
use Rattle.ca_keys.specs.declared.rights.Rights.{Rights}
use Rattle.ca_keys.specs.declared.names.QueueId.{QueueId}
use Rattle.ca_keys.specs.declared.names.Slot.{Slot}
use Rattle.ca_model.specs.declared.answer.Answer.TheVariants as answers
use Rattle.ca_model.specs.declared.answer.Refusal.{Refusal}
use Rattle.ca_model.specs.declared.answer.Refusal.TheVariants.{CqTooSmall, NoSuch, OutOfRange, WindowsBound}
use Rattle.ca_model.specs.declared.mark.Mark.{Mark}
use Rattle.ca_model.specs.declared.mark.Mark.TheVariants as marks
use Rattle.ca_model.specs.machine.Around.{Around, With_around, cq_updates, updates_of}
use Rattle.ca_model.specs.machine.CompletionVerbs.{Poll_of, Take_plan, With_places, poll_plan, receives_after_poll, slot_after_poll, source_of_completion}
use Rattle.ca_model.specs.machine.Completions.{flush_marks}
use Rattle.ca_model.specs.machine.Delivery.{Arrive, deliver_plan}
use Rattle.ca_model.specs.machine.HostVerbs.{inject_plan}
use Rattle.ca_model.specs.machine.LocalOperations.{Bind1_plan, Bind2_plan, Fast_plan, Finishing, Perform_op, invalidate_row}
use Rattle.ca_model.specs.machine.Numbering.{Numbered}
use Rattle.ca_model.specs.machine.Plan.{Plan, Stuck, Look, If, Finish, Update, ◌:=◌, unless_refused}
use Rattle.ca_model.specs.machine.PostingVerbs.{Posted_send, post_send_plan}
use Rattle.ca_model.specs.machine.QueuePairVerbs
use Rattle.ca_model.specs.machine.QueuePairVerbs.{Creation, With_present, With_shared, before_receives, beside, create_qp_plan, destroy_qp_plan, emptied_updates, has_bad_depth, has_no_room, left_updates, modify_qp_plan, new_queue, receive_reserve, receive_room, send_reserved, user_updates, without_queue}
use Rattle.ca_model.specs.machine.Requester.{RequestTurn, Waits, Performs, Sends, packet_row, turn_of}
use Rattle.ca_model.specs.machine.Respond.{respond_row}
use Rattle.ca_model.specs.machine.Row.{Row, Row_plan, queue_and_marks, region_under}
use Rattle.ca_model.specs.machine.Sound.{IsQueueOf, IsSoundWorld}
use Rattle.ca_model.specs.machine.Timers.{after_timeout, after_wake, timeout_refusals, wake_refusals}
use Rattle.ca_model.specs.machine.Turns.{Fire, Leave_plan, Request_around, Respond_around, Timeout_around, With_receives, has_room_for, reaches_peer, request_plan, respond_plan, timeout_plan, wake_plan}
use Rattle.ca_model.specs.machine.VerbAnswers.{Answer_plan, Call, Refuse_plan, Unless_plan, answer_mark, of_change_refusals}
use Rattle.ca_model.specs.machine.WindowVerbs.{With_binder, dealloc_mw_plan, queue_updates}
use Rattle.ca_model.specs.machine.World.{World, Cq_of, Domain_of, Mailbox_of, Queue_of, Region_of, Srq_of, Window_of}
use Rattle.ca_law_world.proofs.Sound.WorldLemmas.{EndsIn, IsThere, around_in, ends-around, ends-queue, is-there, shared_of}

-- where a test refuses, nothing is looked at or changed
pub ends-unless : {R : Type 0} (w : World) (P : List Update → Type 0) (tests : List (Bool × R)) (refuse : R → Plan) (p : Plan) → ((r : R) → EndsIn w P (refuse r))
    → (AllFail tests → EndsIn w P p) → EndsIn w P (unless_refused tests refuse p)
ends-unless w P [] refuse p refused more = more (record {})
ends-unless w P (t ∷ ts) refuse p refused more = (λ is. refused t.1, λ is. ends-unless w P ts refuse p refused (λ fails. more (is, fails)))

-- a verb that is refused, or goes on
pub walk-call : (w : World) (P : List Update → Type 0) (call : Call) (tests : List (Bool × Refusal)) (p : Plan) → P [] → (AllFail tests → EndsIn w P p) → EndsIn w P (Unless_plan call tests p)
walk-call w P call tests p none more = ends-unless w P tests (Refuse_plan call) p (λ r. none) more

-- a packet that a turn of an engine leaves, if there is one, goes to the peer
abbrev pub Left : Configuration → World → Lot → QueuePair → Correspondent → Row → Plan
Left c w lot q peer row = Row_plan c row (Leave_plan q (around_in w q (shared_of w q)) peer (w.mailbox peer.queue) lot)

pub walk-respond : (c : Configuration) (w : World) (P : List Update → Type 0) (name : QueueId) (lot : Lot) → IsSoundWorld c w
    → ((q : QueuePair) (peer : Correspondent) → IsThere w q → EndsIn w P (Left c w lot q peer (respond_row (has_room_for q peer (w.mailbox peer.queue)) q))) → EndsIn w P (respond_plan c name lot)
walk-respond c w P name lot sound answer = ends-queue c w P name reasons.State (λ q. With_around q (λ a. Respond_around c lot q a q.peer)) sound
    (λ q there. ends-around w P q (λ a. Respond_around c lot q a q.peer) (by q there q.peer))
  where
    by : (q : QueuePair) → IsThere w q → (peer : Option Correspondent) → EndsIn w P (Respond_around c lot q (around_in w q (shared_of w q)) peer)
    by q there None = search rules
    by q there (Some peer) = answer q peer there

pub walk-request : (c : Configuration) (w : World) (P : List Update → Type 0) (name : QueueId) (lot : Lot) → IsSoundWorld c w
    → ((q : QueuePair) (n : Numbered) → IsThere w q → turn_of q ≡ Performs n
    → EndsIn w P (Perform_op c q n (λ e changes writes. Finish (updates_of q (around_in w q (shared_of w q)) e ++ changes) writes e.marks) n.request.op))
    → ((q : QueuePair) (n : Numbered) (peer : Correspondent) → IsThere w q → turn_of q ≡ Sends n → EndsIn w P (Left c w lot q peer (packet_row q (has_room_for q peer (w.mailbox peer.queue)) n)))
    → EndsIn w P (request_plan c name lot)
walk-request c w P name lot sound performs sends = ends-queue c w P name reasons.State (λ q. With_around q (λ a. Request_around c lot q a q.peer (turn_of q))) sound
    (λ q there. ends-around w P q (λ a. Request_around c lot q a q.peer (turn_of q)) (by q there q.peer (turn_of q) refl))
  where
    by : (q : QueuePair) → IsThere w q → (peer : Option Correspondent) (turn : RequestTurn) → turn_of q ≡ turn → EndsIn w P (Request_around c lot q (around_in w q (shared_of w q)) peer turn)
    by q there peer (Waits reason) turn = record {}
    by q there peer (Performs n) turn = performs q n there turn
    by q there None (Sends n) turn = record {}
    by q there (Some peer) (Sends n) turn = sends q n peer there turn

pub walk-timeout : (c : Configuration) (w : World) (P : List Update → Type 0) (name : QueueId) (hasten : Bool) → IsSoundWorld c w
    → ((q : QueuePair) (silent : Bool) → IsThere w q → AllFail (timeout_refusals silent hasten q) → P (updates_of q (around_in w q (shared_of w q)) (after_timeout silent q)))
    → EndsIn w P (timeout_plan c name hasten)
walk-timeout c w P name hasten sound fires =
    ends-queue c w P name reasons.State (λ q. Look (Mailbox_of name) (λ own. With_around q (λ a. Timeout_around hasten q own a q.peer))) sound
    (λ q there. ends-around w P q (λ a. Timeout_around hasten q (w.mailbox name) a q.peer) (by q there q.peer))
  where
    fire : (q : QueuePair) → IsThere w q → (silent : Bool) → EndsIn w P (Fire hasten q (around_in w q (shared_of w q)) silent)
    fire q there silent = ends-unless w P (timeout_refusals silent hasten q) Stuck
        (Finish (updates_of q (around_in w q (shared_of w q)) (after_timeout silent q)) [] (after_timeout silent q).marks) (λ r. record {}) (fires q silent there)

    by : (q : QueuePair) → IsThere w q → (peer : Option Correspondent) → EndsIn w P (Timeout_around hasten q (w.mailbox name) (around_in w q (shared_of w q)) peer)
    by q there None = search rules
    by q there (Some peer) = fire q there _

pub walk-wake : (c : Configuration) (w : World) (P : List Update → Type 0) (name : QueueId) → IsSoundWorld c w
    → ((q : QueuePair) → IsThere w q → P ((Queue_of q.queue := Present (after_wake q).queue) ∷ [])) → EndsIn w P (wake_plan c name)
walk-wake c w P name sound wakes-up = ends-queue c w P name reasons.State (λ q. plan q q.peer) sound (λ q there. by q there q.peer)
  where
    wakes : QueuePair → Bool → Plan
    wakes q empty = unless_refused (wake_refusals empty q) Stuck (Finish ((Queue_of q.queue := Present (after_wake q).queue) ∷ []) [] (after_wake q).marks)

    plan : QueuePair → Option Correspondent → Plan
    plan q None = unless_refused (wake_refusals false q) Stuck (Stuck reasons.Empty)
    plan q (Some peer) = Look (Queue_of peer.queue) (λ slot. Look (Mailbox_of peer.queue) (λ m.
        With_receives slot (λ empty. wakes q (reaches_peer q peer m && empty))))

    wake : (q : QueuePair) → IsThere w q → (empty : Bool) → EndsIn w P (wakes q empty)
    wake q there empty = ends-unless w P (wake_refusals empty q) Stuck (Finish ((Queue_of q.queue := Present (after_wake q).queue) ∷ []) [] (after_wake q).marks)
        (λ r. record {}) (λ fails. wakes-up q there)

    receives : (slot : QueueSlot) (k : Bool → Plan) → ((b : Bool) → EndsIn w P (k b)) → EndsIn w P (With_receives slot k)
    receives slot k more = search rules

    by : (q : QueuePair) → IsThere w q → (peer : Option Correspondent) → EndsIn w P (plan q peer)
    by q there None = search rules
    by q there (Some peer) = receives (w.queue peer.queue) (λ empty. wakes q (reaches_peer q peer (w.mailbox peer.queue) && empty)) (λ empty. wake q there _)

pub walk-deliver : (c : Configuration) (w : World) (P : List Update → Type 0) (name : QueueId) (index : ℕ) → IsSoundWorld c w
    → ((q : QueuePair) (bytes : List ℕ) → IsThere w q → EndsIn w P (Arrive c q bytes (Some index) ((Mailbox_of name := after_delivery index (w.mailbox name)) ∷ []) []))
    → EndsIn w P (deliver_plan c name index)
walk-deliver c w P name index sound arrives = (λ has. lent (bytes_lent index (w.mailbox name)), λ none. record {})
  where
    at : List ℕ → QueueSlot → Plan
    at bytes (NoQueue incarnation timers) = Stuck reasons.NotKept
    at bytes (Present q) = Arrive c q bytes (Some index) ((Mailbox_of name := after_delivery index (w.mailbox name)) ∷ []) []

    plan : Option (List ℕ) → Plan
    plan None = Stuck reasons.NotKept
    plan (Some bytes) = Look (Queue_of name) (at bytes)

    there : (bytes : List ℕ) (s : QueueSlot) → w.queue name ≡ s → IsQueueOf name s → EndsIn w P (at bytes s)
    there bytes (NoQueue incarnation timers) is one = record {}
    there bytes (Present q) is one = arrives q bytes (is-there w name q is one)

    lent : (o : Option (List ℕ)) → EndsIn w P (plan o)
    lent None = record {}
    lent (Some bytes) = there bytes (w.queue name) refl (sound.things (Queue_of name))

pub walk-inject : (c : Configuration) (w : World) (P : List Update → Type 0) (call : Call) (name : QueueId) (bytes : List ℕ) → IsSoundWorld c w → P []
    → ((q : QueuePair) → IsThere w q → EndsIn w P (Arrive c q bytes None [] (answer_mark call answers.Fine ∷ []))) → EndsIn w P (inject_plan c call name bytes)
walk-inject c w P call name bytes sound none arrives = by (w.queue name) refl (sound.things (Queue_of name))
  where
    plan : QueueSlot → Plan
    plan (NoQueue incarnation timers) = Refuse_plan call NoSuch
    plan (Present q) = Arrive c q bytes None [] (answer_mark call answers.Fine ∷ [])

    by : (s : QueueSlot) → w.queue name ≡ s → IsQueueOf name s → EndsIn w P (plan s)
    by (NoQueue incarnation timers) is one = none
    by (Present q) is one = arrives q (is-there w name q is one)

-- a local operation: one that this profile has, or nothing
pub walk-perform : (c : Configuration) (w : World) (P : List Update → Type 0) (q : QueuePair) (n : Numbered) (finish : Finishing) (op : SendOp) → EndsIn w P (finish (queue_and_marks q []) [] [])
    → ((window : ℕ) (key : Key) (address count : ℕ) (rights : Rights) → EndsIn w P (Bind1_plan c q n window key address count rights finish))
    → ((window : ℕ) (key : Key) (low address count : ℕ) (rights : Rights) → EndsIn w P (Bind2_plan c q n window key low address count rights finish))
    → ((region low buffer address count : ℕ) (rights : Rights) (pages : List ℕ) → EndsIn w P (Fast_plan c q n region low buffer address count rights pages finish))
    → ((key : Key) → EndsIn w P (Row_plan c (invalidate_row q n key) finish)) → EndsIn w P (Perform_op c q n finish op)
walk-perform c w P q n finish (ops.Bind1 window key address count rights) none bind1 bind2 fast invalidate = bind1 window key address count rights
walk-perform c w P q n finish (ops.Bind2 window key low address count rights) none bind1 bind2 fast invalidate = bind2 window key low address count rights
walk-perform c w P q n finish (ops.FastReg region low buffer address count rights pages) none bind1 bind2 fast invalidate = fast region low buffer address count rights pages
walk-perform c w P q n finish (ops.LocalInv key) none bind1 bind2 fast invalidate = invalidate key
walk-perform c w P q n finish (ops.Send list) none bind1 bind2 fast invalidate = none
walk-perform c w P q n finish (ops.SendImm imm list) none bind1 bind2 fast invalidate = none
walk-perform c w P q n finish (ops.SendInv key list) none bind1 bind2 fast invalidate = none
walk-perform c w P q n finish (ops.Write address key list) none bind1 bind2 fast invalidate = none
walk-perform c w P q n finish (ops.WriteImm address key imm list) none bind1 bind2 fast invalidate = none
walk-perform c w P q n finish (ops.Read address key list) none bind1 bind2 fast invalidate = none
walk-perform c w P q n finish (ops.CmpSwap address key compare swap list) none bind1 bind2 fast invalidate = none
walk-perform c w P q n finish (ops.FetchAdd address key add list) none bind1 bind2 fast invalidate = none

-- looking for the queue pair that a verb names
pub walk-present : (c : Configuration) (w : World) (P : List Update → Type 0) (call : Call) (s : Slot) (k : QueuePair → Plan) → IsSoundWorld c w → P []
    → ((q : QueuePair) → IsThere w q → EndsIn w P (k q)) → EndsIn w P (With_present call s k)
walk-present c w P call s k sound none more = by (w.queue (queue_of s)) refl (sound.things (Queue_of (queue_of s)))
  where
    plan : QueueSlot → Plan
    plan (NoQueue incarnation timers) = Refuse_plan call NoSuch
    plan (Present q) = k q

    by : (t : QueueSlot) → w.queue (queue_of s) ≡ t → IsQueueOf (queue_of s) t → EndsIn w P (plan t)
    by (NoQueue incarnation timers) is one = none
    by (Present q) is one = more q (is-there w (queue_of s) q is one)

-- a send request is posted: a bind of a type 1 window draws its byte
pub walk-post_send : (c : Configuration) (w : World) (P : List Update → Type 0) (call : Call) (s : Slot) (request : SendRequest) → IsSoundWorld c w → P []
    → ((q : QueuePair) → IsThere w q → EndsIn w P (Posted_send call q request None s []))
    → ((q : QueuePair) (at : Slot) → IsThere w q → EndsIn w P (Posted_send call q request (byte_drawn (w.window at)) at ((Window_of at := after_draw (w.window at)) ∷ [])))
    → EndsIn w P (post_send_plan call s request)
walk-post_send c w P call s request sound none plain draws = walk-present c w P call s (λ q. plan q request.op) sound none (λ q there. by q there request.op)
  where
    plan : QueuePair → SendOp → Plan
    plan q (ops.Bind1 window region address count rights) = Look (Window_of (beside s window)) (λ x. If (x.kind == 0) (Refuse_plan call NoSuch)
        (Posted_send call q request (byte_drawn x) (beside s window) ((Window_of (beside s window) := after_draw x) ∷ [])))
    plan q op = Posted_send call q request None s []

    by : (q : QueuePair) → IsThere w q → (op : SendOp) → EndsIn w P (plan q op)
    by q there (ops.Bind1 window region address count rights) = (λ is. none, λ is. draws q (beside s window) there)
    by q there (ops.Bind2 window region low address count rights) = plain q there
    by q there (ops.FastReg region low buffer address count rights pages) = plain q there
    by q there (ops.LocalInv key) = plain q there
    by q there (ops.Send list) = plain q there
    by q there (ops.SendImm imm list) = plain q there
    by q there (ops.SendInv key list) = plain q there
    by q there (ops.Write address key list) = plain q there
    by q there (ops.WriteImm address key imm list) = plain q there
    by q there (ops.Read address key list) = plain q there
    by q there (ops.CmpSwap address key compare swap list) = plain q there
    by q there (ops.FetchAdd address key add list) = plain q there

-- what a change of state changes behind the queue pair
abbrev pub changed_around : World → QueuePair → Around → state_change.Change → List Update
changed_around w q a changes.Error = cq_updates q a (flush_marks q)
changed_around w q a changes.Reset = (Mailbox_of q.queue := QueuePairVerbs.emptied_mailbox (queue_after_change changes.Reset q).incarnation (w.mailbox q.queue)) ∷ emptied_updates q a
changed_around w q a (changes.Rtr peer incarnation psn mtu rnr_code) =
    (Mailbox_of q.queue := with_peer q.incarnation (Some (record { queue = peer; incarnation = incarnation })) (w.mailbox q.queue)) ∷ []
changed_around w q a change = []

pub walk-modify : (c : Configuration) (w : World) (P : List Update → Type 0) (call : Call) (s : Slot) (change : state_change.Change) → IsSoundWorld c w → P []
    → ((q : QueuePair) → IsThere w q → AllFail (of_change_refusals (modify_refusals c q change))
    → P ((Queue_of q.queue := Present (queue_after_change change q)) ∷ changed_around w q (around_in w q (shared_of w q)) change)) → EndsIn w P (modify_qp_plan c call s change)
walk-modify c w P call s change sound none changed = walk-present c w P call s _ sound none (λ q there. ends-around w P q (λ a. Unless_plan call (of_change_refusals (modify_refusals c q change)) (done q a))
    (walk-call w P call (of_change_refusals (modify_refusals c q change)) (done q (around_in w q (shared_of w q))) none (changed q there)))
  where
    told : QueuePair → state_change.Change → List Mark
    told q changes.Error = flush_marks q
    told q change = []

    done : QueuePair → Around → Plan
    done q a = Answer_plan call answers.Fine ((Queue_of q.queue := Present (queue_after_change change q)) ∷ changed_around w q a change) (told q change)

-- what a destruction changes
abbrev pub destroyed : World → Slot → QueuePair → Around → List Update
destroyed w s q a = (Domain_of s.domain := without_object (w.domain s.domain))
    ∷ (Queue_of q.queue := NoQueue q.incarnation q.requester.timers)
    ∷ (Mailbox_of q.queue := QueuePairVerbs.emptied_mailbox q.incarnation (w.mailbox q.queue))
    ∷ (Cq_of (send_cq_of q) := option_map (without_queue q) a.send)
    ∷ (Cq_of (recv_cq_of q) := option_map (without_queue q) a.recv)
    ∷ left_updates q a

pub walk-destroy : (c : Configuration) (w : World) (P : List Update → Type 0) (call : Call) (s : Slot) → IsSoundWorld c w → P []
    → ((q : QueuePair) → IsThere w q → nat_lt 0 q.windows ≡ false → P (destroyed w s q (around_in w q (shared_of w q)))) → EndsIn w P (destroy_qp_plan call s)
walk-destroy c w P call s sound none gone = walk-present c w P call s _ sound none (λ q there.
    ends-around w P q (λ a. If (nat_lt 0 q.windows) (Refuse_plan call WindowsBound) (Answer_plan call answers.Fine (destroyed w s q a) [])) (λ is. none, λ free. gone q there free))

-- what a new queue pair changes
abbrev pub created : World → Creation → CompletionQueue → CompletionQueue → Option SrqSlot → Option SharedReceives → List Update
created w x send recv srq shared = (Domain_of x.slot.domain := with_object (w.domain x.slot.domain))
    ∷ (Queue_of (queue_of x.slot) := Present (new_queue x (w.queue (queue_of x.slot))))
    ∷ (Mailbox_of (queue_of x.slot) := with_peer (new_queue x (w.queue (queue_of x.slot))).incarnation None (w.mailbox (queue_of x.slot)))
    ∷ (Cq_of (beside x.slot x.send_cq) := Some (send_reserved x send))
    ∷ (Cq_of (beside x.slot x.recv_cq) := Some (after_reserve (receive_reserve x) (receive_room x shared) (before_receives x send recv)))
    ∷ user_updates x srq

-- the shared receive queue that a new queue pair names
abbrev pub shared_beside : World → Creation → Option SrqSlot
shared_beside w x = option_map (λ srq. w.srq (beside x.slot srq)) x.srq

pub walk-create : (c : Configuration) (w : World) (P : List Update → Type 0) (call : Call) (x : Creation) → P []
    → ((send recv : CompletionQueue) → not (w.domain x.slot.domain).allocated ≡ false → is_present (w.queue (queue_of x.slot)) ≡ false → w.cq (beside x.slot x.send_cq) ≡ Some send
    → w.cq (beside x.slot x.recv_cq) ≡ Some recv → has_bad_depth x ≡ false → P (created w x send recv (shared_beside w x) (option_and_then (λ s. s.srq) (shared_beside w x)))) → EndsIn w P (create_qp_plan c call x)
walk-create c w P call x none made = (λ is. none, λ there. (λ is. none, λ vacant. (λ has. looks there vacant, λ is. none)))
  where
    queue : QueueId
    queue = queue_of x.slot

    there_plan : Option CompletionQueue → Option CompletionQueue → Option SrqSlot → Option SharedReceives → Plan
    there_plan (Some send) (Some recv) srq shared = If (is_none shared && not (is_none x.srq)) (Refuse_plan call NoSuch)
        (If (has_bad_depth x) (Refuse_plan call (OutOfRange fields.Depth)) (If (has_no_room x shared send recv) (Refuse_plan call CqTooSmall)
        (Answer_plan call (answers.Queue queue.number (new_queue x (w.queue queue)).incarnation) (created w x send recv srq shared) [])))
    there_plan send recv srq shared = Refuse_plan call NoSuch

    plan : Option SrqSlot → Option CompletionQueue → Option CompletionQueue → Plan
    plan srq send recv = there_plan send recv srq (option_and_then (λ s. s.srq) srq)

    at : not (w.domain x.slot.domain).allocated ≡ false → is_present (w.queue queue) ≡ false → (send : Option CompletionQueue) → w.cq (beside x.slot x.send_cq) ≡ send
        → (recv : Option CompletionQueue) → w.cq (beside x.slot x.recv_cq) ≡ recv → EndsIn w P (plan (shared_beside w x) send recv)
    at there vacant None send-is recv recv-is = none
    at there vacant (Some send) send-is None recv-is = none
    at there vacant (Some send) send-is (Some recv) recv-is =
        (λ is. none, λ named. (λ is. none, λ depth. (λ is. none, λ room. made send recv there vacant send-is recv-is depth)))

    looks : not (w.domain x.slot.domain).allocated ≡ false → is_present (w.queue queue) ≡ false
        → EndsIn w P (With_shared x (λ srq. plan srq (w.cq (beside x.slot x.send_cq)) (w.cq (beside x.slot x.recv_cq))))
    looks there vacant = by x.srq (at there vacant (w.cq (beside x.slot x.send_cq)) refl (w.cq (beside x.slot x.recv_cq)) refl)
      where
        look : Option ℕ → Plan
        look None = plan None (w.cq (beside x.slot x.send_cq)) (w.cq (beside x.slot x.recv_cq))
        look (Some srq) = Look (Srq_of (beside x.slot srq)) (λ slot. plan (Some slot) (w.cq (beside x.slot x.send_cq)) (w.cq (beside x.slot x.recv_cq)))

        by : (o : Option ℕ) → EndsIn w P (plan (option_map (λ srq. w.srq (beside x.slot srq)) o) (w.cq (beside x.slot x.send_cq)) (w.cq (beside x.slot x.recv_cq))) → EndsIn w P (look o)
        by None ends = ends
        by (Some srq) ends = ends

-- what a deallocated window changes, and the queue pair through which it was bound
abbrev pub deallocated : World → Slot → List Update
deallocated w s = (Domain_of s.domain := without_object (w.domain s.domain)) ∷ (Window_of s := after_deallocation (w.window s)) ∷ []

abbrev pub binder_updates : World → Option QueueId → List Update
binder_updates w None = []
binder_updates w (Some q) = queue_updates q (w.queue q)

-- what it changes where it was bound
abbrev pub unbound : World → Slot → Binding → List Update
unbound w s b = deallocated w s ++ (Region_of (region_under (w.window s) b) := with_window_unbound (w.region (region_under (w.window s) b))) ∷ binder_updates w b.queue

pub walk-dealloc_mw : (w : World) (P : List Update → Type 0) (call : Call) (s : Slot) → P [] → P (deallocated w s) → ((b : Binding) → (w.window s).binding ≡ Some b → P (unbound w s b))
    → EndsIn w P (dealloc_mw_plan call s)
walk-dealloc_mw w P call s none free bound = (λ is. none, λ there. by (w.window s).binding refl)
  where
    x : Window
    x = w.window s

    told : List Mark
    told = marks.Revoked s.domain.adapter (key_of_window x) ∷ []

    plan : Option Binding → Plan
    plan None = Answer_plan call answers.Fine (deallocated w s) []
    plan (Some b) = Look (Region_of (region_under x b)) (λ region. With_binder b.queue (λ more.
        Answer_plan call answers.Fine (deallocated w s ++ (Region_of (region_under x b) := with_window_unbound region) ∷ more) told))

    binder : (us : List Update → List Update) (o : Option QueueId) → P (us (binder_updates w o)) → EndsIn w P (With_binder o (λ more. Answer_plan call answers.Fine (us more) told))
    binder us None done = done
    binder us (Some q) done = done

    by : (o : Option Binding) → x.binding ≡ o → EndsIn w P (plan o)
    by None is = free
    by (Some b) is = binder (λ more. deallocated w s ++ (Region_of (region_under x b) := with_window_unbound (w.region (region_under x b))) ∷ more) b.queue (bound b is)

-- the places that a poll frees: each is of a queue pair, or of a shared receive queue
pub walk-places : (w : World) (P Q : List Update → Type 0) (s : Slot) (cq : CompletionQueue) (xs ys : List Completion) (k : List Update → Plan) → Q []
    → ((name : QueueId) (us : List Update) → Q us → Q ((Queue_of name := slot_after_poll name xs (w.queue name)) ∷ us))
    → ((at : Slot) (srq : ℕ) (us : List Update) → Q us → Q ((Srq_of at := record (w.srq at) { srq = option_map (receives_after_poll cq srq xs) (w.srq at).srq }) ∷ us))
    → ((us : List Update) → Q us → EndsIn w P (k us)) → EndsIn w P (With_places s cq xs ys k)
walk-places w P Q s cq xs [] k none queue shared more = more [] none
walk-places w P Q s cq xs (y ∷ ys) k none queue shared more =
    by (source_of_completion cq y) (λ u keeps. walk-places w P Q s cq xs ys (λ us. k (u ∷ us)) none queue shared (λ us rest. more (u ∷ us) (keeps us rest)))
  where
    next : Update → Plan
    next u = With_places s cq xs ys (λ us. k (u ∷ us))

    plan : Option ℕ → Plan
    plan None = Look (Queue_of y.queue) (λ slot. next (Queue_of y.queue := slot_after_poll y.queue xs slot))
    plan (Some srq) = Look (Srq_of (record { domain = s.domain; slot = srq })) (λ slot.
        next (Srq_of (record { domain = s.domain; slot = srq }) := record slot { srq = option_map (receives_after_poll cq srq xs) slot.srq }))

    by : (o : Option ℕ) → ((u : Update) → ((us : List Update) → Q us → Q (u ∷ us)) → EndsIn w P (next u)) → EndsIn w P (plan o)
    by None on = on _ (queue y.queue)
    by (Some srq) on = on _ (shared (record { domain = s.domain; slot = srq }) srq)

pub walk-poll : (w : World) (P : List Update → Type 0) (call : Call) (s : Slot) (n least : ℕ) → P []
    → ((cq : CompletionQueue) → w.cq s ≡ Some cq → EndsIn w P (Take_plan call s cq (take n cq.waiting))) → EndsIn w P (poll_plan call s n least)
walk-poll w P call s n least none polled = by (w.cq s) refl
  where
    by : (o : Option CompletionQueue) → w.cq s ≡ o → EndsIn w P (Poll_of call s n least o)
    by None is = none
    by (Some cq) is = (λ e. none, λ range. (λ few. record {}, λ enough. polled cq is))
