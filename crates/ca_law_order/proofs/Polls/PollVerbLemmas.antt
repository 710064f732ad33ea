-- Verbs on completion queues and on queue pairs keep the agreement on completions that wait, and a poll gives the front of
-- them. For proofs only.
use Rattle.std.proofs.Common.{◌≡◌, ℕ, suc, ◌-◌, ◌≤◌, ◌<◌, ◌==◌, ◌&&◌, nat_lt, not, Bool, true, false, if◌then◌else◌, List, [], ◌∷◌, filter, length, take, drop, Option, None, Some, IfSome, refl, sym, ap, subst, ◌∙◌, arith, true≢false}
use Rattle.std.proofs.lemmas.Bool.{eq-eqb, eqb-true}
use Rattle.std.proofs.lemmas.List.{length-take, take_min}
use Rattle.std.specs.Cmp.Lexicographic.{pointwise}
use Rattle.std.specs.List.{AllByRecursion}
use Rattle.std.specs.Option.{option_eq, option_map}
use Rattle.ca_law_endings.proofs.LeadsLemmas.{leads-around, leads-weaker}
use Rattle.ca_law_endings.proofs.PathVerbLemmas.{call_of}
use Rattle.ca_law_endings.specs.Runs.{Leads}
use Rattle.ca_law_order.proofs.Polls.FlushedLemmas.{contra}
use Rattle.ca_law_order.proofs.Polls.PlanLemmas.{AreFreed, IsFreed, created, leads-create, leads-poll}
use Rattle.ca_law_order.proofs.Polls.PostingLemmas.{leads-dealloc, leads-modify, leads-post_recv, leads-post_send, leads-present}
use Rattle.ca_law_order.proofs.Polls.SideLemmas.{filter-whole}
use Rattle.ca_law_order.proofs.Polls.TurnLemmas.{IsTurn, leads-tests, turns-arrive}
use Rattle.ca_law_order.proofs.Polls.WaitLemmas.{Polls, both-true, turn-polls}
use Rattle.ca_law_order.specs.Polls.{AgreeOnPolls, HasCompletionQueues, IsFlushedInError, IsFlushedSlot, PollsAgree, sides_of}
use Rattle.ca_base.specs.Configuration.{Configuration}
use Rattle.ca_base.specs.Equal.{completion_eq, operation_number, status_number}
use Rattle.ca_base.specs.declared.change.Change as state_change
use Rattle.ca_base.specs.declared.change.Change.TheVariants as changes
use Rattle.ca_base.specs.declared.change.Field.TheVariants as fields
use Rattle.ca_base.specs.declared.completion.Completion.{Completion}
use Rattle.ca_base.specs.declared.limits.TheConstants.{MAX_PIECES}
use Rattle.ca_base.specs.declared.request.RecvRequest.{RecvRequest}
use Rattle.ca_base.specs.declared.request.SendRequest.{SendRequest}
use Rattle.ca_base.specs.objects.CompletionQueue.{CompletionQueue, after_polls, after_reserve, empty_cq, without_completions}
use Rattle.ca_base.specs.objects.Domain.{with_object, without_object}
use Rattle.ca_base.specs.objects.Mailbox.{with_peer}
use Rattle.ca_base.specs.objects.QueuePair.{QueuePair, QueueSlot, NoQueue, Present, recv_cq_of, send_cq_of, srq_of}
use Rattle.ca_base.specs.objects.SharedReceives.{SharedReceives, SrqSlot, after_receives_retire}
use Rattle.ca_base.specs.objects.StateTable.{is_reset, queue_after_change}
use Rattle.ca_base.specs.objects.WorkQueue.{WorkQueue, after_retire, next_place}
use Rattle.ca_keys.specs.Equal.{bool_eq, key_eq, queue_eq, slot_eq}
use Rattle.ca_keys.specs.Numbers.{queue_of}
use Rattle.ca_keys.specs.declared.names.QueueId.{QueueId}
use Rattle.ca_keys.specs.declared.names.Slot.{Slot}
use Rattle.ca_law_world.proofs.Sound.GoodLemmas.{finished-later}
use Rattle.ca_law_world.proofs.Sound.PollLemmas.{all-finished, all-taken}
use Rattle.ca_law_world.proofs.Sound.SettledLemmas.{all-map, queue-path, queue-refl, slot-path}
use Rattle.ca_law_world.proofs.Sound.VerbLemmas.{IsPolled, polled, retired-next}
use Rattle.ca_law_world.proofs.Sound.WorldLemmas.{IsThere, around_in, is-there, shared_of}
use Rattle.ca_model.specs.Past.{Past, after_change, at_begin, with_at}
use Rattle.ca_model.specs.Requests.{list_of}
use Rattle.ca_model.specs.declared.answer.Answer.TheVariants as answers
use Rattle.ca_model.specs.declared.answer.Refusal.{Refusal}
use Rattle.ca_model.specs.declared.answer.Refusal.TheVariants.{CqInUse, NoDomain, NoSuch, OutOfRange, SlotTaken, WindowsBound}
use Rattle.ca_model.specs.declared.event.Event.TheVariants as events
use Rattle.ca_model.specs.declared.mark.Mark.{Mark}
use Rattle.ca_model.specs.declared.mark.Mark.TheVariants as marks
use Rattle.ca_model.specs.declared.verb.Verb.{Verb}
use Rattle.ca_model.specs.declared.verb.Verb.TheVariants as verbs
use Rattle.ca_model.specs.machine.Around.{Around}
use Rattle.ca_model.specs.machine.CompletionVerbs.{after_poll, create_cq_plan, destroy_cq_plan, poll_plan, slot_after_poll}
use Rattle.ca_model.specs.machine.Delivery.{Arrive}
use Rattle.ca_model.specs.machine.HostVerbs.{inject_plan}
use Rattle.ca_model.specs.machine.Invariants.{IsQueue}
use Rattle.ca_model.specs.machine.Plan.{Plan, Update, ◌:=◌, put_all}
use Rattle.ca_model.specs.machine.PostingVerbs.{post_recv_plan, post_send_plan}
use Rattle.ca_model.specs.machine.QueuePairVerbs.{Creation, before_receives, beside, create_qp_plan, destroy_qp_plan, emptied_mailbox, emptied_updates, left_updates, modify_qp_plan, new_queue, places_held, receive_reserve, receive_room, send_reserved, without_queue}
use Rattle.ca_model.specs.machine.Sound.{IsFinished, IsQueueOf, IsSettled, IsSoundWorld, side_of}
use Rattle.ca_model.specs.machine.VerbAnswers.{Answer_plan, Call, Refuse_plan, Unless_plan, answer_mark}
use Rattle.ca_model.specs.machine.WindowVerbs.{dealloc_mw_plan}
use Rattle.ca_model.specs.machine.World.{World, Name, Domain_of, Region_of, Window_of, Cq_of, Srq_of, Queue_of, Mailbox_of, Byte_at, Thing, put}

-- what a verb leaves
abbrev pub PollsBy : Past → ℕ → Verb → World → List Mark → Type 0
PollsBy past by verb = Polls past (events.Verb by verb)

-- worlds that have the same queue pairs and completion queues
pub same-polls : (past : Past) (w v : World) → PollsAgree past w → v.queue ≡ w.queue → v.cq ≡ w.cq → AgreeOnPolls past.cqs past.waiting v.queue v.cq
same-polls past w v agree queue cq = record {
  sides = λ n. subst (λ f. HasCompletionQueues (past.cqs n) (f n)) (sym queue) (agree.sides n);
  flushed = λ n. subst (λ f. IsFlushedSlot (f n)) (sym queue) (agree.flushed n);
  waits = λ s. subst (λ f. IfSome (f s) (λ x. past.waiting s ≡ x.waiting)) (sym cq) (agree.waits s);
}

-- ---- completion queues

pub polls-create_cq : (past : Past) (w : World) (by : ℕ) (s : Slot) (capacity : ℕ) → PollsAgree past w
    → Leads w (PollsBy past by (verbs.CreateCq s capacity)) (create_cq_plan (call_of by (verbs.CreateCq s capacity)) s capacity)
polls-create_cq past w by s capacity agree = (λ is. refused NoDomain, λ there. (λ is. refused SlotTaken, λ free. (λ is. refused (OutOfRange fields.Capacity), λ fits. made)))
  where
    at : (t : Slot) (b : Bool) → IfSome (if b then Some (empty_cq capacity) else w.cq t) (λ x. (if b then [] else past.waiting t) ≡ x.waiting)
    at t true = refl
    at t false = agree.waits t

    refused : (r : Refusal) → PollsBy past by (verbs.CreateCq s capacity) w (answer_mark (call_of by (verbs.CreateCq s capacity)) (answers.Refused r) ∷ [])
    refused r = record { agree = agree; right = refl }

    made : PollsBy past by (verbs.CreateCq s capacity) (put_all ((Domain_of s.domain := with_object (w.domain s.domain)) ∷ (Cq_of s := Some (empty_cq capacity)) ∷ []) w)
        (answer_mark (call_of by (verbs.CreateCq s capacity)) answers.Fine ∷ [])
    made = record { agree = record { sides = agree.sides; flushed = agree.flushed; waits = λ t. at t (slot_eq s t) }; right = refl }

pub polls-destroy_cq : (past : Past) (w : World) (by : ℕ) (s : Slot) → PollsAgree past w
    → Leads w (PollsBy past by (verbs.DestroyCq s)) (destroy_cq_plan (call_of by (verbs.DestroyCq s)) s)
polls-destroy_cq past w by s agree = (λ is. refused NoSuch, λ there. (λ is. refused CqInUse, λ free. gone))
  where
    at : (t : Slot) (b : Bool) → IfSome (if b then None else w.cq t) (λ x. past.waiting t ≡ x.waiting)
    at t true = record {}
    at t false = agree.waits t

    refused : (r : Refusal) → PollsBy past by (verbs.DestroyCq s) w (answer_mark (call_of by (verbs.DestroyCq s)) (answers.Refused r) ∷ [])
    refused r = record { agree = agree; right = refl }

    gone : PollsBy past by (verbs.DestroyCq s) (put_all ((Domain_of s.domain := without_object (w.domain s.domain)) ∷ (Cq_of s := None) ∷ []) w)
        (answer_mark (call_of by (verbs.DestroyCq s)) answers.Fine ∷ [])
    gone = record { agree = record { sides = agree.sides; flushed = agree.flushed; waits = λ t. at t (slot_eq s t) }; right = refl }

-- ---- a queue pair is made

made-polls : (past : Past) (w : World) (by : ℕ) (x : Creation) (send recv : CompletionQueue) (shared : Option SharedReceives) → PollsAgree past w
    → w.cq (beside x.slot x.send_cq) ≡ Some send → w.cq (beside x.slot x.recv_cq) ≡ Some recv
    → PollsBy past by (verbs.CreateQp x.slot x.send_cq x.recv_cq x.send_depth x.recv_depth x.srq) (put_all (created w x send recv shared) w)
    (answer_mark (call_of by (verbs.CreateQp x.slot x.send_cq x.recv_cq x.send_depth x.recv_depth x.srq)) (answers.Queue (queue_of x.slot).number (new_queue x (w.queue (queue_of x.slot))).incarnation) ∷ [])
made-polls past w by x send recv shared agree sends receives = users x.srq
  where
    place : QueueId
    place = queue_of x.slot

    q : QueuePair
    q = new_queue x (w.queue place)

    s1 : Slot
    s1 = beside x.slot x.send_cq

    s2 : Slot
    s2 = beside x.slot x.recv_cq

    v : World
    v = put_all ((Domain_of x.slot.domain := with_object (w.domain x.slot.domain)) ∷ (Queue_of place := Present q) ∷ (Mailbox_of place := with_peer q.incarnation None (w.mailbox place)) ∷ (Cq_of s1 := Some (send_reserved x send))
        ∷ (Cq_of s2 := Some (after_reserve (receive_reserve x) (receive_room x shared) (before_receives x send recv))) ∷ []) w

    updates : Option ℕ → Option SrqSlot → List Update
    updates (Some srq) (Some slot) = (Srq_of (beside x.slot srq) := record slot { users = suc slot.users }) ∷ []
    updates srq slot = []

    sided : (n : QueueId) (b : Bool) → HasCompletionQueues (if b then Some (sides_of q) else past.cqs n) (if b then Present q else w.queue n)
    sided n true = refl
    sided n false = agree.sides n

    flushes : (n : QueueId) (b : Bool) → IsFlushedSlot (if b then Present q else w.queue n)
    flushes n true = contra refl
    flushes n false = agree.flushed n

    waits-in : (s : Slot) (y : CompletionQueue) → w.cq s ≡ Some y → past.waiting s ≡ y.waiting
    waits-in s y is = subst (λ o. IfSome o (λ x. past.waiting s ≡ x.waiting)) is (agree.waits s)

    both : (b : Bool) → (x.send_cq == x.recv_cq) ≡ b → past.waiting s2 ≡ (if b then send_reserved x send else recv).waiting
    both true e = ap (λ k. past.waiting (beside x.slot k)) (sym (eqb-true x.send_cq x.recv_cq e)) ∙ waits-in s1 send sends
    both false e = waits-in s2 recv receives

    waiting : (t : Slot) (b : Bool) → slot_eq s2 t ≡ b → (z : Bool) → slot_eq s1 t ≡ z
        → IfSome (if b then Some (after_reserve (receive_reserve x) (receive_room x shared) (before_receives x send recv)) else if z then Some (send_reserved x send) else w.cq t) (λ y. past.waiting t ≡ y.waiting)
    waiting t true e z f = ap past.waiting (sym (slot-path s2 t e)) ∙ both (x.send_cq == x.recv_cq) refl
    waiting t false e true f = ap past.waiting (sym (slot-path s1 t f)) ∙ waits-in s1 send sends
    waiting t false e false f = agree.waits t

    more : (us : List Update) → (put_all us v).queue ≡ v.queue → (put_all us v).cq ≡ v.cq
        → PollsBy past by (verbs.CreateQp x.slot x.send_cq x.recv_cq x.send_depth x.recv_depth x.srq) (put_all us v)
        (answer_mark (call_of by (verbs.CreateQp x.slot x.send_cq x.recv_cq x.send_depth x.recv_depth x.srq)) (answers.Queue place.number q.incarnation) ∷ [])
    more us queue cq = record {
      agree = record {
        sides = λ n. subst (λ f. HasCompletionQueues (with_at queue_eq past.cqs place (Some (sides_of q)) n) (f n)) (sym queue) (sided n (queue_eq place n));
        flushed = λ n. subst (λ f. IsFlushedSlot (f n)) (sym queue) (flushes n (queue_eq place n));
        waits = λ t. subst (λ f. IfSome (f t) (λ y. past.waiting t ≡ y.waiting)) (sym cq) (waiting t (slot_eq s2 t) refl (slot_eq s1 t) refl);
      };
      right = refl;
    }

    users : (o : Option ℕ) → PollsBy past by (verbs.CreateQp x.slot x.send_cq x.recv_cq x.send_depth x.recv_depth x.srq) (put_all (updates o (option_map (λ srq. w.srq (beside x.slot srq)) o)) v)
        (answer_mark (call_of by (verbs.CreateQp x.slot x.send_cq x.recv_cq x.send_depth x.recv_depth x.srq)) (answers.Queue place.number q.incarnation) ∷ [])
    users None = more [] refl refl
    users (Some srq) = more (updates (Some srq) (Some (w.srq (beside x.slot srq)))) refl refl

pub polls-create : (c : Configuration) (past : Past) (w : World) (by : ℕ) (x : Creation) → PollsAgree past w
    → Leads w (PollsBy past by (verbs.CreateQp x.slot x.send_cq x.recv_cq x.send_depth x.recv_depth x.srq))
    (create_qp_plan c (call_of by (verbs.CreateQp x.slot x.send_cq x.recv_cq x.send_depth x.recv_depth x.srq)) x)
polls-create c past w by x agree = leads-create c w (PollsBy past by (verbs.CreateQp x.slot x.send_cq x.recv_cq x.send_depth x.recv_depth x.srq))
    (call_of by (verbs.CreateQp x.slot x.send_cq x.recv_cq x.send_depth x.recv_depth x.srq)) x (λ r. record { agree = agree; right = refl })
    (λ send recv shared sends receives. made-polls past w by x send recv shared agree sends receives)

-- ---- a queue pair is emptied

-- a test that no completion is of a queue pair
abbrev of_others : QueueId → Completion → Bool
of_others name c = not (queue_eq c.queue name)

-- no completion of a queue pair waits but in the completion queues of its sides
others-wait : (c : Configuration) (w : World) (q : QueuePair) (t : Slot) → IsSoundWorld c w → IsThere w q → slot_eq (recv_cq_of q) t ≡ false → slot_eq (send_cq_of q) t ≡ false
    → (xs : List Completion) → AllByRecursion (λ x. IsSettled t (w.queue x.queue) x) xs → AllByRecursion (λ x. of_others q.queue x ≡ true) xs
others-wait c w q t sound there recv send [] all = record {}
others-wait c w q t sound there recv send (x ∷ xs) all = (one (queue_eq x.queue q.queue) refl, others-wait c w q t sound there recv send xs all.1)
  where
    apart : (b : Bool) → slot_eq (side_of q b) t ≡ true → ⊥
    apart true e = true≢false (sym e ∙ recv)
    apart false e = true≢false (sym e ∙ send)

    one : (b : Bool) → queue_eq x.queue q.queue ≡ b → not b ≡ true
    one true e = absurd (apart x.receive (subst (λ u. IsSettled t u x) (ap w.queue (queue-path x.queue q.queue e) ∙ there.present) all.0).0)
    one false e = refl

-- what waits without the completions of a queue pair, in each completion queue
emptied-waits : (c : Configuration) (past : Past) (w : World) (q : QueuePair) (f : CompletionQueue → CompletionQueue) → IsSoundWorld c w → PollsAgree past w → IsThere w q
    → ((y : CompletionQueue) → (f y).waiting ≡ filter (of_others q.queue) y.waiting)
    → (t : Slot) → IfSome (with_at slot_eq (with_at slot_eq w.cq (send_cq_of q) (option_map f (w.cq (send_cq_of q)))) (recv_cq_of q) (option_map f (w.cq (recv_cq_of q))) t)
    (λ y. filter (of_others q.queue) (past.waiting t) ≡ y.waiting)
emptied-waits c past w q f sound agree there same t = by (slot_eq (recv_cq_of q) t) refl (slot_eq (send_cq_of q) t) refl
  where
    side : (s : Slot) (o : Option CompletionQueue) → s ≡ t → IfSome o (λ y. past.waiting s ≡ y.waiting) → IfSome (option_map f o) (λ y. filter (of_others q.queue) (past.waiting t) ≡ y.waiting)
    side s None is one = record {}
    side s (Some y) is one = ap (filter (of_others q.queue)) (ap past.waiting (sym is) ∙ one) ∙ sym (same y)

    other : (o : Option CompletionQueue) → IfSome o (λ y. past.waiting t ≡ y.waiting) → IfSome o (λ y. AllByRecursion (λ x. IsSettled t (w.queue x.queue) x) y.waiting)
        → slot_eq (recv_cq_of q) t ≡ false → slot_eq (send_cq_of q) t ≡ false → IfSome o (λ y. filter (of_others q.queue) (past.waiting t) ≡ y.waiting)
    other None one all e f = record {}
    other (Some y) one all e f = ap (filter (of_others q.queue)) one ∙ filter-whole (of_others q.queue) y.waiting (others-wait c w q t sound there e f y.waiting all)

    by : (b : Bool) → slot_eq (recv_cq_of q) t ≡ b → (z : Bool) → slot_eq (send_cq_of q) t ≡ z
        → IfSome (if b then option_map f (w.cq (recv_cq_of q)) else if z then option_map f (w.cq (send_cq_of q)) else w.cq t) (λ y. filter (of_others q.queue) (past.waiting t) ≡ y.waiting)
    by true e z g = side (recv_cq_of q) (w.cq (recv_cq_of q)) (slot-path (recv_cq_of q) t e) (agree.waits (recv_cq_of q))
    by false e true g = side (send_cq_of q) (w.cq (send_cq_of q)) (slot-path (send_cq_of q) t g) (agree.waits (send_cq_of q))
    by false e false g = other (w.cq t) (agree.waits t) (sound.settled t) e g

-- the agreement behind it, with another value in the slot
emptied-polls : (c : Configuration) (past : Past) (w v : World) (q : QueuePair) (slot : QueueSlot) (name : QueueId) (f : CompletionQueue → CompletionQueue) → IsSoundWorld c w → PollsAgree past w → IsThere w q → q.queue ≡ name
    → ((y : CompletionQueue) → (f y).waiting ≡ filter (of_others q.queue) y.waiting) → HasCompletionQueues (past.cqs q.queue) slot → IsFlushedSlot slot
    → v.queue ≡ with_at queue_eq w.queue q.queue slot → v.cq ≡ with_at slot_eq (with_at slot_eq w.cq (send_cq_of q) (option_map f (w.cq (send_cq_of q)))) (recv_cq_of q) (option_map f (w.cq (recv_cq_of q)))
    → AgreeOnPolls past.cqs (λ s. filter (of_others name) (past.waiting s)) v.queue v.cq
emptied-polls c past w v q slot name f sound agree there own same sided flush queue cq = subst (λ n. AgreeOnPolls past.cqs (λ s. filter (of_others n) (past.waiting s)) v.queue v.cq) own (record {
  sides = λ n. subst (λ g. HasCompletionQueues (past.cqs n) (g n)) (sym queue) (at n (queue_eq q.queue n) refl);
  flushed = λ n. subst (λ g. IsFlushedSlot (g n)) (sym queue) (flushes n (queue_eq q.queue n));
  waits = λ t. subst (λ g. IfSome (g t) (λ y. filter (of_others q.queue) (past.waiting t) ≡ y.waiting)) (sym cq) (emptied-waits c past w q f sound agree there same t);
})
  where
    at : (n : QueueId) (b : Bool) → queue_eq q.queue n ≡ b → HasCompletionQueues (past.cqs n) (if b then slot else w.queue n)
    at n true e = subst (λ k. HasCompletionQueues (past.cqs k) slot) (queue-path q.queue n e) sided
    at n false e = agree.sides n

    flushes : (n : QueueId) (b : Bool) → IsFlushedSlot (if b then slot else w.queue n)
    flushes n true = flush
    flushes n false = agree.flushed n

-- a change that is no reset leaves what the past says of completions
change-leaves : (name : QueueId) (change : state_change.Change) (p : Past) → is_reset change ≡ false → ((after_change name change p).cqs ≡ p.cqs) × ((after_change name change p).waiting ≡ p.waiting)
change-leaves name changes.Reset p e = absurd (true≢false e)
change-leaves name changes.Init p e = (refl, refl)
change-leaves name (changes.Rtr peer incarnation psn mtu rnr_code) p e = (refl, refl)
change-leaves name (changes.Rts psn retry rnr_retry reads) p e = (refl, refl)
change-leaves name changes.Sqd p e = (refl, refl)
change-leaves name changes.Resume p e = (refl, refl)
change-leaves name changes.Error p e = (refl, refl)

pub polls-modify : (c : Configuration) (past : Past) (w : World) (by : ℕ) (s : Slot) (change : state_change.Change) → IsSoundWorld c w → PollsAgree past w
    → Leads w (PollsBy past by (verbs.ModifyQp s change)) (modify_qp_plan c (call_of by (verbs.ModifyQp s change)) s change)
polls-modify c past w by s change sound agree = leads-modify c w (PollsBy past by (verbs.ModifyQp s change)) call s change sound (λ r. record { agree = agree; right = refl })
    (λ stays v ms turn. turn-polls past (events.Verb by (verbs.ModifyQp s change)) w v (answer_mark call answers.Fine ∷ []) ms agree (change-leaves (queue_of s) change p stays).0 (change-leaves (queue_of s) change p stays).1 refl turn)
    (λ q there own is. subst (λ x. PollsBy past by (verbs.ModifyQp s x) (after q) (answer_mark (call_of by (verbs.ModifyQp s x)) answers.Fine ∷ [])) (sym is) (record { agree = reset q there own q.srq; right = refl }))
  where
    call : Call
    call = call_of by (verbs.ModifyQp s change)

    p : Past
    p = record (at_begin (events.Verb by (verbs.ModifyQp s change)) past) {
      at_hand = record (at_begin (events.Verb by (verbs.ModifyQp s change)) past).at_hand { answered = Some (record { verb = verbs.ModifyQp s change; answer = answers.Fine }) };
    }

    a : QueuePair → Around
    a q = around_in w q (shared_of w q)

    before : QueuePair → List Update
    before q =
        (Queue_of q.queue := Present (queue_after_change changes.Reset q))
        ∷ (Mailbox_of q.queue := emptied_mailbox (queue_after_change changes.Reset q).incarnation (w.mailbox q.queue))
        ∷ (Cq_of (send_cq_of q) := option_map (without_completions q.queue) (w.cq (send_cq_of q)))
        ∷ (Cq_of (recv_cq_of q) := option_map (without_completions q.queue) (w.cq (recv_cq_of q)))
        ∷ []

    after : QueuePair → World
    after q = put_all ((Queue_of q.queue := Present (queue_after_change changes.Reset q))
        ∷ (Mailbox_of q.queue := emptied_mailbox (queue_after_change changes.Reset q).incarnation (w.mailbox q.queue)) ∷ emptied_updates q (a q)) w

    updates : QueuePair → Option ℕ → Option SrqSlot → List Update
    updates q (Some srq) (Some slot) = (Srq_of (srq_of q srq) := record slot { srq = option_map (after_receives_retire (places_held q (a q))) slot.srq }) ∷ []
    updates q srq slot = []

    told : (q : QueuePair) → IsThere w q → HasCompletionQueues (past.cqs q.queue) (Present q)
    told q there = subst (HasCompletionQueues (past.cqs q.queue)) there.present (agree.sides q.queue)

    done : (q : QueuePair) (us : List Update) → IsThere w q → q.queue ≡ queue_of s → (put_all us (put_all (before q) w)).queue ≡ (put_all (before q) w).queue → (put_all us (put_all (before q) w)).cq ≡ (put_all (before q) w).cq
        → AgreeOnPolls past.cqs (λ t. filter (of_others (queue_of s)) (past.waiting t)) (put_all us (put_all (before q) w)).queue (put_all us (put_all (before q) w)).cq
    done q us there own queue cq = emptied-polls c past w (put_all us (put_all (before q) w)) q (Present (queue_after_change changes.Reset q)) (queue_of s) (without_completions q.queue) sound agree there own (λ y. refl)
        (told q there) (contra refl) queue cq

    reset : (q : QueuePair) → IsThere w q → q.queue ≡ queue_of s → (o : Option ℕ) → AgreeOnPolls past.cqs (λ t. filter (of_others (queue_of s)) (past.waiting t)) (after q).queue (after q).cq
    reset q there own o = by' q.srq
      where
        by' : (o : Option ℕ) → AgreeOnPolls past.cqs (λ t. filter (of_others (queue_of s)) (past.waiting t)) (put_all (updates q o (option_map (λ srq. w.srq (srq_of q srq)) o)) (put_all (before q) w)).queue
            (put_all (updates q o (option_map (λ srq. w.srq (srq_of q srq)) o)) (put_all (before q) w)).cq
        by' None = done q [] there own refl refl
        by' (Some srq) = done q (updates q (Some srq) (Some (w.srq (srq_of q srq)))) there own refl refl

pub polls-destroy : (c : Configuration) (past : Past) (w : World) (by : ℕ) (s : Slot) → IsSoundWorld c w → PollsAgree past w
    → Leads w (PollsBy past by (verbs.DestroyQp s)) (destroy_qp_plan (call_of by (verbs.DestroyQp s)) s)
polls-destroy c past w by s sound agree = leads-present c w P call s _ sound refused (λ q there own.
    leads-around w P q (λ a. Unless_plan call ((nat_lt 0 q.windows, WindowsBound) ∷ []) (ending q a))
    (leads-tests w P ((nat_lt 0 q.windows, WindowsBound) ∷ []) (Refuse_plan call) (ending q (around_in w q (shared_of w q))) refused (λ fails. record { agree = gone q there own q.srq; right = refl })))
  where
    call : Call
    call = call_of by (verbs.DestroyQp s)

    P : World → List Mark → Type 0
    P = PollsBy past by (verbs.DestroyQp s)

    refused : (r : Refusal) → P w (answer_mark call (answers.Refused r) ∷ [])
    refused r = record { agree = agree; right = refl }

    before : QueuePair → Around → List Update
    before q a =
        (Domain_of s.domain := without_object (w.domain s.domain))
        ∷ (Queue_of q.queue := NoQueue q.incarnation q.requester.timers)
        ∷ (Mailbox_of q.queue := emptied_mailbox q.incarnation (w.mailbox q.queue))
        ∷ (Cq_of (send_cq_of q) := option_map (without_queue q) a.send)
        ∷ (Cq_of (recv_cq_of q) := option_map (without_queue q) a.recv)
        ∷ []

    ending : QueuePair → Around → Plan
    ending q a = Answer_plan call answers.Fine
        ((Domain_of s.domain := without_object (w.domain s.domain))
        ∷ (Queue_of q.queue := NoQueue q.incarnation q.requester.timers)
        ∷ (Mailbox_of q.queue := emptied_mailbox q.incarnation (w.mailbox q.queue))
        ∷ (Cq_of (send_cq_of q) := option_map (without_queue q) a.send)
        ∷ (Cq_of (recv_cq_of q) := option_map (without_queue q) a.recv)
        ∷ left_updates q a)
        []

    updates : QueuePair → Option ℕ → Option SrqSlot → List Update
    updates q (Some srq) (Some slot) = (Srq_of (record { domain = q.domain; slot = srq }) := record slot {
      srq = option_map (after_receives_retire (places_held q (around_in w q (shared_of w q)))) slot.srq;
      users = slot.users - 1;
    }) ∷ []
    updates q srq slot = []

    u : QueuePair → World
    u q = put_all (before q (around_in w q (shared_of w q))) w

    done : (q : QueuePair) (us : List Update) → IsThere w q → q.queue ≡ queue_of s → (put_all us (u q)).queue ≡ (u q).queue → (put_all us (u q)).cq ≡ (u q).cq
        → AgreeOnPolls past.cqs (λ t. filter (of_others (queue_of s)) (past.waiting t)) (put_all us (u q)).queue (put_all us (u q)).cq
    done q us there own queue cq = emptied-polls c past w (put_all us (u q)) q (NoQueue q.incarnation q.requester.timers) (queue_of s) (without_queue q) sound agree there own (λ y. refl)
        (record {}) (record {}) queue cq

    gone : (q : QueuePair) → IsThere w q → q.queue ≡ queue_of s → (o : Option ℕ) → AgreeOnPolls past.cqs (λ t. filter (of_others (queue_of s)) (past.waiting t))
        (put_all (left_updates q (around_in w q (shared_of w q))) (u q)).queue (put_all (left_updates q (around_in w q (shared_of w q))) (u q)).cq
    gone q there own o = at q.srq
      where
        at : (o : Option ℕ) → AgreeOnPolls past.cqs (λ t. filter (of_others (queue_of s)) (past.waiting t)) (put_all (updates q o (option_map (λ srq. w.srq (srq_of q srq)) o)) (u q)).queue
            (put_all (updates q o (option_map (λ srq. w.srq (srq_of q srq)) o)) (u q)).cq
        at None = done q [] there own refl refl
        at (Some srq) = done q (updates q (Some srq) (Some (w.srq (srq_of q srq)))) there own refl refl

-- ---- Poll

-- a poll frees the places of what is finished: what is flushed stays so
freed-flushed : (name : QueueId) (xs : List Completion) (p : QueuePair) → IsQueue p → AllByRecursion (λ x. queue_eq x.queue name ≡ true → IsFinished p x.receive x.place) xs → IsFlushedInError p
    → IsFlushedInError (after_poll name xs p)
freed-flushed name [] p s all flushed = flushed
freed-flushed name (x ∷ xs) p s all flushed = on (queue_eq x.queue name) refl x.receive refl (polled name (x ∷ []) p s (all.0, record {})) (λ q sound finished was. freed-flushed name xs q sound finished was)
  where
    freed : Bool → QueuePair
    freed true = record p { receives = option_map (after_retire x.place) p.receives }
    freed false = record p { sends = after_retire x.place p.sends }

    own : (o : Option (WorkQueue RecvRequest)) → IfSome o (λ r. x.place < r.next_taken) → IfSome o (λ r. r.next_taken ≡ next_place r) → IfSome (option_map (after_retire x.place) o) (λ r. r.next_taken ≡ next_place r)
    own None low is = record {}
    own (Some r) low is = is ∙ sym (retired-next x.place r (omega (arith, low, is)))

    step : (b : Bool) → queue_eq x.queue name ≡ b → (r : Bool) → x.receive ≡ r → IsFlushedInError (if b then freed r else p)
    step false e r is = flushed
    step true e true is = λ error. ((flushed error).0, (flushed error).1, own p.receives (subst (λ z. IsFinished p z x.place) is (all.0 e)) (flushed error).2)
    step true e false is = λ error. (
      (flushed error).0 ∙ sym (retired-next x.place p.sends (omega (arith, subst (λ z. IsFinished p z x.place) is (all.0 e), (flushed error).0))),
      (flushed error).1,
      (flushed error).2,
    )

    on : (b : Bool) → queue_eq x.queue name ≡ b → (r : Bool) → x.receive ≡ r → IsPolled p (if b then freed r else p)
        → ((q : QueuePair) → IsQueue q → AllByRecursion (λ y. queue_eq y.queue name ≡ true → IsFinished q y.receive y.place) xs → IsFlushedInError q → IsFlushedInError (after_poll name xs q))
        → IsFlushedInError (after_poll name xs (if b then freed r else p))
    on b e r is one rest = rest (if b then freed r else p) one.sound (all-map _ _ (λ y finished same. finished-later p (if b then freed r else p) y.receive y.place one.later (finished same)) xs all.1) (step b e r is)

-- a change of what a poll frees
abbrev IsKept : World → (n : Name) → Thing n → Type 0
IsKept w (Queue_of q) slot = ((o : Option (Slot × Slot)) → HasCompletionQueues o (w.queue q) → HasCompletionQueues o slot) × (IsFlushedSlot (w.queue q) → IsFlushedSlot slot)
IsKept w (Srq_of s) slot = Unit {0}
IsKept w n x = ⊥

abbrev AreKept : World → List Update → Type 0
AreKept w [] = Unit {0}
AreKept w (u ∷ us) = IsKept w u.name u.thing × AreKept w us

-- a world whose queue pairs have the completion queues of another's, and are flushed as they are
record KeepsSides (w v : World) : Type 0 where
  sides : (n : QueueId) (o : Option (Slot × Slot)) → HasCompletionQueues o (w.queue n) → HasCompletionQueues o (v.queue n)
  flushed : (n : QueueId) → IsFlushedSlot (w.queue n) → IsFlushedSlot (v.queue n)

kept-put : (w v : World) (n : Name) (x : Thing n) → IsKept w n x → KeepsSides w v → KeepsSides w (put v n x) × ((put v n x).cq ≡ v.cq)
kept-put w v (Queue_of q) x kept keeps = (record { sides = λ n o. sided n o (queue_eq q n) refl; flushed = λ n. flushes n (queue_eq q n) refl }, refl)
  where
    sided : (n : QueueId) (o : Option (Slot × Slot)) (b : Bool) → queue_eq q n ≡ b → HasCompletionQueues o (w.queue n) → HasCompletionQueues o (if b then x else v.queue n)
    sided n o true e has = kept.0 o (subst (λ m. HasCompletionQueues o (w.queue m)) (sym (queue-path q n e)) has)
    sided n o false e has = keeps.sides n o has

    flushes : (n : QueueId) (b : Bool) → queue_eq q n ≡ b → IsFlushedSlot (w.queue n) → IsFlushedSlot (if b then x else v.queue n)
    flushes n true e is = kept.1 (subst (λ m. IsFlushedSlot (w.queue m)) (sym (queue-path q n e)) is)
    flushes n false e is = keeps.flushed n is
kept-put w v (Srq_of s) x kept keeps = (record { sides = keeps.sides; flushed = keeps.flushed }, refl)
kept-put w v (Domain_of d) x kept keeps = absurd kept
kept-put w v (Region_of s) x kept keeps = absurd kept
kept-put w v (Window_of s) x kept keeps = absurd kept
kept-put w v (Cq_of s) x kept keeps = absurd kept
kept-put w v (Mailbox_of q) x kept keeps = absurd kept
kept-put w v (Byte_at p) x kept keeps = absurd kept

kept-puts : (w v : World) (us : List Update) → AreKept w us → KeepsSides w v → KeepsSides w (put_all us v) × ((put_all us v).cq ≡ v.cq)
kept-puts w v [] kept keeps = (keeps, refl)
kept-puts w v (u ∷ us) kept keeps = by (kept-put w v u.name u.thing kept.0 keeps) (λ keeps. kept-puts w (put v u.name u.thing) us kept.1 keeps)
  where
    by : KeepsSides w (put v u.name u.thing) × ((put v u.name u.thing).cq ≡ v.cq)
        → (KeepsSides w (put v u.name u.thing) → KeepsSides w (put_all us (put v u.name u.thing)) × ((put_all us (put v u.name u.thing)).cq ≡ (put v u.name u.thing).cq))
        → KeepsSides w (put_all us (put v u.name u.thing)) × ((put_all us (put v u.name u.thing)).cq ≡ v.cq)
    by one rest = ((rest one.0).0, (rest one.0).1 ∙ one.1)

polled-kept : (c : Configuration) (w : World) (s : Slot) (name : QueueId) (xs : List Completion) → IsSoundWorld c w → AllByRecursion (λ x. IsSettled s (w.queue x.queue) x) xs
    → IsKept w (Queue_of name) (slot_after_poll name xs (w.queue name))
polled-kept c w s name xs sound all = by (w.queue name) refl (sound.things (Queue_of name))
  where
    by : (slot : QueueSlot) → w.queue name ≡ slot → IsQueueOf name slot → ((o : Option (Slot × Slot)) → HasCompletionQueues o slot → HasCompletionQueues o (slot_after_poll name xs slot)) × (IsFlushedSlot slot → IsFlushedSlot (slot_after_poll name xs slot))
    by (NoQueue incarnation timers) is one = (λ o has. has, λ f. f)
    by (Present p) is one = (
      λ o has. has ∙ ap Some (sym (same (polled name xs p one.2 (all-finished w s name p xs is all)))),
      λ f. freed-flushed name xs p one.2 (all-finished w s name p xs is all) f,
    )
      where
        same : IsPolled p (after_poll name xs p) → sides_of (after_poll name xs p) ≡ sides_of p
        same goes = λ i. (record { domain = goes.later.domain i; slot = goes.later.send_cq i }, record { domain = goes.later.domain i; slot = goes.later.recv_cq i })

-- what a poll frees
freed-kept : (c : Configuration) (w : World) (s : Slot) (cq : CompletionQueue) (polled : List Completion) (us : List Update) → IsSoundWorld c w → AllByRecursion (λ x. IsSettled s (w.queue x.queue) x) polled
    → AreFreed w cq polled us → AreKept w us
freed-kept c w s cq polled [] sound all freed = record {}
freed-kept c w s cq polled (u ∷ us) sound all freed = (one u.name u.thing freed.0, freed-kept c w s cq polled us sound all freed.1)
  where
    one : (n : Name) (x : Thing n) → IsFreed w cq polled n x → IsKept w n x
    one (Queue_of q) x is = subst (IsKept w (Queue_of q)) (sym is) (polled-kept c w s q polled sound all)
    one (Srq_of t) x is = record {}
    one (Domain_of d) x is = is
    one (Region_of t) x is = is
    one (Window_of t) x is = is
    one (Cq_of t) x is = is
    one (Mailbox_of q) x is = is
    one (Byte_at p) x is = is

-- a completion equals itself
bool-refl : (b : Bool) → bool_eq b b ≡ true
bool-refl true = refl
bool-refl false = refl

option-refl : {A : Type 0} (eq : A → A → Bool) (o : Option A) → ((a : A) → eq a a ≡ true) → option_eq eq o o ≡ true
option-refl eq None same = refl
option-refl eq (Some a) same = same a

completion-refl : (x : Completion) → completion_eq x x ≡ true
completion-refl x = both (both (both (both (both (both (both (both (eq-eqb x.id x.id refl) (queue-refl x.queue)) (bool-refl x.receive)) (eq-eqb x.place x.place refl))
    (eq-eqb (status_number x.status) (status_number x.status) refl)) (eq-eqb (operation_number x.op) (operation_number x.op) refl)) (eq-eqb x.bytes x.bytes refl))
    (option-refl (λ m n. m == n) x.imm (λ n. eq-eqb n n refl))) (option-refl key_eq x.invalidated (λ k. eq-eqb k.0 k.0 refl))
  where
    both : {a b : Bool} → a ≡ true → b ≡ true → (a && b) ≡ true
    both {a} {b} one other = both-true a b one other

all-refl : (xs : List Completion) → pointwise completion_eq xs xs ≡ true
all-refl [] = refl
all-refl (x ∷ xs) = both-true (completion_eq x x) (pointwise completion_eq xs xs) (completion-refl x) (all-refl xs)

pub polls-poll : (c : Configuration) (past : Past) (w : World) (by : ℕ) (s : Slot) (n least : ℕ) → IsSoundWorld c w → PollsAgree past w
    → Leads w (PollsBy past by (verbs.Poll s n least)) (poll_plan (call_of by (verbs.Poll s n least)) s n least)
polls-poll c past w by s n least sound agree = leads-poll w P call s n least (λ r. record { agree = agree; right = refl }) (λ cq us is freed.
    done cq us (subst (λ o. IfSome o (λ y. past.waiting s ≡ y.waiting)) is (agree.waits s))
    (kept-puts w (put w (Cq_of s) (Some (after_polls (length (take n cq.waiting)) cq))) us (freed-kept c w s cq (take n cq.waiting) us sound (settled cq is) freed) (record { sides = λ m o has. has; flushed = λ m f. f })))
  where
    call : Call
    call = call_of by (verbs.Poll s n least)

    P : World → List Mark → Type 0
    P = PollsBy past by (verbs.Poll s n least)

    settled : (cq : CompletionQueue) → w.cq s ≡ Some cq → AllByRecursion (λ x. IsSettled s (w.queue x.queue) x) (take n cq.waiting)
    settled cq is = all-taken (λ x. IsSettled s (w.queue x.queue) x) n cq.waiting (subst (λ o. IfSome o (λ v. AllByRecursion (λ x. IsSettled s (w.queue x.queue) x) v.waiting)) is (sound.settled s))

    -- what is given is the front of what waits
    front : (cq : CompletionQueue) → past.waiting s ≡ cq.waiting → pointwise completion_eq (take n cq.waiting) (take (length (take n cq.waiting)) (past.waiting s)) ≡ true
    front cq is = ap (λ xs. pointwise completion_eq (take n cq.waiting) (take (length (take n cq.waiting)) xs)) is
        ∙ ap (pointwise completion_eq (take n cq.waiting)) (ap (λ k. take k cq.waiting) (length-take n cq.waiting) ∙ take_min n cq.waiting) ∙ all-refl (take n cq.waiting)

    left : (cq : CompletionQueue) (k : ℕ) → past.waiting s ≡ cq.waiting → (t : Slot) (b : Bool) → IfSome (if b then Some (after_polls k cq) else w.cq t) (λ y. (if b then drop k (past.waiting s) else past.waiting t) ≡ y.waiting)
    left cq k is t true = ap (drop k) is
    left cq k is t false = agree.waits t

    done : (cq : CompletionQueue) (us : List Update) → past.waiting s ≡ cq.waiting
        → KeepsSides w (put_all us (put w (Cq_of s) (Some (after_polls (length (take n cq.waiting)) cq)))) × ((put_all us (put w (Cq_of s) (Some (after_polls (length (take n cq.waiting)) cq)))).cq ≡ (put w (Cq_of s) (Some (after_polls (length (take n cq.waiting)) cq))).cq)
        → P (put_all us (put w (Cq_of s) (Some (after_polls (length (take n cq.waiting)) cq)))) (answer_mark call (answers.Polled (take n cq.waiting)) ∷ [])
    done cq us is kept = record {
      agree = record {
        sides = λ m. kept.0.sides m (past.cqs m) (agree.sides m);
        flushed = λ m. kept.0.flushed m (agree.flushed m);
        waits = λ t. subst (λ f. IfSome (f t) (λ y. with_at slot_eq past.waiting s (drop (length (take n cq.waiting)) (past.waiting s)) t ≡ y.waiting)) (sym kept.1) (left cq (length (take n cq.waiting)) is t (slot_eq s t));
      };
      right = both-true _ true (front cq is) refl;
    }

-- ---- what goes on

pub polls-post_send : (c : Configuration) (past : Past) (w : World) (by : ℕ) (s : Slot) (request : SendRequest) → IsSoundWorld c w → length (list_of request.op) ≤ MAX_PIECES → PollsAgree past w
    → Leads w (PollsBy past by (verbs.PostSend s request)) (post_send_plan (call_of by (verbs.PostSend s request)) s request)
polls-post_send c past w by s request sound few agree = leads-post_send c w (PollsBy past by (verbs.PostSend s request)) (call_of by (verbs.PostSend s request)) s request sound few
    (λ r. record { agree = agree; right = refl })
    (λ key v ms turn. turn-polls past (events.Verb by (verbs.PostSend s request)) w v (answer_mark (call_of by (verbs.PostSend s request)) (answers.Posted key) ∷ []) ms agree refl refl refl turn)

pub polls-post_recv : (c : Configuration) (past : Past) (w : World) (by : ℕ) (s : Slot) (request : RecvRequest) → IsSoundWorld c w → length request.list.items ≤ MAX_PIECES → PollsAgree past w
    → Leads w (PollsBy past by (verbs.PostRecv s request)) (post_recv_plan (call_of by (verbs.PostRecv s request)) s request)
polls-post_recv c past w by s request sound few agree = leads-post_recv c w (PollsBy past by (verbs.PostRecv s request)) (call_of by (verbs.PostRecv s request)) s request sound few
    (λ r. record { agree = agree; right = refl })
    (λ v ms turn. turn-polls past (events.Verb by (verbs.PostRecv s request)) w v (answer_mark (call_of by (verbs.PostRecv s request)) (answers.Posted None) ∷ []) ms agree refl refl refl turn)

pub polls-dealloc_mw : (c : Configuration) (past : Past) (w : World) (by : ℕ) (s : Slot) → IsSoundWorld c w → PollsAgree past w
    → Leads w (PollsBy past by (verbs.DeallocMw s)) (dealloc_mw_plan (call_of by (verbs.DeallocMw s)) s)
polls-dealloc_mw c past w by s sound agree = leads-dealloc c w (PollsBy past by (verbs.DeallocMw s)) (call_of by (verbs.DeallocMw s)) s sound (λ r. record { agree = agree; right = refl }) (record {
  alone = λ v same. record { agree = same-polls past w v agree same.queue same.cq; right = refl };
  ended = λ v adapter key same. record { agree = same-polls past w v agree same.queue same.cq; right = refl };
  binder = λ v adapter key turn. turn-polls past (events.Verb by (verbs.DeallocMw s)) w v (answer_mark (call_of by (verbs.DeallocMw s)) answers.Fine ∷ [])
      (answer_mark (call_of by (verbs.DeallocMw s)) answers.Fine ∷ marks.Revoked adapter key ∷ []) agree refl refl refl turn;
})

pub polls-inject : (c : Configuration) (past : Past) (w : World) (by : ℕ) (q : QueueId) (bytes : List ℕ) → IsSoundWorld c w → PollsAgree past w
    → Leads w (PollsBy past by (verbs.Inject q bytes)) (inject_plan c (call_of by (verbs.Inject q bytes)) q bytes)
polls-inject c past w by q bytes sound agree = at (w.queue q) refl (sound.things (Queue_of q))
  where
    call : Call
    call = call_of by (verbs.Inject q bytes)

    P : World → List Mark → Type 0
    P = PollsBy past by (verbs.Inject q bytes)

    arrives : QueueSlot → Plan
    arrives (NoQueue incarnation timers) = Refuse_plan call NoSuch
    arrives (Present p) = Arrive c p bytes None [] (answer_mark call answers.Fine ∷ [])

    at : (slot : QueueSlot) → w.queue q ≡ slot → IsQueueOf q slot → Leads w P (arrives slot)
    at (NoQueue incarnation timers) is one = record { agree = agree; right = refl }
    at (Present p) is one = leads-weaker w (IsTurn w (answer_mark call answers.Fine ∷ [])) P (Arrive c p bytes None [] (answer_mark call answers.Fine ∷ []))
        (λ v ms turn. turn-polls past (events.Verb by (verbs.Inject q bytes)) w v (answer_mark call answers.Fine ∷ []) ms agree refl refl refl turn)
        (turns-arrive c w p bytes None [] (answer_mark call answers.Fine ∷ []) sound (is-there w q p is one) (record {}))
