-- Verbs that make, change and end queue pairs and shared receive queues, and polls, keep the agreement on lists. For proofs
-- only.
use Rattle.std.proofs.Common.{◌≡◌, ℕ, suc, zero, ◌+◌, ◌-◌, ◌≤◌, ◌<◌, ◌==◌, nat_lt, max, is_some, Bool, true, false, if◌then◌else◌, List, [], ◌∷◌, ◌++◌, length, length-append, length-drop, drop, take, Option, None, Some, IfSome, slice_get, refl, sym, ap, subst, ◌∙◌, arith, true≢false}
use Rattle.std.specs.List.{AllByRecursion}
use Rattle.ca_law_order.proofs.Lists.PlanLemmas.{lists-arrive, was-there}
use Rattle.ca_law_order.proofs.Lists.TurnLemmas.{AreStill, KeepsShared, Leaves}
use Rattle.ca_law_order.specs.Lists.{AgreeInSlot, AgreeOnLists, AgreeOnReceiver, AgreeOnShared, AreAtPlaces, HasPosted, HoldsOwn, ListsAgree, life_of, receive_by}
use Rattle.ca_law_order.proofs.Polls.TurnLemmas.{leads-tests}
use Rattle.ca_base.specs.objects.CompletionQueue.{CompletionQueue, after_polls, after_reserve, without_completions}
use Rattle.ca_base.specs.objects.QueuePair.{QueuePair, QueueSlot, NoQueue, Present, recv_cq_of, send_cq_of, srq_of}
use Rattle.ca_base.specs.objects.StateTable.{modify_refusals, queue_after_change}
use Rattle.ca_base.specs.objects.Window.{Binding, Window, after_deallocation}
use Rattle.ca_base.specs.objects.WorkQueue.{empty_queue, next_place, WorkQueue, after_retire}
use Rattle.ca_base.specs.objects.Region.{with_window_unbound}
use Rattle.ca_keys.specs.Numbers.{queue_of}
use Rattle.ca_law_world.proofs.Sound.WorldLemmas.{IsThere, around_in, is-there, shared_of}
use Rattle.ca_model.specs.Past.{after_mark, Past, at_begin, with_at}
use Rattle.ca_model.specs.machine.Around.{cq_updates, Around}
use Rattle.ca_model.specs.machine.Completions.{flush_marks}
use Rattle.ca_model.specs.machine.PostingVerbs.{post_srq_plan}
use Rattle.ca_model.specs.machine.Plan.{Look, Plan, Update, ◌:=◌, put_all}
use Rattle.ca_model.specs.machine.Row.{region_under}
use Rattle.ca_model.specs.machine.Sound.{IsFinished, IsSettled, IsQueueOf, IsSoundWorld}
use Rattle.ca_model.specs.machine.VerbAnswers.{of_change_refusals, Answer_plan, Call, Refuse_plan, Unless_plan, answer_mark}
use Rattle.ca_model.specs.machine.WindowVerbs.{With_binder, queue_updates, dealloc_mw_plan}
use Rattle.ca_model.specs.machine.World.{World, Name, Domain_of, Region_of, Window_of, Cq_of, Srq_of, Queue_of, Mailbox_of, Byte_at, Thing, put}
use Rattle.ca_law_world.proofs.Sound.SettledLemmas.{queue-refl, queue-path, slot-path}
use Rattle.std.specs.Option.{option_eq, option_map}
use Rattle.ca_law_endings.proofs.LeadsLemmas.{leads-around}
use Rattle.ca_law_endings.proofs.PathVerbLemmas.{call_of}
use Rattle.ca_law_endings.specs.Runs.{Leads}
use Rattle.ca_law_order.proofs.Polls.PlanLemmas.{AreFreed, IsFreed, created, leads-create, leads-poll}
use Rattle.ca_law_order.proofs.Polls.PostingLemmas.{leads-present}
use Rattle.ca_base.specs.Configuration.{Configuration}
use Rattle.ca_base.specs.declared.completion.Completion.{Completion}
use Rattle.ca_base.specs.declared.limits.TheConstants.{MAX_MESSAGE_BYTES}
use Rattle.ca_base.specs.declared.request.PlacedReceive.{PlacedReceive}
use Rattle.ca_base.specs.declared.request.RecvRequest.{RecvRequest}
use Rattle.ca_base.specs.objects.Domain.{with_object, without_object}
use Rattle.ca_base.specs.objects.Mailbox.{with_peer}
use Rattle.ca_base.specs.objects.SharedReceives.{SharedReceives, SrqSlot, after_receive_post, after_receive_retire, after_receives_retire, empty_receives, is_full_of_receives}
use Rattle.ca_keys.specs.Equal.{queue_eq, slot_eq}
use Rattle.ca_keys.specs.declared.names.QueueId.{QueueId}
use Rattle.ca_keys.specs.declared.names.Slot.{Slot}
use Rattle.ca_law_parts.proofs.Room.RoomLemmas.{shared-used}
use Rattle.ca_law_parts.specs.Room.{HasRoom}
use Rattle.ca_model.specs.Requests.{list_length}
use Rattle.ca_model.specs.declared.answer.Refusal.TheVariants.{NoSuch, QueueFull, TooLong, WindowsBound}
use Rattle.ca_model.specs.declared.mark.Mark.{Mark}
use Rattle.ca_model.specs.machine.CompletionVerbs.{after_poll, create_srq_plan, destroy_srq_plan, poll_plan, receives_after_poll, slot_after_poll, source_of_completion}
use Rattle.ca_model.specs.machine.Delivery.{Arrive}
use Rattle.ca_model.specs.machine.HostVerbs.{inject_plan}
use Rattle.ca_model.specs.machine.QueuePairVerbs.{Creation, before_receives, beside, create_qp_plan, destroy_qp_plan, emptied_mailbox, emptied_updates, left_updates, modify_qp_plan, new_queue, places_held, receive_reserve, receive_room, send_reserved, without_queue}
use Rattle.ca_base.specs.declared.change.Change as state_change
use Rattle.ca_base.specs.declared.change.Change.TheVariants as changes
use Rattle.ca_model.specs.declared.answer.Answer.TheVariants as answers
use Rattle.ca_model.specs.declared.event.Event.TheVariants as events
use Rattle.ca_model.specs.declared.mark.Mark.TheVariants as marks
use Rattle.ca_model.specs.declared.verb.Verb.TheVariants as verbs
use Rattle.ca_law_order.proofs.Lists.VerbLemmas.{KeepsSlot, KeepsSlots, ListsBy, all-posted, answered-lists, flush-still, holds-more, kept-agree, put-keeps, same-keeps, slice-last, slice-more, there-keeps}
use Rattle.ca_model.specs.machine.Invariants.{IsReceives}
use Rattle.ca_base.specs.objects.Window.{key_of_window}

-- ---- shared receive queues

-- another value of a shared receive queue, in which no more waits
retired-keeps : (f : SharedReceives → SharedReceives) (before after : SrqSlot) (posted : List RecvRequest) → ((s : SharedReceives) → ((f s).next ≡ s.next) × ((f s).waiting ≡ s.waiting)) → after.srq ≡ option_map f before.srq → AgreeOnShared posted before → AgreeOnShared posted after
retired-keeps f before after posted same is was = subst (λ o. IfSome o (λ s. (s.next ≡ length posted) × AreAtPlaces posted s.waiting)) (sym is) (by before.srq was)
  where
    by : (o : Option SharedReceives) → IfSome o (λ s. (s.next ≡ length posted) × AreAtPlaces posted s.waiting) → IfSome (option_map f o) (λ s. (s.next ≡ length posted) × AreAtPlaces posted s.waiting)
    by None was = record {}
    by (Some s) was = ((same s).0 ∙ was.0, subst (AreAtPlaces posted) (sym (same s).1) was.1)

replaced-keeps : (srq : Slot → SrqSlot) (at : Slot) (slot : SrqSlot) (f : SharedReceives → SharedReceives) → ((s : SharedReceives) → ((f s).next ≡ s.next) × ((f s).waiting ≡ s.waiting)) → slot.srq ≡ option_map f (srq at).srq → KeepsShared srq (with_at slot_eq srq at slot)
replaced-keeps srq at slot f same is t posted was = by (slot_eq at t) refl
  where
    by : (b : Bool) → slot_eq at t ≡ b → AgreeOnShared posted (if b then slot else srq t)
    by true e = retired-keeps f (srq t) slot posted same (is ∙ ap (λ u. option_map f (srq u).srq) (slot-path at t e)) was
    by false e = was

retired-waits : (ps : List ℕ) (s : SharedReceives) → ((after_receives_retire ps s).next ≡ s.next) × ((after_receives_retire ps s).waiting ≡ s.waiting)
retired-waits [] s = (refl, refl)
retired-waits (p ∷ ps) s = retired-waits ps (after_receive_retire p s)

pub lists-destroy_srq : (past : Past) (w : World) (by : ℕ) (s : Slot) → ListsAgree past w → Leads w (ListsBy past by (verbs.DestroySrq s)) (destroy_srq_plan (call_of by (verbs.DestroySrq s)) s)
lists-destroy_srq past w by s agree = (
  λ is. agree,
  λ there. (
    λ is. agree,
    λ free. kept-agree past w (put_all ((Domain_of s.domain := without_object (w.domain s.domain)) ∷ (Srq_of s := record (w.srq s) { srq = None }) ∷ []) w) agree
        (λ n own srq shared placed was. was) (λ t posted was. at t posted (slot_eq s t) was),
  ),
)
  where
    at : (t : Slot) (posted : List RecvRequest) (b : Bool) → AgreeOnShared posted (w.srq t) → AgreeOnShared posted (if b then record (w.srq s) { srq = None } else w.srq t)
    at t posted true was = record {}
    at t posted false was = was

-- a slot whose shared receive queue has what it had
shared-changed : (own : List RecvRequest) (srq : Option Slot) (f g : Slot → List RecvRequest) (placed : ℕ) (slot : QueueSlot)
    → ((q : QueuePair) (t : ℕ) → slot ≡ Present q → q.srq ≡ Some t → (place : ℕ) (x : RecvRequest) → slice_get (f (srq_of q t)) place ≡ Some x → slice_get (g (srq_of q t)) place ≡ Some x)
    → AgreeInSlot own srq f placed slot → AgreeInSlot own srq g placed slot
shared-changed own srq f g placed (NoQueue incarnation timers) more was = record {}
shared-changed own srq f g placed (Present q) more was = record { source = was.source; posted = was.posted; message = by q.srq refl was.source }
  where
    by : (o : Option ℕ) → q.srq ≡ o → srq ≡ option_map (srq_of q) o → HoldsOwn (receive_by own srq g) placed q.responder.message
    by None uses is = subst (λ x. HoldsOwn (receive_by own x g) placed q.responder.message) (sym is) (subst (λ x. HoldsOwn (receive_by own x f) placed q.responder.message) is was.message)
    by (Some t) uses is = subst (λ x. HoldsOwn (receive_by own x g) placed q.responder.message) (sym is)
        (holds-more (receive_by own (Some (srq_of q t)) f) (receive_by own (Some (srq_of q t)) g) placed q.responder.message (more q t refl uses) (subst (λ x. HoldsOwn (receive_by own x f) placed q.responder.message) is was.message))

pub lists-create_srq : (past : Past) (w : World) (by : ℕ) (s : Slot) (depth : ℕ) → HasRoom w → ListsAgree past w
    → Leads w (ListsBy past by (verbs.CreateSrq s depth)) (create_srq_plan (call_of by (verbs.CreateSrq s depth)) s depth)
lists-create_srq past w by s depth room agree = (
  λ is. agree,
  λ there. (
    λ is. agree,
    λ free. (
      λ is. agree,
      λ fits. record {
        queues = λ n. shared-changed (past.receives (life_of n (past.incarnation n))) (past.srq n) past.shared (with_at slot_eq past.shared s []) (past.placed n) (w.queue n)
            (λ q t is uses place x had. unused n q t is uses free (slot_eq s (srq_of q t)) refl place x had) (agree.queues n);
        later = agree.later;
        waiting = λ t. at t (slot_eq s t);
      },
    ),
  ),
)
  where
    unused : (n : QueueId) (q : QueuePair) (t : ℕ) → w.queue n ≡ Present q → q.srq ≡ Some t → is_some (w.srq s).srq ≡ false → (b : Bool) → slot_eq s (srq_of q t) ≡ b → (place : ℕ) (x : RecvRequest) → slice_get (past.shared (srq_of q t)) place ≡ Some x
        → slice_get (if b then [] else past.shared (srq_of q t)) place ≡ Some x
    unused n q t is uses free true e place x had = absurd (true≢false (sym (ap (λ u. is_some (w.srq u).srq) (slot-path s (srq_of q t) e) ∙ shared-used w n q t room is uses) ∙ free))
    unused n q t is uses free false e place x had = had

    at : (t : Slot) (b : Bool) → AgreeOnShared (if b then [] else past.shared t) (if b then record (w.srq s) { srq = Some (empty_receives depth) } else w.srq t)
    at t true = (refl, record {})
    at t false = agree.waiting t

places-more : (posted : List RecvRequest) (request : RecvRequest) (xs : List PlacedReceive) → AreAtPlaces posted xs → AreAtPlaces (posted ++ request ∷ []) (xs ++ record { place = length posted; receive = request } ∷ [])
places-more posted request [] all = (slice-last posted request, record {})
places-more posted request (x ∷ xs) all = (slice-more posted (request ∷ []) x.place x.receive all.0, places-more posted request xs all.1)

pub lists-post_srq : (past : Past) (w : World) (by : ℕ) (s : Slot) (request : RecvRequest) → ListsAgree past w
    → Leads w (ListsBy past by (verbs.PostSrq s request)) (post_srq_plan (call_of by (verbs.PostSrq s request)) s request)
lists-post_srq past w by s request agree = on (w.srq s).srq refl
  where
    call : Call
    call = call_of by (verbs.PostSrq s request)

    P : World → List Mark → Type 0
    P = ListsBy past by (verbs.PostSrq s request)

    plan : Option SharedReceives → Plan
    plan None = Refuse_plan call NoSuch
    plan (Some z) =
        Unless_plan call
        ((nat_lt MAX_MESSAGE_BYTES (list_length request.list.items), TooLong) ∷ (is_full_of_receives z, QueueFull) ∷ [])
        (Answer_plan call (answers.Posted None)
        ((Srq_of s := record (w.srq s) { srq = Some (after_receive_post request z) }) ∷ []) [])

    grown : (t : Slot) (b : Bool) → slot_eq s t ≡ b → (place : ℕ) (x : RecvRequest) → slice_get (past.shared t) place ≡ Some x → slice_get (if b then past.shared s ++ request ∷ [] else past.shared t) place ≡ Some x
    grown t true e place x had = slice-more (past.shared s) (request ∷ []) place x (subst (λ u. slice_get (past.shared u) place ≡ Some x) (sym (slot-path s t e)) had)
    grown t false e place x had = had

    at : (z : SharedReceives) → (w.srq s).srq ≡ Some z → (t : Slot) (b : Bool) → AgreeOnShared (if b then past.shared s ++ request ∷ [] else past.shared t) (if b then record (w.srq s) { srq = Some (after_receive_post request z) } else w.srq t)
    at z is t true = more (subst (λ o. IfSome o (λ x. (x.next ≡ length (past.shared s)) × AreAtPlaces (past.shared s) x.waiting)) is (agree.waiting s))
      where
        more : (z.next ≡ length (past.shared s)) × AreAtPlaces (past.shared s) z.waiting
            → (suc z.next ≡ length (past.shared s ++ request ∷ [])) × AreAtPlaces (past.shared s ++ request ∷ []) (z.waiting ++ record { place = z.next; receive = request } ∷ [])
        more was = (
          omega (arith, was.0, length-append (past.shared s) (request ∷ [])),
          subst (λ n. AreAtPlaces (past.shared s ++ request ∷ []) (z.waiting ++ record { place = n; receive = request } ∷ [])) (sym was.0) (places-more (past.shared s) request z.waiting was.1),
        )
    at z is t false = agree.waiting t

    posted : (z : SharedReceives) → (w.srq s).srq ≡ Some z → P (put_all ((Srq_of s := record (w.srq s) { srq = Some (after_receive_post request z) }) ∷ []) w) (answer_mark call (answers.Posted None) ∷ [])
    posted z is = record {
      queues = λ n. shared-changed (past.receives (life_of n (past.incarnation n))) (past.srq n) past.shared (with_at slot_eq past.shared s (past.shared s ++ request ∷ [])) (past.placed n) (w.queue n)
          (λ q t there uses place x had. grown (srq_of q t) (slot_eq s (srq_of q t)) refl place x had) (agree.queues n);
      later = agree.later;
      waiting = λ t. at z is t (slot_eq s t);
    }

    on : (o : Option SharedReceives) → (w.srq s).srq ≡ o → Leads w P (plan o)
    on None is = agree
    on (Some z) is = (λ long. agree, λ short. (λ full. agree, λ free. posted z is))

-- ---- a queue pair begins a life

new-life : (past : Past) (w : World) (place : QueueId) (x : QueuePair) (srqs : QueueId → Option Slot) (placed : QueueId → ℕ) (srq : Slot → SrqSlot) → ListsAgree past w → KeepsShared w.srq srq
    → ((n : QueueId) → queue_eq place n ≡ false → (srqs n ≡ past.srq n) × (placed n ≡ past.placed n)) → AgreeOnReceiver [] (srqs place) past.shared (placed place) x
    → AgreeOnLists (with_at queue_eq past.incarnation place (suc (past.incarnation place))) past.receives srqs past.shared placed (with_at queue_eq w.queue place (Present x)) srq
new-life past w place x srqs placed srq agree keeps others own = record { queues = λ n. at n (queue_eq place n) refl; later = λ n i less. later n i (queue_eq place n) refl less; waiting = λ s. keeps s (past.shared s) (agree.waiting s) }
  where
    at : (n : QueueId) (b : Bool) → queue_eq place n ≡ b → AgreeInSlot (past.receives (life_of n (if b then suc (past.incarnation place) else past.incarnation n))) (srqs n) past.shared (placed n) (if b then Present x else w.queue n)
    at n true e = subst (λ m. AgreeOnReceiver (past.receives (life_of m (suc (past.incarnation place)))) (srqs m) past.shared (placed m) x) (queue-path place n e)
        (subst (λ xs. AgreeOnReceiver xs (srqs place) past.shared (placed place) x) (sym (agree.later place (suc (past.incarnation place)) (omega arith))) own)
    at n false e = subst (λ k. AgreeInSlot (past.receives (life_of n (past.incarnation n))) (srqs n) past.shared k (w.queue n)) (sym (others n e).1)
        (subst (λ o. AgreeInSlot (past.receives (life_of n (past.incarnation n))) o past.shared (past.placed n) (w.queue n)) (sym (others n e).0) (agree.queues n))

    later : (n : QueueId) (i : ℕ) (b : Bool) → queue_eq place n ≡ b → (if b then suc (past.incarnation place) else past.incarnation n) < i → past.receives (life_of n i) ≡ []
    later n i true e less = agree.later n i (omega (arith, less, ap past.incarnation (queue-path place n e)))
    later n i false e less = agree.later n i less

-- ---- CreateQp

made-lists : (past : Past) (w : World) (by : ℕ) (x : Creation) (send recv : CompletionQueue) (shared : Option SharedReceives) → ListsAgree past w
    → ListsBy past by (verbs.CreateQp x.slot x.send_cq x.recv_cq x.send_depth x.recv_depth x.srq) (put_all (created w x send recv shared) w)
    (answer_mark (call_of by (verbs.CreateQp x.slot x.send_cq x.recv_cq x.send_depth x.recv_depth x.srq)) (answers.Queue (queue_of x.slot).number (new_queue x (w.queue (queue_of x.slot))).incarnation) ∷ [])
made-lists past w by x send recv shared agree = users x.srq
  where
    place : QueueId
    place = queue_of x.slot

    q : QueuePair
    q = new_queue x (w.queue place)

    v : World
    v = put_all ((Domain_of x.slot.domain := with_object (w.domain x.slot.domain)) ∷ (Queue_of place := Present q) ∷ (Mailbox_of place := with_peer q.incarnation None (w.mailbox place))
        ∷ (Cq_of (beside x.slot x.send_cq) := Some (send_reserved x send))
        ∷ (Cq_of (beside x.slot x.recv_cq) := Some (after_reserve (receive_reserve x) (receive_room x shared) (before_receives x send recv))) ∷ []) w

    updates : Option ℕ → Option SrqSlot → List Update
    updates (Some srq) (Some slot) = (Srq_of (beside x.slot srq) := record slot { users = suc slot.users }) ∷ []
    updates srq slot = []

    P : World → Type 0
    P u = ListsBy past by (verbs.CreateQp x.slot x.send_cq x.recv_cq x.send_depth x.recv_depth x.srq) u
        (answer_mark (call_of by (verbs.CreateQp x.slot x.send_cq x.recv_cq x.send_depth x.recv_depth x.srq)) (answers.Queue place.number q.incarnation) ∷ [])

    at : (srq : ℕ) (t : Slot) (b : Bool) → slot_eq (beside x.slot srq) t ≡ b → (posted : List RecvRequest) → AgreeOnShared posted (w.srq t)
        → AgreeOnShared posted (if b then record (w.srq (beside x.slot srq)) { users = suc (w.srq (beside x.slot srq)).users } else w.srq t)
    at srq t true e posted was = subst (λ u. AgreeOnShared posted (w.srq u)) (sym (slot-path (beside x.slot srq) t e)) was
    at srq t false e posted was = was

    source : Option Slot
    source = option_map (λ srq. record { domain = x.slot.domain; slot = srq }) x.srq

    receives : IfSome q.receives (HasPosted [])
    receives = posted x.srq
      where
        queue : Option ℕ → Option (WorkQueue RecvRequest)
        queue None = Some (record { depth = x.recv_depth; first = 0; items = []; next_taken = 0 })
        queue (Some srq) = None

        posted : (o : Option ℕ) → IfSome (queue o) (HasPosted [])
        posted None = record { count = refl; items = refl }
        posted (Some srq) = record {}

    life : (srq : Slot → SrqSlot) → KeepsShared w.srq srq → AgreeOnLists (with_at queue_eq past.incarnation place (suc (past.incarnation place))) past.receives (with_at queue_eq past.srq place source) past.shared (with_at queue_eq past.placed place 0)
        (with_at queue_eq w.queue place (Present q)) srq
    life srq keeps = new-life past w place q (with_at queue_eq past.srq place source) (with_at queue_eq past.placed place 0) srq agree keeps
        (λ n e. (ap (λ b. if b then source else past.srq n) e, ap (λ b. if b then 0 else past.placed n) e))
        (record { source = ap (λ b. if b then source else past.srq place) (queue-refl place); posted = receives; message = record {} })

    users : (o : Option ℕ) → P (put_all (updates o (option_map (λ srq. w.srq (beside x.slot srq)) o)) v)
    users None = life w.srq (λ t posted was. was)
    users (Some srq) = life (with_at slot_eq w.srq (beside x.slot srq) (record (w.srq (beside x.slot srq)) { users = suc (w.srq (beside x.slot srq)).users })) (λ t posted was. at srq t (slot_eq (beside x.slot srq) t) refl posted was)

pub lists-create : (c : Configuration) (past : Past) (w : World) (by : ℕ) (x : Creation) → ListsAgree past w
    → Leads w (ListsBy past by (verbs.CreateQp x.slot x.send_cq x.recv_cq x.send_depth x.recv_depth x.srq))
    (create_qp_plan c (call_of by (verbs.CreateQp x.slot x.send_cq x.recv_cq x.send_depth x.recv_depth x.srq)) x)
lists-create c past w by x agree = leads-create c w (ListsBy past by (verbs.CreateQp x.slot x.send_cq x.recv_cq x.send_depth x.recv_depth x.srq))
    (call_of by (verbs.CreateQp x.slot x.send_cq x.recv_cq x.send_depth x.recv_depth x.srq)) x (λ r. agree)
    (λ send recv shared sends receives. made-lists past w by x send recv shared agree)

-- ---- ModifyQp

pub lists-modify : (c : Configuration) (past : Past) (w : World) (by : ℕ) (s : Slot) (change : state_change.Change) → IsSoundWorld c w → ListsAgree past w
    → Leads w (ListsBy past by (verbs.ModifyQp s change)) (modify_qp_plan c (call_of by (verbs.ModifyQp s change)) s change)
lists-modify c past w by s change sound agree = leads-present c w P call s _ sound (λ r. agree) (λ q there own.
    leads-around w P q (λ a. Unless_plan call (of_change_refusals (modify_refusals c q change)) (plan q a change))
    (leads-tests w P (of_change_refusals (modify_refusals c q change)) (Refuse_plan call) (plan q (around_in w q (shared_of w q)) change) (λ r. agree) (λ fails. changed q there own change refl)))
  where
    call : Call
    call = call_of by (verbs.ModifyQp s change)

    P : World → List Mark → Type 0
    P = ListsBy past by (verbs.ModifyQp s change)

    updates : QueuePair → Around → state_change.Change → List Update
    updates q a changes.Error = cq_updates q a (flush_marks q)
    updates q a changes.Reset =
        (Mailbox_of q.queue := emptied_mailbox (queue_after_change changes.Reset q).incarnation (w.mailbox q.queue)) ∷ emptied_updates q a
    updates q a (changes.Rtr peer incarnation psn mtu rnr_code) =
        (Mailbox_of q.queue := with_peer q.incarnation (Some (record { queue = peer; incarnation = incarnation })) (w.mailbox q.queue)) ∷ []
    updates q a change = []

    told : QueuePair → state_change.Change → List Mark
    told q changes.Error = flush_marks q
    told q change = []

    plan : QueuePair → Around → state_change.Change → Plan
    plan q a change = Answer_plan call answers.Fine ((Queue_of q.queue := Present (queue_after_change change q)) ∷ updates q a change) (told q change)

    By : state_change.Change → World → List Mark → Type 0
    By x v ms = ListsBy past by (verbs.ModifyQp s x) v (answer_mark (call_of by (verbs.ModifyQp s x)) answers.Fine ∷ ms)

    -- a change that leaves lists
    quiet : (x : state_change.Change) (q p : QueuePair) (v : World) (ms : List Mark) → IsThere w q → Leaves (at_begin (events.Verb by (verbs.ModifyQp s x)) past) (after_mark (answer_mark (call_of by (verbs.ModifyQp s x)) answers.Fine) (at_begin (events.Verb by (verbs.ModifyQp s x)) past))
        → AreStill ms → KeepsSlot (Present q) (Present p) → v.queue ≡ with_at queue_eq w.queue q.queue (Present p) → v.srq ≡ w.srq → By x v ms
    quiet x q p v ms there leaves still keeps queue srq = answered-lists past w v by (verbs.ModifyQp s x) answers.Fine ms agree leaves still
        (subst (KeepsSlots w.queue) (sym queue) (there-keeps w q p there keeps)) (subst (KeepsShared w.srq) (sym srq) (same-keeps w.srq))

    a : QueuePair → Around
    a q = around_in w q (shared_of w q)

    u : QueuePair → World
    u q = put_all ((Queue_of q.queue := Present (queue_after_change changes.Reset q))
        ∷ (Mailbox_of q.queue := emptied_mailbox (queue_after_change changes.Reset q).incarnation (w.mailbox q.queue))
        ∷ (Cq_of (send_cq_of q) := option_map (without_completions q.queue) (w.cq (send_cq_of q)))
        ∷ (Cq_of (recv_cq_of q) := option_map (without_completions q.queue) (w.cq (recv_cq_of q)))
        ∷ []) w

    retired : QueuePair → Option ℕ → Option SrqSlot → List Update
    retired q (Some srq) (Some slot) = (Srq_of (srq_of q srq) := record slot { srq = option_map (after_receives_retire (places_held q (a q))) slot.srq }) ∷ []
    retired q srq slot = []

    left : QueuePair → state_change.Change → World
    left q x = put_all ((Queue_of q.queue := Present (queue_after_change x q)) ∷ updates q (a q) x) w

    emptied : (o : Option (WorkQueue RecvRequest)) → IfSome (option_map (λ r. empty_queue r.depth) o) (HasPosted [])
    emptied None = record {}
    emptied (Some r) = record { count = refl; items = refl }

    lived : (q : QueuePair) → IsThere w q → q.queue ≡ queue_of s → (srq : Slot → SrqSlot) → KeepsShared w.srq srq
        → AgreeOnLists (with_at queue_eq past.incarnation (queue_of s) (suc (past.incarnation (queue_of s)))) past.receives past.srq past.shared past.placed (with_at queue_eq w.queue q.queue (Present (queue_after_change changes.Reset q))) srq
    lived q there own srq keeps = subst (λ n. AgreeOnLists (with_at queue_eq past.incarnation n (suc (past.incarnation n))) past.receives past.srq past.shared past.placed (with_at queue_eq w.queue q.queue (Present (queue_after_change changes.Reset q))) srq) own
        (new-life past w q.queue (queue_after_change changes.Reset q) past.srq past.placed srq agree keeps (λ n e. (refl, refl)) (record { source = (was-there past w q agree there).source; posted = emptied q.receives; message = record {} }))

    reset : (q : QueuePair) → IsThere w q → q.queue ≡ queue_of s
        → By changes.Reset (put_all ((Queue_of q.queue := Present (queue_after_change changes.Reset q)) ∷ updates q (a q) changes.Reset) w) []
    reset q there own = on q.srq
      where
        on : (o : Option ℕ) → AgreeOnLists (with_at queue_eq past.incarnation (queue_of s) (suc (past.incarnation (queue_of s)))) past.receives past.srq past.shared past.placed (put_all (retired q o (option_map (λ srq. w.srq (srq_of q srq)) o)) (u q)).queue
            (put_all (retired q o (option_map (λ srq. w.srq (srq_of q srq)) o)) (u q)).srq
        on None = lived q there own w.srq (λ t posted was. was)
        on (Some srq) = lived q there own (with_at slot_eq w.srq (srq_of q srq) (record (w.srq (srq_of q srq)) { srq = option_map (after_receives_retire (places_held q (a q))) (w.srq (srq_of q srq)).srq }))
            (replaced-keeps w.srq (srq_of q srq) (record (w.srq (srq_of q srq)) { srq = option_map (after_receives_retire (places_held q (a q))) (w.srq (srq_of q srq)).srq }) (after_receives_retire (places_held q (a q))) (retired-waits (places_held q (a q))) refl)

    one : (q : QueuePair) → IsThere w q → q.queue ≡ queue_of s → (x : state_change.Change) → By x (put_all ((Queue_of q.queue := Present (queue_after_change x q)) ∷ updates q (a q) x) w) (told q x)
    one q there own changes.Reset = reset q there own
    one q there own changes.Error = quiet changes.Error q (queue_after_change changes.Error q) (left q changes.Error) (flush_marks q) there (record { incarnation = refl; receives = refl; srq = refl; shared = refl; placed = refl; arrival = refl }) (flush-still q)
        (λ o srq shared placed was. record { source = was.source; posted = all-posted o q.receives was.posted; message = record {} }) refl refl
    one q there own changes.Init = quiet changes.Init q (queue_after_change changes.Init q) (left q changes.Init) [] there (record { incarnation = refl; receives = refl; srq = refl; shared = refl; placed = refl; arrival = refl }) (record {})
        (λ o srq shared placed was. record { source = was.source; posted = was.posted; message = was.message }) refl refl
    one q there own (changes.Rtr peer incarnation psn mtu rnr_code) = quiet (changes.Rtr peer incarnation psn mtu rnr_code) q (queue_after_change (changes.Rtr peer incarnation psn mtu rnr_code) q) (left q (changes.Rtr peer incarnation psn mtu rnr_code)) [] there
        (record { incarnation = refl; receives = refl; srq = refl; shared = refl; placed = refl; arrival = refl }) (record {}) (λ o srq shared placed was. record { source = was.source; posted = was.posted; message = was.message }) refl refl
    one q there own (changes.Rts psn retry rnr_retry reads) = quiet (changes.Rts psn retry rnr_retry reads) q (queue_after_change (changes.Rts psn retry rnr_retry reads) q) (left q (changes.Rts psn retry rnr_retry reads)) [] there
        (record { incarnation = refl; receives = refl; srq = refl; shared = refl; placed = refl; arrival = refl }) (record {}) (λ o srq shared placed was. record { source = was.source; posted = was.posted; message = was.message }) refl refl
    one q there own changes.Sqd = quiet changes.Sqd q (queue_after_change changes.Sqd q) (left q changes.Sqd) [] there (record { incarnation = refl; receives = refl; srq = refl; shared = refl; placed = refl; arrival = refl }) (record {})
        (λ o srq shared placed was. record { source = was.source; posted = was.posted; message = was.message }) refl refl
    one q there own changes.Resume = quiet changes.Resume q (queue_after_change changes.Resume q) (left q changes.Resume) [] there (record { incarnation = refl; receives = refl; srq = refl; shared = refl; placed = refl; arrival = refl }) (record {})
        (λ o srq shared placed was. record { source = was.source; posted = was.posted; message = was.message }) refl refl

    changed : (q : QueuePair) → IsThere w q → q.queue ≡ queue_of s → (x : state_change.Change) → change ≡ x → Leads w P (plan q (a q) x)
    changed q there own x is = subst (λ y. ListsBy past by (verbs.ModifyQp s y) (put_all ((Queue_of q.queue := Present (queue_after_change x q)) ∷ updates q (a q) x) w) (answer_mark (call_of by (verbs.ModifyQp s y)) answers.Fine ∷ told q x)) (sym is) (one q there own x)

-- ---- DestroyQp

pub lists-destroy : (c : Configuration) (past : Past) (w : World) (by : ℕ) (s : Slot) → IsSoundWorld c w → ListsAgree past w
    → Leads w (ListsBy past by (verbs.DestroyQp s)) (destroy_qp_plan (call_of by (verbs.DestroyQp s)) s)
lists-destroy c past w by s sound agree = leads-present c w P call s _ sound (λ r. agree) (λ q there own.
    leads-around w P q (λ a. Unless_plan call ((nat_lt 0 q.windows, WindowsBound) ∷ []) (ending q a))
    (leads-tests w P ((nat_lt 0 q.windows, WindowsBound) ∷ []) (Refuse_plan call) (ending q (around_in w q (shared_of w q))) (λ r. agree) (λ fails. gone q)))
  where
    call : Call
    call = call_of by (verbs.DestroyQp s)

    P : World → List Mark → Type 0
    P = ListsBy past by (verbs.DestroyQp s)

    ending : QueuePair → Around → Plan
    ending q a = Answer_plan call answers.Fine
        ((Domain_of s.domain := without_object (w.domain s.domain))
        ∷ (Queue_of q.queue := NoQueue q.incarnation q.requester.timers)
        ∷ (Mailbox_of q.queue := emptied_mailbox q.incarnation (w.mailbox q.queue))
        ∷ (Cq_of (send_cq_of q) := option_map (without_queue q) a.send)
        ∷ (Cq_of (recv_cq_of q) := option_map (without_queue q) a.recv)
        ∷ left_updates q a)
        []

    a : QueuePair → Around
    a q = around_in w q (shared_of w q)

    u : QueuePair → World
    u q = put_all ((Domain_of s.domain := without_object (w.domain s.domain))
        ∷ (Queue_of q.queue := NoQueue q.incarnation q.requester.timers)
        ∷ (Mailbox_of q.queue := emptied_mailbox q.incarnation (w.mailbox q.queue))
        ∷ (Cq_of (send_cq_of q) := option_map (without_queue q) (w.cq (send_cq_of q)))
        ∷ (Cq_of (recv_cq_of q) := option_map (without_queue q) (w.cq (recv_cq_of q)))
        ∷ []) w

    left : QueuePair → ℕ → SrqSlot
    left q srq = record (w.srq (srq_of q srq)) {
      srq = option_map (after_receives_retire (places_held q (a q))) (w.srq (srq_of q srq)).srq;
      users = (w.srq (srq_of q srq)).users - 1;
    }

    updates : QueuePair → Option ℕ → Option SrqSlot → List Update
    updates q (Some srq) (Some slot) = (Srq_of (record { domain = q.domain; slot = srq }) := record slot {
      srq = option_map (after_receives_retire (places_held q (a q))) slot.srq;
      users = slot.users - 1;
    }) ∷ []
    updates q srq slot = []

    gone : (q : QueuePair) → ListsBy past by (verbs.DestroyQp s) (put_all (left_updates q (a q)) (u q)) (answer_mark call answers.Fine ∷ [])
    gone q = on q.srq
      where
        slots : KeepsSlots w.queue (with_at queue_eq w.queue q.queue (NoQueue q.incarnation q.requester.timers))
        slots = put-keeps w.queue q.queue (NoQueue q.incarnation q.requester.timers) (λ own srq shared placed was. record {})

        on : (o : Option ℕ) → ListsBy past by (verbs.DestroyQp s) (put_all (updates q o (option_map (λ srq. w.srq (srq_of q srq)) o)) (u q)) (answer_mark call answers.Fine ∷ [])
        on None = kept-agree past w (u q) agree slots (λ t posted was. was)
        on (Some srq) = kept-agree past w (put_all ((Srq_of (srq_of q srq) := left q srq) ∷ []) (u q)) agree slots
            (replaced-keeps w.srq (srq_of q srq) (left q srq) (after_receives_retire (places_held q (a q))) (retired-waits (places_held q (a q))) refl)

-- ---- DeallocMw

pub lists-dealloc_mw : (c : Configuration) (past : Past) (w : World) (by : ℕ) (s : Slot) → IsSoundWorld c w → ListsAgree past w
    → Leads w (ListsBy past by (verbs.DeallocMw s)) (dealloc_mw_plan (call_of by (verbs.DeallocMw s)) s)
lists-dealloc_mw c past w by s sound agree = leads-tests w P ((window.kind == 0, NoSuch) ∷ []) (Refuse_plan call) (plan window.binding) (λ r. agree) (λ fails. at window.binding)
  where
    call : Call
    call = call_of by (verbs.DeallocMw s)

    P : World → List Mark → Type 0
    P = ListsBy past by (verbs.DeallocMw s)

    window : Window
    window = w.window s

    changed : List Update
    changed = (Domain_of s.domain := without_object (w.domain s.domain)) ∷ (Window_of s := after_deallocation window) ∷ []

    end : Binding → List Update → Plan
    end b more = Answer_plan call answers.Fine
        (changed ++ (Region_of (region_under window b) := with_window_unbound (w.region (region_under window b))) ∷ more)
        (marks.Revoked s.domain.adapter (key_of_window window) ∷ [])

    plan : Option Binding → Plan
    plan None = Answer_plan call answers.Fine changed []
    plan (Some b) = Look (Region_of (region_under window b)) (λ region. With_binder b.queue (λ more.
        Answer_plan call answers.Fine (changed ++ (Region_of (region_under window b) := with_window_unbound region) ∷ more) (marks.Revoked s.domain.adapter (key_of_window window) ∷ [])))

    queued : (b : Binding) (q : QueueId) (slot : QueueSlot) → w.queue q ≡ slot → Leads w P (end b (queue_updates q slot))
    queued b q (NoQueue incarnation timers) is = agree
    queued b q (Present p) is = kept-agree past w (put_all (changed ++ (Region_of (region_under window b) := with_window_unbound (w.region (region_under window b))) ∷ (Queue_of q := Present (record p { windows = p.windows - 1 })) ∷ []) w) agree
        (put-keeps w.queue q (Present (record p { windows = p.windows - 1 })) (subst (λ x. KeepsSlot x (Present (record p { windows = p.windows - 1 }))) (sym is)
        (λ own srq shared placed was. record { source = was.source; posted = was.posted; message = was.message }))) (λ t posted was. was)

    binds : (b : Binding) (o : Option QueueId) → Leads w P (With_binder o (end b))
    binds b None = agree
    binds b (Some q) = queued b q (w.queue q) refl

    at : (o : Option Binding) → Leads w P (plan o)
    at None = agree
    at (Some b) = binds b b.queue

-- ---- Poll

drop-drop : {A : Type 0} (i j n : ℕ) (xs : List A) → j + i ≡ n → drop i (drop j xs) ≡ drop n xs
drop-drop i zero n xs e = ap (λ k. drop k xs) {x = i} {y = n} (omega (arith, e))
drop-drop zero (suc j) zero [] e = refl
drop-drop (suc i) (suc j) zero [] e = refl
drop-drop zero (suc j) (suc n) [] e = refl
drop-drop (suc i) (suc j) (suc n) [] e = refl
drop-drop i (suc j) zero (x ∷ xs) e = absurd (omega (arith, e))
drop-drop i (suc j) (suc n) (x ∷ xs) e = drop-drop i j n xs (omega (arith, e))

-- a receive that completed frees the places up to its own
retired-posted : (own : List RecvRequest) (place : ℕ) (o : Option (WorkQueue RecvRequest)) → IfSome o (λ r. place < next_place r) → IfSome o (HasPosted own) → IfSome (option_map (after_retire place) o) (HasPosted own)
retired-posted own place None less was = record {}
retired-posted own place (Some r) less was = record {
  count = omega (arith, less, length-drop (suc place - r.first) r.items, was.count);
  items = ap (drop (suc place - r.first)) was.items ∙ drop-drop (suc place - r.first) r.first (max r.first (suc place)) own (omega arith);
}

-- what is polled lies before the end of the receive queue
abbrev LieBefore : QueueId → ℕ → List Completion → Type 0
LieBefore name end xs = AllByRecursion (λ x. queue_eq x.queue name ≡ true → x.receive ≡ true → x.place < end) xs

polled-receiver : (own : List RecvRequest) (srq : Option Slot) (shared : Slot → List RecvRequest) (placed : ℕ) (name : QueueId) (xs : List Completion) (p : QueuePair) (end : ℕ) → (IfSome p.receives (λ r. next_place r ≡ end)) → LieBefore name end xs
    → AgreeOnReceiver own srq shared placed p → AgreeOnReceiver own srq shared placed (after_poll name xs p)
polled-receiver own srq shared placed name [] p end is all was = was
polled-receiver own srq shared placed name (x ∷ xs) p end is all was = on (queue_eq x.queue name) refl x.receive refl (λ q ends was. polled-receiver own srq shared placed name xs q end ends all.1 was)
  where
    freed : Bool → QueuePair
    freed true = record p { receives = option_map (after_retire x.place) p.receives }
    freed false = record p { sends = after_retire x.place p.sends }

    less : (o : Option (WorkQueue RecvRequest)) → IfSome o (λ r. next_place r ≡ end) → x.place < end → IfSome o (λ r. x.place < next_place r)
    less None is lt = record {}
    less (Some r) is lt = omega (arith, is, lt)

    ends : (o : Option (WorkQueue RecvRequest)) → IfSome o (λ r. next_place r ≡ end) → x.place < end → IfSome (option_map (after_retire x.place) o) (λ r. next_place r ≡ end)
    ends None is lt = record {}
    ends (Some r) is lt = omega (arith, is, lt, length-drop (suc x.place - r.first) r.items)

    on : (b : Bool) → queue_eq x.queue name ≡ b → (r : Bool) → x.receive ≡ r → ((q : QueuePair) → IfSome q.receives (λ r. next_place r ≡ end) → AgreeOnReceiver own srq shared placed q → AgreeOnReceiver own srq shared placed (after_poll name xs q))
        → AgreeOnReceiver own srq shared placed (after_poll name xs (if b then freed r else p))
    on true e true r rest = rest (freed true) (ends p.receives is (all.0 e r)) (record { source = was.source; posted = retired-posted own x.place p.receives (less p.receives is (all.0 e r)) was.posted; message = was.message })
    on true e false r rest = rest (freed false) is (record { source = was.source; posted = was.posted; message = was.message })
    on false e r side rest = rest p is was

-- a queue pair without receives of its own keeps what it agrees with
none-kept : (own : List RecvRequest) (srq : Option Slot) (shared : Slot → List RecvRequest) (placed : ℕ) (name : QueueId) (xs : List Completion) (q : QueuePair) → q.receives ≡ None → AgreeOnReceiver own srq shared placed q
    → AgreeOnReceiver own srq shared placed (after_poll name xs q)
none-kept own srq shared placed name [] q none was = was
none-kept own srq shared placed name (x ∷ xs) q none was = on (queue_eq x.queue name) x.receive (λ p none was. none-kept own srq shared placed name xs p none was)
  where
    freed : Bool → QueuePair
    freed true = record q { receives = option_map (after_retire x.place) q.receives }
    freed false = record q { sends = after_retire x.place q.sends }

    on : (b r : Bool) → ((p : QueuePair) → p.receives ≡ None → AgreeOnReceiver own srq shared placed p → AgreeOnReceiver own srq shared placed (after_poll name xs p)) → AgreeOnReceiver own srq shared placed (after_poll name xs (if b then freed r else q))
    on true true rest = rest (freed true) (ap (option_map (after_retire x.place)) none) (record { source = was.source; posted = subst (λ o. IfSome (option_map (after_retire x.place) o) (HasPosted own)) (sym none) (record {}); message = was.message })
    on true false rest = rest (freed false) none (record { source = was.source; posted = was.posted; message = was.message })
    on false r rest = rest q none was

polled-slot : (c : Configuration) (w : World) (s : Slot) (name : QueueId) (polled : List Completion) → IsSoundWorld c w → AllByRecursion (λ x. IsSettled s (w.queue x.queue) x) polled → KeepsSlot (w.queue name) (slot_after_poll name polled (w.queue name))
polled-slot c w s name polled sound settled own srq shared placed = by (w.queue name) refl (sound.things (Queue_of name))
  where
    ending : Option (WorkQueue RecvRequest) → ℕ
    ending None = 0
    ending (Some r) = next_place r

    ends : (o : Option (WorkQueue RecvRequest)) → IfSome o (λ r. next_place r ≡ ending o)
    ends None = record {}
    ends (Some r) = refl

    below : (o : Option (WorkQueue RecvRequest)) (place : ℕ) → is_some o ≡ true → IfSome o (λ r. place < r.next_taken) → IfSome o (λ r. r.next_taken ≤ next_place r) → place < ending o
    below None place there lt le = absurd (true≢false (sym there))
    below (Some r) place there lt le = omega (arith, lt, le)

    waits : (o : Option (WorkQueue RecvRequest)) → IfSome o IsReceives → IfSome o (λ r. r.next_taken ≤ next_place r)
    waits None is = record {}
    waits (Some r) is = is.waiting

    by : (slot : QueueSlot) → w.queue name ≡ slot → IsQueueOf name slot → AgreeInSlot own srq shared placed slot → AgreeInSlot own srq shared placed (slot_after_poll name polled slot)
    by (NoQueue incarnation timers) is one was = record {}
    by (Present p) is one was = with_own p.receives refl
      where
        places : is_some p.receives ≡ true → (xs : List Completion) → AllByRecursion (λ x. IsSettled s (w.queue x.queue) x) xs → LieBefore name (ending p.receives) xs
        places there [] all = record {}
        places there (x ∷ xs) all = (
          λ same receives. below p.receives x.place there (subst (λ b. IsFinished p b x.place) receives (subst (λ t. IsSettled s t x) (ap w.queue (queue-path x.queue name same) ∙ is) all.0).1) (waits p.receives one.2.receives),
          places there xs all.1,
        )

        with_own : (o : Option (WorkQueue RecvRequest)) → p.receives ≡ o → AgreeOnReceiver own srq shared placed (after_poll name polled p)
        with_own None has = none-kept own srq shared placed name polled p has was
        with_own (Some r) has = polled-receiver own srq shared placed name polled p (ending p.receives) (ends p.receives) (places (ap is_some has) polled settled) was

polled-waits : (cq : CompletionQueue) (srq : ℕ) (xs : List Completion) (s : SharedReceives) → ((receives_after_poll cq srq xs s).next ≡ s.next) × ((receives_after_poll cq srq xs s).waiting ≡ s.waiting)
polled-waits cq srq [] s = (refl, refl)
polled-waits cq srq (x ∷ xs) s = on (option_eq (λ a b. a == b) (source_of_completion cq x) (Some srq)) (λ z. polled-waits cq srq xs z)
  where
    on : (b : Bool) → ((z : SharedReceives) → ((receives_after_poll cq srq xs z).next ≡ z.next) × ((receives_after_poll cq srq xs z).waiting ≡ z.waiting))
        → ((receives_after_poll cq srq xs (if b then after_receive_retire x.place s else s)).next ≡ s.next) × ((receives_after_poll cq srq xs (if b then after_receive_retire x.place s else s)).waiting ≡ s.waiting)
    on true rest = rest (after_receive_retire x.place s)
    on false rest = rest s

-- a change of what a poll frees
abbrev IsKept : World → (n : Name) → Thing n → Type 0
IsKept w (Queue_of q) slot = KeepsSlot (w.queue q) slot
IsKept w (Srq_of s) slot = (posted : List RecvRequest) → AgreeOnShared posted (w.srq s) → AgreeOnShared posted slot
IsKept w n x = ⊥

abbrev AreKept : World → List Update → Type 0
AreKept w [] = Unit {0}
AreKept w (u ∷ us) = IsKept w u.name u.thing × AreKept w us

record KeepsLists (w v : World) : Type 0 where
  queue : KeepsSlots w.queue v.queue
  shared : KeepsShared w.srq v.srq

kept-put : (w v : World) (n : Name) (x : Thing n) → IsKept w n x → KeepsLists w v → KeepsLists w (put v n x)
kept-put w v (Queue_of q) x kept keeps = record { queue = λ n. at n (queue_eq q n) refl; shared = keeps.shared }
  where
    at : (n : QueueId) (b : Bool) → queue_eq q n ≡ b → KeepsSlot (w.queue n) (if b then x else v.queue n)
    at n true e = subst (λ m. KeepsSlot (w.queue m) x) (queue-path q n e) kept
    at n false e = keeps.queue n
kept-put w v (Srq_of s) x kept keeps = record { queue = keeps.queue; shared = λ t. at t (slot_eq s t) refl }
  where
    at : (t : Slot) (b : Bool) → slot_eq s t ≡ b → (posted : List RecvRequest) → AgreeOnShared posted (w.srq t) → AgreeOnShared posted (if b then x else v.srq t)
    at t true e posted was = kept posted (subst (λ u. AgreeOnShared posted (w.srq u)) (sym (slot-path s t e)) was)
    at t false e posted was = keeps.shared t posted was
kept-put w v (Domain_of d) x kept keeps = absurd kept
kept-put w v (Region_of s) x kept keeps = absurd kept
kept-put w v (Window_of s) x kept keeps = absurd kept
kept-put w v (Cq_of s) x kept keeps = absurd kept
kept-put w v (Mailbox_of q) x kept keeps = absurd kept
kept-put w v (Byte_at p) x kept keeps = absurd kept

kept-puts : (w v : World) (us : List Update) → AreKept w us → KeepsLists w v → KeepsLists w (put_all us v)
kept-puts w v [] kept keeps = keeps
kept-puts w v (u ∷ us) kept keeps = kept-puts w (put v u.name u.thing) us kept.1 (kept-put w v u.name u.thing kept.0 keeps)

freed-kept : (c : Configuration) (w : World) (s : Slot) (cq : CompletionQueue) (polled : List Completion) (us : List Update) → IsSoundWorld c w → AllByRecursion (λ x. IsSettled s (w.queue x.queue) x) polled → AreFreed w cq polled us → AreKept w us
freed-kept c w s cq polled [] sound settled freed = record {}
freed-kept c w s cq polled (u ∷ us) sound settled freed = (one u.name u.thing freed.0, freed-kept c w s cq polled us sound settled freed.1)
  where
    one : (n : Name) (x : Thing n) → IsFreed w cq polled n x → IsKept w n x
    one (Queue_of q) x is = subst (KeepsSlot (w.queue q)) (sym is) (polled-slot c w s q polled sound settled)
    one (Srq_of t) x is = λ posted was. retired-keeps (receives_after_poll cq is.srq polled) (w.srq t) x posted (polled-waits cq is.srq polled) (ap (λ (y : SrqSlot). y.srq) is.is) was
    one (Domain_of d) x is = is
    one (Region_of t) x is = is
    one (Window_of t) x is = is
    one (Cq_of t) x is = is
    one (Mailbox_of q) x is = is
    one (Byte_at p) x is = is

all-taken : {A : Type 0} (P : A → Type 0) (n : ℕ) (xs : List A) → AllByRecursion P xs → AllByRecursion P (take n xs)
all-taken P zero xs all = record {}
all-taken P (suc n) [] all = record {}
all-taken P (suc n) (x ∷ xs) all = (all.0, all-taken P n xs all.1)

pub lists-poll : (c : Configuration) (past : Past) (w : World) (by : ℕ) (s : Slot) (n least : ℕ) → IsSoundWorld c w → ListsAgree past w
    → Leads w (ListsBy past by (verbs.Poll s n least)) (poll_plan (call_of by (verbs.Poll s n least)) s n least)
lists-poll c past w by s n least sound agree = leads-poll w (ListsBy past by (verbs.Poll s n least)) (call_of by (verbs.Poll s n least)) s n least (λ r. agree) (λ cq us is freed.
    done cq (take n cq.waiting) us (kept-puts w (put w (Cq_of s) (Some (after_polls (length (take n cq.waiting)) cq))) us
    (freed-kept c w s cq (take n cq.waiting) us sound (all-taken _ n cq.waiting (subst (λ o. IfSome o (λ v. AllByRecursion (λ x. IsSettled s (w.queue x.queue) x) v.waiting)) is (sound.settled s))) freed)
    (record { queue = λ m own srq shared placed was. was; shared = λ t posted was. was })))
  where
    done : (cq : CompletionQueue) (polled : List Completion) (us : List Update) → KeepsLists w (put_all us (put w (Cq_of s) (Some (after_polls (length polled) cq))))
        → ListsBy past by (verbs.Poll s n least) (put_all us (put w (Cq_of s) (Some (after_polls (length polled) cq)))) (answer_mark (call_of by (verbs.Poll s n least)) (answers.Polled polled) ∷ [])
    done cq polled us keeps = kept-agree past w (put_all us (put w (Cq_of s) (Some (after_polls (length polled) cq)))) agree keeps.queue keeps.shared

-- ---- Inject

pub lists-inject : (c : Configuration) (past : Past) (w : World) (by : ℕ) (q : QueueId) (bytes : List ℕ) → IsSoundWorld c w → ListsAgree past w
    → Leads w (ListsBy past by (verbs.Inject q bytes)) (inject_plan c (call_of by (verbs.Inject q bytes)) q bytes)
lists-inject c past w by q bytes sound agree = at (w.queue q) refl (sound.things (Queue_of q))
  where
    call : Call
    call = call_of by (verbs.Inject q bytes)

    P : World → List Mark → Type 0
    P = ListsBy past by (verbs.Inject q bytes)

    arrives : QueueSlot → Plan
    arrives (NoQueue incarnation timers) = Refuse_plan call NoSuch
    arrives (Present p) = Arrive c p bytes None [] (answer_mark call answers.Fine ∷ [])

    at : (slot : QueueSlot) → w.queue q ≡ slot → IsQueueOf q slot → Leads w P (arrives slot)
    at (NoQueue incarnation timers) is one = agree
    at (Present p) is one = lists-arrive c past (after_mark (marks.Arrived p.queue None) (after_mark (answer_mark call answers.Fine) (at_begin (events.Verb by (verbs.Inject q bytes)) past))) w P p bytes None [] (answer_mark call answers.Fine ∷ []) sound agree
        (is-there w q p is one) (record {}) (record { incarnation = refl; receives = refl; srq = refl; shared = refl; placed = refl; arrival = refl; dropped = refl; put = refl; packet = refl }) (λ v ns agrees. agrees)
