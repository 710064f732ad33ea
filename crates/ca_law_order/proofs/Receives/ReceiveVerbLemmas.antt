-- Verbs keep the agreement on receives. For proofs only.
use Rattle.std.proofs.Common.{◌≡◌, ℕ, suc, ◌-◌, ◌≤◌, ◌<◌, ◌==◌, nat_lt, is_some, Bool, true, false, if◌then◌else◌, List, [], ◌∷◌, ◌++◌, length, map, take, Option, None, Some, IfSome, refl, sym, ap, subst, ◌∙◌, arith, true≢false}
use Rattle.std.proofs.lemmas.List.{append_assoc, map-append}
use Rattle.std.specs.Option.{option_eq, option_map}
use Rattle.ca_law_endings.proofs.LeadsLemmas.{leads-around, leads-weaker}
use Rattle.ca_law_endings.proofs.PathVerbLemmas.{call_of}
use Rattle.ca_law_endings.specs.Runs.{Leads}
use Rattle.ca_law_order.proofs.Polls.PlanLemmas.{AreFreed, IsFreed, created, leads-create, leads-poll}
use Rattle.ca_law_order.proofs.Polls.PostingLemmas.{leads-dealloc, leads-modify, leads-post_recv, leads-post_send, leads-present}
use Rattle.ca_law_order.proofs.Polls.TurnLemmas.{IsTurn, leads-tests, turns-arrive}
use Rattle.ca_law_order.proofs.Receives.ReceiveLemmas.{KeepsShared, Receives, ascend-next, ascend-tail, low_of, places_of, slot-kept, turn-receives}
use Rattle.ca_law_order.specs.Receives.{AgreeOnReceives, AgreeOnSlot, AreBehind, AscendTo, ReceivesAgree, life_of}
use Rattle.ca_base.specs.Configuration.{Configuration}
use Rattle.ca_base.specs.declared.change.Change as state_change
use Rattle.ca_base.specs.declared.change.Change.TheVariants as changes
use Rattle.ca_base.specs.declared.change.Field.TheVariants as fields
use Rattle.ca_base.specs.declared.completion.Completion.{Completion}
use Rattle.ca_base.specs.declared.limits.TheConstants.{MAX_MESSAGE_BYTES, MAX_PIECES}
use Rattle.ca_base.specs.declared.request.PlacedReceive.{PlacedReceive}
use Rattle.ca_base.specs.declared.request.RecvRequest.{RecvRequest}
use Rattle.ca_base.specs.declared.request.SendRequest.{SendRequest}
use Rattle.ca_base.specs.objects.CompletionQueue.{CompletionQueue, after_polls, after_reserve, without_completions}
use Rattle.ca_base.specs.objects.Domain.{with_object, without_object}
use Rattle.ca_base.specs.objects.Mailbox.{with_peer}
use Rattle.ca_base.specs.objects.QueuePair.{QueuePair, QueueSlot, NoQueue, Present, recv_cq_of, send_cq_of, srq_of}
use Rattle.ca_base.specs.objects.SharedReceives.{SharedReceives, SrqSlot, after_receive_post, after_receive_retire, after_receives_retire, empty_receives, is_full_of_receives}
use Rattle.ca_base.specs.objects.StateTable.{is_reset, queue_after_change}
use Rattle.ca_base.specs.objects.WorkQueue.{WorkQueue, after_retire}
use Rattle.ca_keys.specs.Equal.{queue_eq, slot_eq}
use Rattle.ca_keys.specs.Numbers.{queue_of}
use Rattle.ca_keys.specs.declared.names.QueueId.{QueueId}
use Rattle.ca_keys.specs.declared.names.Slot.{Slot}
use Rattle.ca_law_parts.proofs.Room.RoomLemmas.{shared-used}
use Rattle.ca_law_parts.specs.Room.{HasRoom}
use Rattle.ca_law_world.proofs.Sound.SettledLemmas.{queue-path, slot-path}
use Rattle.ca_law_world.proofs.Sound.WorldLemmas.{around_in, is-there, shared_of}
use Rattle.ca_model.specs.Ordered.{place_behind}
use Rattle.ca_model.specs.Past.{Past, after_change, at_begin, with_at}
use Rattle.ca_model.specs.Requests.{list_length, list_of}
use Rattle.ca_model.specs.declared.answer.Answer.TheVariants as answers
use Rattle.ca_model.specs.declared.answer.Refusal.{Refusal}
use Rattle.ca_model.specs.declared.answer.Refusal.TheVariants.{NoDomain, NoSuch, OutOfRange, QueueFull, SlotTaken, SrqInUse, TooLong, WindowsBound}
use Rattle.ca_model.specs.declared.event.Event.TheVariants as events
use Rattle.ca_model.specs.declared.mark.Mark.{Mark}
use Rattle.ca_model.specs.declared.mark.Mark.TheVariants as marks
use Rattle.ca_model.specs.declared.verb.Verb.{Verb}
use Rattle.ca_model.specs.declared.verb.Verb.TheVariants as verbs
use Rattle.ca_model.specs.machine.Around.{Around}
use Rattle.ca_model.specs.machine.CompletionVerbs.{after_poll, create_srq_plan, destroy_srq_plan, poll_plan, receives_after_poll, slot_after_poll, source_of_completion}
use Rattle.ca_model.specs.machine.Delivery.{Arrive}
use Rattle.ca_model.specs.machine.HostVerbs.{inject_plan}
use Rattle.ca_model.specs.machine.Places.{Ascend, first_held, places_in_use}
use Rattle.ca_model.specs.machine.Plan.{Plan, Update, ◌:=◌, put_all}
use Rattle.ca_model.specs.machine.PostingVerbs.{post_recv_plan, post_send_plan, post_srq_plan}
use Rattle.ca_model.specs.machine.QueuePairVerbs.{Creation, before_receives, beside, create_qp_plan, destroy_qp_plan, emptied_mailbox, emptied_updates, left_updates, modify_qp_plan, new_queue, places_held, receive_reserve, receive_room, send_reserved, without_queue}
use Rattle.ca_model.specs.machine.Sound.{IsQueueOf, IsSoundWorld}
use Rattle.ca_model.specs.machine.VerbAnswers.{Answer_plan, Call, Refuse_plan, Unless_plan, answer_mark}
use Rattle.ca_model.specs.machine.WindowVerbs.{dealloc_mw_plan}
use Rattle.ca_model.specs.machine.World.{World, Name, Domain_of, Region_of, Window_of, Cq_of, Srq_of, Queue_of, Mailbox_of, Byte_at, Thing, put}

-- what a verb leaves
abbrev pub ReceivesBy : Past → ℕ → Verb → World → List Mark → Type 0
ReceivesBy past by verb = Receives past (events.Verb by verb)

-- worlds with the same queue pairs, of whose shared receive queues what ascended does
pub kept-receives : (past : Past) (w v : World) → ReceivesAgree past w → v.queue ≡ w.queue → KeepsShared w.srq v.srq → AgreeOnReceives past.incarnation past.last_receive v.queue v.srq
kept-receives past w v agree queue keeps = record {
  receives = λ n. subst (λ f. AgreeOnSlot (low_of past n) v.srq (f n)) (sym queue) (slot-kept (low_of past n) w.srq v.srq (w.queue n) keeps (agree.receives n));
  later = agree.later;
}

same-shared : (w v : World) → v.srq ≡ w.srq → KeepsShared w.srq v.srq
same-shared w v same t low places was = subst (λ f. AscendTo low places (f t)) (sym same) was

-- ---- shared receive queues

pub receives-create_srq : (past : Past) (w : World) (by : ℕ) (s : Slot) (depth : ℕ) → HasRoom w → ReceivesAgree past w
    → Leads w (ReceivesBy past by (verbs.CreateSrq s depth)) (create_srq_plan (call_of by (verbs.CreateSrq s depth)) s depth)
receives-create_srq past w by s depth room agree = (λ is. refused NoDomain, λ there. (λ is. refused SlotTaken, λ free. (λ is. refused (OutOfRange fields.Depth), λ fits. made free)))
  where
    call : Call
    call = call_of by (verbs.CreateSrq s depth)

    slot : SrqSlot
    slot = record (w.srq s) { srq = Some (empty_receives depth) }

    refused : (r : Refusal) → ReceivesBy past by (verbs.CreateSrq s depth) w (answer_mark call (answers.Refused r) ∷ [])
    refused r = record { agree = agree; right = refl }

    -- no queue pair uses it
    at : (n : QueueId) (x : QueueSlot) → w.queue n ≡ x → is_some (w.srq s).srq ≡ false → AgreeOnSlot (low_of past n) w.srq x → AgreeOnSlot (low_of past n) (with_at slot_eq w.srq s slot) x
    at n (NoQueue incarnation timers) is free was = record {}
    at n (Present q) is free was = record { own = was.own; shared = uses q.srq refl was.shared }
      where
        other : (t : ℕ) (b : Bool) → q.srq ≡ Some t → slot_eq s (srq_of q t) ≡ b → AscendTo (low_of past n) (places_in_use q.responder.message) (w.srq (srq_of q t))
            → AscendTo (low_of past n) (places_in_use q.responder.message) (if b then slot else w.srq (srq_of q t))
        other t true has e was = absurd (true≢false (sym (ap (λ u. is_some (w.srq u).srq) (slot-path s (srq_of q t) e) ∙ shared-used w n q t room is has) ∙ free))
        other t false has e was = was

        uses : (o : Option ℕ) → q.srq ≡ o → IfSome o (λ t. AscendTo (low_of past n) (places_in_use q.responder.message) (w.srq (srq_of q t)))
            → IfSome o (λ t. AscendTo (low_of past n) (places_in_use q.responder.message) (with_at slot_eq w.srq s slot (srq_of q t)))
        uses None has was = record {}
        uses (Some t) has was = other t (slot_eq s (srq_of q t)) has refl was

    made : is_some (w.srq s).srq ≡ false
        → ReceivesBy past by (verbs.CreateSrq s depth) (put_all ((Domain_of s.domain := with_object (w.domain s.domain)) ∷ (Srq_of s := slot) ∷ []) w) (answer_mark call answers.Fine ∷ [])
    made free = record { agree = record { receives = λ n. at n (w.queue n) refl free (agree.receives n); later = agree.later }; right = refl }

pub receives-destroy_srq : (past : Past) (w : World) (by : ℕ) (s : Slot) → ReceivesAgree past w
    → Leads w (ReceivesBy past by (verbs.DestroySrq s)) (destroy_srq_plan (call_of by (verbs.DestroySrq s)) s)
receives-destroy_srq past w by s agree = (λ is. refused NoSuch, λ there. (λ is. refused SrqInUse, λ free. gone))
  where
    call : Call
    call = call_of by (verbs.DestroySrq s)

    v : World
    v = put_all ((Domain_of s.domain := without_object (w.domain s.domain)) ∷ (Srq_of s := record (w.srq s) { srq = None }) ∷ []) w

    refused : (r : Refusal) → ReceivesBy past by (verbs.DestroySrq s) w (answer_mark call (answers.Refused r) ∷ [])
    refused r = record { agree = agree; right = refl }

    at : (t : Slot) (b : Bool) (low : ℕ) (places : List ℕ) → AscendTo low places (w.srq t) → AscendTo low places (if b then record (w.srq s) { srq = None } else w.srq t)
    at t true low places was = record {}
    at t false low places was = was

    gone : ReceivesBy past by (verbs.DestroySrq s) v (answer_mark call answers.Fine ∷ [])
    gone = record { agree = kept-receives past w v agree refl (λ t low places was. at t (slot_eq s t) low places was); right = refl }

pub receives-post_srq : (past : Past) (w : World) (by : ℕ) (s : Slot) (request : RecvRequest) → ReceivesAgree past w
    → Leads w (ReceivesBy past by (verbs.PostSrq s request)) (post_srq_plan (call_of by (verbs.PostSrq s request)) s request)
receives-post_srq past w by s request agree = on (w.srq s).srq refl
  where
    call : Call
    call = call_of by (verbs.PostSrq s request)

    P : World → List Mark → Type 0
    P = ReceivesBy past by (verbs.PostSrq s request)

    refused : (r : Refusal) → P w (answer_mark call (answers.Refused r) ∷ [])
    refused r = record { agree = agree; right = refl }

    plan : Option SharedReceives → Plan
    plan None = Refuse_plan call NoSuch
    plan (Some z) =
        Unless_plan call
        ((nat_lt MAX_MESSAGE_BYTES (list_length request.list.items), TooLong) ∷ (is_full_of_receives z, QueueFull) ∷ [])
        (Answer_plan call (answers.Posted None)
        ((Srq_of s := record (w.srq s) { srq = Some (after_receive_post request z) }) ∷ []) [])

    more : (z : SharedReceives) (low : ℕ) (places : List ℕ) → Ascend low z.next (places ++ places_of z) → Ascend low (suc z.next) (places ++ places_of (after_receive_post request z))
    more z low places all = subst (Ascend low (suc z.next)) (append_assoc places (places_of z) (z.next ∷ []) ∙ ap (λ xs. places ++ xs) (sym (map-append (λ (r : PlacedReceive). r.place) z.waiting (record { place = z.next; receive = request } ∷ []))))
        (ascend-next low z.next (places ++ places_of z) all)

    at : (z : SharedReceives) → (w.srq s).srq ≡ Some z → (t : Slot) (b : Bool) → slot_eq s t ≡ b → (low : ℕ) (places : List ℕ) → AscendTo low places (w.srq t)
        → AscendTo low places (if b then record (w.srq s) { srq = Some (after_receive_post request z) } else w.srq t)
    at z is t true e low places was = more z low places (subst (λ o. IfSome o (λ s. Ascend low s.next (places ++ map (λ r. r.place) s.waiting))) (ap (λ u. (w.srq u).srq) (sym (slot-path s t e)) ∙ is) was)
    at z is t false e low places was = was

    posted : (z : SharedReceives) → (w.srq s).srq ≡ Some z → P (put_all ((Srq_of s := record (w.srq s) { srq = Some (after_receive_post request z) }) ∷ []) w) (answer_mark call (answers.Posted None) ∷ [])
    posted z is = record {
      agree = kept-receives past w (put_all ((Srq_of s := record (w.srq s) { srq = Some (after_receive_post request z) }) ∷ []) w) agree refl (λ t low places was. at z is t (slot_eq s t) refl low places was);
      right = refl;
    }

    on : (o : Option SharedReceives) → (w.srq s).srq ≡ o → Leads w P (plan o)
    on None is = refused NoSuch
    on (Some z) is = (λ long. refused TooLong, λ short. (λ full. refused QueueFull, λ free. posted z is))

-- ---- a queue pair begins a life

-- what waits in a shared receive queue ascends
waits-ascend : (w : World) (t : Slot) → HasRoom w → AscendTo 0 [] (w.srq t)
waits-ascend w t room = by (w.srq t).srq (room.sequence t)
  where
    by : (o : Option SharedReceives) → IfSome o (λ s. Ascend 0 s.next (s.taken ++ map (λ r. r.place) s.waiting)) → IfSome o (λ s. Ascend 0 s.next ([] ++ map (λ r. r.place) s.waiting))
    by None all = record {}
    by (Some s) all = ascend-tail 0 s.next s.taken (places_of s) all

-- a queue pair that holds nothing lies behind nothing
fresh-behind : (w : World) (srq : Slot → SrqSlot) (q : QueuePair) → HasRoom w → KeepsShared w.srq srq → q.responder.message ≡ None → AreBehind 0 srq q
fresh-behind w srq q room keeps none = record { own = own q.receives; shared = shared q.srq }
  where
    own : (o : Option (WorkQueue RecvRequest)) → IfSome o (λ r. 0 ≤ first_held r q.responder.message)
    own None = record {}
    own (Some r) = omega arith

    shared : (o : Option ℕ) → IfSome o (λ t. AscendTo 0 (places_in_use q.responder.message) (srq (srq_of q t)))
    shared None = record {}
    shared (Some t) = subst (λ m. AscendTo 0 (places_in_use m) (srq (srq_of q t))) (sym none) (keeps (srq_of q t) 0 [] (waits-ascend w (srq_of q t) room))

new-life : (past : Past) (w : World) (place : QueueId) (q : QueuePair) (srq : Slot → SrqSlot) → HasRoom w → ReceivesAgree past w → KeepsShared w.srq srq → q.responder.message ≡ None
    → AgreeOnReceives (with_at queue_eq past.incarnation place (suc (past.incarnation place))) past.last_receive (with_at queue_eq w.queue place (Present q)) srq
new-life past w place q srq room agree keeps none = record { receives = λ n. at n (queue_eq place n) refl; later = λ n i less. later n i (queue_eq place n) refl less }
  where
    Low : QueueId → ℕ → ℕ
    Low n i = place_behind (past.last_receive (life_of n i))

    start : (n : QueueId) → queue_eq place n ≡ true → Low n (suc (past.incarnation place)) ≡ 0
    start n e = ap (λ m. Low m (suc (past.incarnation place))) (sym (queue-path place n e)) ∙ ap place_behind (agree.later place (suc (past.incarnation place)) (omega arith))

    at : (n : QueueId) (b : Bool) → queue_eq place n ≡ b → AgreeOnSlot (Low n (if b then suc (past.incarnation place) else past.incarnation n)) srq (if b then Present q else w.queue n)
    at n true e = subst (λ low. AreBehind low srq q) (sym (start n e)) (fresh-behind w srq q room keeps none)
    at n false e = slot-kept (low_of past n) w.srq srq (w.queue n) keeps (agree.receives n)

    later : (n : QueueId) (i : ℕ) (b : Bool) → queue_eq place n ≡ b → (if b then suc (past.incarnation place) else past.incarnation n) < i → past.last_receive (life_of n i) ≡ None
    later n i true e less = agree.later n i (omega (arith, less, ap past.incarnation (queue-path place n e)))
    later n i false e less = agree.later n i less

-- ---- CreateQp

made-receives : (past : Past) (w : World) (by : ℕ) (x : Creation) (send recv : CompletionQueue) (shared : Option SharedReceives) → HasRoom w → ReceivesAgree past w
    → ReceivesBy past by (verbs.CreateQp x.slot x.send_cq x.recv_cq x.send_depth x.recv_depth x.srq) (put_all (created w x send recv shared) w)
    (answer_mark (call_of by (verbs.CreateQp x.slot x.send_cq x.recv_cq x.send_depth x.recv_depth x.srq)) (answers.Queue (queue_of x.slot).number (new_queue x (w.queue (queue_of x.slot))).incarnation) ∷ [])
made-receives past w by x send recv shared room agree = users x.srq
  where
    place : QueueId
    place = queue_of x.slot

    q : QueuePair
    q = new_queue x (w.queue place)

    v : World
    v = put_all ((Domain_of x.slot.domain := with_object (w.domain x.slot.domain)) ∷ (Queue_of place := Present q) ∷ (Mailbox_of place := with_peer q.incarnation None (w.mailbox place))
        ∷ (Cq_of (beside x.slot x.send_cq) := Some (send_reserved x send))
        ∷ (Cq_of (beside x.slot x.recv_cq) := Some (after_reserve (receive_reserve x) (receive_room x shared) (before_receives x send recv))) ∷ []) w

    updates : Option ℕ → Option SrqSlot → List Update
    updates (Some srq) (Some slot) = (Srq_of (beside x.slot srq) := record slot { users = suc slot.users }) ∷ []
    updates srq slot = []

    P : World → Type 0
    P u = ReceivesBy past by (verbs.CreateQp x.slot x.send_cq x.recv_cq x.send_depth x.recv_depth x.srq) u
        (answer_mark (call_of by (verbs.CreateQp x.slot x.send_cq x.recv_cq x.send_depth x.recv_depth x.srq)) (answers.Queue place.number q.incarnation) ∷ [])

    at : (srq : ℕ) (t : Slot) (b : Bool) → slot_eq (beside x.slot srq) t ≡ b → (low : ℕ) (places : List ℕ) → AscendTo low places (w.srq t)
        → AscendTo low places (if b then record (w.srq (beside x.slot srq)) { users = suc (w.srq (beside x.slot srq)).users } else w.srq t)
    at srq t true e low places was = subst (λ u. AscendTo low places (w.srq u)) (sym (slot-path (beside x.slot srq) t e)) was
    at srq t false e low places was = was

    users : (o : Option ℕ) → P (put_all (updates o (option_map (λ srq. w.srq (beside x.slot srq)) o)) v)
    users None = record { agree = new-life past w place q w.srq room agree (λ t low places was. was) refl; right = refl }
    users (Some srq) = record {
      agree = new-life past w place q (with_at slot_eq w.srq (beside x.slot srq) (record (w.srq (beside x.slot srq)) { users = suc (w.srq (beside x.slot srq)).users })) room agree
          (λ t low places was. at srq t (slot_eq (beside x.slot srq) t) refl low places was) refl;
      right = refl;
    }

pub receives-create : (c : Configuration) (past : Past) (w : World) (by : ℕ) (x : Creation) → HasRoom w → ReceivesAgree past w
    → Leads w (ReceivesBy past by (verbs.CreateQp x.slot x.send_cq x.recv_cq x.send_depth x.recv_depth x.srq))
    (create_qp_plan c (call_of by (verbs.CreateQp x.slot x.send_cq x.recv_cq x.send_depth x.recv_depth x.srq)) x)
receives-create c past w by x room agree = leads-create c w (ReceivesBy past by (verbs.CreateQp x.slot x.send_cq x.recv_cq x.send_depth x.recv_depth x.srq))
    (call_of by (verbs.CreateQp x.slot x.send_cq x.recv_cq x.send_depth x.recv_depth x.srq)) x (λ r. record { agree = agree; right = refl })
    (λ send recv shared sends receives. made-receives past w by x send recv shared room agree)

-- ---- a queue pair is emptied

-- places that are free again leave what waits
retired-waits : (ps : List ℕ) (s : SharedReceives) → ((after_receives_retire ps s).next ≡ s.next) × ((after_receives_retire ps s).waiting ≡ s.waiting)
retired-waits [] s = (refl, refl)
retired-waits (p ∷ ps) s = retired-waits ps (after_receive_retire p s)

-- so what ascended ascends
retired-keeps : (f : SharedReceives → SharedReceives) (slot slot' : SrqSlot) (low : ℕ) (places : List ℕ) → ((s : SharedReceives) → ((f s).next ≡ s.next) × ((f s).waiting ≡ s.waiting)) → slot'.srq ≡ option_map f slot.srq
    → AscendTo low places slot → AscendTo low places slot'
retired-keeps f slot slot' low places same is was = subst (λ o. IfSome o (λ s. Ascend low s.next (places ++ map (λ r. r.place) s.waiting))) (sym is) (by slot.srq was)
  where
    by : (o : Option SharedReceives) → IfSome o (λ s. Ascend low s.next (places ++ map (λ r. r.place) s.waiting)) → IfSome (option_map f o) (λ s. Ascend low s.next (places ++ map (λ r. r.place) s.waiting))
    by None was = record {}
    by (Some s) was = subst (λ n. Ascend low n (places ++ places_of (f s))) (sym (same s).0) (subst (λ xs. Ascend low s.next (places ++ map (λ (r : PlacedReceive). r.place) xs)) (sym (same s).1) was)

-- another value in a slot, with the same that waits
replaced-keeps : (srq : Slot → SrqSlot) (at : Slot) (slot : SrqSlot) (f : SharedReceives → SharedReceives) → ((s : SharedReceives) → ((f s).next ≡ s.next) × ((f s).waiting ≡ s.waiting)) → slot.srq ≡ option_map f (srq at).srq
    → KeepsShared srq (with_at slot_eq srq at slot)
replaced-keeps srq at slot f same is t low places was = by (slot_eq at t) refl
  where
    by : (b : Bool) → slot_eq at t ≡ b → AscendTo low places (if b then slot else srq t)
    by true e = retired-keeps f (srq t) slot low places same (is ∙ ap (λ u. option_map f (srq u).srq) (slot-path at t e)) was
    by false e = was

-- a change that is no reset leaves what the past says of receives
change-leaves : (name : QueueId) (change : state_change.Change) (p : Past) → is_reset change ≡ false → ((after_change name change p).incarnation ≡ p.incarnation) × ((after_change name change p).last_receive ≡ p.last_receive)
change-leaves name changes.Reset p e = absurd (true≢false e)
change-leaves name changes.Init p e = (refl, refl)
change-leaves name (changes.Rtr peer incarnation psn mtu rnr_code) p e = (refl, refl)
change-leaves name (changes.Rts psn retry rnr_retry reads) p e = (refl, refl)
change-leaves name changes.Sqd p e = (refl, refl)
change-leaves name changes.Resume p e = (refl, refl)
change-leaves name changes.Error p e = (refl, refl)

pub receives-modify : (c : Configuration) (past : Past) (w : World) (by : ℕ) (s : Slot) (change : state_change.Change) → IsSoundWorld c w → HasRoom w → ReceivesAgree past w
    → Leads w (ReceivesBy past by (verbs.ModifyQp s change)) (modify_qp_plan c (call_of by (verbs.ModifyQp s change)) s change)
receives-modify c past w by s change sound room agree = leads-modify c w (ReceivesBy past by (verbs.ModifyQp s change)) call s change sound (λ r. record { agree = agree; right = refl })
    (λ stays v ms turn. turn-receives past (events.Verb by (verbs.ModifyQp s change)) w v (answer_mark call answers.Fine ∷ []) ms room agree (change-leaves (queue_of s) change p stays).0 (change-leaves (queue_of s) change p stays).1 refl turn)
    (λ q there own is. subst (λ x. ReceivesBy past by (verbs.ModifyQp s x) (after q) (answer_mark (call_of by (verbs.ModifyQp s x)) answers.Fine ∷ [])) (sym is) (record { agree = reset q own; right = refl }))
  where
    call : Call
    call = call_of by (verbs.ModifyQp s change)

    p : Past
    p = record (at_begin (events.Verb by (verbs.ModifyQp s change)) past) {
      at_hand = record (at_begin (events.Verb by (verbs.ModifyQp s change)) past).at_hand { answered = Some (record { verb = verbs.ModifyQp s change; answer = answers.Fine }) };
    }

    a : QueuePair → Around
    a q = around_in w q (shared_of w q)

    u : QueuePair → World
    u q = put_all ((Queue_of q.queue := Present (queue_after_change changes.Reset q))
        ∷ (Mailbox_of q.queue := emptied_mailbox (queue_after_change changes.Reset q).incarnation (w.mailbox q.queue))
        ∷ (Cq_of (send_cq_of q) := option_map (without_completions q.queue) (w.cq (send_cq_of q)))
        ∷ (Cq_of (recv_cq_of q) := option_map (without_completions q.queue) (w.cq (recv_cq_of q)))
        ∷ []) w

    after : QueuePair → World
    after q = put_all ((Queue_of q.queue := Present (queue_after_change changes.Reset q))
        ∷ (Mailbox_of q.queue := emptied_mailbox (queue_after_change changes.Reset q).incarnation (w.mailbox q.queue)) ∷ emptied_updates q (a q)) w

    updates : QueuePair → Option ℕ → Option SrqSlot → List Update
    updates q (Some srq) (Some slot) = (Srq_of (srq_of q srq) := record slot { srq = option_map (after_receives_retire (places_held q (a q))) slot.srq }) ∷ []
    updates q srq slot = []

    lived : (q : QueuePair) → q.queue ≡ queue_of s → (srq : Slot → SrqSlot) → KeepsShared w.srq srq
        → AgreeOnReceives (with_at queue_eq past.incarnation (queue_of s) (suc (past.incarnation (queue_of s)))) past.last_receive (with_at queue_eq w.queue q.queue (Present (queue_after_change changes.Reset q))) srq
    lived q own srq keeps = subst (λ n. AgreeOnReceives (with_at queue_eq past.incarnation n (suc (past.incarnation n))) past.last_receive (with_at queue_eq w.queue q.queue (Present (queue_after_change changes.Reset q))) srq) own
        (new-life past w q.queue (queue_after_change changes.Reset q) srq room agree keeps refl)

    reset : (q : QueuePair) → q.queue ≡ queue_of s → AgreeOnReceives (with_at queue_eq past.incarnation (queue_of s) (suc (past.incarnation (queue_of s)))) past.last_receive (after q).queue (after q).srq
    reset q own = on q.srq
      where
        on : (o : Option ℕ) → AgreeOnReceives (with_at queue_eq past.incarnation (queue_of s) (suc (past.incarnation (queue_of s)))) past.last_receive (put_all (updates q o (option_map (λ srq. w.srq (srq_of q srq)) o)) (u q)).queue
            (put_all (updates q o (option_map (λ srq. w.srq (srq_of q srq)) o)) (u q)).srq
        on None = lived q own w.srq (λ t low places was. was)
        on (Some srq) = lived q own (with_at slot_eq w.srq (srq_of q srq) (record (w.srq (srq_of q srq)) { srq = option_map (after_receives_retire (places_held q (a q))) (w.srq (srq_of q srq)).srq }))
            (replaced-keeps w.srq (srq_of q srq) (record (w.srq (srq_of q srq)) { srq = option_map (after_receives_retire (places_held q (a q))) (w.srq (srq_of q srq)).srq }) (after_receives_retire (places_held q (a q))) (retired-waits (places_held q (a q))) refl)

pub receives-destroy : (c : Configuration) (past : Past) (w : World) (by : ℕ) (s : Slot) → IsSoundWorld c w → ReceivesAgree past w
    → Leads w (ReceivesBy past by (verbs.DestroyQp s)) (destroy_qp_plan (call_of by (verbs.DestroyQp s)) s)
receives-destroy c past w by s sound agree = leads-present c w P call s _ sound refused (λ q there own.
    leads-around w P q (λ a. Unless_plan call ((nat_lt 0 q.windows, WindowsBound) ∷ []) (ending q a))
    (leads-tests w P ((nat_lt 0 q.windows, WindowsBound) ∷ []) (Refuse_plan call) (ending q (around_in w q (shared_of w q))) refused (λ fails. record { agree = gone q; right = refl })))
  where
    call : Call
    call = call_of by (verbs.DestroyQp s)

    P : World → List Mark → Type 0
    P = ReceivesBy past by (verbs.DestroyQp s)

    refused : (r : Refusal) → P w (answer_mark call (answers.Refused r) ∷ [])
    refused r = record { agree = agree; right = refl }

    ending : QueuePair → Around → Plan
    ending q a = Answer_plan call answers.Fine
        ((Domain_of s.domain := without_object (w.domain s.domain))
        ∷ (Queue_of q.queue := NoQueue q.incarnation q.requester.timers)
        ∷ (Mailbox_of q.queue := emptied_mailbox q.incarnation (w.mailbox q.queue))
        ∷ (Cq_of (send_cq_of q) := option_map (without_queue q) a.send)
        ∷ (Cq_of (recv_cq_of q) := option_map (without_queue q) a.recv)
        ∷ left_updates q a)
        []

    a : QueuePair → Around
    a q = around_in w q (shared_of w q)

    u : QueuePair → World
    u q = put_all ((Domain_of s.domain := without_object (w.domain s.domain))
        ∷ (Queue_of q.queue := NoQueue q.incarnation q.requester.timers)
        ∷ (Mailbox_of q.queue := emptied_mailbox q.incarnation (w.mailbox q.queue))
        ∷ (Cq_of (send_cq_of q) := option_map (without_queue q) (w.cq (send_cq_of q)))
        ∷ (Cq_of (recv_cq_of q) := option_map (without_queue q) (w.cq (recv_cq_of q)))
        ∷ []) w

    left : QueuePair → ℕ → SrqSlot
    left q srq = record (w.srq (srq_of q srq)) {
      srq = option_map (after_receives_retire (places_held q (a q))) (w.srq (srq_of q srq)).srq;
      users = (w.srq (srq_of q srq)).users - 1;
    }

    updates : QueuePair → Option ℕ → Option SrqSlot → List Update
    updates q (Some srq) (Some slot) = (Srq_of (record { domain = q.domain; slot = srq }) := record slot {
      srq = option_map (after_receives_retire (places_held q (a q))) slot.srq;
      users = slot.users - 1;
    }) ∷ []
    updates q srq slot = []

    kept : (q : QueuePair) (srq : Slot → SrqSlot) → KeepsShared w.srq srq → AgreeOnReceives past.incarnation past.last_receive (with_at queue_eq w.queue q.queue (NoQueue q.incarnation q.requester.timers)) srq
    kept q srq keeps = record { receives = λ n. at n (queue_eq q.queue n); later = agree.later }
      where
        at : (n : QueueId) (b : Bool) → AgreeOnSlot (low_of past n) srq (if b then NoQueue q.incarnation q.requester.timers else w.queue n)
        at n true = record {}
        at n false = slot-kept (low_of past n) w.srq srq (w.queue n) keeps (agree.receives n)

    gone : (q : QueuePair) → AgreeOnReceives past.incarnation past.last_receive (put_all (left_updates q (a q)) (u q)).queue (put_all (left_updates q (a q)) (u q)).srq
    gone q = on q.srq
      where
        on : (o : Option ℕ) → AgreeOnReceives past.incarnation past.last_receive (put_all (updates q o (option_map (λ srq. w.srq (srq_of q srq)) o)) (u q)).queue
            (put_all (updates q o (option_map (λ srq. w.srq (srq_of q srq)) o)) (u q)).srq
        on None = kept q w.srq (λ t low places was. was)
        on (Some srq) = kept q (with_at slot_eq w.srq (srq_of q srq) (left q srq)) (replaced-keeps w.srq (srq_of q srq) (left q srq) (after_receives_retire (places_held q (a q))) (retired-waits (places_held q (a q))) refl)

-- ---- Poll

polled-behind : (low : ℕ) (srq : Slot → SrqSlot) (name : QueueId) (xs : List Completion) (p : QueuePair) → AreBehind low srq p → AreBehind low srq (after_poll name xs p)
polled-behind low srq name [] p was = was
polled-behind low srq name (x ∷ xs) p was = on (queue_eq x.queue name) x.receive (λ q was. polled-behind low srq name xs q was)
  where
    freed : Bool → QueuePair
    freed true = record p { receives = option_map (after_retire x.place) p.receives }
    freed false = record p { sends = after_retire x.place p.sends }

    own : (o : Option (WorkQueue RecvRequest)) → IfSome o (λ r. low ≤ first_held r p.responder.message) → IfSome (option_map (after_retire x.place) o) (λ r. low ≤ first_held r p.responder.message)
    own None le = record {}
    own (Some r) le = le

    on : (b r : Bool) → ((q : QueuePair) → AreBehind low srq q → AreBehind low srq (after_poll name xs q)) → AreBehind low srq (after_poll name xs (if b then freed r else p))
    on true true rest = rest (freed true) (record { own = own p.receives was.own; shared = was.shared })
    on true false rest = rest (freed false) (record { own = was.own; shared = was.shared })
    on false r rest = rest p was

polled-waits : (cq : CompletionQueue) (srq : ℕ) (xs : List Completion) (s : SharedReceives) → ((receives_after_poll cq srq xs s).next ≡ s.next) × ((receives_after_poll cq srq xs s).waiting ≡ s.waiting)
polled-waits cq srq [] s = (refl, refl)
polled-waits cq srq (x ∷ xs) s = on (option_eq (λ a b. a == b) (source_of_completion cq x) (Some srq)) (λ z. polled-waits cq srq xs z)
  where
    on : (b : Bool) → ((z : SharedReceives) → ((receives_after_poll cq srq xs z).next ≡ z.next) × ((receives_after_poll cq srq xs z).waiting ≡ z.waiting))
        → ((receives_after_poll cq srq xs (if b then after_receive_retire x.place s else s)).next ≡ s.next) × ((receives_after_poll cq srq xs (if b then after_receive_retire x.place s else s)).waiting ≡ s.waiting)
    on true rest = rest (after_receive_retire x.place s)
    on false rest = rest s

-- a change of what a poll frees
abbrev IsKept : World → (n : Name) → Thing n → Type 0
IsKept w (Queue_of q) slot = (low : ℕ) (srq : Slot → SrqSlot) → AgreeOnSlot low srq (w.queue q) → AgreeOnSlot low srq slot
IsKept w (Srq_of s) slot = (low : ℕ) (places : List ℕ) → AscendTo low places (w.srq s) → AscendTo low places slot
IsKept w n x = ⊥

abbrev AreKept : World → List Update → Type 0
AreKept w [] = Unit {0}
AreKept w (u ∷ us) = IsKept w u.name u.thing × AreKept w us

record KeepsBehind (w v : World) : Type 0 where
  queue : (n : QueueId) (low : ℕ) (srq : Slot → SrqSlot) → AgreeOnSlot low srq (w.queue n) → AgreeOnSlot low srq (v.queue n)
  shared : KeepsShared w.srq v.srq

kept-put : (w v : World) (n : Name) (x : Thing n) → IsKept w n x → KeepsBehind w v → KeepsBehind w (put v n x)
kept-put w v (Queue_of q) x kept keeps = record { queue = λ n low srq. at n low srq (queue_eq q n) refl; shared = keeps.shared }
  where
    at : (n : QueueId) (low : ℕ) (srq : Slot → SrqSlot) (b : Bool) → queue_eq q n ≡ b → AgreeOnSlot low srq (w.queue n) → AgreeOnSlot low srq (if b then x else v.queue n)
    at n low srq true e was = kept low srq (subst (λ m. AgreeOnSlot low srq (w.queue m)) (sym (queue-path q n e)) was)
    at n low srq false e was = keeps.queue n low srq was
kept-put w v (Srq_of s) x kept keeps = record { queue = keeps.queue; shared = λ t low places. at t low places (slot_eq s t) refl }
  where
    at : (t : Slot) (low : ℕ) (places : List ℕ) (b : Bool) → slot_eq s t ≡ b → AscendTo low places (w.srq t) → AscendTo low places (if b then x else v.srq t)
    at t low places true e was = kept low places (subst (λ u. AscendTo low places (w.srq u)) (sym (slot-path s t e)) was)
    at t low places false e was = keeps.shared t low places was
kept-put w v (Domain_of d) x kept keeps = absurd kept
kept-put w v (Region_of s) x kept keeps = absurd kept
kept-put w v (Window_of s) x kept keeps = absurd kept
kept-put w v (Cq_of s) x kept keeps = absurd kept
kept-put w v (Mailbox_of q) x kept keeps = absurd kept
kept-put w v (Byte_at p) x kept keeps = absurd kept

kept-puts : (w v : World) (us : List Update) → AreKept w us → KeepsBehind w v → KeepsBehind w (put_all us v)
kept-puts w v [] kept keeps = keeps
kept-puts w v (u ∷ us) kept keeps = kept-puts w (put v u.name u.thing) us kept.1 (kept-put w v u.name u.thing kept.0 keeps)

-- what a poll frees
freed-kept : (w : World) (cq : CompletionQueue) (polled : List Completion) (us : List Update) → AreFreed w cq polled us → AreKept w us
freed-kept w cq polled [] freed = record {}
freed-kept w cq polled (u ∷ us) freed = (one u.name u.thing freed.0, freed-kept w cq polled us freed.1)
  where
    queue : (q : QueueId) (slot : QueueSlot) (low : ℕ) (srq : Slot → SrqSlot) → AgreeOnSlot low srq slot → AgreeOnSlot low srq (slot_after_poll q polled slot)
    queue q (NoQueue incarnation timers) low srq was = record {}
    queue q (Present p) low srq was = polled-behind low srq q polled p was

    one : (n : Name) (x : Thing n) → IsFreed w cq polled n x → IsKept w n x
    one (Queue_of q) x is = λ low srq was. subst (AgreeOnSlot low srq) (sym is) (queue q (w.queue q) low srq was)
    one (Srq_of s) x is = λ low places was. retired-keeps (receives_after_poll cq is.srq polled) (w.srq s) x low places (polled-waits cq is.srq polled) (ap (λ (y : SrqSlot). y.srq) is.is) was
    one (Domain_of d) x is = is
    one (Region_of t) x is = is
    one (Window_of t) x is = is
    one (Cq_of t) x is = is
    one (Mailbox_of q) x is = is
    one (Byte_at p) x is = is

pub receives-poll : (past : Past) (w : World) (by : ℕ) (s : Slot) (n least : ℕ) → ReceivesAgree past w
    → Leads w (ReceivesBy past by (verbs.Poll s n least)) (poll_plan (call_of by (verbs.Poll s n least)) s n least)
receives-poll past w by s n least agree = leads-poll w (ReceivesBy past by (verbs.Poll s n least)) (call_of by (verbs.Poll s n least)) s n least (λ r. record { agree = agree; right = refl }) (λ cq us is freed.
    done cq (take n cq.waiting) us (kept-puts w (put w (Cq_of s) (Some (after_polls (length (take n cq.waiting)) cq))) us (freed-kept w cq (take n cq.waiting) us freed) (record { queue = λ m low srq was. was; shared = λ t low places was. was })))
  where
    done : (cq : CompletionQueue) (polled : List Completion) (us : List Update) → KeepsBehind w (put_all us (put w (Cq_of s) (Some (after_polls (length polled) cq))))
        → ReceivesBy past by (verbs.Poll s n least) (put_all us (put w (Cq_of s) (Some (after_polls (length polled) cq)))) (answer_mark (call_of by (verbs.Poll s n least)) (answers.Polled polled) ∷ [])
    done cq polled us keeps = record {
      agree = record {
        receives = λ m. keeps.queue m (low_of past m) _ (slot-kept (low_of past m) w.srq (put_all us (put w (Cq_of s) (Some (after_polls (length polled) cq)))).srq (w.queue m) keeps.shared (agree.receives m));
        later = agree.later;
      };
      right = refl;
    }

-- ---- what goes on

pub receives-post_send : (c : Configuration) (past : Past) (w : World) (by : ℕ) (s : Slot) (request : SendRequest) → IsSoundWorld c w → HasRoom w → length (list_of request.op) ≤ MAX_PIECES → ReceivesAgree past w
    → Leads w (ReceivesBy past by (verbs.PostSend s request)) (post_send_plan (call_of by (verbs.PostSend s request)) s request)
receives-post_send c past w by s request sound room few agree = leads-post_send c w (ReceivesBy past by (verbs.PostSend s request)) (call_of by (verbs.PostSend s request)) s request sound few
    (λ r. record { agree = agree; right = refl })
    (λ key v ms turn. turn-receives past (events.Verb by (verbs.PostSend s request)) w v (answer_mark (call_of by (verbs.PostSend s request)) (answers.Posted key) ∷ []) ms room agree refl refl refl turn)

pub receives-post_recv : (c : Configuration) (past : Past) (w : World) (by : ℕ) (s : Slot) (request : RecvRequest) → IsSoundWorld c w → HasRoom w → length request.list.items ≤ MAX_PIECES → ReceivesAgree past w
    → Leads w (ReceivesBy past by (verbs.PostRecv s request)) (post_recv_plan (call_of by (verbs.PostRecv s request)) s request)
receives-post_recv c past w by s request sound room few agree = leads-post_recv c w (ReceivesBy past by (verbs.PostRecv s request)) (call_of by (verbs.PostRecv s request)) s request sound few
    (λ r. record { agree = agree; right = refl })
    (λ v ms turn. turn-receives past (events.Verb by (verbs.PostRecv s request)) w v (answer_mark (call_of by (verbs.PostRecv s request)) (answers.Posted None) ∷ []) ms room agree refl refl refl turn)

pub receives-dealloc_mw : (c : Configuration) (past : Past) (w : World) (by : ℕ) (s : Slot) → IsSoundWorld c w → HasRoom w → ReceivesAgree past w
    → Leads w (ReceivesBy past by (verbs.DeallocMw s)) (dealloc_mw_plan (call_of by (verbs.DeallocMw s)) s)
receives-dealloc_mw c past w by s sound room agree = leads-dealloc c w (ReceivesBy past by (verbs.DeallocMw s)) (call_of by (verbs.DeallocMw s)) s sound (λ r. record { agree = agree; right = refl }) (record {
  alone = λ v same. record { agree = kept-receives past w v agree same.queue (same-shared w v same.srq); right = refl };
  ended = λ v adapter key same. record { agree = kept-receives past w v agree same.queue (same-shared w v same.srq); right = refl };
  binder = λ v adapter key turn. turn-receives past (events.Verb by (verbs.DeallocMw s)) w v (answer_mark (call_of by (verbs.DeallocMw s)) answers.Fine ∷ [])
      (answer_mark (call_of by (verbs.DeallocMw s)) answers.Fine ∷ marks.Revoked adapter key ∷ []) room agree refl refl refl turn;
})

pub receives-inject : (c : Configuration) (past : Past) (w : World) (by : ℕ) (q : QueueId) (bytes : List ℕ) → IsSoundWorld c w → HasRoom w → ReceivesAgree past w
    → Leads w (ReceivesBy past by (verbs.Inject q bytes)) (inject_plan c (call_of by (verbs.Inject q bytes)) q bytes)
receives-inject c past w by q bytes sound room agree = at (w.queue q) refl (sound.things (Queue_of q))
  where
    call : Call
    call = call_of by (verbs.Inject q bytes)

    P : World → List Mark → Type 0
    P = ReceivesBy past by (verbs.Inject q bytes)

    arrives : QueueSlot → Plan
    arrives (NoQueue incarnation timers) = Refuse_plan call NoSuch
    arrives (Present p) = Arrive c p bytes None [] (answer_mark call answers.Fine ∷ [])

    at : (slot : QueueSlot) → w.queue q ≡ slot → IsQueueOf q slot → Leads w P (arrives slot)
    at (NoQueue incarnation timers) is one = record { agree = agree; right = refl }
    at (Present p) is one = leads-weaker w (IsTurn w (answer_mark call answers.Fine ∷ [])) P (Arrive c p bytes None [] (answer_mark call answers.Fine ∷ []))
        (λ v ms turn. turn-receives past (events.Verb by (verbs.Inject q bytes)) w v (answer_mark call answers.Fine ∷ []) ms room agree refl refl refl turn)
        (turns-arrive c w p bytes None [] (answer_mark call answers.Fine ∷ []) sound (is-there w q p is one) (record {}))
