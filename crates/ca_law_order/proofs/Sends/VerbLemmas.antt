-- Verbs complete sends in order, and keep the agreement on those that completed: what changes no queue pair, what keeps
-- its sends, posts and changes of state. For proofs only.
use Rattle.std.proofs.Common.{◌≡◌, ℕ, suc, ◌-◌, ◌<◌, ◌&&◌, nat_lt, Bool, true, false, not, is_none, if◌then◌else◌, List, [], ◌∷◌, ◌++◌, Option, None, Some, refl, sym, ap, subst, arith}
use Rattle.std.specs.Option.{option_and_then, option_map}
use Rattle.ca_law_endings.proofs.LeadsLemmas.{leads-around, leads-unless}
use Rattle.ca_law_endings.proofs.PathChangeLemmas.{Behind}
use Rattle.ca_law_endings.proofs.PathVerbLemmas.{agrees-present, call_of}
use Rattle.ca_law_endings.specs.Runs.{Leads}
use Rattle.ca_law_keys.proofs.Keys.KeyTurnLemmas.{found}
use Rattle.ca_law_keys.specs.Posts.{life}
use Rattle.ca_law_order.proofs.Sends.CompleteLemmas.{Complete, none-between}
use Rattle.ca_law_order.proofs.Sends.SendLemmas.{flush-complete}
use Rattle.ca_law_order.proofs.Sends.TurnLemmas.{AreAway, IsMet, Ordering, Passes, Sends_of, order-turn, queues-left, ready-there, srq-away}
use Rattle.ca_law_order.specs.Completed.{AgreeOnCompleted, CompletedAgree, CompletedInSlot, StandBefore}
use Rattle.ca_base.specs.Configuration.{Configuration}
use Rattle.ca_base.specs.declared.change.Change as state_change
use Rattle.ca_base.specs.declared.change.Change.TheVariants as changes
use Rattle.ca_base.specs.declared.change.Field.TheVariants as fields
use Rattle.ca_base.specs.objects.CompletionQueue.{CompletionQueue, after_reserve}
use Rattle.ca_base.specs.objects.Domain.{with_object, without_object}
use Rattle.ca_base.specs.objects.Mailbox.{with_peer}
use Rattle.ca_base.specs.objects.QueuePair.{QueuePair, NoQueue, Present, is_present, recv_cq_of, send_cq_of}
use Rattle.ca_base.specs.objects.SharedReceives.{SharedReceives, SrqSlot, after_receives_retire}
use Rattle.ca_base.specs.objects.StateTable.{modify_refusals, queue_after_change}
use Rattle.ca_keys.specs.Equal.{queue_eq}
use Rattle.ca_keys.specs.Numbers.{queue_of}
use Rattle.ca_keys.specs.declared.names.QueueId.{QueueId}
use Rattle.ca_keys.specs.declared.names.Slot.{Slot}
use Rattle.ca_law_world.proofs.Sound.SettledLemmas.{queue-path}
use Rattle.ca_law_world.proofs.Sound.WorldLemmas.{around_in, shared_of}
use Rattle.ca_model.specs.Past.{Past, Posted, present_incarnation, with_at}
use Rattle.ca_model.specs.declared.answer.Answer.TheVariants as answers
use Rattle.ca_model.specs.declared.answer.Refusal.{Refusal}
use Rattle.ca_model.specs.declared.answer.Refusal.TheVariants.{CqTooSmall, NoDomain, NoSuch, OutOfRange, SlotTaken, WindowsBound}
use Rattle.ca_model.specs.declared.event.Event.TheVariants as events
use Rattle.ca_model.specs.declared.mark.Mark.{Mark}
use Rattle.ca_model.specs.declared.verb.Verb.{Verb}
use Rattle.ca_model.specs.declared.verb.Verb.TheVariants as verbs
use Rattle.ca_model.specs.machine.Around.{Around, With_around, cq_updates}
use Rattle.ca_model.specs.machine.Completions.{flush_marks}
use Rattle.ca_model.specs.machine.Plan.{Plan, If, Look, Update, ◌:=◌, put_all}
use Rattle.ca_model.specs.machine.QueuePairVerbs.{Creation, With_shared, before_receives, beside, create_qp_plan, destroy_qp_plan, emptied_mailbox, emptied_updates, has_bad_depth, has_no_room, has_queues, left_updates, modify_qp_plan, new_queue, places_held, receive_reserve, receive_room, send_reserved, user_updates, without_queue}
use Rattle.ca_model.specs.machine.VerbAnswers.{Answer_plan, Call, Refuse_plan, Unless_plan, answer_mark, of_change_refusals}
use Rattle.ca_model.specs.machine.World.{Byte_at, Cq_of, Domain_of, Mailbox_of, Name, Queue_of, Region_of, Srq_of, Thing, Window_of, World, put}

abbrev pub OrderingBy : Past → ℕ → Verb → World → List Mark → Type 0
OrderingBy past by verb = Ordering past (events.Verb by verb)

-- ---- what keeps the sends

-- a world whose queue pairs have the sends of another's
pub record KeepsCompleted (w v : World) : Type 0 where
  pub sends : (n : QueueId) (ps : List Posted) (last : Option ℕ) → CompletedInSlot ps last (w.queue n) → CompletedInSlot ps last (v.queue n)

-- a change that leaves them
abbrev pub IsKept : World → (n : Name) → Thing n → Type 0
IsKept w (Queue_of q) s = (ps : List Posted) (last : Option ℕ) → CompletedInSlot ps last (w.queue q) → CompletedInSlot ps last s
IsKept w n x = Unit {0}

abbrev pub AreKept : World → List Update → Type 0
AreKept w [] = Unit {0}
AreKept w (x ∷ xs) = IsKept w x.name x.thing × AreKept w xs

kept-put : (w v : World) (n : Name) (x : Thing n) → IsKept w n x → KeepsCompleted w v → KeepsCompleted w (put v n x)
kept-put w v (Queue_of q) x kept keeps = record { sends = λ n ps last. at n ps last (queue_eq q n) refl }
  where
    at : (n : QueueId) (ps : List Posted) (last : Option ℕ) (b : Bool) → queue_eq q n ≡ b → CompletedInSlot ps last (w.queue n) → CompletedInSlot ps last (if b then x else v.queue n)
    at n ps last true e was = kept ps last (subst (λ m. CompletedInSlot ps last (w.queue m)) (sym (queue-path q n e)) was)
    at n ps last false e was = keeps.sends n ps last was
kept-put w v (Window_of s) x kept keeps = record { sends = keeps.sends }
kept-put w v (Mailbox_of q) x kept keeps = record { sends = keeps.sends }
kept-put w v (Domain_of d) x kept keeps = record { sends = keeps.sends }
kept-put w v (Region_of s) x kept keeps = record { sends = keeps.sends }
kept-put w v (Cq_of s) x kept keeps = record { sends = keeps.sends }
kept-put w v (Srq_of s) x kept keeps = record { sends = keeps.sends }
kept-put w v (Byte_at p) x kept keeps = record { sends = keeps.sends }

kept-puts : (w v : World) (us : List Update) → AreKept w us → KeepsCompleted w v → KeepsCompleted w (put_all us v)
kept-puts w v [] kept keeps = keeps
kept-puts w v (u ∷ us) kept keeps = kept-puts w (put v u.name u.thing) us kept.1 (kept-put w v u.name u.thing kept.0 keeps)

pub order-kept : (r : Past) (w : World) (us : List Update) → CompletedAgree r w → AreKept w us → CompletedAgree r (put_all us w)
order-kept r w us agree kept = by (kept-puts w w us kept (record { sends = λ n ps last was. was }))
  where
    by : KeepsCompleted w (put_all us w) → CompletedAgree r (put_all us w)
    by keeps = record { sends = λ n. keeps.sends n _ _ (agree.sends n); later = agree.later }

-- ---- a queue pair begins a life in which no send completed

new-life : (past : Past) (w : World) (name : QueueId) (p : QueuePair) (pre us : List Update) → CompletedAgree past w → p.requester.oldest ≡ 0 → AreAway pre → AreAway us
    → AgreeOnCompleted (with_at queue_eq past.incarnation name (suc (past.incarnation name))) past.posted past.last_send (put_all (pre ++ (Queue_of name := Present p) ∷ us) w).queue
new-life past w name p pre us agree fresh before behind = subst (AgreeOnCompleted (with_at queue_eq past.incarnation name (suc (past.incarnation name))) past.posted past.last_send)
    (sym (queues-left w name (Present p) pre us [] before behind)) (record {
      sends = λ n. ours n (queue_eq name n) refl;
      later = λ n i more. agree.later n i (less n i (queue_eq name n) refl more);
    })
  where
    none : past.last_send (life name (suc (past.incarnation name))) ≡ None
    none = agree.later name (suc (past.incarnation name)) (omega arith)

    ours : (n : QueueId) (b : Bool) → queue_eq name n ≡ b
        → CompletedInSlot (past.posted (life n (if b then suc (past.incarnation name) else past.incarnation n))) (past.last_send (life n (if b then suc (past.incarnation name) else past.incarnation n))) (if b then Present p else w.queue n)
    ours n true e = subst (λ m. StandBefore (past.posted (life m (suc (past.incarnation name)))) (past.last_send (life m (suc (past.incarnation name)))) p.requester.oldest) (queue-path name n e)
        (subst (λ o. StandBefore (past.posted (life name (suc (past.incarnation name)))) o p.requester.oldest) (sym none)
        (subst (StandBefore (past.posted (life name (suc (past.incarnation name)))) None) (sym fresh)
        (record { before = omega arith; between = refl })))
    ours n false e = agree.sends n

    less : (n : QueueId) (i : ℕ) (b : Bool) → queue_eq name n ≡ b → (if b then suc (past.incarnation name) else past.incarnation n) < i → past.incarnation n < i
    less n i true e more = omega (arith, more, ap past.incarnation (queue-path name n e))
    less n i false e more = more

-- ---- CreateQp

pub order-create : (c : Configuration) (past : Past) (w : World) (by : ℕ) (x : Creation) → CompletedAgree past w
    → Leads w (OrderingBy past by (verbs.CreateQp x.slot x.send_cq x.recv_cq x.send_depth x.recv_depth x.srq))
    (create_qp_plan c (call_of by (verbs.CreateQp x.slot x.send_cq x.recv_cq x.send_depth x.recv_depth x.srq)) x)
order-create c past w by x agree =
    leads-unless w P ((not (w.domain x.slot.domain).allocated, NoDomain) ∷ (is_present (w.queue place), SlotTaken) ∷ []) (Refuse_plan call)
    (If (has_queues c x) (Look (Cq_of (beside x.slot x.send_cq)) (λ send. Look (Cq_of (beside x.slot x.recv_cq)) (λ recv.
    With_shared x (λ shared. there send recv shared (option_and_then (λ s. s.srq) shared))))) (Refuse_plan call NoSuch)) (λ r. (refl, agree))
    (λ has. sharing x.srq, λ none. (refl, agree))
  where
    call : Call
    call = call_of by (verbs.CreateQp x.slot x.send_cq x.recv_cq x.send_depth x.recv_depth x.srq)

    P : World → List Mark → Type 0
    P = OrderingBy past by (verbs.CreateQp x.slot x.send_cq x.recv_cq x.send_depth x.recv_depth x.srq)

    place : QueueId
    place = queue_of x.slot

    q : QueuePair
    q = new_queue x (w.queue place)

    rest : CompletionQueue → CompletionQueue → Option SrqSlot → Option SharedReceives → List Update
    rest send recv slot shared =
        (Mailbox_of place := with_peer q.incarnation None (w.mailbox place))
        ∷ (Cq_of (beside x.slot x.send_cq) := Some (send_reserved x send))
        ∷ (Cq_of (beside x.slot x.recv_cq) := Some (after_reserve (receive_reserve x) (receive_room x shared) (before_receives x send recv)))
        ∷ user_updates x slot

    made : CompletionQueue → CompletionQueue → Option SrqSlot → Option SharedReceives → Plan
    made send recv slot shared = Answer_plan call (answers.Queue place.number q.incarnation)
        ((Domain_of x.slot.domain := with_object (w.domain x.slot.domain)) ∷ (Queue_of place := Present q) ∷ rest send recv slot shared) []

    sized : CompletionQueue → CompletionQueue → Option SrqSlot → Option SharedReceives → Plan
    sized send recv slot shared =
        Unless_plan call ((has_bad_depth x, OutOfRange fields.Depth) ∷ (has_no_room x shared send recv, CqTooSmall) ∷ []) (made send recv slot shared)

    there : Option CompletionQueue → Option CompletionQueue → Option SrqSlot → Option SharedReceives → Plan
    there (Some send) (Some recv) slot shared = If (is_none shared && not (is_none x.srq)) (Refuse_plan call NoSuch) (sized send recv slot shared)
    there send recv slot shared = Refuse_plan call NoSuch

    updates : Option ℕ → Option SrqSlot → List Update
    updates (Some srq) (Some slot) = (Srq_of (beside x.slot srq) := record slot { users = suc slot.users }) ∷ []
    updates srq slot = []

    users : (o : Option ℕ) (t : Option SrqSlot) → AreAway (updates o t)
    users None t = record {}
    users (Some srq) None = record {}
    users (Some srq) (Some slot) = (record {}, record {})

    found-both : (send recv : CompletionQueue) (slot : Option SrqSlot) (shared : Option SharedReceives) → Leads w P (there (Some send) (Some recv) slot shared)
    found-both send recv slot shared = (
      λ missing. (refl, agree),
      λ there. leads-unless w P ((has_bad_depth x, OutOfRange fields.Depth) ∷ (has_no_room x shared send recv, CqTooSmall) ∷ []) (Refuse_plan call)
          (made send recv slot shared) (λ r. (refl, agree))
          (refl, new-life past w place q ((Domain_of x.slot.domain := with_object (w.domain x.slot.domain)) ∷ []) (rest send recv slot shared) agree refl (record {}, record {}) (record {}, (record {}, (record {}, users x.srq slot)))),
    )

    both : (send recv : Option CompletionQueue) (slot : Option SrqSlot) (shared : Option SharedReceives) → Leads w P (there send recv slot shared)
    both None recv slot shared = (refl, agree)
    both (Some send) None slot shared = (refl, agree)
    both (Some send) (Some recv) slot shared = found-both send recv slot shared

    looking : Option ℕ → Plan
    looking None = there (w.cq (beside x.slot x.send_cq)) (w.cq (beside x.slot x.recv_cq)) None None
    looking (Some srq) = Look (Srq_of (beside x.slot srq)) (λ slot. there (w.cq (beside x.slot x.send_cq)) (w.cq (beside x.slot x.recv_cq)) (Some slot) slot.srq)

    sharing : (o : Option ℕ) → Leads w P (looking o)
    sharing None = both (w.cq (beside x.slot x.send_cq)) (w.cq (beside x.slot x.recv_cq)) None None
    sharing (Some srq) = both (w.cq (beside x.slot x.send_cq)) (w.cq (beside x.slot x.recv_cq)) (Some (w.srq (beside x.slot srq))) (w.srq (beside x.slot srq)).srq

-- ---- ModifyQp

-- the tests of a change, and what it answers
order-change : (w : World) (P : World → List Mark → Type 0) (call : Call) (q : QueuePair) (tests : List (Bool × Refusal)) (updates : Around → List Update) (ms : List Mark)
    → ((r : Refusal) → Leads w P (Refuse_plan call r)) → P (put_all (updates (around_in w q (shared_of w q))) w) (answer_mark call answers.Fine ∷ ms)
    → Leads w P (With_around q (λ a. Unless_plan call tests (Answer_plan call answers.Fine (updates a) ms)))
order-change w P call q tests updates ms refused more = leads-around w P q (λ a. Unless_plan call tests (Answer_plan call answers.Fine (updates a) ms))
    (leads-unless w P tests (Refuse_plan call) (Answer_plan call answers.Fine (updates (around_in w q (shared_of w q))) ms) refused more)

-- a change that completes no send
order-same : (r : Past) (w : World) (q p : QueuePair) (us : List Update) → CompletedAgree r w → w.queue q.queue ≡ Present q → p.requester.oldest ≡ q.requester.oldest → AreAway us
    → Passes r (put_all ((Queue_of q.queue := Present p) ∷ us) w) []
order-same r w q p us agree is oldest away = order-turn r w q p [] us [] [] agree is
    (subst (λ n. Complete q.queue (r.posted (present_incarnation r q.queue)) q.requester.oldest [] n) (sym oldest) (omega arith, none-between (r.posted (present_incarnation r q.queue)) q.requester.oldest)) (record {}) away

pub order-modify : (c : Configuration) (past : Past) (w : World) (by : ℕ) (s : Slot) (change : state_change.Change) → IsMet c past w
    → Leads w (OrderingBy past by (verbs.ModifyQp s change)) (modify_qp_plan c (call_of by (verbs.ModifyQp s change)) s change)
order-modify c past w by s changes.Error met = agrees-present c w (OrderingBy past by (verbs.ModifyQp s changes.Error)) (call_of by (verbs.ModifyQp s changes.Error)) s _ met.posted.sound (refl, met.agree) (λ q is name.
    order-change w (OrderingBy past by (verbs.ModifyQp s changes.Error)) (call_of by (verbs.ModifyQp s changes.Error)) q (of_change_refusals (modify_refusals c q changes.Error))
    (λ a. (Queue_of q.queue := Present (queue_after_change changes.Error q)) ∷ cq_updates q a (flush_marks q)) (flush_marks q) (λ r. (refl, met.agree))
    ((order-turn (Behind past by (verbs.ModifyQp s changes.Error) answers.Fine) w q (queue_after_change changes.Error q) [] (cq_updates q (around_in w q (shared_of w q)) (flush_marks q)) [] (flush_marks q) met.agree is
    (flush-complete (Sends_of past q) q (ready-there c past w q met.posted (found c w q.queue q met.posted.sound is))) (record {}) (record {}, (record {}, record {})))))
order-modify c past w by s changes.Reset met = agrees-present c w (OrderingBy past by (verbs.ModifyQp s changes.Reset)) (call_of by (verbs.ModifyQp s changes.Reset)) s _ met.posted.sound (refl, met.agree) (λ q is name.
    order-change w (OrderingBy past by (verbs.ModifyQp s changes.Reset)) (call_of by (verbs.ModifyQp s changes.Reset)) q (of_change_refusals (modify_refusals c q changes.Reset))
    (λ a. (Queue_of q.queue := Present (queue_after_change changes.Reset q)) ∷ (Mailbox_of q.queue := emptied_mailbox (queue_after_change changes.Reset q).incarnation (w.mailbox q.queue)) ∷ emptied_updates q a) [] (λ r. (refl, met.agree)) (
      refl,
      subst (λ n. AgreeOnCompleted (with_at queue_eq past.incarnation n (suc (past.incarnation n))) past.posted past.last_send (reset q).queue) name
          (new-life past w q.queue (queue_after_change changes.Reset q) [] ((Mailbox_of q.queue := emptied_mailbox (queue_after_change changes.Reset q).incarnation (w.mailbox q.queue)) ∷ emptied_updates q (around_in w q (shared_of w q))) met.agree refl
          (record {}) (record {}, (record {}, (record {}, srq-away q (around_in w q (shared_of w q)) (after_receives_retire (places_held q (around_in w q (shared_of w q)))))))),
    ))
  where
    reset : QueuePair → World
    reset q = put_all ((Queue_of q.queue := Present (queue_after_change changes.Reset q))
        ∷ (Mailbox_of q.queue := emptied_mailbox (queue_after_change changes.Reset q).incarnation (w.mailbox q.queue)) ∷ emptied_updates q (around_in w q (shared_of w q))) w
order-modify c past w by s (changes.Rtr peer incarnation psn mtu rnr_code) met = agrees-present c w (OrderingBy past by (verbs.ModifyQp s (changes.Rtr peer incarnation psn mtu rnr_code))) (call_of by (verbs.ModifyQp s (changes.Rtr peer incarnation psn mtu rnr_code))) s _ met.posted.sound (refl, met.agree) (λ q is name.
    order-change w (OrderingBy past by (verbs.ModifyQp s (changes.Rtr peer incarnation psn mtu rnr_code))) (call_of by (verbs.ModifyQp s (changes.Rtr peer incarnation psn mtu rnr_code))) q (of_change_refusals (modify_refusals c q (changes.Rtr peer incarnation psn mtu rnr_code)))
    (λ a. (Queue_of q.queue := Present (queue_after_change (changes.Rtr peer incarnation psn mtu rnr_code) q)) ∷ (Mailbox_of q.queue := with_peer q.incarnation (Some (record { queue = peer; incarnation = incarnation })) (w.mailbox q.queue)) ∷ []) [] (λ r. (refl, met.agree))
    ((order-same (Behind past by (verbs.ModifyQp s (changes.Rtr peer incarnation psn mtu rnr_code)) answers.Fine) w q (queue_after_change (changes.Rtr peer incarnation psn mtu rnr_code) q)
    ((Mailbox_of q.queue := with_peer q.incarnation (Some (record { queue = peer; incarnation = incarnation })) (w.mailbox q.queue)) ∷ []) met.agree is refl (record {}, record {}))))
order-modify c past w by s changes.Init met = agrees-present c w (OrderingBy past by (verbs.ModifyQp s changes.Init)) (call_of by (verbs.ModifyQp s changes.Init)) s _ met.posted.sound (refl, met.agree) (λ q is name.
    order-change w (OrderingBy past by (verbs.ModifyQp s changes.Init)) (call_of by (verbs.ModifyQp s changes.Init)) q (of_change_refusals (modify_refusals c q changes.Init))
    (λ a. (Queue_of q.queue := Present (queue_after_change changes.Init q)) ∷ []) [] (λ r. (refl, met.agree))
    ((order-same (Behind past by (verbs.ModifyQp s changes.Init) answers.Fine) w q (queue_after_change changes.Init q) [] met.agree is refl (record {}))))
order-modify c past w by s (changes.Rts psn retry rnr_retry reads) met = agrees-present c w (OrderingBy past by (verbs.ModifyQp s (changes.Rts psn retry rnr_retry reads))) (call_of by (verbs.ModifyQp s (changes.Rts psn retry rnr_retry reads))) s _ met.posted.sound (refl, met.agree) (λ q is name.
    order-change w (OrderingBy past by (verbs.ModifyQp s (changes.Rts psn retry rnr_retry reads))) (call_of by (verbs.ModifyQp s (changes.Rts psn retry rnr_retry reads))) q (of_change_refusals (modify_refusals c q (changes.Rts psn retry rnr_retry reads)))
    (λ a. (Queue_of q.queue := Present (queue_after_change (changes.Rts psn retry rnr_retry reads) q)) ∷ []) [] (λ r. (refl, met.agree))
    ((order-same (Behind past by (verbs.ModifyQp s (changes.Rts psn retry rnr_retry reads)) answers.Fine) w q (queue_after_change (changes.Rts psn retry rnr_retry reads) q) [] met.agree is refl (record {}))))
order-modify c past w by s changes.Sqd met = agrees-present c w (OrderingBy past by (verbs.ModifyQp s changes.Sqd)) (call_of by (verbs.ModifyQp s changes.Sqd)) s _ met.posted.sound (refl, met.agree) (λ q is name.
    order-change w (OrderingBy past by (verbs.ModifyQp s changes.Sqd)) (call_of by (verbs.ModifyQp s changes.Sqd)) q (of_change_refusals (modify_refusals c q changes.Sqd))
    (λ a. (Queue_of q.queue := Present (queue_after_change changes.Sqd q)) ∷ []) [] (λ r. (refl, met.agree))
    ((order-same (Behind past by (verbs.ModifyQp s changes.Sqd) answers.Fine) w q (queue_after_change changes.Sqd q) [] met.agree is refl (record {}))))
order-modify c past w by s changes.Resume met = agrees-present c w (OrderingBy past by (verbs.ModifyQp s changes.Resume)) (call_of by (verbs.ModifyQp s changes.Resume)) s _ met.posted.sound (refl, met.agree) (λ q is name.
    order-change w (OrderingBy past by (verbs.ModifyQp s changes.Resume)) (call_of by (verbs.ModifyQp s changes.Resume)) q (of_change_refusals (modify_refusals c q changes.Resume))
    (λ a. (Queue_of q.queue := Present (queue_after_change changes.Resume q)) ∷ []) [] (λ r. (refl, met.agree))
    ((order-same (Behind past by (verbs.ModifyQp s changes.Resume) answers.Fine) w q (queue_after_change changes.Resume q) [] met.agree is refl (record {}))))

-- ---- DestroyQp

pub order-destroy : (c : Configuration) (past : Past) (w : World) (by : ℕ) (s : Slot) → IsMet c past w
    → Leads w (OrderingBy past by (verbs.DestroyQp s)) (destroy_qp_plan (call_of by (verbs.DestroyQp s)) s)
order-destroy c past w by s met = agrees-present c w P call s _ met.posted.sound (refl, met.agree) (λ q is name.
    leads-around w P q (λ a. Unless_plan call ((nat_lt 0 q.windows, WindowsBound) ∷ []) (ending q a))
    (leads-unless w P ((nat_lt 0 q.windows, WindowsBound) ∷ []) (Refuse_plan call) (ending q (around_in w q (shared_of w q))) (λ r. (refl, met.agree)) (
      refl,
      order-kept (Behind past by (verbs.DestroyQp s) answers.Fine) w (updates q (around_in w q (shared_of w q))) met.agree
          (record {}, (λ ps last was. record {}, (record {}, (record {}, (record {}, left q (around_in w q (shared_of w q)) q.srq (around_in w q (shared_of w q)).shared))))),
    )))
  where
    call : Call
    call = call_of by (verbs.DestroyQp s)

    P : World → List Mark → Type 0
    P = OrderingBy past by (verbs.DestroyQp s)

    updates : QueuePair → Around → List Update
    updates q a =
        (Domain_of s.domain := without_object (w.domain s.domain))
        ∷ (Queue_of q.queue := NoQueue q.incarnation q.requester.timers)
        ∷ (Mailbox_of q.queue := emptied_mailbox q.incarnation (w.mailbox q.queue))
        ∷ (Cq_of (send_cq_of q) := option_map (without_queue q) a.send)
        ∷ (Cq_of (recv_cq_of q) := option_map (without_queue q) a.recv)
        ∷ left_updates q a

    ending : QueuePair → Around → Plan
    ending q a = Answer_plan call answers.Fine (updates q a) []

    leaving : QueuePair → Around → Option ℕ → Option SrqSlot → List Update
    leaving q a (Some srq) (Some slot) = (Srq_of (record { domain = q.domain; slot = srq }) := record slot {
      srq = option_map (after_receives_retire (places_held q a)) slot.srq;
      users = slot.users - 1;
    }) ∷ []
    leaving q a srq slot = []

    left : (q : QueuePair) (a : Around) (o : Option ℕ) (t : Option SrqSlot) → AreKept w (leaving q a o t)
    left q a None t = record {}
    left q a (Some srq) None = record {}
    left q a (Some srq) (Some slot) = (record {}, record {})
