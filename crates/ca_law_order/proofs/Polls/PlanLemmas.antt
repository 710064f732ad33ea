-- The plans of CreateQp and of Poll lead where what they make of a world does. For proofs only.
use Rattle.std.proofs.Common.{◌≡◌, ℕ, ◌==◌, ◌&&◌, ◌||◌, nat_lt, not, is_none, List, [], ◌∷◌, length, take, Option, None, Some, refl, ap, subst}
use Rattle.std.specs.Option.{option_and_then, option_map}
use Rattle.ca_law_endings.specs.Runs.{Leads}
use Rattle.ca_law_order.proofs.Polls.PostingLemmas.{Refuses}
use Rattle.ca_law_order.proofs.Polls.TurnLemmas.{leads-tests}
use Rattle.ca_base.specs.Configuration.{Configuration}
use Rattle.ca_base.specs.declared.change.Field.TheVariants as fields
use Rattle.ca_base.specs.declared.completion.Completion.{Completion}
use Rattle.ca_base.specs.declared.limits.TheConstants.{MAX_POLLED}
use Rattle.ca_base.specs.declared.step.Reason.TheVariants as reasons
use Rattle.ca_base.specs.objects.CompletionQueue.{CompletionQueue, after_polls, after_reserve}
use Rattle.ca_base.specs.objects.Domain.{with_object}
use Rattle.ca_base.specs.objects.Mailbox.{with_peer}
use Rattle.ca_base.specs.objects.QueuePair.{QueuePair, Present, is_present}
use Rattle.ca_base.specs.objects.SharedReceives.{SharedReceives, SrqSlot}
use Rattle.ca_keys.specs.Numbers.{queue_of}
use Rattle.ca_keys.specs.declared.names.QueueId.{QueueId}
use Rattle.ca_keys.specs.declared.names.Slot.{Slot}
use Rattle.ca_model.specs.declared.answer.Answer.TheVariants as answers
use Rattle.ca_model.specs.declared.answer.Refusal.TheVariants.{CqTooSmall, NoDomain, NoSuch, OutOfRange, SlotTaken}
use Rattle.ca_model.specs.declared.mark.Mark.{Mark}
use Rattle.ca_model.specs.machine.CompletionVerbs.{Poll_of, Take_plan, With_place, With_places, poll_plan, receives_after_poll, slot_after_poll, source_of_completion}
use Rattle.ca_model.specs.machine.Plan.{Plan, If, Look, Stuck, Update, ◌:=◌, put_all}
use Rattle.ca_model.specs.machine.QueuePairVerbs.{Creation, With_shared, before_receives, beside, create_qp_plan, has_bad_depth, has_no_room, has_queues, new_queue, receive_reserve, receive_room, send_reserved, user_updates}
use Rattle.ca_model.specs.machine.VerbAnswers.{Answer_plan, Call, Refuse_plan, Unless_plan, answer_mark}
use Rattle.ca_model.specs.machine.World.{World, Name, Domain_of, Cq_of, Srq_of, Queue_of, Mailbox_of, Thing}

-- ---- CreateQp

-- what it changes: these completion queues stand in their slots, and are reserved
abbrev pub created : World → Creation → CompletionQueue → CompletionQueue → Option SharedReceives → List Update
created w x send recv shared =
    (Domain_of x.slot.domain := with_object (w.domain x.slot.domain))
    ∷ (Queue_of (queue_of x.slot) := Present (new_queue x (w.queue (queue_of x.slot))))
    ∷ (Mailbox_of (queue_of x.slot) := with_peer (new_queue x (w.queue (queue_of x.slot))).incarnation None (w.mailbox (queue_of x.slot)))
    ∷ (Cq_of (beside x.slot x.send_cq) := Some (send_reserved x send))
    ∷ (Cq_of (beside x.slot x.recv_cq) := Some (after_reserve (receive_reserve x) (receive_room x shared) (before_receives x send recv)))
    ∷ user_updates x (option_map (λ srq. w.srq (beside x.slot srq)) x.srq)

pub leads-create : (c : Configuration) (w : World) (P : World → List Mark → Type 0) (call : Call) (x : Creation) → Refuses w P call
    → ((send recv : CompletionQueue) (shared : Option SharedReceives) → w.cq (beside x.slot x.send_cq) ≡ Some send → w.cq (beside x.slot x.recv_cq) ≡ Some recv
    → P (put_all (created w x send recv shared) w) (answer_mark call (answers.Queue (queue_of x.slot).number (new_queue x (w.queue (queue_of x.slot))).incarnation) ∷ []))
    → Leads w P (create_qp_plan c call x)
leads-create c w P call x refused ends =
    leads-tests w P ((not (w.domain x.slot.domain).allocated, NoDomain) ∷ (is_present (w.queue place), SlotTaken) ∷ []) (Refuse_plan call)
    (If (has_queues c x) (Look (Cq_of (beside x.slot x.send_cq)) (λ send. Look (Cq_of (beside x.slot x.recv_cq)) (λ recv.
    With_shared x (λ shared. there send recv shared (option_and_then (λ s. s.srq) shared))))) (Refuse_plan call NoSuch)) refused
    (λ fails. (λ has. sharing x.srq refl, λ none. refused NoSuch))
  where
    place : QueueId
    place = queue_of x.slot

    q : QueuePair
    q = new_queue x (w.queue place)

    made : CompletionQueue → CompletionQueue → Option SrqSlot → Option SharedReceives → Plan
    made send recv slot shared = Answer_plan call (answers.Queue place.number q.incarnation)
        ((Domain_of x.slot.domain := with_object (w.domain x.slot.domain))
        ∷ (Queue_of place := Present q)
        ∷ (Mailbox_of place := with_peer q.incarnation None (w.mailbox place))
        ∷ (Cq_of (beside x.slot x.send_cq) := Some (send_reserved x send))
        ∷ (Cq_of (beside x.slot x.recv_cq) := Some (after_reserve (receive_reserve x) (receive_room x shared) (before_receives x send recv)))
        ∷ user_updates x slot)
        []

    sized : CompletionQueue → CompletionQueue → Option SrqSlot → Option SharedReceives → Plan
    sized send recv slot shared =
        Unless_plan call ((has_bad_depth x, OutOfRange fields.Depth) ∷ (has_no_room x shared send recv, CqTooSmall) ∷ []) (made send recv slot shared)

    there : Option CompletionQueue → Option CompletionQueue → Option SrqSlot → Option SharedReceives → Plan
    there (Some send) (Some recv) slot shared = If (is_none shared && not (is_none x.srq)) (Refuse_plan call NoSuch) (sized send recv slot shared)
    there send recv slot shared = Refuse_plan call NoSuch

    found-both : (send recv : CompletionQueue) (slot : Option SrqSlot) (shared : Option SharedReceives) → w.cq (beside x.slot x.send_cq) ≡ Some send → w.cq (beside x.slot x.recv_cq) ≡ Some recv
        → option_map (λ srq. w.srq (beside x.slot srq)) x.srq ≡ slot → Leads w P (there (Some send) (Some recv) slot shared)
    found-both send recv slot shared sends receives is = (
      λ missing. refused NoSuch,
      λ there. leads-tests w P ((has_bad_depth x, OutOfRange fields.Depth) ∷ (has_no_room x shared send recv, CqTooSmall) ∷ []) (Refuse_plan call)
          (made send recv slot shared) refused (λ fails. subst (λ o. Leads w P (made send recv o shared)) is (ends send recv shared sends receives)),
    )

    both : (send recv : Option CompletionQueue) (slot : Option SrqSlot) (shared : Option SharedReceives) → w.cq (beside x.slot x.send_cq) ≡ send → w.cq (beside x.slot x.recv_cq) ≡ recv
        → option_map (λ srq. w.srq (beside x.slot srq)) x.srq ≡ slot → Leads w P (there send recv slot shared)
    both None recv slot shared sends receives is = refused NoSuch
    both (Some send) None slot shared sends receives is = refused NoSuch
    both (Some send) (Some recv) slot shared sends receives is = found-both send recv slot shared sends receives is

    looking : Option ℕ → Plan
    looking None = there (w.cq (beside x.slot x.send_cq)) (w.cq (beside x.slot x.recv_cq)) None None
    looking (Some srq) = Look (Srq_of (beside x.slot srq)) (λ slot. there (w.cq (beside x.slot x.send_cq)) (w.cq (beside x.slot x.recv_cq)) (Some slot) slot.srq)

    sharing : (o : Option ℕ) → x.srq ≡ o → Leads w P (looking o)
    sharing None is = both (w.cq (beside x.slot x.send_cq)) (w.cq (beside x.slot x.recv_cq)) None None refl refl (ap (option_map (λ srq. w.srq (beside x.slot srq))) is)
    sharing (Some srq) is = both (w.cq (beside x.slot x.send_cq)) (w.cq (beside x.slot x.recv_cq)) (Some (w.srq (beside x.slot srq))) (w.srq (beside x.slot srq)).srq refl refl
        (ap (option_map (λ srq. w.srq (beside x.slot srq))) is)

-- ---- Poll

-- a slot of a shared receive queue, of which the places of what was polled are free
abbrev pub slot_freed : CompletionQueue → ℕ → List Completion → SrqSlot → SrqSlot
slot_freed cq srq polled slot = record slot { srq = option_map (receives_after_poll cq srq polled) slot.srq }

pub record IsSlotFreed (cq : CompletionQueue) (polled : List Completion) (before after : SrqSlot) : Type 0 where
  pub srq : ℕ
  pub is : after ≡ slot_freed cq srq polled before

-- a change of what a poll frees: places of a queue pair, or of a shared receive queue
abbrev pub IsFreed : World → CompletionQueue → List Completion → (n : Name) → Thing n → Type 0
IsFreed w cq polled (Queue_of q) slot = slot ≡ slot_after_poll q polled (w.queue q)
IsFreed w cq polled (Srq_of s) slot = IsSlotFreed cq polled (w.srq s) slot
IsFreed w cq polled n x = ⊥

abbrev pub AreFreed : World → CompletionQueue → List Completion → List Update → Type 0
AreFreed w cq polled [] = Unit {0}
AreFreed w cq polled (u ∷ us) = IsFreed w cq polled u.name u.thing × AreFreed w cq polled us

with-place : (w : World) (P : World → List Mark → Type 0) (s : Slot) (cq : CompletionQueue) (polled : List Completion) (x : Completion) (k : Update → Plan)
    → ((u : Update) → IsFreed w cq polled u.name u.thing → Leads w P (k u)) → Leads w P (With_place s cq polled x k)
with-place w P s cq polled x k more = by (source_of_completion cq x)
  where
    shared : ℕ → Slot
    shared srq = record { domain = s.domain; slot = srq }

    placing : Option ℕ → Plan
    placing None = Look (Queue_of x.queue) (λ slot. k (Queue_of x.queue := slot_after_poll x.queue polled slot))
    placing (Some srq) = Look (Srq_of (shared srq)) (λ slot.
        k (Srq_of (shared srq) := record slot { srq = option_map (receives_after_poll cq srq polled) slot.srq }))

    by : (o : Option ℕ) → Leads w P (placing o)
    by None = more (Queue_of x.queue := slot_after_poll x.queue polled (w.queue x.queue)) refl
    by (Some srq) = more (Srq_of (shared srq) := slot_freed cq srq polled (w.srq (shared srq))) (record { srq = srq; is = refl })

with-places : (w : World) (P : World → List Mark → Type 0) (s : Slot) (cq : CompletionQueue) (polled xs : List Completion) (k : List Update → Plan)
    → ((us : List Update) → AreFreed w cq polled us → Leads w P (k us)) → Leads w P (With_places s cq polled xs k)
with-places w P s cq polled [] k more = more [] (record {})
with-places w P s cq polled (x ∷ xs) k more = with-place w P s cq polled x (λ u. With_places s cq polled xs (λ us. k (u ∷ us)))
    (λ u freed. with-places w P s cq polled xs (λ us. k (u ∷ us)) (λ us rest. more (u ∷ us) (freed, rest)))

pub leads-poll : (w : World) (P : World → List Mark → Type 0) (call : Call) (s : Slot) (n least : ℕ) → Refuses w P call
    → ((cq : CompletionQueue) (us : List Update) → w.cq s ≡ Some cq → AreFreed w cq (take n cq.waiting) us
    → P (put_all ((Cq_of s := Some (after_polls (length (take n cq.waiting)) cq)) ∷ us) w) (answer_mark call (answers.Polled (take n cq.waiting)) ∷ []))
    → Leads w P (poll_plan call s n least)
leads-poll w P call s n least refused ends = at (w.cq s) refl
  where
    ending : CompletionQueue → List Completion → List Update → Plan
    ending cq polled us = Answer_plan call (answers.Polled polled) ((Cq_of s := Some (after_polls (length polled) cq)) ∷ us) []

    at : (o : Option CompletionQueue) → w.cq s ≡ o → Leads w P (Poll_of call s n least o)
    at None is = refused NoSuch
    at (Some cq) is = leads-tests w P (((n == 0) || nat_lt MAX_POLLED n || nat_lt n least, OutOfRange fields.Length) ∷ []) (Refuse_plan call)
        (If (nat_lt (length cq.waiting) least) (Stuck reasons.Empty) (Take_plan call s cq (take n cq.waiting))) refused
        (λ fails. (
          λ few. record {},
          λ enough. with-places w P s cq (take n cq.waiting) (take n cq.waiting) (ending cq (take n cq.waiting)) (λ us freed. ends cq us is freed),
        ))
