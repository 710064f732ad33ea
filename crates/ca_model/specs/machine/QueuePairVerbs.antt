-- The verbs on queue pairs. Contracts cite it.
use Rattle.std.specs.Prelude.{ℕ, suc, ◌-◌, ◌==◌, ◌&&◌, ◌||◌, nat_lt, Bool, true, not, if◌then◌else◌, List, [], ◌∷◌, ◌++◌, Option, None, Some, is_none}
use Rattle.std.specs.Option.{option_map, option_map_or, option_and_then}
use Rattle.ca_base.specs.declared.change.Change as state_change
use Rattle.ca_base.specs.declared.change.Change.TheVariants as changes
use Rattle.ca_base.specs.declared.change.Field.TheVariants as fields
use Rattle.ca_keys.specs.declared.names.QueueId.{QueueId}
use Rattle.ca_keys.specs.declared.names.Slot.{Slot}
use Rattle.ca_base.specs.declared.reserve.Reserve.{Reserve}
use Rattle.ca_base.specs.declared.reserve.Reserve.TheVariants.{Sends, Receives, Shared}
use Rattle.ca_base.specs.Configuration.{Configuration}
use Rattle.ca_keys.specs.Numbers.{queue_of}
use Rattle.ca_base.specs.objects.CompletionQueue.{CompletionQueue, after_reserve, is_too_small, receives_of, without_completions, without_reservations}
use Rattle.ca_base.specs.objects.Domain.{Domain, with_object, without_object}
use Rattle.ca_base.specs.objects.Mailbox.{Mailbox, with_peer, without_envelopes}
use Rattle.ca_base.specs.objects.QueuePair.{QueuePair, QueueSlot, NoQueue, Present, incarnation_of, is_present, queue_at_start, receive_in_use, recv_cq_of, send_cq_of, timers_of}
use Rattle.ca_base.specs.objects.SharedReceives.{SharedReceives, SrqSlot, after_receives_retire}
use Rattle.ca_base.specs.objects.Slices.{has_slot}
use Rattle.ca_base.specs.objects.StateTable.{queue_after_change, modify_refusals}
use Rattle.ca_base.specs.objects.WorkQueue.{occupied_count}
use Rattle.ca_model.specs.declared.answer.Answer.TheVariants as answers
use Rattle.ca_model.specs.declared.answer.Refusal.TheVariants.{CqTooSmall, NoDomain, NoSuch, OutOfRange, SlotTaken, WindowsBound}
use Rattle.ca_model.specs.declared.mark.Mark.{Mark}
use Rattle.ca_model.specs.machine.Around.{Around, With_around, cq_updates, srq_updates}
use Rattle.ca_model.specs.machine.Completions.{flush_marks}
use Rattle.ca_model.specs.machine.CompletionVerbs.{is_no_depth}
use Rattle.ca_model.specs.machine.Plan.{Plan, Look, If, Update, ◌:=◌}
use Rattle.ca_model.specs.machine.VerbAnswers.{Call, Answer_plan, Refuse_plan, Unless_plan, of_change_refusals}
use Rattle.ca_model.specs.machine.World.{Cq_of, Domain_of, Mailbox_of, Queue_of, Srq_of}

-- what a queue pair is made of
pub record Creation : Type 0 where
  pub slot : Slot
  pub send_cq : ℕ
  pub recv_cq : ℕ
  pub send_depth : ℕ
  pub recv_depth : ℕ
  pub srq : Option ℕ

-- a slot beside another, in its domain
abbrev pub beside : Slot → ℕ → Slot
beside s slot = record s { slot = slot }

-- its queues are configured
abbrev pub has_queues : Configuration → Creation → Bool
has_queues c x =
    has_slot c (λ a. a.cqs) (beside x.slot x.send_cq) && has_slot c (λ a. a.cqs) (beside x.slot x.recv_cq)
    && option_map_or (λ srq. has_slot c (λ a. a.srqs) (beside x.slot srq)) x.srq true

-- a depth is out of its range; with a shared receive queue there is none for receives
abbrev pub has_bad_depth : Creation → Bool
has_bad_depth x = is_no_depth x.send_depth || option_map_or (λ srq. not (x.recv_depth == 0)) x.srq (is_no_depth x.recv_depth)

-- who reserves for the receives, and how much: the shared receive queue's depth, or the queue pair's own
abbrev pub receive_reserve : Creation → Reserve
receive_reserve x = option_map_or (λ srq. Shared srq (queue_of x.slot)) x.srq (Receives (queue_of x.slot))

abbrev pub receive_room : Creation → Option SharedReceives → ℕ
receive_room x shared = option_map_or (λ s. s.depth) shared x.recv_depth

-- the completion queue of the sends with what they reserve
abbrev pub send_reserved : Creation → CompletionQueue → CompletionQueue
send_reserved x cq = after_reserve (Sends (queue_of x.slot)) x.send_depth cq

-- the completion queue of the receives, before they reserve: where it is the same as that of the sends, these have
abbrev pub before_receives : Creation → CompletionQueue → CompletionQueue → CompletionQueue
before_receives x send recv = if x.send_cq == x.recv_cq then send_reserved x send else recv

-- a completion queue has no room for the reservations
abbrev pub has_no_room : Creation → Option SharedReceives → CompletionQueue → CompletionQueue → Bool
has_no_room x shared send recv =
    is_too_small (Sends (queue_of x.slot)) x.send_depth send
    || is_too_small (receive_reserve x) (receive_room x shared) (before_receives x send recv)

-- a queue pair is made in this slot, by the incarnation that follows the slot's
abbrev pub new_queue : Creation → QueueSlot → QueuePair
new_queue x slot =
    queue_at_start (queue_of x.slot) x.slot.domain (suc (incarnation_of slot)) (timers_of slot) x.send_cq x.recv_cq
    x.send_depth x.recv_depth x.srq

-- its shared receive queue has one user more
abbrev pub user_updates : Creation → Option SrqSlot → List Update
user_updates x shared = by x.srq shared
  where
    by : Option ℕ → Option SrqSlot → List Update
    by (Some srq) (Some slot) = (Srq_of (beside x.slot srq) := record slot { users = suc slot.users }) ∷ []
    by srq slot = []

-- looks at its shared receive queue
abbrev pub With_shared : Creation → (Option SrqSlot → Plan) → Plan
With_shared x k = by x.srq
  where
    by : Option ℕ → Plan
    by None = k None
    by (Some srq) = Look (Srq_of (beside x.slot srq)) (λ slot. k (Some slot))

-- CreateQp
abbrev pub create_qp_plan : Configuration → Call → Creation → Plan
create_qp_plan c call x = Look (Domain_of x.slot.domain) (λ domain. Look (Queue_of queue) (λ slot. Look (Mailbox_of queue) (λ m.
    Unless_plan call ((not domain.allocated, NoDomain) ∷ (is_present slot, SlotTaken) ∷ [])
    (If (has_queues c x)
    (Look (Cq_of (beside x.slot x.send_cq)) (λ send. Look (Cq_of (beside x.slot x.recv_cq)) (λ recv.
    With_shared x (λ shared. there domain slot m send recv shared (option_and_then (λ s. s.srq) shared)))))
    (Refuse_plan call NoSuch)))))
  where
    queue : QueueId
    queue = queue_of x.slot

    made : Domain → QueuePair → Mailbox → CompletionQueue → CompletionQueue → Option SrqSlot → Option SharedReceives → Plan
    made domain q m send recv slot shared = Answer_plan call (answers.Queue queue.number q.incarnation)
        ((Domain_of x.slot.domain := with_object domain)
        ∷ (Queue_of queue := Present q)
        ∷ (Mailbox_of queue := with_peer q.incarnation None m)
        ∷ (Cq_of (beside x.slot x.send_cq) := Some (send_reserved x send))
        ∷ (Cq_of (beside x.slot x.recv_cq) := Some (after_reserve (receive_reserve x) (receive_room x shared) (before_receives x send recv)))
        ∷ user_updates x slot)
        []

    sized : Domain → QueueSlot → Mailbox → CompletionQueue → CompletionQueue → Option SrqSlot → Option SharedReceives → Plan
    sized domain slot m send recv srq shared =
        Unless_plan call ((has_bad_depth x, OutOfRange fields.Depth) ∷ (has_no_room x shared send recv, CqTooSmall) ∷ [])
        (made domain (new_queue x slot) m send recv srq shared)

    there : Domain → QueueSlot → Mailbox → Option CompletionQueue → Option CompletionQueue → Option SrqSlot → Option SharedReceives → Plan
    there domain slot m (Some send) (Some recv) srq shared =
        If (is_none shared && not (is_none x.srq)) (Refuse_plan call NoSuch) (sized domain slot m send recv srq shared)
    there domain slot m send recv srq shared = Refuse_plan call NoSuch

-- looks at a queue pair that a verb names
abbrev pub With_present : Call → Slot → (QueuePair → Plan) → Plan
With_present call s k = Look (Queue_of (queue_of s)) by
  where
    by : QueueSlot → Plan
    by (NoQueue incarnation timers) = Refuse_plan call NoSuch
    by (Present q) = k q

-- the places of a shared receive queue that a queue pair holds: of completions that wait, and of the message in progress
abbrev pub places_held : QueuePair → Around → List ℕ
places_held q a =
    option_map_or (receives_of q.queue) a.recv []
    ++ option_map_or (λ place. place ∷ []) (receive_in_use q.responder.message) []

-- a queue pair is emptied: its completions are removed, and the places that it holds are free
abbrev pub emptied_updates : QueuePair → Around → List Update
emptied_updates q a =
    (Cq_of (send_cq_of q) := option_map (without_completions q.queue) a.send)
    ∷ (Cq_of (recv_cq_of q) := option_map (without_completions q.queue) a.recv)
    ∷ srq_updates q a (after_receives_retire (places_held q a))

-- the mailbox of an emptied queue pair accepts nobody
abbrev pub emptied_mailbox : ℕ → Mailbox → Mailbox
emptied_mailbox incarnation m = with_peer incarnation None (without_envelopes m)

-- ModifyQp
abbrev pub modify_qp_plan : Configuration → Call → Slot → state_change.Change → Plan
modify_qp_plan c call s change = With_present call s (λ q. Look (Mailbox_of q.queue) (λ m. With_around q (λ a.
    Unless_plan call (of_change_refusals (modify_refusals c q change))
    (Answer_plan call answers.Fine
    ((Queue_of q.queue := Present (queue_after_change change q)) ∷ around_updates q m a change)
    (marks_of q change)))))
  where
    marks_of : QueuePair → state_change.Change → List Mark
    marks_of q changes.Error = flush_marks q
    marks_of q change = []

    around_updates : QueuePair → Mailbox → Around → state_change.Change → List Update
    around_updates q m a changes.Error = cq_updates q a (flush_marks q)
    around_updates q m a changes.Reset =
        (Mailbox_of q.queue := emptied_mailbox (queue_after_change changes.Reset q).incarnation m) ∷ emptied_updates q a
    around_updates q m a (changes.Rtr peer incarnation psn mtu rnr_code) =
        (Mailbox_of q.queue := with_peer q.incarnation (Some (record { queue = peer; incarnation = incarnation })) m) ∷ []
    around_updates q m a change = []

-- QueryQp: the receives are those of its own queue
abbrev pub query_qp_plan : Call → Slot → Plan
query_qp_plan call s = With_present call s (λ q.
    Answer_plan call (answers.Query q.state q.incarnation (occupied_count q.sends) (option_map_or occupied_count q.receives 0)) [] [])

-- a shared receive queue with one user fewer, and the places free that the queue pair held
abbrev pub left_updates : QueuePair → Around → List Update
left_updates q a = by q.srq a.shared
  where
    by : Option ℕ → Option SrqSlot → List Update
    by (Some srq) (Some slot) = (Srq_of (record { domain = q.domain; slot = srq }) := record {
      srq = option_map (after_receives_retire (places_held q a)) slot.srq;
      users = slot.users - 1;
    }) ∷ []
    by srq slot = []

-- a completion queue without a queue pair
abbrev pub without_queue : QueuePair → CompletionQueue → CompletionQueue
without_queue q cq = without_reservations q.queue (without_completions q.queue cq)

-- DestroyQp
abbrev pub destroy_qp_plan : Call → Slot → Plan
destroy_qp_plan call s = Look (Domain_of s.domain) (λ domain. With_present call s (λ q. Look (Mailbox_of q.queue) (λ m. With_around q (λ a.
    Unless_plan call ((nat_lt 0 q.windows, WindowsBound) ∷ [])
    (Answer_plan call answers.Fine
    ((Domain_of s.domain := without_object domain)
    ∷ (Queue_of q.queue := NoQueue q.incarnation q.requester.timers)
    ∷ (Mailbox_of q.queue := emptied_mailbox q.incarnation m)
    ∷ (Cq_of (send_cq_of q) := option_map (without_queue q) a.send)
    ∷ (Cq_of (recv_cq_of q) := option_map (without_queue q) a.recv)
    ∷ left_updates q a)
    [])))))
