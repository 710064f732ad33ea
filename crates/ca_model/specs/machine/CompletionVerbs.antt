-- The verbs on completion queues and on shared receive queues. Contracts cite it.
use Rattle.std.specs.Prelude.{ℕ, ◌==◌, ◌||◌, nat_lt, Bool, true, false, not, if◌then◌else◌, List, [], ◌∷◌, length, take, Option, None, Some, is_none, is_some}
use Rattle.std.specs.Option.{option_map, option_map_or, option_eq}
use Rattle.ca_base.specs.declared.change.Field.TheVariants as fields
use Rattle.ca_base.specs.declared.completion.Completion.{Completion}
use Rattle.ca_base.specs.declared.limits.TheConstants.{MAX_CAPACITY, MAX_DEPTH, MAX_POLLED}
use Rattle.ca_keys.specs.declared.names.QueueId.{QueueId}
use Rattle.ca_keys.specs.declared.names.Slot.{Slot}
use Rattle.ca_base.specs.declared.step.Reason.TheVariants as reasons
use Rattle.ca_keys.specs.Equal.{queue_eq}
use Rattle.ca_base.specs.objects.CompletionQueue.{CompletionQueue, after_polls, empty_cq, is_in_use, source_in}
use Rattle.ca_base.specs.objects.Domain.{with_object, without_object}
use Rattle.ca_base.specs.objects.QueuePair.{QueuePair, QueueSlot, NoQueue, Present}
use Rattle.ca_base.specs.objects.SharedReceives.{SharedReceives, after_receive_retire, empty_receives}
use Rattle.ca_base.specs.objects.WorkQueue.{after_retire}
use Rattle.ca_model.specs.declared.answer.Answer.TheVariants as answers
use Rattle.ca_model.specs.declared.answer.Refusal.TheVariants.{CqInUse, NoDomain, NoSuch, OutOfRange, SlotTaken, SrqInUse}
use Rattle.ca_model.specs.machine.Plan.{Plan, Stuck, Look, If, Update, ◌:=◌}
use Rattle.ca_model.specs.machine.VerbAnswers.{Call, Answer_plan, Refuse_plan, Unless_plan}
use Rattle.ca_model.specs.machine.World.{Cq_of, Domain_of, Queue_of, Srq_of}

-- CreateCq
abbrev pub create_cq_plan : Call → Slot → ℕ → Plan
create_cq_plan call s capacity = Look (Domain_of s.domain) (λ domain. Look (Cq_of s) (λ cq.
    Unless_plan call
    ((not domain.allocated, NoDomain) ∷ (is_some cq, SlotTaken)
    ∷ ((capacity == 0) || nat_lt MAX_CAPACITY capacity, OutOfRange fields.Capacity) ∷ [])
    (Answer_plan call answers.Fine
    ((Domain_of s.domain := with_object domain) ∷ (Cq_of s := Some (empty_cq capacity)) ∷ []) [])))

-- DestroyCq
abbrev pub destroy_cq_plan : Call → Slot → Plan
destroy_cq_plan call s = Look (Domain_of s.domain) (λ domain. Look (Cq_of s) (λ cq.
    Unless_plan call ((is_none cq, NoSuch) ∷ (option_map_or is_in_use cq false, CqInUse) ∷ [])
    (Answer_plan call answers.Fine ((Domain_of s.domain := without_object domain) ∷ (Cq_of s := None) ∷ []) [])))

-- a depth is out of its range
abbrev pub is_no_depth : ℕ → Bool
is_no_depth depth = (depth == 0) || nat_lt MAX_DEPTH depth

-- CreateSrq
abbrev pub create_srq_plan : Call → Slot → ℕ → Plan
create_srq_plan call s depth = Look (Domain_of s.domain) (λ domain. Look (Srq_of s) (λ slot.
    Unless_plan call
    ((not domain.allocated, NoDomain) ∷ (is_some slot.srq, SlotTaken) ∷ (is_no_depth depth, OutOfRange fields.Depth) ∷ [])
    (Answer_plan call answers.Fine
    ((Domain_of s.domain := with_object domain) ∷ (Srq_of s := record slot { srq = Some (empty_receives depth) }) ∷ []) [])))

-- DestroySrq
abbrev pub destroy_srq_plan : Call → Slot → Plan
destroy_srq_plan call s = Look (Domain_of s.domain) (λ domain. Look (Srq_of s) (λ slot.
    Unless_plan call ((is_none slot.srq, NoSuch) ∷ (nat_lt 0 slot.users, SrqInUse) ∷ [])
    (Answer_plan call answers.Fine
    ((Domain_of s.domain := without_object domain) ∷ (Srq_of s := record slot { srq = None }) ∷ []) [])))

-- a queue pair after its completions among these were polled: each frees the places up to its own
abbrev pub after_poll : QueueId → List Completion → QueuePair → QueuePair
after_poll q [] p = p
after_poll q (c ∷ cs) p = after_poll q cs (if queue_eq c.queue q then by c.receive else p)
  where
    by : Bool → QueuePair
    by true = record p { receives = option_map (after_retire c.place) p.receives }
    by false = record p { sends = after_retire c.place p.sends }

abbrev pub slot_after_poll : QueueId → List Completion → QueueSlot → QueueSlot
slot_after_poll q cs (NoQueue incarnation timers) = NoQueue incarnation timers
slot_after_poll q cs (Present p) = Present (after_poll q cs p)

-- the shared receive queue of which a completion's receive was
abbrev pub source_of_completion : CompletionQueue → Completion → Option ℕ
source_of_completion cq c = if c.receive then source_in cq.reservations c.queue else None

-- a shared receive queue after its receives among these were polled: each frees its own place
abbrev pub receives_after_poll : CompletionQueue → ℕ → List Completion → SharedReceives → SharedReceives
receives_after_poll cq srq [] s = s
receives_after_poll cq srq (c ∷ cs) s =
    receives_after_poll cq srq cs
    (if option_eq (λ a b. a == b) (source_of_completion cq c) (Some srq) then after_receive_retire c.place s else s)

-- looks at what a completion that is taken frees: its shared receive queue, or else its queue pair
abbrev pub With_place : Slot → CompletionQueue → List Completion → Completion → (Update → Plan) → Plan
With_place s cq polled c k = by (source_of_completion cq c)
  where
    shared : ℕ → Slot
    shared srq = record { domain = s.domain; slot = srq }

    by : Option ℕ → Plan
    by None = Look (Queue_of c.queue) (λ slot. k (Queue_of c.queue := slot_after_poll c.queue polled slot))
    by (Some srq) = Look (Srq_of (shared srq)) (λ slot.
        k (Srq_of (shared srq) := record slot { srq = option_map (receives_after_poll cq srq polled) slot.srq }))

-- the same for all that are taken
abbrev pub With_places : Slot → CompletionQueue → List Completion → List Completion → (List Update → Plan) → Plan
With_places s cq polled [] k = k []
With_places s cq polled (c ∷ cs) k =
    With_place s cq polled c (λ change. With_places s cq polled cs (λ changes. k (change ∷ changes)))

-- these completions are taken
abbrev pub Take_plan : Call → Slot → CompletionQueue → List Completion → Plan
Take_plan call s cq polled = With_places s cq polled polled (λ changes.
    Answer_plan call (answers.Polled polled) ((Cq_of s := Some (after_polls (length polled) cq)) ∷ changes) [])

-- a poll of what stands in the slot
abbrev pub Poll_of : Call → Slot → ℕ → ℕ → Option CompletionQueue → Plan
Poll_of call s n least None = Refuse_plan call NoSuch
Poll_of call s n least (Some cq) =
    Unless_plan call (((n == 0) || nat_lt MAX_POLLED n || nat_lt n least, OutOfRange fields.Length) ∷ [])
    (If (nat_lt (length cq.waiting) least) (Stuck reasons.Empty) (Take_plan call s cq (take n cq.waiting)))

-- Poll: it is possible once as many completions wait as are asked for at least
abbrev pub poll_plan : Call → Slot → ℕ → ℕ → Plan
poll_plan call s n least = Look (Cq_of s) (Poll_of call s n least)
