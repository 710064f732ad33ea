-- Polling: the places that completions free, one after another, and what that asks of what is held. Contracts cite it.
use Rattle.std.specs.Prelude.{◌≡◌, ◌==◌, ℕ, Bool, true, false, suc, ◌^◌, ◌<◌, List, [], ◌∷◌, Option, None, Some, IfSome, filter, is_some, map}
use Rattle.std.specs.List.{AllByRecursion, IsDistinct}
use Rattle.std.specs.Option.{option_and_then, option_eq, option_map}
use Rattle.ca_base.specs.declared.completion.Completion.{Completion}
use Rattle.ca_keys.specs.declared.names.QueueId.{QueueId}
use Rattle.ca_keys.specs.declared.names.Slot.{Slot}
use Rattle.ca_base.specs.objects.CompletionQueue.{CompletionQueue, source_in}
use Rattle.ca_base.specs.objects.QueuePair.{QueuePair, QueueSlot, queue_in}
use Rattle.ca_base.specs.objects.WorkQueue.{WorkQueue, after_retire}
use Rattle.ca_base.specs.declared.request.RecvRequest.{RecvRequest}
use Rattle.ca_base.specs.objects.SharedReceives.{after_receive_retire}
use Rattle.ca_srq.specs.Taken.{stands_once}
use Rattle.ca_model.specs.declared.answer.Answer.TheVariants as answers
use Rattle.ca_model.specs.declared.mark.Mark.{Mark}
use Rattle.ca_model.specs.declared.mark.Mark.TheVariants as marks
use Rattle.ca_model.specs.machine.CompletionVerbs.{source_of_completion}
use Rattle.ca_model.specs.machine.World.{World, Name, Queue_of, Srq_of, put}
use Rattle.ca_adapter_posts.specs.Posting.{slot_with}

-- a shared receive queue of the domain of a slot
abbrev pub shared_at : Slot → ℕ → Slot
shared_at s srq = record { domain = s.domain; slot = srq }

-- the shared receive queue of which a completion's receive was, by what stands in the slot of its completion queue
abbrev pub source_at : Option CompletionQueue → Completion → Option ℕ
source_at cq c = option_and_then (λ v. source_of_completion v c) cq

-- what a completion that is taken frees, by its source: a place of a shared receive queue, or places of its queue pair
abbrev pub place_of : Slot → Option ℕ → Completion → Name
place_of s None c = Queue_of c.queue
place_of s (Some srq) c = Srq_of (shared_at s srq)

-- a queue pair in which the places up to that of a completion are free
abbrev pub with_places_free : Completion → QueuePair → QueuePair
with_places_free c p = by c.receive
  where
    by : Bool → QueuePair
    by true = record p { receives = option_map (after_retire c.place) p.receives }
    by false = record p { sends = after_retire c.place p.sends }

-- what a completion frees in a queue pair is below the end of its type
abbrev pub CanRetire : Completion → QueuePair → Type 0
CanRetire c q = by c.receive q.receives
  where
    by : Bool → Option (WorkQueue RecvRequest) → Type 0
    by true None = Unit {0}
    by true (Some r) = suc c.place < 2 ^ 64
    by false r = suc c.place < 2 ^ 64

-- a world after it is freed
abbrev pub after_freeing : Slot → Option ℕ → Completion → World → World
after_freeing s None c w = put w (Queue_of c.queue) (slot_with (with_places_free c) (w.queue c.queue))
after_freeing s (Some srq) c w = put w (Srq_of (shared_at s srq)) (record (w.srq (shared_at s srq)) {
  srq = option_map (after_receive_retire c.place) (w.srq (shared_at s srq)).srq;
})

-- it can be freed: in a queue pair it is below the end of its type, in a shared receive queue it stands once
abbrev pub CanFreeOf : Slot → Option ℕ → Completion → World → Type 0
CanFreeOf s None c w = IfSome (queue_in (w.queue c.queue)) (CanRetire c)
CanFreeOf s (Some srq) c w = IfSome (w.srq (shared_at s srq)).srq (λ z. stands_once c.place z.taken ≡ true)

-- a world after what completions stand for was freed, one after another
abbrev pub after_freeing_all : Slot → Option CompletionQueue → List Completion → World → World
after_freeing_all s cq [] w = w
after_freeing_all s cq (c ∷ cs) w = after_freeing_all s cq cs (after_freeing s (source_at cq c) c w)

-- it can be freed, one after another
abbrev pub CanFreeAll : Slot → Option CompletionQueue → List Completion → World → Type 0
CanFreeAll s cq [] w = Unit {0}
CanFreeAll s cq (c ∷ cs) w = CanFreeOf s (source_at cq c) c w × CanFreeAll s cq cs (after_freeing s (source_at cq c) c w)

-- the things in which they free something
abbrev pub places_of : Slot → Option CompletionQueue → List Completion → List Name
places_of s cq cs = map (λ c. place_of s (source_at cq c) c) cs

-- the places of a shared receive queue for which these completions stand
abbrev pub places_from : CompletionQueue → ℕ → List Completion → List ℕ
places_from cq srq cs =
    map (λ c. c.place) (filter (λ c. option_eq (λ a b. a == b) (Some srq) (source_of_completion cq c)) cs)

-- what each completion that waits stands for can be freed
abbrev pub CanFreeEach : Slot → World → CompletionQueue → Type 0
CanFreeEach s w cq = AllByRecursion (λ c. CanFreeOf s (source_of_completion cq c) c w) cq.waiting

-- no two completions that wait stand for one place of a shared receive queue
abbrev pub AreOfOwnPlaces : CompletionQueue → Type 0
AreOfOwnPlaces cq = (srq : ℕ) → IsDistinct (λ a b. a == b) (places_from cq srq cq.waiting)

-- a queue pair that reserved here for a shared receive queue has no receives of its own
abbrev pub IsApart : CompletionQueue → QueueId → QueueSlot → Type 0
IsApart cq q slot = is_some (source_in cq.reservations q) ≡ true → IfSome (queue_in slot) (λ p. p.receives ≡ None)

-- the same of all queue pairs
abbrev pub AreApart : World → CompletionQueue → Type 0
AreApart w cq = (q : QueueId) → IsApart cq q (w.queue q)

-- the completions of which the mark of a poll tells
abbrev pub polled_of : List Mark → List Completion
polled_of (marks.Verb by verb (answers.Polled polled) ∷ rest) = polled
polled_of ms = []
