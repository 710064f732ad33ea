-- A completion queue: its capacity, who reserved how much of it, and the completions that wait. Contracts cite it.
use Rattle.std.specs.Prelude.{ℕ, ◌+◌, ◌==◌, ◌&&◌, nat_lt, Bool, true, false, not, if◌then◌else◌, List, [], ◌∷◌, ◌++◌, drop, filter, length, map, Option, None, Some}
use Rattle.std.specs.List.{list_any}
use Rattle.std.specs.Option.{option_or}
use Rattle.ca_base.specs.declared.completion.Completion.{Completion}
use Rattle.ca_keys.specs.declared.names.QueueId.{QueueId}
use Rattle.ca_base.specs.declared.reserve.Reservation.{Reservation}
use Rattle.ca_base.specs.declared.reserve.Reserve.{Reserve}
use Rattle.ca_base.specs.declared.reserve.Reserve.TheVariants.{Sends, Receives, Shared}
use Rattle.ca_keys.specs.Equal.{bool_eq, queue_eq}

-- how many completions it holds, the reservations, the latest first, and the completions that wait, the next one first
pub record CompletionQueue : Type 0 where
  pub capacity : ℕ
  pub reservations : List Reservation
  pub waiting : List Completion

-- a new completion queue
abbrev pub empty_cq : ℕ → CompletionQueue
empty_cq capacity = record { capacity = capacity; reservations = []; waiting = [] }

-- the queue pair of a reservation
abbrev pub user_of : Reserve → QueueId
user_of (Sends queue) = queue
user_of (Receives queue) = queue
user_of (Shared srq user) = user

-- the shared receive queue of a reservation
abbrev pub source_of : Reserve → Option ℕ
source_of (Sends queue) = None
source_of (Receives queue) = None
source_of (Shared srq user) = Some srq

-- a reservation for the same shared receive queue is among these
abbrev pub is_shared_in : List Reservation → Reserve → Bool
is_shared_in rs (Sends queue) = false
is_shared_in rs (Receives queue) = false
is_shared_in rs (Shared srq user) = list_any (λ r. by (source_of r.who)) rs
  where
    by : Option ℕ → Bool
    by None = false
    by (Some other) = other == srq

-- how much is reserved; a shared receive queue counts once
abbrev pub room_reserved : List Reservation → ℕ
room_reserved [] = 0
room_reserved (r ∷ rs) = (if is_shared_in rs r.who then 0 else r.room) + room_reserved rs

-- the reservations with one more
abbrev pub with_reservation : Reserve → ℕ → List Reservation → List Reservation
with_reservation who room rs = record { who = who; room = room } ∷ rs

-- the capacity is too small for one more reservation
abbrev pub is_too_small : Reserve → ℕ → CompletionQueue → Bool
is_too_small who room q = nat_lt q.capacity (room_reserved (with_reservation who room q.reservations))

-- one more reservation stands
abbrev pub after_reserve : Reserve → ℕ → CompletionQueue → CompletionQueue
after_reserve who room q = record q { reservations = with_reservation who room q.reservations }

-- a reservation stands
abbrev pub is_in_use : CompletionQueue → Bool
is_in_use q = nat_lt 0 (length q.reservations)

-- the shared receive queue for which a queue pair reserved here
abbrev pub source_in : List Reservation → QueueId → Option ℕ
source_in [] queue = None
source_in (r ∷ rs) queue =
    if queue_eq (user_of r.who) queue then option_or (source_of r.who) (source_in rs queue) else source_in rs queue

-- completions were put
abbrev pub after_puts : List Completion → CompletionQueue → CompletionQueue
after_puts cs q = record q { waiting = q.waiting ++ cs }

-- so many were taken from the front
abbrev pub after_polls : ℕ → CompletionQueue → CompletionQueue
after_polls n q = record q { waiting = drop n q.waiting }

-- the completions of a queue pair are removed
abbrev pub without_completions : QueueId → CompletionQueue → CompletionQueue
without_completions queue q = record q { waiting = filter (λ c. not (queue_eq c.queue queue)) q.waiting }

-- the places of the receives of a queue pair that completed here
abbrev pub receives_of : QueueId → CompletionQueue → List ℕ
receives_of queue q = map (λ c. c.place) (filter (λ c. c.receive && queue_eq c.queue queue) q.waiting)

-- a reservation for sends
abbrev pub is_for_sends : Reserve → Bool
is_for_sends (Sends queue) = true
is_for_sends (Receives queue) = false
is_for_sends (Shared srq user) = false

-- two reservations are of one side of one queue pair
abbrev pub is_same_side : Reserve → Reserve → Bool
is_same_side a b = queue_eq (user_of a) (user_of b) && bool_eq (is_for_sends a) (is_for_sends b)

-- what one side of a queue pair reserved is free again
abbrev pub after_release : Reserve → CompletionQueue → CompletionQueue
after_release who q = record q { reservations = filter (λ r. not (is_same_side r.who who)) q.reservations }

-- what a queue pair reserved is free again
abbrev pub without_reservations : QueueId → CompletionQueue → CompletionQueue
without_reservations queue q =
    record q { reservations = filter (λ r. not (queue_eq (user_of r.who) queue)) q.reservations }
