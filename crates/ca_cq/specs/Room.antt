-- The room of reservations: which completions count against which reservation, and a queue in which every reservation has
-- room for those that wait. Contracts cite it.
use Rattle.std.specs.Prelude.{◌≡◌, ℕ, ◌==◌, ◌&&◌, ◌≤◌, nat_lt, Bool, true, false, not, if◌then◌else◌, List, [], ◌∷◌, filter, length, Option, None, Some, is_some}
use Rattle.std.specs.List.{AllByRecursion, list_any}
use Rattle.std.specs.Option.{option_map_or}
use Rattle.ca_base.specs.declared.completion.Completion.{Completion}
use Rattle.ca_base.specs.declared.reserve.Reserve.{Reserve}
use Rattle.ca_base.specs.declared.reserve.Reserve.TheVariants.{Sends, Receives, Shared}
use Rattle.ca_keys.specs.Equal.{bool_eq, queue_eq}
use Rattle.ca_base.specs.declared.reserve.Reservation.{Reservation}
use Rattle.ca_base.specs.objects.CompletionQueue.{CompletionQueue, is_for_sends, is_same_side, room_reserved, user_of}

-- a completion is of the side that reserved: of this queue pair's sends, or of its receives
abbrev pub is_of_side : Reserve → Completion → Bool
is_of_side who c = queue_eq (user_of who) c.queue && bool_eq (is_for_sends who) (not c.receive)

-- the reservation of a completion: that of its queue pair's sends, or of its receives
abbrev pub reservation_of : List Reservation → Completion → Option Reservation
reservation_of [] c = None
reservation_of (r ∷ rs) c = if is_of_side r.who c then Some r else reservation_of rs c

-- two reservations have their room together: those of one side of one queue pair, and those for one shared receive queue
abbrev pub share_room : Reserve → Reserve → Bool
share_room (Sends a) (Sends b) = queue_eq a b
share_room (Receives a) (Receives b) = queue_eq a b
share_room (Shared s a) (Shared t b) = s == t
share_room a b = false

-- a completion counts against each reservation that has its room together with the completion's own
abbrev pub counts_against : List Reservation → Reserve → Completion → Bool
counts_against rs who c = option_map_or (λ r. share_room r.who who) (reservation_of rs c) false

-- how many completions that wait count against a reservation
abbrev pub count_against : CompletionQueue → Reserve → ℕ
count_against q who = length (filter (counts_against q.reservations who) q.waiting)

-- the reservation of a completion stands, and fewer count against it than it has room for
abbrev pub has_room_left : CompletionQueue → Completion → Bool
has_room_left q c = option_map_or (λ r. nat_lt (count_against q r.who) r.room) (reservation_of q.reservations c) false

-- all of these that have their room together with this reservation are for as many completions
abbrev pub HaveRoomOf : Reserve → ℕ → List Reservation → Type 0
HaveRoomOf who room rs = AllByRecursion (λ r. share_room who r.who ≡ true → r.room ≡ room) rs

-- A queue in which every reservation has room for what waits: each completion that waits has a reservation, no more count
-- against one than it has room for, those with one room say the same of it, and the rooms together are within the capacity.
pub record IsReserved (q : CompletionQueue) : Type 0 where
  pub standing : AllByRecursion (λ c. is_some (reservation_of q.reservations c) ≡ true) q.waiting
  pub within : AllByRecursion (λ r. count_against q r.who ≤ r.room) q.reservations
  pub alike : AllByRecursion (λ r. HaveRoomOf r.who r.room q.reservations) q.reservations
  pub rooms : room_reserved q.reservations ≤ q.capacity

-- no reservation stands for this side of this queue pair
abbrev pub is_new_side : Reserve → CompletionQueue → Bool
is_new_side who q = not (list_any (λ r. is_same_side r.who who) q.reservations)

-- no completion of this side waits
abbrev pub is_polled_side : Reserve → CompletionQueue → Bool
is_polled_side who q = not (list_any (is_of_side who) q.waiting)
