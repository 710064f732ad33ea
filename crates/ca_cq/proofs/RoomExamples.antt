-- Examples of the room of reservations, good and bad: lemmas that compute. For proofs only.
use Rattle.std.proofs.Common.{◌≡◌, true, false, List, [], ◌∷◌, None, refl}
use Rattle.ca_base.specs.declared.completion.Completion.{Completion}
use Rattle.ca_base.specs.declared.completion.WcOp.TheVariants as operations
use Rattle.ca_base.specs.declared.completion.WcStatus.TheVariants as statuses
use Rattle.ca_keys.specs.declared.names.QueueId.{QueueId}
use Rattle.ca_base.specs.declared.reserve.Reserve.TheVariants.{Sends, Receives, Shared}
use Rattle.ca_base.specs.objects.CompletionQueue.{CompletionQueue, room_reserved}
use Rattle.ca_cq.specs.Room.{count_against, has_room_left, is_new_side, is_polled_side}

abbrev first : QueueId
first = record { adapter = 0; number = 256 }

abbrev second : QueueId
second = record { adapter = 0; number = 257 }

abbrev third : QueueId
third = record { adapter = 1; number = 256 }

abbrev send : QueueId → Completion
send queue = record { id = 0; queue = queue; receive = false; place = 0; status = statuses.Success; op = operations.Send; bytes = 0; imm = None; invalidated = None }

abbrev receive : QueueId → Completion
receive queue = record { id = 0; queue = queue; receive = true; place = 0; status = statuses.Success; op = operations.Recv; bytes = 0; imm = None; invalidated = None }

-- two users of the shared receive queue 3, for two receives together, and one send of one of them; of seven, three are
-- reserved
abbrev queue : List Completion → CompletionQueue
queue waiting = record {
  capacity = 7;
  reservations = record { who = Shared 3 second; room = 2 } ∷ record { who = Sends first; room = 1 } ∷ record { who = Shared 3 first; room = 2 } ∷ [];
  waiting = waiting;
}

reserved : room_reserved (queue []).reservations ≡ 3
reserved = refl

-- a receive of either user counts against both
both-users : count_against (queue (receive first ∷ send first ∷ receive second ∷ [])) (Shared 3 first) ≡ 2
both-users = refl

one-left : has_room_left (queue (receive first ∷ send first ∷ [])) (receive second) ≡ true
one-left = refl

-- two receives of one user leave no room for the other's
none-left : has_room_left (queue (receive first ∷ receive first ∷ [])) (receive second) ≡ false
none-left = refl

-- the room for sends is full, though the queue is not
no-send-left : has_room_left (queue (send first ∷ [])) (send first) ≡ false
no-send-left = refl

-- without a reservation there is no room
no-reservation : has_room_left (queue []) (send second) ≡ false
no-reservation = refl

another-adapter : has_room_left (queue []) (receive third) ≡ false
another-adapter = refl

-- a user has no second reservation for receives, of its own or shared
second-reservation : is_new_side (Receives first) (queue []) ≡ false
second-reservation = refl

new-side : is_new_side (Sends second) (queue []) ≡ true
new-side = refl

-- a side of which a completion waits is not polled
waiting-side : is_polled_side (Shared 3 first) (queue (send first ∷ receive first ∷ [])) ≡ false
waiting-side = refl

polled-side : is_polled_side (Shared 3 second) (queue (send first ∷ receive first ∷ [])) ≡ true
polled-side = refl
