-- Room in completion queues: who reserved it, and which posting places the completions that wait stand for. Laws cite it.
use Rattle.std.specs.Prelude.{◌≡◌, ℕ, ◌==◌, ◌≤◌, Bool, true, false, List, [], ◌∷◌, ◌++◌, length, map, Option, None, Some, IfSome, is_some}
use Rattle.std.specs.List.{AllByRecursion, list_any}
use Rattle.std.specs.Option.{option_map, option_map_or}
use Rattle.ca_base.specs.declared.completion.Completion.{Completion}
use Rattle.ca_base.specs.declared.reserve.Reservation.{Reservation}
use Rattle.ca_base.specs.declared.reserve.Reserve.{Reserve}
use Rattle.ca_base.specs.declared.reserve.Reserve.TheVariants.{Sends, Receives, Shared}
use Rattle.ca_keys.specs.declared.names.QueueId.{QueueId}
use Rattle.ca_keys.specs.declared.names.Slot.{Slot}
use Rattle.ca_keys.specs.Equal.{queue_eq}
use Rattle.ca_base.specs.objects.CompletionQueue.{CompletionQueue, is_same_side, room_reserved}
use Rattle.ca_base.specs.objects.QueuePair.{QueuePair, QueueSlot, NoQueue, Present, recv_cq_of, send_cq_of, srq_of}
use Rattle.ca_base.specs.objects.SharedReceives.{SrqSlot}
use Rattle.ca_model.specs.machine.Places.{Ascend, first_held, places_in_use, places_of_side}
use Rattle.ca_model.specs.machine.World.{World}

-- what a queue pair uses, all its life: its completion queues, its shared receive queue, and the depths of its own queues
pub record Use : Type 0 where
  pub send_cq : Slot
  pub recv_cq : Slot
  pub srq : Option Slot
  pub send_depth : ℕ
  pub recv_depth : Option ℕ

-- what the queue pair in a slot uses
abbrev pub use_of : QueueSlot → Option Use
use_of (NoQueue incarnation timers) = None
use_of (Present q) = Some (record {
  send_cq = send_cq_of q;
  recv_cq = recv_cq_of q;
  srq = option_map (srq_of q) q.srq;
  send_depth = q.sends.depth;
  recv_depth = option_map (λ r. r.depth) q.receives;
})

-- how much room a completion queue has, and who reserved how much of it
pub record Rooms : Type 0 where
  pub capacity : ℕ
  pub reservations : List Reservation

abbrev pub rooms_of : Option CompletionQueue → Option Rooms
rooms_of cq = option_map (λ v. record { capacity = v.capacity; reservations = v.reservations }) cq

-- the depth of the shared receive queue in a slot
abbrev pub depth_of : SrqSlot → Option ℕ
depth_of slot = option_map (λ s. s.depth) slot.srq

-- a value is there, and this holds of it
abbrev pub Has : {A : Type 0} → (A → Type 0) → Option A → Type 0
Has P None = ⊥
Has P (Some a) = P a

-- A reservation in this completion queue is that of a queue pair that is there and completes here what it is for; and its
-- room is the depth of what completes: of the sends, of the own receives, or of the shared receive queue.
abbrev pub IsDue : (QueueId → Option Use) → (Slot → Option ℕ) → Slot → Reserve → ℕ → Type 0
IsDue uses depths s (Sends n) room = Has (λ u. (u.send_cq ≡ s) × (u.send_depth ≡ room)) (uses n)
IsDue uses depths s (Receives n) room = Has (λ u. (u.recv_cq ≡ s) × (u.recv_depth ≡ Some room)) (uses n)
IsDue uses depths s (Shared srq n) room =
    Has (λ u. (u.recv_cq ≡ s) × (u.srq ≡ Some (record s { slot = srq })) × (depths (record s { slot = srq }) ≡ Some room)) (uses n)

-- one side of a queue pair has a reservation among these
abbrev pub has_side : Reserve → List Reservation → Bool
has_side who rs = list_any (λ r. is_same_side r.who who) rs

abbrev pub HasSide : Reserve → Option Rooms → Type 0
HasSide who room = Has (λ r. has_side who r.reservations ≡ true) room

-- the queue pair uses the shared receive queue in this slot
abbrev pub Uses : Slot → Option Use → Type 0
Uses t u = Has (λ u. u.srq ≡ Some t) u

-- no more queue pairs use a shared receive queue than it counts: they are among so many
pub record AreUsers (uses : QueueId → Option Use) (t : Slot) (count : ℕ) : Type 0 where
  pub names : List QueueId
  pub few : length names ≤ count
  pub all : (n : QueueId) → Uses t (uses n) → list_any (queue_eq n) names ≡ true

-- The reservations of a world: each is due, and together they are within the capacity; each queue pair that is there has
-- one for each side, so its completion queues are there, and so is the shared receive queue that it uses.
pub record AreReserved (uses : QueueId → Option Use) (rooms : Slot → Option Rooms) (depths : Slot → Option ℕ) (users : Slot → ℕ) : Type 0 where
  pub due : (s : Slot) → IfSome (rooms s) (λ v. AllByRecursion (λ r. IsDue uses depths s r.who r.room) v.reservations)
  pub within : (s : Slot) → IfSome (rooms s) (λ v. room_reserved v.reservations ≤ v.capacity)
  pub sends : (n : QueueId) → IfSome (uses n) (λ u. HasSide (Sends n) (rooms u.send_cq))
  pub receives : (n : QueueId) → IfSome (uses n) (λ u. HasSide (Receives n) (rooms u.recv_cq))
  pub shared : (n : QueueId) → IfSome (uses n) (λ u. IfSome u.srq (λ t. is_some (depths t) ≡ true))
  pub used : (t : Slot) → AreUsers uses t (users t)

-- the completions that wait in the completion queue of a slot
abbrev pub waits_in : (Slot → Option CompletionQueue) → Slot → List Completion
waits_in cq s = option_map_or (λ v. v.waiting) (cq s) []

-- the places of a shared receive queue that were taken
abbrev pub taken_in : SrqSlot → List ℕ
taken_in slot = option_map_or (λ s. s.taken) slot.srq []

-- a place is among these
abbrev pub is_in : ℕ → List ℕ → Bool
is_in x xs = list_any (λ y. y == x) xs

-- no place stands twice among these
abbrev pub AreDistinct : List ℕ → Type 0
AreDistinct [] = Unit {0}
AreDistinct (x ∷ xs) = (is_in x xs ≡ false) × AreDistinct xs

-- which queue pair took a place of a shared receive queue
abbrev pub Holder : Type 0
Holder = Slot → ℕ → QueueId

-- the places that a queue pair took and still occupies: of receives that completed and wait, and of the one in use
abbrev pub places_kept : (Slot → Option CompletionQueue) → QueuePair → List ℕ
places_kept cq q = places_of_side q.queue true (waits_in cq (recv_cq_of q)) ++ places_in_use q.responder.message

-- these places of a shared receive queue were taken by this queue pair, and by no other
abbrev pub AreHeld : Holder → QueueId → Slot → List ℕ → List ℕ → Type 0
AreHeld holder n t taken places = AreDistinct places × AllByRecursion (λ x. (is_in x taken ≡ true) × (holder t x ≡ n)) places

-- What a queue pair's completions that wait stand for: sends that occupy its queue and are finished; receives of its own
-- that occupy their queue and were taken before the one in use; or places of a shared receive queue that it took.
pub record IsInPlace (cq : Slot → Option CompletionQueue) (srq : Slot → SrqSlot) (holder : Holder) (q : QueuePair) : Type 0 where
  pub sends : Ascend q.sends.first q.requester.oldest (places_of_side q.queue false (waits_in cq (send_cq_of q)))
  pub receives : IfSome q.receives (λ r. Ascend r.first (first_held r q.responder.message) (places_of_side q.queue true (waits_in cq (recv_cq_of q))))
  pub shared : IfSome q.srq (λ t. AreHeld holder q.queue (srq_of q t) (taken_in (srq (srq_of q t))) (places_kept cq q))

abbrev pub IsSlotInPlace : (Slot → Option CompletionQueue) → (Slot → SrqSlot) → Holder → QueueSlot → Type 0
IsSlotInPlace cq srq holder (NoQueue incarnation timers) = Unit {0}
IsSlotInPlace cq srq holder (Present q) = IsInPlace cq srq holder q

-- the places of a shared receive queue ascend: those that were taken, and then those that wait
abbrev pub IsInSequence : SrqSlot → Type 0
IsInSequence slot = IfSome slot.srq (λ s. Ascend 0 s.next (s.taken ++ map (λ r. r.place) s.waiting))

-- the completion queues of these queue pairs have room for all that can complete
pub record HaveRoom (queue : QueueId → QueueSlot) (cq : Slot → Option CompletionQueue) (srq : Slot → SrqSlot) : Type 0 where
  pub reserved : AreReserved (λ n. use_of (queue n)) (λ s. rooms_of (cq s)) (λ t. depth_of (srq t)) (λ t. (srq t).users)
  pub sequence : (t : Slot) → IsInSequence (srq t)
  pub holder : Holder
  pub places : (n : QueueId) → IsSlotInPlace cq srq holder (queue n)

-- a world in which they have
abbrev pub HasRoom : World → Type 0
HasRoom w = HaveRoom w.queue w.cq w.srq
