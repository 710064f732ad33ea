-- What the past of a history and the world of the machine say alike of the lists of receives: which receive stands at
-- which place of a queue pair's own receive queue or of a shared one, which one the message in progress holds, and how
-- many of its bytes are placed. Laws cite it.
use Rattle.std.specs.Prelude.{◌≡◌, ℕ, ◌<◌, List, [], ◌∷◌, drop, length, Option, None, Some, IfSome, slice_get}
use Rattle.std.specs.Option.{option_map}
use Rattle.ca_base.specs.declared.correspondent.Correspondent.{Correspondent}
use Rattle.ca_base.specs.declared.queue_numbers.Message.{Message}
use Rattle.ca_base.specs.declared.queue_numbers.Message.TheVariants as messages
use Rattle.ca_base.specs.declared.request.PlacedReceive.{PlacedReceive}
use Rattle.ca_base.specs.declared.request.RecvRequest.{RecvRequest}
use Rattle.ca_base.specs.objects.QueuePair.{QueuePair, QueueSlot, NoQueue, Present, srq_of}
use Rattle.ca_base.specs.objects.SharedReceives.{SrqSlot}
use Rattle.ca_base.specs.objects.WorkQueue.{WorkQueue, next_place}
use Rattle.ca_keys.specs.declared.names.QueueId.{QueueId}
use Rattle.ca_keys.specs.declared.names.Slot.{Slot}
use Rattle.ca_model.specs.Past.{Past}
use Rattle.ca_model.specs.machine.World.{World}

-- a queue pair in an incarnation
abbrev pub life_of : QueueId → ℕ → Correspondent
life_of q incarnation = record { queue = q; incarnation = incarnation }

-- what was posted to a queue pair in its life, and its receive queue: what occupies it was posted last
pub record HasPosted (posted : List RecvRequest) (r : WorkQueue RecvRequest) : Type 0 where
  pub count : next_place r ≡ length posted
  pub items : r.items ≡ drop r.first posted

-- each of these receives was posted at its place
abbrev pub AreAtPlaces : List RecvRequest → List PlacedReceive → Type 0
AreAtPlaces posted [] = Unit {0}
AreAtPlaces posted (r ∷ rs) = (slice_get posted r.place ≡ Some r.receive) × AreAtPlaces posted rs

-- what was posted to a shared receive queue, and what stands in its slot: each receive that waits has its place
abbrev pub AgreeOnShared : List RecvRequest → SrqSlot → Type 0
AgreeOnShared posted slot = IfSome slot.srq (λ s. (s.next ≡ length posted) × AreAtPlaces posted s.waiting)

-- the receive at a place: of the shared receive queue of a queue pair, if it has one, or else of its own
abbrev pub receive_by : List RecvRequest → Option Slot → (Slot → List RecvRequest) → ℕ → Option RecvRequest
receive_by own None shared place = slice_get own place
receive_by own (Some srq) shared place = slice_get (shared srq) place

-- the receive that a message in progress holds is the one at its place, and so many bytes are placed in its list
abbrev pub HoldsOwn : (ℕ → Option RecvRequest) → ℕ → Option Message → Type 0
HoldsOwn at placed None = Unit {0}
HoldsOwn at placed (Some (messages.Write key address left count)) = Unit {0}
HoldsOwn at placed (Some (messages.Send place receive bytes)) = (at place ≡ Some receive) × (placed ≡ bytes)

-- a queue pair has the shared receive queue that it was created over, its own receives, and the one of its message
pub record AgreeOnReceiver (own : List RecvRequest) (srq : Option Slot) (shared : Slot → List RecvRequest) (placed : ℕ) (q : QueuePair) : Type 0 where
  pub source : srq ≡ option_map (srq_of q) q.srq
  pub posted : IfSome q.receives (HasPosted own)
  pub message : HoldsOwn (receive_by own srq shared) placed q.responder.message

-- the same of what stands in a slot
abbrev pub AgreeInSlot : List RecvRequest → Option Slot → (Slot → List RecvRequest) → ℕ → QueueSlot → Type 0
AgreeInSlot own srq shared placed (NoQueue incarnation timers) = Unit {0}
AgreeInSlot own srq shared placed (Present q) = AgreeOnReceiver own srq shared placed q

-- In each slot stands a queue pair with the lists of its present incarnation, and nothing was posted to a later one; each
-- shared receive queue has what was posted to it.
pub record AgreeOnLists (lives : QueueId → ℕ) (own : Correspondent → List RecvRequest) (srq : QueueId → Option Slot) (shared : Slot → List RecvRequest) (placed : QueueId → ℕ) (queue : QueueId → QueueSlot) (slots : Slot → SrqSlot) : Type 0
  where
    pub queues : (q : QueueId) → AgreeInSlot (own (life_of q (lives q))) (srq q) shared (placed q) (queue q)
    pub later : (q : QueueId) (n : ℕ) → lives q < n → own (life_of q n) ≡ []
    pub waiting : (s : Slot) → AgreeOnShared (shared s) (slots s)

-- what a past and a world say of lists
abbrev pub ListsAgree : Past → World → Type 0
ListsAgree past w = AgreeOnLists past.incarnation past.receives past.srq past.shared past.placed w.queue w.srq
