-- The receive that a packet takes, and when that waits in its queue. Contracts cite it.
use Rattle.std.specs.Prelude.{◌≡◌, ℕ, ◌<◌, ◌≤◌, Bool, true, false, List, Option, None, Some, IfSome}
use Rattle.ca_base.specs.declared.limits.TheConstants.{MAX_MESSAGE_BYTES, MAX_PAYLOAD_BYTES}
use Rattle.ca_base.specs.declared.queue_numbers.Message.{Message}
use Rattle.ca_base.specs.declared.queue_numbers.Message.TheVariants as messages
use Rattle.ca_base.specs.declared.request.Piece.{Piece}
use Rattle.ca_base.specs.objects.QueuePair.{QueuePair}
use Rattle.ca_base.specs.declared.request.PlacedReceive.{PlacedReceive}
use Rattle.ca_base.specs.objects.WorkQueue.{waiting_count}
use Rattle.ca_model.specs.Requests.{list_length}
use Rattle.ca_model.specs.declared.receiving.Receiving.{Receiving}
use Rattle.ca_model.specs.machine.Invariants.{IsReceive}

-- the receive that a message would take waits in its queue
abbrev pub CanTake : QueuePair → Option PlacedReceive → Type 0
CanTake q None = Unit {0}
CanTake q (Some receive) = IfSome q.receives (λ r. 0 < waiting_count r)

-- where a SEND packet takes its receive, that waits in its queue
abbrev pub MayTake : Receiving → QueuePair → Type 0
MayTake r q = r.taken ≡ true → IfSome q.receives (λ r. 0 < waiting_count r)

-- the next receive, if the packet takes one
abbrev pub receive_if : Bool → Option PlacedReceive → Option PlacedReceive
receive_if true next = next
receive_if false next = None

-- the receive that a packet takes, if it takes one: it is one that may be posted, and it waits in its queue
pub record CanReceive (q : QueuePair) (next : Option PlacedReceive) : Type 0 where
  pub sound : IfSome next (λ r. IsReceive r.receive)
  pub waits : CanTake q next

-- this is the receive, and it can be taken
pub record IsNext (q : QueuePair) (next found : Option PlacedReceive) : Type 0 where
  pub value : found ≡ next
  pub can : CanReceive q found

-- the receive of a SEND packet may hold it, with no more bytes before it than a message has
pub record CanHold (q : QueuePair) (r : Receiving) : Type 0 where
  pub sound : IsReceive r.receive.receive
  pub before : r.before ≤ MAX_MESSAGE_BYTES
  pub waits : MayTake r q

-- this is the receive of a SEND packet, and it can hold it
pub record IsReceiving (q : QueuePair) (receiving found : Option Receiving) : Type 0 where
  pub value : found ≡ receiving
  pub can : IfSome found (CanHold q)

-- the message in progress holds a receive
abbrev pub holds_receive : Option Message → Bool
holds_receive (Some (messages.Send place receive count)) = true
holds_receive message = false

-- the bytes of a packet, those before it and those of a list are no more than may be
pub record AreCounted (count before : ℕ) (list : List Piece) : Type 0 where
  pub payload : count ≤ MAX_PAYLOAD_BYTES
  pub earlier : before ≤ MAX_MESSAGE_BYTES
  pub room : list_length list ≤ MAX_MESSAGE_BYTES
