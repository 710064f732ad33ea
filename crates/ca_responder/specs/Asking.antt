-- The asks of a SEND packet, and the key that it ends. Contracts cite it.
use Rattle.std.specs.Prelude.{◌≡◌, ℕ, ◌+◌, nat_lt, if◌then◌else◌, length, List, [], Option, None, Some, IfSome}
use Rattle.ca_keys.specs.declared.access.Ask.{Ask}
use Rattle.ca_keys.specs.declared.access.Kind.TheVariants as kinds
use Rattle.ca_base.specs.declared.queue_numbers.Message.{Message}
use Rattle.ca_base.specs.declared.queue_numbers.Message.TheVariants as messages
use Rattle.ca_base.specs.declared.request.Piece.{Piece}
use Rattle.ca_base.specs.Sight.{Invalidation}
use Rattle.ca_base.specs.objects.QueuePair.{QueuePair}
use Rattle.ca_base.specs.declared.request.PlacedReceive.{PlacedReceive}
use Rattle.ca_base.specs.objects.SharedReceives.{SharedReceives}
use Rattle.ca_wire.specs.Packet.{Fields, IsWellFormed}
use Rattle.ca_model.specs.Requests.{list_length}
use Rattle.ca_model.specs.declared.receiving.Receiving.{Receiving}
use Rattle.ca_model.specs.machine.Expected.{invalidation_of, receiving_of}
use Rattle.ca_model.specs.machine.Invariants.{IsQueue, IsSharedReceives}
use Rattle.ca_model.specs.machine.Numbering.{list_asks}
use Rattle.ca_model.specs.machine.Row.{Row}

-- so many bytes that came before and a receive's list, where a packet's bytes fit into it behind them
abbrev pub fit_into : Fields → ℕ → List Piece → Option (ℕ × List Piece)
fit_into p before list =
    if nat_lt (list_length list) (before + length p.payload) then None else Some (before, list)

-- the same of a SEND packet, by the receive of the message in progress, or by the next one
abbrev pub fit_of : QueuePair → Fields → Option PlacedReceive → Option (ℕ × List Piece)
fit_of q p next = by (receiving_of q next q.responder.message)
  where
    by : Option Receiving → Option (ℕ × List Piece)
    by (Some r) = fit_into p r.before r.receive.receive.list.items
    by None = None

-- the asks of a SEND packet, where it fits its receive
abbrev pub send_asks : QueuePair → Fields → Option (ℕ × List Piece) → List Ask
send_asks q p (Some x) = list_asks q.queue q.domain kinds.Write x.0 (length p.payload) x.1
send_asks q p None = []

-- the key that it ends, where it fits its receive
abbrev pub send_key : QueuePair → Fields → Option (ℕ × List Piece) → Option Invalidation
send_key q p (Some x) = invalidation_of q p
send_key q p None = None

-- the row meets no key and no memory
pub record MeetsNothing (row : Row) : Type 0 where
  pub asks : row.asks ≡ []
  pub key : row.invalidation ≡ None

-- no message in progress holds a receive
abbrev pub IsFree : Option Message → Type 0
IsFree (Some (messages.Send place receive count)) = ⊥
IsFree message = Unit {0}

-- the asks of a packet may be named: the queue pair and its shared receives can come up, and the packet is well formed
pub record CanAsk (q : QueuePair) (shared : Option SharedReceives) (p : Fields) : Type 0 where
  pub queue : IsQueue q
  pub receives : IfSome shared IsSharedReceives
  pub packet : IsWellFormed p
