-- Bytes that arrive at a queue pair: why they are dropped before they meet a row, and which row they meet else. Contracts
-- cite it.
use Rattle.std.specs.Prelude.{◌≡◌, ℕ, true, false, List, Option, None, Some, Result, Ok, Err}
use Rattle.ca_keys.specs.Refusals.{first_of}
use Rattle.ca_base.specs.objects.QueuePair.{QueuePair}
use Rattle.ca_base.specs.objects.SharedReceives.{SharedReceives}
use Rattle.ca_wire.specs.declared.shape.Shape.{Shape}
use Rattle.ca_wire.specs.declared.wire_error.WireError.{WireError}
use Rattle.ca_wire.specs.Decoding.{packet_in}
use Rattle.ca_wire.specs.Packet.{Fields, Spells}
use Rattle.ca_wire.specs.Table.{shape_of}
use Rattle.ca_qpstate.specs.ca_model.declared.mark.Drop1.{Drop1}
use Rattle.ca_qpstate.specs.ca_model.declared.mark.Drop1.TheVariants as drops
use Rattle.ca_qpstate.specs.ca_model.Packets.{is_response}
use Rattle.ca_qpstate.specs.ca_model.machine.Delivery.{arrival_drops, arrival_row, packet_arrived}
use Rattle.ca_qpstate.specs.ca_model.machine.Duplicates.{request_row}
use Rattle.ca_qpstate.specs.ca_model.machine.Responses.{response_row}
use Rattle.ca_qp_rows.specs.declared.arrival.Arrival.{Arrival}
use Rattle.ca_qp_rows.specs.declared.arrival.Arrival.TheVariants as arrivals

-- the first cause for which bytes are dropped before their row: they are no packet, or one that is not for this queue pair
abbrev pub drop_of : List ℕ → QueuePair → Option Drop1
drop_of bytes q = by (packet_in bytes)
  where
    by : Result Fields WireError → Option Drop1
    by (Err error) = Some (drops.Wire error)
    by (Ok p) = first_of (arrival_drops q p)

-- the bytes spell this packet, which is not dropped
pub record IsPacketOf (bytes : List ℕ) (q : QueuePair) (p : Fields) : Type 0 where
  pub spells : Spells bytes p
  pub read : packet_in bytes ≡ Ok p
  pub taken : first_of (arrival_drops q p) ≡ None
  pub row : (envelope : Option ℕ) (shared : Option SharedReceives) → arrival_row bytes envelope shared q ≡ packet_arrived p envelope shared q

-- it is a response, and meets the row of one
pub record IsResponseOf (bytes : List ℕ) (q : QueuePair) (p : Fields) : Type 0 where
  pub packet : IsPacketOf bytes q p
  pub response : is_response p.opcode ≡ true
  pub row : (envelope : Option ℕ) (shared : Option SharedReceives) → arrival_row bytes envelope shared q ≡ response_row p q

-- it is a request of this shape, and meets the row of one
pub record IsRequestOf (bytes : List ℕ) (q : QueuePair) (p : Fields) (shape : Shape) : Type 0 where
  pub packet : IsPacketOf bytes q p
  pub request : is_response p.opcode ≡ false
  pub shaped : shape_of p.opcode ≡ Some shape
  pub row : (envelope : Option ℕ) (shared : Option SharedReceives) → arrival_row bytes envelope shared q ≡ request_row p envelope shared shape q

-- this arrives with the bytes
abbrev pub IsArrivalOf : List ℕ → QueuePair → Arrival → Type 0
IsArrivalOf bytes q (arrivals.Response p) = IsResponseOf bytes q p
IsArrivalOf bytes q (arrivals.Request p shape) = IsRequestOf bytes q p shape
