-- A request that may be handed on: a packet that is well formed, with the shape of its opcode; and one that may take
-- effect. Contracts cite it.
use Rattle.std.specs.Prelude.{◌≡◌, false, Option, Some}
use Rattle.ca_base.specs.declared.request.PlacedReceive.{PlacedReceive}
use Rattle.ca_base.specs.objects.QueuePair.{QueuePair}
use Rattle.ca_wire.specs.Packet.{IsWellFormed}
use Rattle.ca_wire.specs.Shapes.{IsRequestShape}
use Rattle.ca_wire.specs.Table.{shape_of}
use Rattle.ca_model.specs.machine.Expected.{is_invalid}
use Rattle.ca_responder_operations.specs.declared.request.Request.{Request}
use Rattle.ca_responder_operations.specs.Receives.{CanReceive}

pub record IsRequest (r : Request) : Type 0 where
  pub packet : IsWellFormed r.packet.now
  pub shape : shape_of r.packet.now.opcode ≡ Some r.shape
  pub atomic : IsRequestShape r.shape

-- the request with the expected PSN may take effect: it is no invalid one, and the receive that it takes, if any, waits
pub record IsValidRequest (q : QueuePair) (r : Request) (next : Option PlacedReceive) : Type 0 where
  pub request : IsRequest r
  pub valid : is_invalid q r.packet.now r.shape ≡ false
  pub receive : CanReceive q next
