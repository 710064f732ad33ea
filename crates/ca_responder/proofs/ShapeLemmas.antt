-- A packet that is no response is a request of some shape. For proofs only.
use Rattle.std.proofs.Common.{◌≡◌, Bool, true, false, true≢false, Option, None, Some, IsSome, is_some, refl, sym, ap}
use Rattle.std.specs.Option.{option_map}
use Rattle.ca_model.specs.Packets.{is_response}
use Rattle.ca_wire.specs.Packet.{Fields, IsWellFormed}
use Rattle.ca_wire.specs.Table.{Row, request_shape, row_of, shape_of}
use Rattle.ca_wire.specs.declared.shape.Operation.{Operation}
use Rattle.ca_wire.specs.declared.shape.Operation.TheVariants.{Request, ReadResponse, Acknowledge, AtomicAcknowledge}

-- a packet of this operation answers a request
abbrev answers : Option Operation → Bool
answers (Some (Request shape)) = false
answers (Some operation) = true
answers None = false

pub request_has_shape : (p : Fields) → IsWellFormed p → is_response p.opcode ≡ false → shape_of p.opcode ≡ None → ⊥
request_has_shape p well request none = row (row_of p.opcode) well.known request none
  where
    by : (o : Operation) → answers (Some o) ≡ false → request_shape (Some o) ≡ None → ⊥
    by (Request shape) request none = true≢false (ap is_some none)
    by (ReadResponse place) request none = true≢false request
    by Acknowledge request none = true≢false request
    by AtomicAcknowledge request none = true≢false request

    row : (o : Option Row) → IsSome o → answers (option_map (λ r. r.operation) o) ≡ false → request_shape (option_map (λ r. r.operation) o) ≡ None → ⊥
    row (Some r) known request none = by r.operation request none
    row None known request none = true≢false (sym known)
