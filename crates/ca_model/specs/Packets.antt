-- What the relations on a history ask of packets. Contracts cite it.
use Rattle.std.specs.Prelude.{ℕ, ◌+◌, ◌%◌, ◌^◌, ◌==◌, Bool, true, false, not, if◌then◌else◌, List, Option, None, Some}
use Rattle.std.specs.Result.{result_ok}
use Rattle.ca_keys.specs.declared.access.Kind.{Kind}
use Rattle.ca_keys.specs.declared.access.Kind.TheVariants as kinds
use Rattle.ca_keys.specs.Equal.{kind_eq}
use Rattle.ca_wire.specs.declared.atomic_eth.AtomicEth.{AtomicEth}
use Rattle.ca_wire.specs.declared.shape.Operation.{Operation}
use Rattle.ca_wire.specs.declared.shape.Operation.TheVariants.{Request, ReadResponse}
use Rattle.ca_wire.specs.declared.shape.Position.{Position}
use Rattle.ca_wire.specs.declared.shape.Shape.{Shape}
use Rattle.ca_wire.specs.declared.shape.Shape.TheVariants as shapes
use Rattle.ca_wire.specs.Decoding.{packet_in}
use Rattle.ca_wire.specs.Packet.{Fields, follows}
use Rattle.ca_wire.specs.Shapes.{begins, ends}
use Rattle.ca_wire.specs.Table.{IETH, operation_of, shape_of}

-- the packet that bytes spell, if they spell one
abbrev pub packet_of : List ℕ → Option Fields
packet_of bytes = result_ok (packet_in bytes)

-- a packet of a WRITE which stands in its message where the test says
abbrev pub is_write : (Position → Bool) → Option Shape → Bool
is_write stands (Some (shapes.Write place)) = stands place
is_write stands shape = false

-- a packet that begins a WRITE, which carries a RETH
abbrev pub begins_write : ℕ → Bool
begins_write opcode = is_write begins (shape_of opcode)

-- a packet that goes on with a WRITE
abbrev pub continues_write : ℕ → Bool
continues_write opcode = is_write (λ place. not (begins place)) (shape_of opcode)

-- a packet of a SEND which stands in its message where the test says
abbrev pub is_send_at : (Position → Bool) → Option Shape → Bool
is_send_at stands (Some (shapes.Send place)) = stands place
is_send_at stands shape = false

-- a packet of a SEND, and one that begins one
abbrev pub is_send : ℕ → Bool
is_send opcode = is_send_at (λ place. true) (shape_of opcode)

abbrev pub begins_send : ℕ → Bool
begins_send opcode = is_send_at begins (shape_of opcode)

-- a READ Request
abbrev pub asks_read : ℕ → Bool
asks_read opcode = by (shape_of opcode)
  where
    by : Option Shape → Bool
    by (Some shapes.Read) = true
    by shape = false

-- the atomic of this kind
abbrev pub asks_atomic : Kind → ℕ → Bool
asks_atomic kind opcode = by (shape_of opcode)
  where
    by : Option Shape → Bool
    by (Some (shapes.Atomic found)) = kind_eq found kind
    by shape = false

-- a SEND with Invalidate, at its last packet, which carries an IETH
abbrev pub asks_invalidate : ℕ → Bool
asks_invalidate opcode = follows IETH opcode

-- a READ Response that ends its READ
abbrev pub is_last_read_response : ℕ → Bool
is_last_read_response opcode = by (operation_of opcode)
  where
    by : Option Operation → Bool
    by (Some (ReadResponse place)) = ends place
    by operation = false

-- a READ Response
abbrev pub answers_read : ℕ → Bool
answers_read opcode = by (operation_of opcode)
  where
    by : Option Operation → Bool
    by (Some (ReadResponse place)) = true
    by operation = false

-- a response: READ Response, Acknowledge or ATOMIC Acknowledge
abbrev pub is_response : ℕ → Bool
is_response opcode = by (operation_of opcode)
  where
    by : Option Operation → Bool
    by (Some (Request shape)) = false
    by (Some operation) = true
    by None = false

-- what an atomic of a kind puts where it found this number; eight bytes hold the sum modulo 2^64
abbrev pub number_put : Kind → AtomicEth → ℕ → Option ℕ
number_put kinds.CmpSwap a found = Some (if found == a.compare then a.swap else found)
number_put kinds.FetchAdd a found = Some ((found + a.swap) % 2 ^ 64)
number_put kind a found = None
