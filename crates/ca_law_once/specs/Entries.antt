-- Which packet stands for which entry of a link: a request packet, and a response. Contracts cite it.
use Rattle.std.specs.Prelude.{◌≡◌, ℕ, ◌%◌, ◌^◌, Bool, true, false, List, Option, None, Some, IfSome, Ok}
use Rattle.std.specs.Option.{option_and_then}
use Rattle.ca_connection.specs.Layout.{Direction, Work, bytes_left, is_atomic, is_data, is_read, is_write}
use Rattle.ca_connection.specs.Link.{NakReason, RequestPacket, Response, number_of}
use Rattle.ca_connection.specs.Link.NakReason.{ReceiverNotReady}
use Rattle.ca_connection.specs.Link.Response.{Ack, Nak, Data, Found}
use Rattle.ca_model.specs.Packets.{answers_read, is_response}
use Rattle.ca_wire.specs.Decoding.{packet_in}
use Rattle.ca_wire.specs.Packet.{Fields}
use Rattle.ca_wire.specs.Table.{shape_of}
use Rattle.ca_wire.specs.declared.opcode.TheConstants.{ACKNOWLEDGE, ATOMIC_ACKNOWLEDGE}
use Rattle.ca_wire.specs.declared.shape.Shape.{Shape}
use Rattle.ca_wire.specs.declared.shape.Shape.TheVariants as shapes
use Rattle.ca_wire.specs.Syndrome.{syndrome_in}
use Rattle.ca_wire.specs.declared.syndrome.Syndrome.{Syndrome}
use Rattle.ca_wire.specs.declared.syndrome.Syndrome.TheVariants as syndromes
use Rattle.ca_law_once.specs.Sides.{reason_of}

-- a packet of this shape is one of a request that does this
abbrev pub IsShapeOf : Work → Shape → Type 0
IsShapeOf work (shapes.Send position) = is_data work ≡ true
IsShapeOf work (shapes.Write position) = is_data work ≡ true
IsShapeOf work shapes.Read = is_read work ≡ true
IsShapeOf work (shapes.Atomic kind) = is_atomic work ≡ true

-- a packet of this shape writes
abbrev pub is_write_shape : Shape → Bool
is_write_shape (shapes.Send position) = false
is_write_shape (shapes.Write position) = true
is_write_shape shapes.Read = false
is_write_shape (shapes.Atomic kind) = false

-- The packet is the one with this number, of the request at this place: its PSN is the number's, its shape is of the request's
-- kind, and a READ asks for the bytes that are left.
pub record RequestEntry (d : Direction) (x : RequestPacket) (shape : Shape) (p : Fields) : Type 0 where
  pub psn : p.psn ≡ x.number % 2 ^ 24
  pub kind : IsShapeOf (d.work x.place) shape
  pub writes : is_write (d.work x.place) ≡ is_write_shape shape
  pub asks : is_read (d.work x.place) ≡ true → IfSome p.reth (λ h. h.length ≡ bytes_left d x.place x.number)

-- the syndrome of a packet, if it has one
abbrev pub syndrome_of : Fields → Option Syndrome
syndrome_of p = option_and_then (λ a. syndrome_in a.syndrome) p.aeth

-- a syndrome that a packet which was not accepted for this reason is answered with
abbrev pub Tells : NakReason → Option Syndrome → Type 0
Tells code None = Unit {0}
Tells code (Some (syndromes.Ack credits)) = ⊥
Tells code (Some (syndromes.RnrNak timer)) = code ≡ ReceiverNotReady
Tells code (Some (syndromes.Nak c)) = code ≡ reason_of c

-- what a packet says that stands for a response
abbrev pub Says : Response → Fields → Type 0
Says (Ack n) p = p.opcode ≡ ACKNOWLEDGE
Says (Nak code n) p = (p.opcode ≡ ACKNOWLEDGE) × Tells code (syndrome_of p)
Says (Data n left) p = answers_read p.opcode ≡ true
Says (Found n found) p = (p.opcode ≡ ATOMIC_ACKNOWLEDGE) × IfSome p.«result» (λ value. value ≡ found % 2 ^ 64)

-- The packet is the one of this response: its PSN is that of the response's number, and it says the same.
pub record ResponseEntry (a : Response) (p : Fields) : Type 0 where
  pub psn : p.psn ≡ number_of a % 2 ^ 24
  pub says : Says a p

-- a packet is a request of this entry, of some shape
pub record IsRequestOf (d : Direction) (x : RequestPacket) (p : Fields) : Type 0 where
  pub shape : Shape
  pub is : shape_of p.opcode ≡ Some shape
  pub entry : RequestEntry d x shape p

-- what bytes decode to, if they are a packet
abbrev pub IfPacket : List ℕ → (Fields → Type 0) → Type 0
IfPacket bytes P = (p : Fields) → packet_in bytes ≡ Ok p → P p

-- the bytes are those of the entry of a link, if they are a packet: of a request packet
abbrev pub SpellsRequest : Direction → RequestPacket → List ℕ → Type 0
SpellsRequest d x bytes = IfPacket bytes (IsRequestOf d x)

-- of a response
abbrev pub SpellsResponse : Response → List ℕ → Type 0
SpellsResponse a bytes = IfPacket bytes (λ p. (is_response p.opcode ≡ true) × ResponseEntry a p)

-- of the connection's other direction: a response where this one's requests arrive, and a request where its responses do
abbrev pub SpellsSomeResponse : List ℕ → Type 0
SpellsSomeResponse bytes = IfPacket bytes (λ p. is_response p.opcode ≡ true)

abbrev pub SpellsSomeRequest : List ℕ → Type 0
SpellsSomeRequest bytes = IfPacket bytes (λ p. is_response p.opcode ≡ false)
