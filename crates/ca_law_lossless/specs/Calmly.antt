-- A response that the requester takes in calm weather, and a request that the responder admits. Contracts cite it.
use Rattle.std.specs.Prelude.{◌≡◌, ℕ, ◌==◌, max, true, false, Option, Some}
use Rattle.ca_connection.specs.Layout.{Direction}
use Rattle.ca_connection.specs.Link.{NakReason, RequestPacket, Responder, Response, reach}
use Rattle.ca_connection.specs.Link.Response.{Ack, Nak, Data, Found}
use Rattle.ca_connection.specs.Moves.{Reception}
use Rattle.ca_connection.specs.CalmMoves.{Admits}
use Rattle.ca_model.specs.machine.Invariants.{is_sending}
use Rattle.ca_model.specs.machine.Row.{Effects}
use Rattle.ca_wire.specs.Packet.{Fields}
use Rattle.ca_wire.specs.declared.opcode.TheConstants.{ACKNOWLEDGE}
use Rattle.ca_law_once.specs.Entries.{syndrome_of}
use Rattle.ca_law_once.specs.Sides.{reason_of, responder_in}
use Rattle.ca_wire.specs.declared.syndrome.Syndrome.{Syndrome}
use Rattle.ca_wire.specs.declared.syndrome.Syndrome.TheVariants as syndromes

-- the syndrome is that of an acknowledgement
abbrev pub IsAcknowledging : Option Syndrome → Type 0
IsAcknowledging (Some (syndromes.Ack credits)) = Unit {0}
IsAcknowledging syndrome = ⊥

-- the syndrome is that of a NAK with this code, and not of an RNR NAK
abbrev pub IsRefusing : NakReason → Option Syndrome → Type 0
IsRefusing code (Some (syndromes.Nak c)) = code ≡ reason_of c
IsRefusing code syndrome = ⊥

-- what a packet says that stands for a response, with its syndrome; an RNR NAK does not stand for one here
abbrev pub SaysPlainly : Response → Fields → Type 0
SaysPlainly (Ack n) p = (p.opcode ≡ ACKNOWLEDGE) × IsAcknowledging (syndrome_of p)
SaysPlainly (Nak code n) p = (p.opcode ≡ ACKNOWLEDGE) × IsRefusing code (syndrome_of p)
SaysPlainly (Data n left) p = (p.opcode == ACKNOWLEDGE) ≡ false
SaysPlainly (Found n value) p = (p.opcode == ACKNOWLEDGE) ≡ false

-- The cursor stays, and while requests are sent `una` goes on to where the response reaches, if that is further.
pub record TakesCalmly (a : Response) (una cursor : ℕ) (e : Effects) : Type 0 where
  pub cursor_stays : e.queue.requester.cursor ≡ cursor
  pub una_goes : is_sending e.queue.state ≡ true → e.queue.requester.una ≡ max una (reach a)

-- The responder admits the packet that it expects, which has number w, as a calm link's does.
pub record AdmitsIn (d : Direction) (x : RequestPacket) (w : ℕ) (r : Responder) (e : Effects) : Type 0 where
  pub reception : Reception
  pub admits : Admits d x w r (responder_in e.queue) reception
  pub mtu : e.queue.responder.mtu ≡ d.mtu
