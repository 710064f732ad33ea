-- How a queue pair's responder stands, as a calm link says it; and what a packet says that is sent in calm weather.
-- Contracts cite it.
use Rattle.std.specs.Prelude.{◌≡◌, ℕ, Bool, true, false, List, [], ◌∷◌, map, Option, Some}
use Rattle.ca_base.specs.objects.QueuePair.{QueuePair}
use Rattle.ca_connection.specs.Layout.{Direction, HasNumber}
use Rattle.ca_connection.specs.Link.{RequestPacket, Responder, Response}
use Rattle.ca_connection.specs.Link.NakReason.{RemoteAccessError}
use Rattle.ca_connection.specs.Link.Response.{Nak, Data}
use Rattle.ca_connection.specs.Moves.{Reception, rest_of}
use Rattle.ca_connection.specs.Calm.{Standing}
use Rattle.ca_connection.specs.Calm.Standing.{Accepting, Waiting, Closed}
use Rattle.ca_connection.specs.CalmMoves.{Admits, standing_after}
use Rattle.ca_model.specs.Packets.{is_response}
use Rattle.ca_model.specs.machine.Invariants.{is_connected}
use Rattle.ca_model.specs.machine.Row.{Effects}
use Rattle.ca_law_lossless.specs.Calmly.{SaysPlainly}
use Rattle.ca_law_once.specs.Entries.{IfPacket, ResponseEntry, syndrome_of}
use Rattle.ca_law_once.specs.Sides.{kept_result, responder_in, said}
use Rattle.ca_wire.specs.declared.syndrome.Syndrome.{Syndrome}
use Rattle.ca_wire.specs.declared.syndrome.Syndrome.TheVariants as syndromes

-- The responder accepts where packets are taken and no NAK waits for an answer; it waits where an RNR NAK does; and it
-- is closed where no packet is taken.
abbrev pub StandsIn : Standing → QueuePair → Type 0
StandsIn Accepting q = (is_connected q.state ≡ true) × (q.responder.nak_sent ≡ false)
StandsIn Waiting q = (is_connected q.state ≡ true) × (q.responder.nak_sent ≡ true)
StandsIn Closed q = is_connected q.state ≡ false

-- the syndrome is that of an RNR NAK
abbrev pub is_not_ready : Option Syndrome → Bool
is_not_ready (Some (syndromes.RnrNak timer)) = true
is_not_ready syndrome = false

-- the bytes are no RNR NAK, if they are a packet
abbrev pub IsNoRnrNak : List ℕ → Type 0
IsNoRnrNak bytes = IfPacket bytes (λ p. is_not_ready (syndrome_of p) ≡ false)

-- the bytes are those of a response, if they are a packet, and say what it says; an RNR NAK stands for none
abbrev pub SpellsPlainly : Response → List ℕ → Type 0
SpellsPlainly a bytes = IfPacket bytes (λ p. (is_response p.opcode ≡ true) × ResponseEntry a p × SaysPlainly a p)

-- The responder admits the packet that it expects, which has number w, as a calm link's does, and stands as that says.
pub record AdmitsStanding (d : Direction) (x : RequestPacket) (w : ℕ) (r : Responder) (e : Effects) : Type 0 where
  pub reception : Reception
  pub admits : Admits d x w r (responder_in e.queue) reception
  pub stands : StandsIn (standing_after reception) e.queue

-- What a turn of the responder sends: the front of the response queue, and the responder stands as before; or the NAK
-- of a READ that is denied, and it is closed.
pub data AnswersCalmly (d : Direction) (q : QueuePair) (e : Effects) : Type 0 where
  front : (a : Response) (rest : List Response)
      → map said q.responder.answers ≡ a ∷ rest
      → map said e.queue.responder.answers ≡ rest_of d.mtu a rest
      → (IsNoRnrNak e.spelt → SpellsPlainly a e.spelt)
      → e.queue.state ≡ q.state
      → e.queue.responder.nak_sent ≡ q.responder.nak_sent
      → AnswersCalmly d q e
  denied : (n left place : ℕ) (rest : List Response)
      → map said q.responder.answers ≡ Data n left ∷ rest
      → HasNumber d place n
      → map said e.queue.responder.answers ≡ []
      → SpellsPlainly (Nak RemoteAccessError n) e.spelt
      → is_connected e.queue.state ≡ false
      → AnswersCalmly d q e

-- the same, and the rest of the responder stays
pub record RespondsCalmly (d : Direction) (q : QueuePair) (e : Effects) : Type 0 where
  pub answers : AnswersCalmly d q e
  pub expected : e.queue.responder.expected ≡ q.responder.expected
  pub results : map kept_result e.queue.saved ≡ map kept_result q.saved
  pub mtu : e.queue.responder.mtu ≡ d.mtu
