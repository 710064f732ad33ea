-- The remote accesses of a WRITE and of a READ. Contracts cite it.
use Rattle.std.specs.Prelude.{◌≡◌, ℕ, ◌<◌, ◌≤◌, ◌==◌, if◌then◌else◌, List, [], ◌∷◌, length, Option, None, Some}
use Rattle.ca_keys.specs.declared.access.Ask.{Ask}
use Rattle.ca_keys.specs.declared.access.Kind.TheVariants.{Write}
use Rattle.ca_keys.specs.declared.place.Span.{Span}
use Rattle.ca_base.specs.declared.limits.TheConstants.{MAX_PAYLOAD_BYTES}
use Rattle.ca_base.specs.declared.request.PlacedReceive.{PlacedReceive}
use Rattle.ca_base.specs.Sight.{Sight, first_denied}
use Rattle.ca_base.specs.objects.QueuePair.{QueuePair}
use Rattle.ca_grant.specs.Reaching.{AreAtHand, IsFound}
use Rattle.ca_wire.specs.Packet.{Fields}
use Rattle.ca_wire.specs.declared.reth.Reth.{Reth}
use Rattle.ca_wire.specs.declared.syndrome.NakCode.TheVariants.{InvalidRequest}
use Rattle.ca_model.specs.machine.Arrivals.{packet_ask, refusal_effects}
use Rattle.ca_model.specs.machine.Expected.{read_queued}
use Rattle.ca_model.specs.machine.Row.{Effects}
use Rattle.ca_responder_operations.specs.Receives.{CanTake}
use Rattle.ca_responder_operations.specs.declared.write.WritePacket.{WritePacket}

-- the ask that an access meets a key by: one of no bytes meets none
abbrev pub asks_met : Ask → List Ask
asks_met ask = if ask.length == 0 then [] else ask ∷ []

-- the ask of a WRITE packet: all bytes that are left, of which it touches its payload
abbrev pub ask_of_write : QueuePair → WritePacket → Ask
ask_of_write q w = packet_ask q w.target.key Write w.target.address w.target.left (length w.packet.now.payload)

-- this was found of an access: nothing where it has no bytes
abbrev pub IsFoundOf : Sight → Ask → Option Span → Type 0
IsFoundOf s ask None = ask.length ≡ 0
IsFoundOf s ask (Some span) = (0 < ask.length) × IsFound s ask span

-- asks that are at hand, and none of them is denied
pub record AreAllowed {S : Type 0} (sight : S → Sight) (judges touches : S → Ask → Type 0) (reach : S) (asks : List Ask) : Type 0 where
  pub at_hand : AreAtHand sight judges touches reach asks
  pub none : first_denied (sight reach) asks ≡ None

-- a WRITE packet has no more bytes than are left, and some where some are left; and the receive that its immediate data
-- complete waits in its queue
pub record IsFitting (q : QueuePair) (w : WritePacket) (next : Option PlacedReceive) : Type 0 where
  pub most : length w.packet.now.payload ≤ MAX_PAYLOAD_BYTES
  pub left : length w.packet.now.payload ≤ w.target.left
  pub some : 0 < w.target.left → 0 < length w.packet.now.payload
  pub receive : CanTake q next

-- a READ Request is queued; one without its RETH is refused
abbrev pub read_effects : QueuePair → Fields → Option ℕ → Effects
read_effects q p envelope = by p.reth
  where
    by : Option Reth → Effects
    by (Some h) = read_queued q p envelope h
    by None = refusal_effects InvalidRequest q
