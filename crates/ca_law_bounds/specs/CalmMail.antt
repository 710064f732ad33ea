-- Mail that is addressed as it should be, and queue pairs that wait for no wake; and the events and marks with which a
-- world stays so. Laws cite it.
use Rattle.std.specs.Prelude.{◌≡◌, ℕ, true, false, List, Ok, is_some}
use Rattle.std.specs.List.{AllByRecursion}
use Rattle.ca_base.specs.declared.mail_envelope.MailEnvelope.{MailEnvelope}
use Rattle.ca_base.specs.objects.QueuePair.{QueueSlot, NoQueue, Present}
use Rattle.ca_keys.specs.declared.names.QueueId.{QueueId}
use Rattle.ca_model.specs.Packets.{packet_of}
use Rattle.ca_model.specs.declared.event.Event.{Event}
use Rattle.ca_model.specs.declared.event.Event.TheVariants as events
use Rattle.ca_model.specs.declared.mark.Mark.{Mark}
use Rattle.ca_model.specs.declared.mark.Mark.TheVariants as marks
use Rattle.ca_model.specs.machine.World.{World}
use Rattle.ca_wire.specs.Decoding.{packet_in}
use Rattle.ca_wire.specs.Packet.{Fields}
use Rattle.ca_law_lossless.specs.RowMail.{IsFor}
use Rattle.ca_law_lossless.specs.Standing.{IsNoRnrNak, is_not_ready}
use Rattle.ca_law_once.specs.Entries.{syndrome_of}
use Rattle.ca_law_bounds.specs.PostWeights.{InjectsNothing}

-- The bytes are a packet for the queue pair of this number, and no RNR NAK: they decode, in the default partition, to
-- its number.
pub record IsAddressed (number : ℕ) (bytes : List ℕ) : Type 0 where
  pub packet : Fields
  pub decodes : packet_in bytes ≡ Ok packet
  pub own : IsFor number packet
  pub ready : is_not_ready (syndrome_of packet) ≡ false

-- all of these envelopes are
abbrev pub AreAddressed : ℕ → List MailEnvelope → Type 0
AreAddressed number es = AllByRecursion (λ e. IsAddressed number e.bytes) es

-- the requester of the queue pair in a slot does not wait for a wake
abbrev pub IsNotWaiting : QueueSlot → Type 0
IsNotWaiting (NoQueue incarnation timers) = Unit {0}
IsNotWaiting (Present q) = q.requester.waiting ≡ false

-- Each envelope is addressed to the queue pair in whose mailbox it is, and no requester waits for a wake.
pub record IsCalmWorld (w : World) : Type 0 where
  pub mail : (n : QueueId) → AreAddressed n.number (w.mailbox n).envelopes
  pub wakes : (n : QueueId) → IsNotWaiting (w.queue n)

-- nothing is injected
abbrev pub IsWithoutInjection : Event → Type 0
IsWithoutInjection (events.Verb by verb) = InjectsNothing verb
IsWithoutInjection event = Unit {0}

-- nobody is woken after an RNR NAK
abbrev pub IsNoWake : Event → Type 0
IsNoWake (events.RnrWake queue) = ⊥
IsNoWake event = Unit {0}

-- what is sent is no RNR NAK
abbrev pub SendsNoRnrNak : Mark → Type 0
SendsNoRnrNak (marks.Sent source target index request bytes) = IsNoRnrNak bytes
SendsNoRnrNak mark = Unit {0}

-- what is sent is a packet
abbrev pub SendsPacket : Mark → Type 0
SendsPacket (marks.Sent source target index request bytes) = is_some (packet_of bytes) ≡ true
SendsPacket mark = Unit {0}
