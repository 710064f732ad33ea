-- What a row does where the mail of its queue pair is in order: its requester does not come to wait, it drops no packet
-- for what this is itself, and it sends to the peer. Contracts cite it.
use Rattle.std.specs.Prelude.{◌≡◌, ℕ, false, List, Option}
use Rattle.std.specs.List.{AllByRecursion}
use Rattle.ca_base.specs.declared.step.Sent.TheVariants.{Spelt}
use Rattle.ca_base.specs.objects.QueuePair.{QueuePair}
use Rattle.ca_model.specs.declared.mark.Mark.{Mark}
use Rattle.ca_model.specs.declared.mark.Mark.TheVariants as marks
use Rattle.ca_model.specs.machine.Requester.{peer_number}
use Rattle.ca_model.specs.machine.Row.{Effects}
use Rattle.ca_wire.specs.Packet.{Fields}
use Rattle.ca_wire.specs.declared.packet.TheConstants.{DEFAULT_PKEY}
use Rattle.ca_law_lossless.specs.CalmEvents.{IsDroppedWhole}
use Rattle.ca_law_once.specs.Entries.{IfPacket}

-- a packet is dropped for what its queue pair is and expects, and not for what it is itself
abbrev pub DropsWhole : Mark → Type 0
DropsWhole (marks.Dropped target cause) = IsDroppedWhole cause
DropsWhole mark = Unit {0}

-- what these marks tell of as dropped is dropped so
abbrev pub AreWholeDrops : List Mark → Type 0
AreWholeDrops ms = AllByRecursion DropsWhole ms

-- Afterwards the requester does not wait for a wake, and no packet was dropped for what it is itself.
pub record KeepsCalm (e : Effects) : Type 0 where
  pub awake : e.queue.requester.waiting ≡ false
  pub marks : AreWholeDrops e.marks

-- a packet in the default partition, for the queue pair of this number
pub record IsFor (number : ℕ) (p : Fields) : Type 0 where
  pub partition : p.pkey ≡ DEFAULT_PKEY
  pub queue : p.queue ≡ number

-- what effects send, if it is a packet, is for the queue pair that this one has named
abbrev pub SendsFor : QueuePair → Effects → Type 0
SendsFor q e = (request : Option ℕ) → e.sent ≡ Spelt request → IfPacket e.spelt (IsFor (peer_number q))
