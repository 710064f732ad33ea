-- What is in hand: nothing, names of which none stands twice, and what is seen of a queue pair and of a mailbox. Contracts
-- cite it.
use Rattle.std.specs.Prelude.{◌≡◌, false, List, [], ◌∷◌, Option, None, Some}
use Rattle.ca_base.specs.objects.Mailbox.{Mailbox, empty_mailbox}
use Rattle.ca_base.specs.objects.QueuePair.{vacant_queue}
use Rattle.ca_adapter_parts.specs.HeldView.{Holding}
use Rattle.ca_adapter_parts.specs.Parts.{slot_of}
use Rattle.ca_adapter_parts.specs.declared.part.QueueSlot.{QueueSlot}
use Rattle.ca_keys.specs.declared.names.QueueId.{QueueId}
use Rattle.ca_model.specs.declared.part_name.PartName.{PartName}
use Rattle.ca_model.specs.machine.Parts.{is_held}
use Rattle.ca_model.specs.machine.World.{World}

-- no part is in hand
abbrev pub IsEmpty : Holding → Type 0
IsEmpty h = (p : PartName) → h.parts p ≡ false

-- no name stands twice among these
abbrev pub AreApart : List PartName → Type 0
AreApart [] = Unit {0}
AreApart (x ∷ xs) = (is_held xs x ≡ false) × AreApart xs

-- the slot is the world's; where none is seen, that is vacant
abbrev pub IsQueueIn : World → QueueId → Option QueueSlot → Type 0
IsQueueIn w q None = w.queue q ≡ vacant_queue
IsQueueIn w q (Some slot) = slot_of slot ≡ w.queue q

-- the mailbox is the world's; where none is seen, that is empty
abbrev pub IsMailboxIn : World → QueueId → Option Mailbox → Type 0
IsMailboxIn w q None = w.mailbox q ≡ empty_mailbox
IsMailboxIn w q (Some m) = m ≡ w.mailbox q
