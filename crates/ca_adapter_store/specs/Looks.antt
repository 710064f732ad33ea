-- What is seen of a queue pair and of a mailbox on the row of all parts. Contracts cite it.
use Rattle.std.specs.Prelude.{◌≡◌, Option, None, Some}
use Rattle.ca_base.specs.objects.Mailbox.{Mailbox, empty_mailbox}
use Rattle.ca_base.specs.objects.QueuePair.{vacant_queue}
use Rattle.ca_adapter_parts.specs.Parts.{slot_of}
use Rattle.ca_adapter_parts.specs.declared.part.Part.{Part}
use Rattle.ca_adapter_parts.specs.declared.part.Part.TheVariants as parts
use Rattle.ca_adapter_parts.specs.declared.part.QueueSlot.{QueueSlot}
use Rattle.ca_keys.specs.declared.names.QueueId.{QueueId}
use Rattle.ca_model.specs.machine.World.{World}

-- the slot is the world's; where none is seen, that is vacant
abbrev pub IsQueueIn : World → QueueId → Option QueueSlot → Type 0
IsQueueIn w q None = w.queue q ≡ vacant_queue
IsQueueIn w q (Some slot) = slot_of slot ≡ w.queue q

-- the mailbox is the world's; where none is seen, that is empty
abbrev pub IsMailboxIn : World → QueueId → Option Mailbox → Type 0
IsMailboxIn w q None = w.mailbox q ≡ empty_mailbox
IsMailboxIn w q (Some m) = m ≡ w.mailbox q

-- the slot of a queue pair that is found, or none
abbrev pub slot_in : Option Part → Option QueueSlot
slot_in None = None
slot_in (Some (parts.Queue x)) = Some x.value
slot_in (Some part) = None

-- the mailbox that is found, or none
abbrev pub mail_in : Option Part → Option Mailbox
mail_in None = None
mail_in (Some (parts.Mailbox m)) = Some m
mail_in (Some part) = None
