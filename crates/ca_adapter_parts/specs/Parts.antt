-- What the parts of queue pairs are to the machine. Contracts cite it.
use Rattle.ca_base.specs.objects.QueuePair as objects
use Rattle.ca_adapter_parts.specs.declared.part.QueueSlot.{QueueSlot}
use Rattle.ca_adapter_parts.specs.declared.part.QueueSlot.TheVariants as slots

-- the slot of a queue pair
abbrev pub slot_of : QueueSlot → objects.QueueSlot
slot_of (slots.Vacant incarnation timers) = objects.NoQueue incarnation timers
slot_of (slots.Present q) = objects.Present q
