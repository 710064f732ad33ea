-- What a part of a fabric is to the machine: the thing that stands in it, or the bytes of a buffer; and that a part has
-- what a world has of it. Contracts cite it.
use Rattle.std.specs.Prelude.{◌≡◌, ℕ, nat_lt, Bool, true, false, List, length, Option, None, Some}
use Rattle.ca_base.specs.Configuration.{Configuration}
use Rattle.ca_base.specs.objects.CompletionQueue.{CompletionQueue}
use Rattle.ca_base.specs.objects.Domain.{Domain}
use Rattle.ca_base.specs.objects.Mailbox.{Mailbox}
use Rattle.ca_base.specs.objects.QueuePair.{QueueSlot}
use Rattle.ca_base.specs.objects.Region.{Region}
use Rattle.ca_base.specs.objects.SharedReceives.{SrqSlot}
use Rattle.ca_base.specs.objects.Window.{Window}
use Rattle.ca_adapter_parts.specs.Parts.{slot_of}
use Rattle.ca_adapter_parts.specs.declared.part.Part.{Part}
use Rattle.ca_adapter_parts.specs.declared.part.Part.TheVariants as parts
use Rattle.ca_keys.specs.declared.place.Place.{Place}
use Rattle.ca_law_parts.specs.Placed.{is_configured}
use Rattle.ca_memory.specs.Buffer.{memory_of}
use Rattle.ca_model.specs.declared.part_name.PartName.{PartName}
use Rattle.ca_model.specs.machine.Parts.{part_of}
use Rattle.ca_model.specs.machine.World.{World, Name, Domain_of, Region_of, Window_of, Cq_of, Srq_of, Queue_of, Mailbox_of, Byte_at, Thing, get}

-- what stands in a part
pub data PartValue : Type 0 where
  A_domain : Domain → PartValue
  A_region : Region → PartValue
  A_window : Window → PartValue
  A_cq : Option CompletionQueue → PartValue
  A_srq : SrqSlot → PartValue
  A_queue : QueueSlot → PartValue
  A_mailbox : Mailbox → PartValue
  Bytes_of : List ℕ → PartValue

-- what stands in a part as it is kept
abbrev pub value_of : Part → PartValue
value_of (parts.Control x) = A_domain x
value_of (parts.Region x) = A_region x
value_of (parts.Window x) = A_window x
value_of (parts.Cq x) = A_cq x
value_of (parts.Srq x) = A_srq x
value_of (parts.Queue x) = A_queue (slot_of x.value)
value_of (parts.Mailbox x) = A_mailbox x
value_of (parts.Buffer bytes) = Bytes_of bytes

-- the thing of a name that stands in a part, if it is of that name's kind
abbrev pub thing_in : (n : Name) → PartValue → Option (Thing n)
thing_in (Domain_of d) (A_domain x) = Some x
thing_in (Region_of s) (A_region x) = Some x
thing_in (Window_of s) (A_window x) = Some x
thing_in (Cq_of s) (A_cq x) = Some x
thing_in (Srq_of s) (A_srq x) = Some x
thing_in (Queue_of q) (A_queue x) = Some x
thing_in (Mailbox_of q) (A_mailbox x) = Some x
thing_in (Byte_at p) (Bytes_of bytes) = Some (memory_of bytes p)
thing_in n x = None

-- a buffer reaches as far as this place
abbrev pub has_byte : PartValue → Place → Bool
has_byte (Bytes_of bytes) p = nat_lt p.offset (length bytes)
has_byte x p = false

-- Each thing that stands in the part of this name is the world's; a buffer has all bytes that the configuration gives it.
pub record IsPartIn (c : Configuration) (w : World) (name : PartName) (x : PartValue) : Type 0 where
  pub things : (n : Name) → part_of n ≡ name → thing_in n x ≡ Some (get w n)
  pub whole : (p : Place) → part_of (Byte_at p) ≡ name → is_configured c (Byte_at p) ≡ true → has_byte x p ≡ true
