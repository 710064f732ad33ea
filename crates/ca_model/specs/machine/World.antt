-- The world: everything that the adapters of a fabric are at one moment, each thing by its name. Contracts cite it.
use Rattle.std.specs.Prelude.{ℕ, Option, None}
use Rattle.ca_keys.specs.declared.names.DomainId.{DomainId}
use Rattle.ca_keys.specs.declared.names.QueueId.{QueueId}
use Rattle.ca_keys.specs.declared.names.Slot.{Slot}
use Rattle.ca_keys.specs.declared.place.Place.{Place}
use Rattle.ca_keys.specs.Equal.{domain_eq, place_eq, queue_eq, slot_eq}
use Rattle.ca_keys.specs.Memory.{ByteMap}
use Rattle.ca_base.specs.objects.CompletionQueue.{CompletionQueue}
use Rattle.ca_base.specs.objects.Domain.{Domain, free_domain}
use Rattle.ca_base.specs.objects.Mailbox.{Mailbox, empty_mailbox}
use Rattle.ca_base.specs.objects.QueuePair.{QueueSlot, vacant_queue}
use Rattle.ca_base.specs.objects.Region.{Region, vacant_region}
use Rattle.ca_base.specs.objects.SharedReceives.{SrqSlot, vacant_srq}
use Rattle.ca_base.specs.objects.Window.{Window, vacant_window}
use Rattle.ca_model.specs.Past.{with_at}

-- a value for each thing; memory is a thing for each place
pub record World : Type 0 where
  pub domain : DomainId → Domain
  pub region : Slot → Region
  pub window : Slot → Window
  pub cq : Slot → Option CompletionQueue
  pub srq : Slot → SrqSlot
  pub queue : QueueId → QueueSlot
  pub mailbox : QueueId → Mailbox
  pub byte : ByteMap

-- the world before the first event
abbrev pub opening_world : ByteMap → World
opening_world byte = record {
  domain = λ d. free_domain;
  region = λ s. vacant_region;
  window = vacant_window;
  cq = λ s. None;
  srq = λ s. vacant_srq;
  queue = λ q. vacant_queue;
  mailbox = λ q. empty_mailbox;
  byte = byte;
}

-- the name of a thing
pub data Name : Type 0 where
  Domain_of : DomainId → Name
  Region_of : Slot → Name
  Window_of : Slot → Name
  Cq_of : Slot → Name
  Srq_of : Slot → Name
  Queue_of : QueueId → Name
  Mailbox_of : QueueId → Name
  Byte_at : Place → Name

-- what a thing of this name is
abbrev pub Thing : Name → Type 0
Thing (Domain_of d) = Domain
Thing (Region_of s) = Region
Thing (Window_of s) = Window
Thing (Cq_of s) = Option CompletionQueue
Thing (Srq_of s) = SrqSlot
Thing (Queue_of q) = QueueSlot
Thing (Mailbox_of q) = Mailbox
Thing (Byte_at p) = ℕ

-- the thing of a name
abbrev pub get : World → (n : Name) → Thing n
get w (Domain_of d) = w.domain d
get w (Region_of s) = w.region s
get w (Window_of s) = w.window s
get w (Cq_of s) = w.cq s
get w (Srq_of s) = w.srq s
get w (Queue_of q) = w.queue q
get w (Mailbox_of q) = w.mailbox q
get w (Byte_at p) = w.byte p

-- the world with another thing under a name
abbrev pub put : World → (n : Name) → Thing n → World
put w (Domain_of d) v = record w { domain = with_at domain_eq w.domain d v }
put w (Region_of s) v = record w { region = with_at slot_eq w.region s v }
put w (Window_of s) v = record w { window = with_at slot_eq w.window s v }
put w (Cq_of s) v = record w { cq = with_at slot_eq w.cq s v }
put w (Srq_of s) v = record w { srq = with_at slot_eq w.srq s v }
put w (Queue_of q) v = record w { queue = with_at queue_eq w.queue q v }
put w (Mailbox_of q) v = record w { mailbox = with_at queue_eq w.mailbox q v }
put w (Byte_at p) v = record w { byte = with_at place_eq w.byte p v }
