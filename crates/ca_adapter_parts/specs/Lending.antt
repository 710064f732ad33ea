-- What is held once a reference to a held thing has ended. Contracts cite it.
use Rattle.std.specs.Prelude.{ℕ, List, Option}
use Rattle.std.specs.Borrow.{Fml, MutBor, Lends}
use Rattle.ca_keys.specs.declared.names.DomainId.{DomainId}
use Rattle.ca_keys.specs.declared.names.QueueId.{QueueId}
use Rattle.ca_keys.specs.declared.names.Slot.{Slot}
use Rattle.ca_base.specs.objects.CompletionQueue.{CompletionQueue}
use Rattle.ca_base.specs.objects.Domain.{Domain}
use Rattle.ca_base.specs.objects.Mailbox.{Mailbox}
use Rattle.ca_base.specs.objects.Region.{Region}
use Rattle.ca_base.specs.objects.SharedReceives.{SrqSlot}
use Rattle.ca_base.specs.objects.Window.{Window}
use Rattle.ca_adapter_parts.specs.declared.held.Held.{Held}
use Rattle.std.specs.contracts.option.Option.{the_row as option_row}
use Rattle.ca_cq.specs.contracts.cq.Cq.{the_row as cq_row}
use Rattle.ca_adapter_parts.specs.contracts.held.Held.{the_row as held_row}
use Rattle.ca_adapter_parts.specs.HeldView.{with_buffer, with_control, with_cq, with_mailbox, with_queue}
use Rattle.ca_adapter_parts.specs.HeldView.{with_region, with_srq, with_window}
use Rattle.ca_adapter_reach.specs.ca_memory.contracts.buffer.Buffer.{the_row as buffer_row}
use Rattle.ca_adapter_reach.specs.declared.reached.BufferId.{BufferId}
use Rattle.ca_adapter_parts.specs.declared.part.QueueSlot.{QueueSlot}
use Rattle.ca_adapter_parts.specs.contracts.part.QueueSlot.{the_row as queue_row}
use Rattle.ca_adapter_parts.specs.contracts.part.ControlPart.{the_row as control_row}
use Rattle.ca_mailbox.specs.contracts.mailbox.Mailbox.{the_row as mailbox_row}
use Rattle.ca_adapter_parts.specs.contracts.part.SrqSlot.{the_row as srq_row}
use Rattle.ca_adapter_reach.specs.ca_window.contracts.window.Window.{the_row as window_row}
use Rattle.ca_adapter_reach.specs.ca_region.contracts.region.Region.{the_row as region_row}

-- the protection domain of this name is the last value behind the reference
abbrev pub LendsControl : MutBor Held → DomainId → MutBor Domain → Fml
LendsControl s name r = Lends held_row control_row s r (with_control s.now name)

-- the mailbox of this name is the last value behind the reference
abbrev pub LendsMailbox : MutBor Held → QueueId → MutBor Mailbox → Fml
LendsMailbox s name r = Lends held_row mailbox_row s r (with_mailbox s.now name)

-- the completion queue of this name is the last value behind the reference
abbrev pub LendsCq : MutBor Held → Slot → MutBor (Option CompletionQueue) → Fml
LendsCq s name r = Lends held_row (option_row cq_row) s r (with_cq s.now name)

-- the shared receive queue of this name is the last value behind the reference
abbrev pub LendsSrq : MutBor Held → Slot → MutBor SrqSlot → Fml
LendsSrq s name r = Lends held_row srq_row s r (with_srq s.now name)

-- the window of this name is the last value behind the reference
abbrev pub LendsWindow : MutBor Held → Slot → MutBor Window → Fml
LendsWindow s name r = Lends held_row window_row s r (with_window s.now name)

-- the region of this name is the last value behind the reference
abbrev pub LendsRegion : MutBor Held → Slot → MutBor Region → Fml
LendsRegion s name r = Lends held_row region_row s r (with_region s.now name)

-- the queue pair's slot of this name is the last value behind the reference
abbrev pub LendsQueue : MutBor Held → QueueId → MutBor QueueSlot → Fml
LendsQueue s name r = Lends held_row queue_row s r (with_queue s.now name)

-- the buffer of this name is the last value behind the reference
abbrev pub LendsBuffer : MutBor Held → BufferId → MutBor (List ℕ) → Fml
LendsBuffer s name r = Lends held_row buffer_row s r (with_buffer s.now name)
