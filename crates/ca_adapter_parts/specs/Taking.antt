-- What is held with one part more, and with one fewer. Contracts cite it.
use Rattle.std.specs.Prelude.{nat_lt, Bool, true, false, if◌then◌else◌, length, None}
use Rattle.ca_base.specs.objects.Domain.{free_domain}
use Rattle.ca_base.specs.objects.Mailbox.{empty_mailbox}
use Rattle.ca_base.specs.objects.QueuePair.{vacant_queue}
use Rattle.ca_base.specs.objects.Region.{vacant_region}
use Rattle.ca_base.specs.objects.SharedReceives.{vacant_srq}
use Rattle.ca_base.specs.objects.Window.{vacant_window}
use Rattle.ca_keys.specs.Memory.{ByteMap}
use Rattle.ca_adapter_reach.specs.ca_memory.Buffer.{memory_of}
use Rattle.ca_qpstate.specs.ca_model.declared.part_name.PartName.{PartName}
use Rattle.ca_qpstate.specs.ca_model.declared.part_name.PartName.TheVariants as names
use Rattle.ca_qpstate.specs.ca_model.machine.Parts.{part_eq, part_of}
use Rattle.ca_qpstate.specs.ca_model.machine.World.{World, Name, opening_world, put}
use Rattle.ca_qpstate.specs.ca_model.machine.World.{Domain_of, Region_of, Window_of, Cq_of, Srq_of, Queue_of, Mailbox_of, Byte_at}
use Rattle.ca_adapter_reach.specs.declared.reached.BufferId.{BufferId}
use Rattle.ca_adapter_parts.specs.declared.part.Part.{Part}
use Rattle.ca_adapter_parts.specs.declared.part.Part.TheVariants as parts
use Rattle.ca_adapter_parts.specs.HeldView.{Holding}
use Rattle.ca_adapter_reach.specs.Names.{buffer_eq, buffer_of}
use Rattle.ca_adapter_parts.specs.Parts.{slot_of}

-- nothing is held
abbrev pub nothing_held : Holding
nothing_held = record { world = opening_world (λ p. 0); has = λ n. false; parts = λ p. false }

-- the part is of this name's kind
abbrev pub is_of_kind : PartName → Part → Bool
is_of_kind (names.Control d) (parts.Control x) = true
is_of_kind (names.Region s) (parts.Region x) = true
is_of_kind (names.Window s) (parts.Window x) = true
is_of_kind (names.Cq s) (parts.Cq x) = true
is_of_kind (names.Srq s) (parts.Srq x) = true
is_of_kind (names.Queue q) (parts.Queue x) = true
is_of_kind (names.Mailbox q) (parts.Mailbox x) = true
is_of_kind (names.Buffer adapter index) (parts.Buffer bytes) = true
is_of_kind name part = false

-- other bytes at the places of a buffer
abbrev pub with_places : BufferId → ByteMap → ByteMap → ByteMap
with_places b bytes rest p = if buffer_eq b (buffer_of p) then bytes p else rest p

-- the world with the thing of a part, or with the bytes of a buffer
abbrev pub world_with : PartName → Part → World → World
world_with (names.Control d) (parts.Control x) w = put w (Domain_of d) x
world_with (names.Region s) (parts.Region x) w = put w (Region_of s) x
world_with (names.Window s) (parts.Window x) w = put w (Window_of s) x
world_with (names.Cq s) (parts.Cq x) w = put w (Cq_of s) x
world_with (names.Srq s) (parts.Srq x) w = put w (Srq_of s) x
world_with (names.Queue q) (parts.Queue x) w = put w (Queue_of q) (slot_of x.value)
world_with (names.Mailbox q) (parts.Mailbox x) w = put w (Mailbox_of q) x
world_with (names.Buffer adapter index) (parts.Buffer bytes) w =
    record w { byte = with_places (record { adapter = adapter; index = index }) (memory_of bytes) w.byte }
world_with name part w = w

-- a part has the thing of a name in it; a buffer has the bytes up to its length
abbrev pub has_in : Part → Name → Bool
has_in (parts.Buffer bytes) (Byte_at p) = nat_lt p.offset (length bytes)
has_in part n = true

-- what is held, with a part more
abbrev pub with_part : PartName → Part → Holding → Holding
with_part name part h = record {
  world = world_with name part h.world;
  has = λ n. if part_eq name (part_of n) then has_in part n else h.has n;
  parts = λ p. if part_eq name p then true else h.parts p;
}

-- the world, vacant where the thing of a part stood, or the bytes of a buffer
abbrev pub world_without : PartName → World → World
world_without (names.Control d) w = put w (Domain_of d) free_domain
world_without (names.Region s) w = put w (Region_of s) vacant_region
world_without (names.Window s) w = put w (Window_of s) (vacant_window s)
world_without (names.Cq s) w = put w (Cq_of s) None
world_without (names.Srq s) w = put w (Srq_of s) vacant_srq
world_without (names.Queue q) w = put w (Queue_of q) vacant_queue
world_without (names.Mailbox q) w = put w (Mailbox_of q) empty_mailbox
world_without (names.Buffer adapter index) w =
    record w { byte = with_places (record { adapter = adapter; index = index }) (λ p. 0) w.byte }

-- what is held, without a part
abbrev pub without_part : PartName → Holding → Holding
without_part name h = record {
  world = world_without name h.world;
  has = λ n. if part_eq name (part_of n) then false else h.has n;
  parts = λ p. if part_eq name p then false else h.parts p;
}
