-- What is held as a small world: vacant wherever nothing is held, beside tests of the names and of the parts that are
-- held. Contracts cite it.
use Rattle.std.specs.Prelude.{ℕ, nat_lt, Bool, false, List, [], ◌∷◌, length, Option, None, Box}
use Rattle.std.specs.Option.{option_map, option_map_or}
use Rattle.ca_keys.specs.declared.names.DomainId.{DomainId}
use Rattle.ca_keys.specs.declared.names.QueueId.{QueueId}
use Rattle.ca_keys.specs.declared.names.Slot.{Slot}
use Rattle.ca_keys.specs.declared.place.Run.{Run}
use Rattle.ca_keys.specs.Memory.{memory_after}
use Rattle.ca_qpstate.specs.ca_model.machine.Frame.{AllPass}
use Rattle.ca_qpstate.specs.ca_model.machine.Plan.{byte_names}
use Rattle.ca_keys.specs.Equal.{domain_eq, queue_eq, slot_eq}
use Rattle.ca_base.specs.objects.CompletionQueue.{CompletionQueue}
use Rattle.ca_base.specs.objects.Domain.{Domain, free_domain}
use Rattle.ca_base.specs.objects.Mailbox.{Mailbox, empty_mailbox}
use Rattle.ca_base.specs.objects.QueuePair.{vacant_queue}
use Rattle.ca_base.specs.objects.Region.{Region}
use Rattle.ca_base.specs.objects.SharedReceives.{SrqSlot, vacant_srq}
use Rattle.ca_base.specs.objects.Window.{Window}
use Rattle.ca_qpstate.specs.ca_model.declared.part_name.PartName.{PartName}
use Rattle.ca_qpstate.specs.ca_model.declared.part_name.PartName.TheVariants as names
use Rattle.ca_qpstate.specs.ca_model.machine.World.{World, Name, Thing, put}
use Rattle.ca_qpstate.specs.ca_model.machine.World.{Domain_of, Region_of, Window_of, Cq_of, Srq_of, Queue_of, Mailbox_of, Byte_at}
use Rattle.ca_adapter_reach.specs.Shelved.{has_thing, thing_under, with_thing}
use Rattle.std.specs.declared.alloc.Global.{Global}
use Rattle.ca_adapter_parts.specs.declared.held.Held.{Held}
use Rattle.ca_adapter_reach.specs.declared.reached.BufferId.{BufferId}
use Rattle.ca_adapter_reach.specs.Names.{buffer_eq, buffer_of}
use Rattle.ca_adapter_reach.specs.Seen.{byte_in, or_vacant, region_in, window_in}
use Rattle.ca_adapter_parts.specs.declared.part.QueueSlot as held_slots
use Rattle.ca_adapter_parts.specs.Parts.{slot_of}

-- a small world, and which of its things, and which parts, are held
pub record Holding : Type 0 where
  pub world : World
  pub has : Name → Bool
  pub parts : PartName → Bool

-- the same with another thing under a name
abbrev pub hold : Holding → (n : Name) → Thing n → Holding
hold h n v = record h { world = put h.world n v }

-- the things that are held, vacant where none is
abbrev pub held_world : Held → World
held_world h = record {
  domain = λ d. or_vacant free_domain (thing_under domain_eq d h.controls.things);
  region = region_in h.reached;
  window = window_in h.reached;
  cq = λ s. or_vacant None (thing_under slot_eq s h.cqs.things);
  srq = λ s. or_vacant vacant_srq (thing_under slot_eq s h.srqs.things);
  queue = λ q. or_vacant vacant_queue (option_map (λ b. slot_of b.value) (thing_under queue_eq q h.queues.things));
  mailbox = λ q. or_vacant empty_mailbox (thing_under queue_eq q h.mailboxes.things);
  byte = byte_in h.reached.buffers.things;
}

-- the thing of this name is held; a byte where its buffer is, and has it
abbrev pub is_held_name : Held → Name → Bool
is_held_name h (Domain_of d) = has_thing domain_eq d h.controls.things
is_held_name h (Region_of s) = has_thing slot_eq s h.reached.regions.things
is_held_name h (Window_of s) = has_thing slot_eq s h.reached.windows.things
is_held_name h (Cq_of s) = has_thing slot_eq s h.cqs.things
is_held_name h (Srq_of s) = has_thing slot_eq s h.srqs.things
is_held_name h (Queue_of q) = has_thing queue_eq q h.queues.things
is_held_name h (Mailbox_of q) = has_thing queue_eq q h.mailboxes.things
is_held_name h (Byte_at p) =
    option_map_or (λ bytes. nat_lt p.offset (length bytes))
    (thing_under buffer_eq (buffer_of p) h.reached.buffers.things) false

-- the part of this name is held
abbrev pub is_held_part : Held → PartName → Bool
is_held_part h (names.Control d) = has_thing domain_eq d h.controls.things
is_held_part h (names.Region s) = has_thing slot_eq s h.reached.regions.things
is_held_part h (names.Window s) = has_thing slot_eq s h.reached.windows.things
is_held_part h (names.Cq s) = has_thing slot_eq s h.cqs.things
is_held_part h (names.Srq s) = has_thing slot_eq s h.srqs.things
is_held_part h (names.Queue q) = has_thing queue_eq q h.queues.things
is_held_part h (names.Mailbox q) = has_thing queue_eq q h.mailboxes.things
is_held_part h (names.Buffer adapter index) =
    has_thing buffer_eq (record { adapter = adapter; index = index }) h.reached.buffers.things

-- what is held
unfoldable pub holding : Held → Holding
holding h = record { world = held_world h; has = is_held_name h; parts = is_held_part h }

-- room for so many parts more of this one's kind
abbrev pub room_for : Held → PartName → ℕ
room_for h (names.Control d) = h.controls.room
room_for h (names.Region s) = h.reached.regions.room
room_for h (names.Window s) = h.reached.windows.room
room_for h (names.Cq s) = h.cqs.room
room_for h (names.Srq s) = h.srqs.room
room_for h (names.Queue q) = h.queues.room
room_for h (names.Mailbox q) = h.mailboxes.room
room_for h (names.Buffer adapter index) = h.reached.buffers.room

-- another thing under the name of a protection domain that is held
unfoldable pub with_control : Held → DomainId → Domain → Held
with_control h name thing =
    record h { controls = record h.controls { things = with_thing domain_eq name thing h.controls.things } }

-- another thing under the name of a mailbox that is held
unfoldable pub with_mailbox : Held → QueueId → Mailbox → Held
with_mailbox h name thing =
    record h { mailboxes = record h.mailboxes { things = with_thing queue_eq name thing h.mailboxes.things } }

-- another thing under the name of a completion queue that is held
unfoldable pub with_cq : Held → Slot → Option CompletionQueue → Held
with_cq h name thing = record h { cqs = record h.cqs { things = with_thing slot_eq name thing h.cqs.things } }

-- another thing under the name of a shared receive queue that is held
unfoldable pub with_srq : Held → Slot → SrqSlot → Held
with_srq h name thing = record h { srqs = record h.srqs { things = with_thing slot_eq name thing h.srqs.things } }

-- another thing under the name of a queue pair that is held
unfoldable pub with_queue : Held → QueueId → held_slots.QueueSlot → Held
with_queue h name thing = option_map_or (by h) (thing_under queue_eq name h.queues.things) h
  where
    by : Held → Box held_slots.QueueSlot Global → Held
    by h b = record h {
      queues = record h.queues {
        things = with_thing queue_eq name (record b { value = thing }) h.queues.things;
      };
    }

-- another thing under the name of a window that is held
unfoldable pub with_window : Held → Slot → Window → Held
with_window h name thing =
    record h {
      reached = record h.reached {
        windows = record h.reached.windows {
          things = with_thing slot_eq name thing h.reached.windows.things;
        };
      };
    }

-- another thing under the name of a region that is held
unfoldable pub with_region : Held → Slot → Region → Held
with_region h name thing =
    record h {
      reached = record h.reached {
        regions = record h.reached.regions {
          things = with_thing slot_eq name thing h.reached.regions.things;
        };
      };
    }

-- other bytes in a buffer that is held
unfoldable pub with_buffer : Held → BufferId → List ℕ → Held
with_buffer h name thing =
    record h {
      reached = record h.reached {
        buffers = record h.reached.buffers {
          things = with_thing buffer_eq name thing h.reached.buffers.things;
        };
      };
    }

-- what is held, with other bytes at the places of a run
abbrev pub with_bytes : Holding → Run → List ℕ → Holding
with_bytes h r bytes = record h { world = record h.world { byte = memory_after h.world.byte (r ∷ []) bytes } }

-- all places of a run are held
abbrev pub IsRunHeld : Holding → Run → Type 0
IsRunHeld h r = AllPass h.has (byte_names (r ∷ []))
