-- What a write and the end of a key make of the windows, the regions and the buffers in hand. Contracts cite it.
use Rattle.std.specs.Prelude.{ℕ, if◌then◌else◌, not, List, [], ◌∷◌, take, drop, Option, None, Some}
use Rattle.ca_keys.specs.declared.access.Ask.{Ask}
use Rattle.ca_keys.specs.declared.names.Slot.{Slot}
use Rattle.ca_keys.specs.declared.place.Run.{Run}
use Rattle.ca_keys.specs.Equal.{slot_eq}
use Rattle.ca_keys.specs.Numbers.{is_window_key}
use Rattle.ca_base.specs.Sight.{Invalidation, runs_in}
use Rattle.ca_base.specs.objects.Region.{Region, after_region_invalidation, with_window_unbound}
use Rattle.ca_base.specs.objects.Slices.{is_key_of, slot_of_key}
use Rattle.ca_base.specs.objects.Window.{Binding, Window, without_binding}
use Rattle.ca_grant.specs.ca_memory.Buffer.{bytes_after}
use Rattle.ca_adapter_reach.specs.declared.shelf.Named.{Named}
use Rattle.ca_adapter_reach.specs.Shelved.{thing_under, with_thing}
use Rattle.ca_adapter_reach.specs.declared.reached.BufferId.{BufferId}
use Rattle.ca_adapter_reach.specs.declared.reached.Reached.{Reached}
use Rattle.ca_adapter_reach.specs.Names.{buffer_eq, buffer_of_run}
use Rattle.ca_adapter_reach.specs.Seen.{or_vacant, region_in, sight_of, slot_under, window_in}

-- the buffers after bytes were put to the places of a run
abbrev pub with_run : Run → List ℕ → List (Named BufferId (List ℕ)) → List (Named BufferId (List ℕ))
with_run x bytes buffers =
    with_thing buffer_eq (buffer_of_run x)
    (bytes_after x.offset bytes (or_vacant [] (thing_under buffer_eq (buffer_of_run x) buffers))) buffers

-- the buffers after bytes were put to the places of runs, in order, each run in its own buffer
abbrev pub with_runs : List Run → List ℕ → List (Named BufferId (List ℕ)) → List (Named BufferId (List ℕ))
with_runs [] bytes buffers = buffers
with_runs (x ∷ xs) bytes buffers = with_runs xs (drop x.length bytes) (with_run x (take x.length bytes) buffers)

-- what is in hand, with other buffers
abbrev pub put_buffers : Reached → List (Named BufferId (List ℕ)) → Reached
put_buffers r buffers = record r { buffers = record r.buffers { things = buffers } }

-- with another region in a slot
abbrev pub put_region : Reached → Slot → Region → Reached
put_region r s region =
    record r { regions = record r.regions { things = with_thing slot_eq s region r.regions.things } }

-- with another window in a slot
abbrev pub put_window : Reached → Slot → Window → Reached
put_window r s window =
    record r { windows = record r.windows { things = with_thing slot_eq s window r.windows.things } }

-- what is left by a write to the places that an ask touches
abbrev pub after_write_by : Reached → Ask → List ℕ → Reached
after_write_by r ask bytes = put_buffers r (with_runs (runs_in (sight_of r) ask) bytes r.buffers.things)

-- what is left by the end of the key of a window: it is bound no more, and its region counts one window fewer
abbrev pub without_window_key : Reached → Slot → Window → Reached
without_window_key r s w = by w.binding
  where
    by : Option Binding → Reached
    by None = r
    by (Some b) =
        put_region (put_window r s (without_binding w)) (slot_under w b) (with_window_unbound (region_in r (slot_under w b)))

-- what is left by the end of a key
abbrev pub after_end_of : Reached → Invalidation → Reached
after_end_of r i =
    if not (is_key_of i.domain i.key) then r
    else if is_window_key i.key then without_window_key r (slot_of_key i.domain i.key) (window_in r (slot_of_key i.domain i.key))
    else put_region r (slot_of_key i.domain i.key) (after_region_invalidation (region_in r (slot_of_key i.domain i.key)))
