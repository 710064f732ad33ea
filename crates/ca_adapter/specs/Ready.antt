-- What whoever acts shows of the parts in hand: they are those of a world that comes up, and they suffice for the event.
-- Contracts cite it.
use Rattle.std.specs.Prelude.{◌≡◌, ℕ, true, List, length, None}
use Rattle.ca_adapter_acts.specs.Calls.{call_of}
use Rattle.ca_adapter_acts.specs.declared.answers.Call.{Call}
use Rattle.ca_base.specs.Configuration.{Configuration, configuration_in}
use Rattle.ca_base.specs.declared.settings.Settings.{Settings}
use Rattle.ca_adapter_parts.specs.declared.held.Held.{Held}
use Rattle.ca_adapter_parts.specs.HeldView.{holding}
use Rattle.ca_keys.specs.declared.place.Place.{Place}
use Rattle.ca_law_parts.specs.Placed.{is_configured}
use Rattle.ca_model.specs.declared.event.Event.{Event}
use Rattle.ca_model.specs.declared.part_name.PartName.TheVariants as names
use Rattle.ca_model.specs.machine.Parts.{ShowsHeld, event_needs, next_part}
use Rattle.ca_model.specs.machine.HostVerbs.{store_plan}
use Rattle.ca_model.specs.machine.Plan.{Plan}
use Rattle.ca_model.specs.machine.Step.{bytes_of_buffer, run_of}
use Rattle.ca_model.specs.machine.World.{World, Byte_at}
use Rattle.ca_law_parts.specs.Worlds.{IsWorldAfter}

-- The parts in hand are those of a world to which so many events lead; a buffer in hand has all bytes that the
-- configuration gives it.
pub record ArePartsOfWorld (c : Configuration) (h : Held) : Type 0 where
  pub count : ℕ
  pub world : World
  pub after : IsWorldAfter c count world
  pub shows : ShowsHeld (holding h).parts (holding h).world world
  pub whole : (p : Place) → (holding h).parts (names.Buffer p.adapter p.buffer) ≡ true → is_configured c (Byte_at p) ≡ true
      → (holding h).has (Byte_at p) ≡ true

-- An event can be acted with the parts in hand: they are those of a world, and none that it needs is missing.
pub record IsReady (c : Configuration) (event : Event) (h : Held) : Type 0 where
  pub parts : ArePartsOfWorld c h
  pub next : next_part (holding h).parts (holding h).world (event_needs c event) ≡ None

-- a Store of these bytes from a place on, in a buffer as it is configured
abbrev pub stored_plan : Settings → Call → Place → List ℕ → Plan
stored_plan s call p bytes =
    store_plan (call_of call) (run_of p.adapter p.buffer p.offset (length bytes))
    (bytes_of_buffer (configuration_in s) p.adapter p.buffer) bytes
