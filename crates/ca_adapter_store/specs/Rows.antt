-- The row of all parts of a fabric and the parts in hand, as one world. Contracts cite it.
use Rattle.std.specs.Prelude.{◌≡◌, ℕ, suc, true, false, List, Option, None, Some, Result, Ok, Err, is_some, slice_get}
use Rattle.std.specs.Option.{option_and_then}
use Rattle.ca_base.specs.Configuration.{Configuration, configuration_in}
use Rattle.ca_base.specs.declared.step.ActError.{ActError}
use Rattle.ca_base.specs.declared.step.ActError.TheVariants as steps
use Rattle.ca_adapter_parts.specs.declared.part.Part.{Part}
use Rattle.ca_adapter_parts.specs.HeldView.{Holding, holding}
use Rattle.ca_adapter_parts.specs.Taking.{has_in, is_of_kind, world_with}
use Rattle.ca_keys.specs.declared.place.Place.{Place}
use Rattle.ca_adapter.specs.ca_law_parts.Placed.{is_configured}
use Rattle.ca_model.specs.Marks.{MarkList}
use Rattle.ca_model.specs.declared.part_name.PartName.{PartName}
use Rattle.ca_model.specs.declared.part_name.PartName.TheVariants as names
use Rattle.ca_model.specs.machine.Parts.{ShowsHeld, is_configured_part, part_of}
use Rattle.ca_model.specs.machine.Plan.{Did, NotReady, Outcome}
use Rattle.ca_model.specs.machine.World.{World, Name, Byte_at, get}
use Rattle.ca_model_places.specs.Places.{place_of}
use Rattle.ca_adapter_store.specs.declared.row.Row.{Row}
use Rattle.ca_adapter.specs.ca_law_parts.Worlds.{IsWorldAfter}

-- the part that stands at the place of a name, if it has one
abbrev pub part_at : Configuration → List Part → PartName → Option Part
part_at c row name = option_and_then (slice_get row) (place_of c name)

-- A part is of this name's kind, and each thing that stands in it is the world's; a buffer has all bytes that the
-- configuration gives it.
pub record IsPartIn (c : Configuration) (w : World) (name : PartName) (part : Part) : Type 0 where
  pub kind : is_of_kind name part ≡ true
  pub things : (v : World) (n : Name) → part_of n ≡ name → get (world_with name part v) n ≡ get w n
  pub whole : (p : Place) → part_of (Byte_at p) ≡ name → is_configured c (Byte_at p) ≡ true → has_in part (Byte_at p) ≡ true

-- a part is there, and has what the world has of it
abbrev pub IsThere : Configuration → World → PartName → Option Part → Type 0
IsThere c w name None = ⊥
IsThere c w name (Some part) = IsPartIn c w name part

-- Each configured part has a place; it is in hand or there, and has what the world has of it.
pub record AreTogether (c : Configuration) (w : World) (row : List Part) (h : Holding) : Type 0 where
  pub places : (p : PartName) → is_configured_part c p ≡ true → is_some (part_at c row p) ≡ true
  pub home : (p : PartName) → is_configured_part c p ≡ true → h.parts p ≡ false → IsThere c w p (part_at c row p)
  pub hand : (p : PartName) → h.parts p ≡ true → is_configured_part c p ≡ true
  pub shows : ShowsHeld h.parts h.world w
  pub whole : (p : Place) → h.parts (names.Buffer p.adapter p.buffer) ≡ true → is_configured c (Byte_at p) ≡ true
      → h.has (Byte_at p) ≡ true

-- no part is in hand
abbrev pub IsEmpty : Holding → Type 0
IsEmpty h = (p : PartName) → h.parts p ≡ false

-- A row stands for a world to which as many events lead as were made on it, under this configuration: all parts are at
-- their places.
pub record IsRowOf (c : Configuration) (w : World) (row : Row) : Type 0 where
  pub settings : configuration_in row.settings ≡ c
  pub after : IsWorldAfter c row.count w
  pub together : AreTogether c w row.parts.items (holding row.held)
  pub empty : IsEmpty (holding row.held)

-- it stands for some world
pub record IsRow (row : Row) : Type 0 where
  pub world : World
  pub of : IsRowOf (configuration_in row.settings) world row

-- What an event made of a world, by the machine's outcome: its marks, and what is there stands for the world after it; or
-- the reason why it is not possible, and it stands for the world as it was. Where memory ends it does so, too.
abbrev pub IsMade : Result MarkList ActError → Outcome → World → (World → Type 0) → Type 0
IsMade (Ok m) (Did v ms) w Stands = (m.marks ≡ ms) × Stands v
IsMade (Ok m) (NotReady reason) w Stands = ⊥
IsMade (Err (steps.NotReady reason)) (Did v ms) w Stands = ⊥
IsMade (Err (steps.NotReady reason)) (NotReady why) w Stands = (reason ≡ why) × Stands w
IsMade (Err steps.Memory) outcome w Stands = Stands w

-- the row counts one event more where one was made
abbrev pub count_after : Result MarkList ActError → ℕ → ℕ
count_after (Ok m) count = suc count
count_after (Err error) count = count
