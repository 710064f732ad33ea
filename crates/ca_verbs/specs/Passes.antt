-- What a fabric and a pass show, and what a receipt says. Contracts cite it.
use Rattle.std.specs.Prelude.{◌≡◌, ◌≤◌, ◌+◌, List, [], ◌∷◌, ◌++◌, Option, Some, length, slice_get}
use Rattle.std.specs.Option.{option_and_then}
use Rattle.std.specs.Vec.{vec_capacity}
use Rattle.ca_base.specs.declared.settings.Settings.{Settings}
use Rattle.ca_verbs_machine.specs.declared.asked.Asked.{Asked}
use Rattle.ca_adapter_parts.specs.HeldView.{room_for}
use Rattle.ca_model.specs.declared.entry.Entry.{Entry}
use Rattle.ca_model.specs.declared.event.Event.{Event}
use Rattle.ca_model.specs.declared.mark.Mark.{Mark}
use Rattle.ca_model.specs.declared.part_name.PartName.{PartName}
use Rattle.ca_parts.specs.Rows.{IsPassOf, settings_of, view_of}
use Rattle.ca_verbs_taking.specs.Holding.{Known}
use Rattle.ca_verbs_taking.specs.Taking.{SameRecord}
use Rattle.ca_verbs_taking.specs.declared.taking.TheConstants.{MAX_ASKED_PARTS}
use Rattle.ca_verbs.specs.Tried.{IsMade, WasNotMade, told_of}
use Rattle.ca_verbs.specs.declared.fabric.Fabric.{Fabric}
use Rattle.ca_verbs.specs.declared.pass.Pass.{Pass}
use Rattle.ca_verbs.specs.declared.pass.Receipt.{Receipt}
use Rattle.ca_verbs.specs.declared.try_error.TryError.{TryError}
use Rattle.ca_verbs.specs.declared.try_error.TryError.TheVariants as errors

-- the settings that the fabric was started with
abbrev pub settings_in : Fabric → Settings
settings_in f = settings_of f.parts

-- what the pass knows
abbrev pub known_of : Pass → Known
known_of p = view_of p.parts

-- the pass is one of the fabric
abbrev pub IsOf : Fabric → Pass → Type 0
IsOf f p = IsPassOf f.parts p.parts

-- the entries that the pass keeps: of its own calls, and of those of passes that were joined into it
abbrev pub entries_in : Pass → List Entry
entries_in p = p.entries.items

-- the entry of the latest call with this pass that answered a receipt
abbrev pub latest_of : Pass → Option Entry
latest_of p = option_and_then (slice_get (entries_in p)) p.latest

-- A call was made: its entry, with the event, its marks, the receipt's stamp and the number of the pass, is the latest, and
-- stands behind those that the pass kept before.
pub record IsReceipt (key : Settings) (asked : Asked) (event : Event) (r : Receipt) (old new : Pass) : Type 0 where
  pub marks : List Mark
  pub made : IsMade key (told_of asked event marks) r.stamp (known_of old) (known_of new)
  pub entry : Entry
  pub latest : latest_of new ≡ Some entry
  pub stamp : entry.stamp ≡ r.stamp
  pub event_is : entry.event ≡ event
  pub marks_are : entry.marks.marks ≡ marks
  pub pass : entry.pass ≡ (known_of old).first
  pub kept : entries_in new ≡ entries_in old ++ entry ∷ []

-- a pass has room for a call
pub record HasRoom (p : Pass) : Type 0 where
  pub entries : length p.entries.items + 1 ≤ vec_capacity p.entries
  pub held : (name : PartName) → MAX_ASKED_PARTS ≤ room_for p.held name
  pub names : MAX_ASKED_PARTS ≤ vec_capacity p.names
  pub out : MAX_ASKED_PARTS ≤ vec_capacity p.out

-- an answer that does not say that a part was taken
abbrev pub IsNoBusy : TryError → Type 0
IsNoBusy (errors.Busy name) = ⊥
IsNoBusy e = Unit {0}

-- A call that is tried again while its answer is Busy was made: before its last try the pass has the share and the entries
-- that it had.
pub record WasMade (key : Settings) (asked : Asked) (event : Event) (r : Receipt) (old new : Pass) : Type 0 where
  pub last : Pass
  pub same : SameRecord (known_of old) (known_of last)
  pub kept : entries_in last ≡ entries_in old
  pub made : IsReceipt key asked event r last new

-- The same of one that was refused: its last answer is not Busy, and has its cause.
pub record WasRefused (key : Settings) (asked : Asked) (e : TryError) (old new : Pass) : Type 0 where
  pub last : Pass
  pub same : SameRecord (known_of old) (known_of last)
  pub kept : entries_in new ≡ entries_in old
  pub not_busy : IsNoBusy e
  pub cause : WasNotMade key asked e (known_of last) (known_of new)
