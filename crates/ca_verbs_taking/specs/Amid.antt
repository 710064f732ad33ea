-- A pass amid taking. Contracts of the crate's own functions cite it.
use Rattle.std.specs.Prelude.{◌≡◌, ◌<◌, ◌≤◌, ◌+◌, ◌⊎◌, ℕ, false, List, [], ◌∷◌, if◌then◌else◌, length, Bool, Some}
use Rattle.std.specs.Global.{Vec}
use Rattle.std.specs.Vec.{vec_capacity}
use Rattle.ca_base.specs.Configuration.{configuration_in}
use Rattle.ca_base.specs.declared.settings.Settings.{Settings}
use Rattle.ca_verbs_machine.specs.Asks.{asked_needs}
use Rattle.ca_verbs_machine.specs.Meanings.{next_of}
use Rattle.ca_verbs_machine.specs.declared.asked.Asked.{Asked}
use Rattle.ca_adapter_parts.specs.HeldView.{holding, room_for}
use Rattle.ca_adapter_parts.specs.declared.held.Held.{Held}
use Rattle.ca_model.specs.declared.part_name.PartName.{PartName}
use Rattle.ca_model.specs.machine.Parts.{ShowsHeld, listed, next_part}
use Rattle.ca_model.specs.machine.Sound.{AreLimited}
use Rattle.ca_model.specs.machine.World.{World}
use Rattle.ca_parts.specs.Hands.{IsTakenFor}
use Rattle.ca_verbs_taking.specs.Holding.{IsHolding, Known}
use Rattle.ca_verbs_taking.specs.Taking.{HasLooked, IsSeen}
use Rattle.ca_verbs_taking.specs.declared.taking.TheConstants.{MAX_ASKED_PARTS}

-- how many of these parts are not held
abbrev pub missing : (PartName → Bool) → List PartName → ℕ
missing held [] = 0
missing held (x ∷ xs) = (if held x then 0 else 1) + missing held xs

-- Some parts were taken for what is asked, and the clock was read as n with them in hand. What is held shows them, and has
-- room for what may come. In each world that shows them, as many parts less are missing as were taken.
pub record IsAmid (key : Settings) (asked : Asked) (n : ℕ) (v : Known) (h : Held) (names : Vec PartName) : Type 0 where
  pub limited : AreLimited (configuration_in key)
  pub holds : IsHolding (configuration_in key) (holding h) names.items v.hand
  pub taken : IsTakenFor next_of key asked v.hand
  pub taking : (v.hand ≡ []) ⊎ ((v.giving ≡ false) × (v.event ≡ Some asked))
  pub looked : v.looked ≡ Some n
  pub under : n < key.events
  pub seen : IsSeen key n v.hand
  pub fewer : (w : World) → ShowsHeld (holding h).parts (holding h).world w
      → missing (holding h).parts (listed w (asked_needs (configuration_in key) asked)) + length names.items ≤ length (listed w (asked_needs (configuration_in key) asked))
  pub room : (p : PartName) → MAX_ASKED_PARTS ≤ room_for h p + length names.items
  pub capacity : MAX_ASKED_PARTS ≤ vec_capacity names

-- the part of this name is needed next, by what is held
abbrev pub IsNext : Settings → Asked → PartName → Held → Type 0
IsNext key asked name h = next_part (holding h).parts (holding h).world (asked_needs (configuration_in key) asked) ≡ Some name

-- a part was taken and the clock read as n, and nothing was refused
pub record TookPart (n : ℕ) (old new : Known) : Type 0 where
  pub noted : HasLooked n new.hand old new
  pub refused : new.refused ≡ old.refused
