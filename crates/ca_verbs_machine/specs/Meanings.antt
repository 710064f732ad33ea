-- The meanings of the machine: what is needed next, what may follow a list of entries, and what a part stands for after
-- it. Contracts cite it.
use Rattle.std.specs.Prelude.{◌≡◌, ℕ, suc, ◌<◌, ◌-◌, ◌^◌, List, length, Option, Some}
use Rattle.std.specs.Option.{option_and_then}
use Rattle.ca_base.specs.Configuration.{configuration_in}
use Rattle.ca_base.specs.declared.settings.Settings.{Settings}
use Rattle.ca_verbs_machine.specs.After.{IsStep, IsUp, world_after}
use Rattle.ca_verbs_machine.specs.Hands.{at, next_name}
use Rattle.ca_verbs_machine.specs.Values.{IsPartIn, PartValue}
use Rattle.ca_verbs_machine.specs.declared.asked.Asked.{Asked}
use Rattle.ca_verbs_machine.specs.declared.asked.Told.{Told}
use Rattle.ca_model.specs.declared.part_name.PartName.{PartName}
use Rattle.ca_model_places.specs.Places.{place_of}

-- the place of the part that is needed next after those in hand
abbrev pub next_of : Settings → Asked → List (ℕ × PartValue) → Option ℕ
next_of key asked hand = option_and_then (place_of (configuration_in key)) (next_name (configuration_in key) asked (at hand))

-- An entry may follow a list of entries of the machine, of fewer than 2^32 - 2: it is one step after it. Of other lists
-- nothing is said.
abbrev pub CanFollow : Settings → List Told → Told → Type 0
CanFollow key log e =
    IsUp (configuration_in key) log → suc (length log) < 2 ^ 32 - 1
    → IsStep (configuration_in key) (world_after (configuration_in key) log) e

-- After a list of entries of the machine the part at this place has what the world has of it. Of other lists nothing is
-- said.
abbrev pub StandsFor : Settings → List Told → ℕ → PartValue → Type 0
StandsFor key log k x =
    IsUp (configuration_in key) log → (name : PartName) → place_of (configuration_in key) name ≡ Some k
    → IsPartIn (configuration_in key) (world_after (configuration_in key) log) name x
