-- The world after a list of entries, and what it is that the list is one of the machine. Contracts cite it.
use Rattle.std.specs.Prelude.{◌≡◌, ◌<◌, ◌-◌, ◌^◌, List, [], ◌∷◌, length, Some}
use Rattle.ca_base.specs.Configuration.{Configuration}
use Rattle.ca_verbs_machine.specs.Asks.{event_asked}
use Rattle.ca_verbs_machine.specs.declared.asked.Told.{Told}
use Rattle.ca_keys.specs.Memory.{zeros}
use Rattle.ca_model.specs.declared.event.Event.{Event}
use Rattle.ca_model.specs.machine.Plan.{Outcome, NotReady, Did}
use Rattle.ca_model.specs.machine.Sound.{AreLimited, CanBeMade}
use Rattle.ca_model.specs.machine.Step.{step}
use Rattle.ca_model.specs.machine.World.{World, opening_world}

-- the world that an outcome leaves: another one, or the same
abbrev pub world_left : World → Outcome → World
world_left w (NotReady reason) = w
world_left w (Did v ms) = v

-- the world after an event
abbrev pub next_world : Configuration → World → Event → World
next_world c w event = world_left w (step c w event)

-- the world after entries from a world on
abbrev pub world_from : Configuration → World → List Told → World
world_from c w [] = w
world_from c w (e ∷ es) = world_from c (next_world c w e.event) es

-- the world after entries from an opening of zeros on
abbrev pub world_after : Configuration → List Told → World
world_after c log = world_from c (opening_world zeros) log

-- an entry is one step in a world: its event can be made and is the one that was asked for, and its marks are the step's
pub record IsStep (c : Configuration) (w : World) (e : Told) : Type 0 where
  pub made : CanBeMade e.event
  pub asked : event_asked w e.asked ≡ Some e.event
  pub did : step c w e.event ≡ Did (next_world c w e.event) e.marks

-- each entry is one step, from a world on
abbrev pub RunsFrom : Configuration → World → List Told → Type 0
RunsFrom c w [] = Unit {0}
RunsFrom c w (e ∷ es) = IsStep c w e × RunsFrom c (next_world c w e.event) es

-- A list of entries of the machine: the configuration keeps to its limits, there are fewer than 2^32 - 1, and each is one
-- step after those before it.
pub record IsUp (c : Configuration) (log : List Told) : Type 0 where
  pub limited : AreLimited c
  pub few : length log < 2 ^ 32 - 1
  pub runs : RunsFrom c (opening_world zeros) log
