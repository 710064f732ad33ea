-- What parts in hand show: the value at each place, the small world of them, and the part that is needed next. Contracts
-- cite it.
use Rattle.std.specs.Prelude.{ℕ, ◌==◌, Bool, if◌then◌else◌, List, [], ◌∷◌, Option, None, Some, is_some}
use Rattle.std.specs.Option.{option_and_then, option_map_or}
use Rattle.ca_base.specs.Configuration.{Configuration}
use Rattle.ca_verbs_machine.specs.Asks.{asked_needs}
use Rattle.ca_verbs_machine.specs.Values.{PartValue, thing_in}
use Rattle.ca_verbs_machine.specs.declared.asked.Asked.{Asked}
use Rattle.ca_model.specs.declared.part_name.PartName.{PartName}
use Rattle.ca_model.specs.machine.Parts.{next_part, part_of}
use Rattle.ca_model.specs.machine.World.{World, Name, Domain_of, Region_of, Window_of, Cq_of, Srq_of, Queue_of, Mailbox_of, Byte_at, Thing, get, opening_world}
use Rattle.ca_model_places.specs.Places.{place_of}

-- a value for each place that has one
abbrev pub Shown : Type 0
Shown = ℕ → Option PartValue

-- the value of a number in a hand, the first if there are two
abbrev pub at : List (ℕ × PartValue) → Shown
at [] k = None
at (x ∷ xs) k = if k == x.0 then Some x.1 else at xs k

-- the value at the place of a name
abbrev pub value_at : Configuration → Shown → PartName → Option PartValue
value_at c f name = option_and_then f (place_of c name)

-- the part of a name has a value
abbrev pub is_shown : Configuration → Shown → PartName → Bool
is_shown c f name = is_some (value_at c f name)

-- the world in which nothing stands
abbrev pub vacant_world : World
vacant_world = opening_world (λ p. 0)

-- the thing of a name, vacant where no value shows it
abbrev pub thing_shown : Configuration → Shown → (n : Name) → Thing n
thing_shown c f n = option_map_or (λ x. x) (option_and_then (thing_in n) (value_at c f (part_of n))) (get vacant_world n)

-- the small world of all values
abbrev pub world_shown : Configuration → Shown → World
world_shown c f = record {
  domain = λ d. thing_shown c f (Domain_of d);
  region = λ s. thing_shown c f (Region_of s);
  window = λ s. thing_shown c f (Window_of s);
  cq = λ s. thing_shown c f (Cq_of s);
  srq = λ s. thing_shown c f (Srq_of s);
  queue = λ q. thing_shown c f (Queue_of q);
  mailbox = λ q. thing_shown c f (Mailbox_of q);
  byte = λ p. thing_shown c f (Byte_at p);
}

-- the name of the part that is needed next, by what is shown
abbrev pub next_name : Configuration → Asked → Shown → Option PartName
next_name c asked f = next_part (is_shown c f) (world_shown c f) (asked_needs c asked)
