-- Stores that are put one after another for what writes leave in covered bytes. Contracts of the crate's own functions
-- cite it.
use Rattle.std.specs.Prelude.{◌≡◌, ℕ, Bool, false, List, [], ◌∷◌, ◌++◌, map, Option, None, Some}
use Rattle.std.specs.List.{flat_map}
use Rattle.ca_isolation.specs.Alone.{Cell, entries_instead, goes_on, store_event, stretches_of, stretches_of_write}
use Rattle.ca_isolation.specs.declared.stretch.Stretch.{Stretch}
use Rattle.ca_isolation.specs.Groups.{Group}
use Rattle.ca_keys.specs.declared.grant.Grant.{Grant}
use Rattle.ca_keys.specs.declared.place.Place.{Place}
use Rattle.ca_isolation.specs.InForce.{AreInForce}
use Rattle.ca_isolation.specs.declared.stores.Stores.{Stores}
use Rattle.ca_model.specs.Entries.{EntryValue}
use Rattle.ca_model.specs.Past.{Past}
use Rattle.ca_model.specs.declared.event.Event.{Event}
use Rattle.ca_model.specs.machine.Plan.{Write}

-- the events, with the Stores of the stretches among cells that come behind the one that is open
abbrev pub events_with : (Place → Bool) → List Cell → Stores → List Event
events_with cover xs s = s.events.items ++ map store_event (stretches_of cover xs s.front)

-- cells were put: whatever cells come behind them, the events are the same
abbrev pub HasPut : (Place → Bool) → List Cell → Stores → Stores → Type 0
HasPut cover xs old new = (ys : List Cell) → events_with cover ys new ≡ events_with cover (xs ++ ys) old

-- the stretch that is open, if one is
abbrev pub list_of : Option Stretch → List Stretch
list_of None = []
list_of (Some s) = s ∷ []

-- the stretches of covered bytes of writes, in order
abbrev pub stretches_of_writes : (Place → Bool) → List Write → List Stretch
stretches_of_writes cover xs = flat_map (stretches_of_write cover) xs

-- the place stands right behind the stretch that is open
abbrev pub goes_on_at : Option Stretch → Place → Bool
goes_on_at None at = false
goes_on_at (Some s) at = goes_on s (record { place = at; byte = 0 })

-- the stretch that is open, with more bytes
abbrev pub longer : Option Stretch → List ℕ → Option Stretch
longer None bytes = None
longer (Some s) bytes = Some (record s { bytes = s.bytes ++ bytes })

-- these stretches were stored, and none is open
pub record HasStored (ss : List Stretch) (old new : Stores) : Type 0 where
  pub events : new.events.items ≡ old.events.items ++ map store_event ss
  pub front : new.front ≡ None

-- the events that stand in the lone run in the place of an entry
abbrev pub events_instead : Group → (Place → Bool) → Past → EntryValue → List Event
events_instead group cover past e = map (λ x. x.event) (entries_instead group cover past e)

-- What comes of a list in a past was put behind other events, none is open, and the grants in force are those after it.
pub record HasFollowed (told : List Event) (after : Past) (old new : Stores) (grants : List Grant) : Type 0 where
  pub events : new.events.items ≡ old.events.items ++ told
  pub front : new.front ≡ None
  pub in_force : AreInForce grants after
