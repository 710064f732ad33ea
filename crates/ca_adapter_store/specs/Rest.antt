-- What an event leaves as it was: all that is at parts which were not in hand. Contracts cite it.
use Rattle.std.specs.Prelude.{◌≡◌, false, List, [], Result, Ok, Err}
use Rattle.ca_base.specs.Configuration.{Configuration}
use Rattle.ca_base.specs.declared.step.ActError.{ActError}
use Rattle.ca_keys.specs.declared.names.QueueId.{QueueId}
use Rattle.ca_model.specs.Marks.{MarkList}
use Rattle.ca_model.specs.declared.part_name.PartName.{PartName}
use Rattle.ca_model.specs.declared.part_name.PartName.TheVariants as names
use Rattle.ca_model.specs.machine.Parts.{is_held, part_of}
use Rattle.ca_model.specs.machine.Plan.{Did, Outcome}
use Rattle.ca_model.specs.machine.World.{Name, World, get}
use Rattle.ca_adapter_store.specs.Hand.{names_of}
use Rattle.ca_adapter_store.specs.Rows.{IsRowOf}
use Rattle.ca_adapter_store.specs.declared.hand.Taken.{Taken}
use Rattle.ca_adapter_store.specs.declared.row.Row.{Row}

-- where an event was made, the world after it has all of the world before it that is at none of these parts
abbrev pub LeavesRest : Result MarkList ActError → Outcome → World → List PartName → Type 0
LeavesRest (Ok m) (Did v ms) w held = (n : Name) → is_held held (part_of n) ≡ false → get v n ≡ get w n
LeavesRest result outcome w held = Unit {0}

-- the parts that an event may have changed: those that were in hand, where it was made
abbrev pub names_changed : Result MarkList ActError → List Taken → List PartName
names_changed (Ok m) taken = names_of taken
names_changed (Err error) taken = []

-- a world has the queue pairs and the mailboxes of another but for these parts
pub record KeepsRest (changed : List PartName) (w v : World) : Type 0 where
  pub queue : (q : QueueId) → is_held changed (names.Queue q) ≡ false → v.queue q ≡ w.queue q
  pub mailbox : (q : QueueId) → is_held changed (names.Mailbox q) ≡ false → v.mailbox q ≡ w.mailbox q

-- so do the worlds for which two rows stand
abbrev pub KeepsRow : List PartName → Row → Row → Type 0
KeepsRow changed old new = (c : Configuration) (w v : World) → IsRowOf c w old → IsRowOf c v new → KeepsRest changed w v
