-- Where a list of events stands that is made one after another. Contracts of the crate's own functions cite it.
use Rattle.std.specs.Prelude.{◌≡◌, ℕ, ◌+◌, List, [], ◌∷◌, length}
use Rattle.std.specs.List.{AllByRecursion}
use Rattle.ca_base.specs.Configuration.{Configuration}
use Rattle.ca_model.specs.Marks.{MarkList}
use Rattle.ca_model.specs.declared.event.Event.{Event}
use Rattle.ca_model.specs.declared.mark.Mark.{Mark}
use Rattle.ca_model.specs.machine.Run.{Ran, run_from, with_marks}
use Rattle.ca_model.specs.machine.Sound.{CanBeMade}
use Rattle.ca_model.specs.machine.World.{World}
use Rattle.ca_adapter_store.specs.declared.row.Row.{Row}
use Rattle.ca_adapter_store.specs.Replays.{marks_of_each}
use Rattle.ca_adapter_store.specs.Rows.{IsRow, IsRowOf}

-- the marks of events before those of what comes
abbrev pub marks_before : List (List Mark) → Ran → Ran
marks_before [] ran = ran
marks_before (ms ∷ more) ran = with_marks ms (marks_before more ran)

-- A row stands for the world in which so many events are made from a world on, with these marks, and the rest are to come.
pub record RunsOn (c : Configuration) (w : World) (n : ℕ) (events : List Event) (row : Row) (all : List MarkList) (rest : List Event) : Type 0 where
  pub world : World
  pub of : IsRowOf c world row
  pub runs : run_from c n w events ≡ marks_before (marks_of_each all) (run_from c row.count world rest)

-- Of the events, which began on a row, the rest are to come; the others have these marks.
pub record IsReplaying (old : Row) (events : List Event) (row : Row) (all : List MarkList) (rest : List Event) : Type 0 where
  pub stands : IsRow row
  pub count : row.count + length rest ≡ old.count + length events
  pub made : AllByRecursion CanBeMade rest → AllByRecursion CanBeMade events
  pub runs : (c : Configuration) (w : World) → IsRowOf c w old → RunsOn c w old.count events row all rest
