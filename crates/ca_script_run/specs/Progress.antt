-- How far a script is worked, as the code keeps it. Contracts cite it.
use Rattle.std.specs.Prelude.{◌≡◌, ℕ, if◌then◌else◌, List, [], ◌∷◌, length, drop, reverse, Result, Ok, Err}
use Rattle.ca_engine.specs.declared.outcome.Outcome.{Outcome}
use Rattle.ca_engine.specs.declared.outcome.Outcome.TheVariants as outcomes
use Rattle.ca_engine.specs.Loop.{outcome_of}
use Rattle.ca_keys.specs.declared.memory.Memory.{Memory}
use Rattle.ca_model.specs.declared.event.Event.{Event}
use Rattle.ca_script_order.specs.Order.{Stage, after_event, after_visit, at_round}
use Rattle.ca_script_order.specs.Visits.{Visit}
use Rattle.ca_adapter_store.specs.Hand.{names_of}
use Rattle.ca_adapter_store.specs.Rest.{KeepsRow}
use Rattle.ca_adapter_store.specs.Rows.{IsRowOf}
use Rattle.ca_adapter_store.specs.declared.row.Row.{Row}
use Rattle.ca_script.specs.Script.{ScriptValue}
use Rattle.ca_script_lines.specs.declared.what.Line.{Line}
use Rattle.ca_script_run.specs.declared.progress.Progress.{Progress}

-- the lines of each consumer behind as many as it has done
abbrev pub lines_behind : List (List Line) → List ℕ → List (List Line)
lines_behind (lines ∷ more) (n ∷ ns) = drop n lines ∷ lines_behind more ns
lines_behind consumers done = []

-- What is kept is of a stage: the row stands for its world, after as many events as entries, which are its past; and of
-- each consumer the lines are left behind those that it has done.
pub record IsAt (s : ScriptValue) (g : Stage) (p : Progress) : Type 0 where
  pub row : IsRowOf s.config g.world p.row
  pub count : p.row.count ≡ g.count
  pub numbered : length g.past ≡ g.count
  pub past : p.history ≡ reverse g.past
  pub left : g.left ≡ lines_behind s.consumers p.done.items

-- what is kept is of some stage of this script
pub record IsUnderWayOn (s : ScriptValue) (p : Progress) : Type 0 where
  pub stage : Stage
  pub at : IsAt s stage p

-- what is kept is of some stage of some script
pub record IsUnderWay (p : Progress) : Type 0 where
  pub script : ScriptValue
  pub stage : Stage
  pub at : IsAt script stage p

-- what is told of an event, by the stages before and after it
abbrev pub told_of : Stage → Stage → Outcome
told_of before after = if after.happened then outcomes.Did else outcomes.NotReady before.count

-- an event was made where it is possible, and this is told of it; where memory ended nothing is said
abbrev pub IsTried : ScriptValue → Event → Stage → Progress → Result Outcome Memory → Type 0
IsTried s event g p (Ok outcome) =
    IsAt s (after_event s event (λ h. h) (at_round g)) p
    × (outcome ≡ told_of g (after_event s event (λ h. h) (at_round g)))
IsTried s event g p (Err error) = Unit {0}

-- what an event leaves of a row: all but the parts that it had in hand, or all where it is not possible; where memory ended
-- nothing is said
abbrev pub IsLeftBy : Result Outcome Memory → Row → Row → Type 0
IsLeftBy (Ok outcomes.Did) old new = KeepsRow (names_of new.taken.items) old new
IsLeftBy (Ok outcome) old new = KeepsRow [] old new
IsLeftBy (Err error) old new = Unit {0}

-- a visit was made as the order has it, and this came of it; where memory ended nothing is said
abbrev pub IsVisited : ScriptValue → Visit → Stage → Progress → Result Outcome Memory → Type 0
IsVisited s v g p (Ok outcome) =
    IsAt s (after_visit s v (at_round g)) p × (outcome ≡ outcome_of v g (after_visit s v (at_round g)))
IsVisited s v g p (Err error) = Unit {0}
