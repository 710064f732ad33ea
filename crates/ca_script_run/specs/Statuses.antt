-- What contracts see of a status. Contracts cite it.
use Rattle.std.specs.Prelude.{ℕ, List, [], ◌∷◌, Option, None, Some}
use Rattle.ca_script_order.specs.OfScript as machine
use Rattle.ca_script_lines.specs.declared.what.Line.{Line}
use Rattle.ca_script_run.specs.declared.status.Status.{Status}
use Rattle.ca_script_run.specs.declared.status.Status.TheVariants as statuses

-- the status of a script
abbrev pub status_value : Status → machine.Status
status_value statuses.Fine = machine.Fine
status_value (statuses.Stalled consumer line) = machine.Stalled consumer line
status_value (statuses.BudgetSpent count) = machine.BudgetSpent count

-- the number of the first line, if there is one
abbrev pub number_awaited : List Line → Option ℕ
number_awaited [] = None
number_awaited (line ∷ rest) = Some line.number
