-- What is told of a script and of a group beside it. Contracts cite it.
use Rattle.std.specs.Prelude.{ℕ, List, ◌++◌}
use Rattle.ca_run_alone.specs.declared.lone.Lone.{Lone}
use Rattle.ca_run_alone.specs.declared.lone.Outcome.{Outcome}
use Rattle.ca_run_alone.specs.declared.lone.Outcome.TheVariants as outcomes
use Rattle.ca_model.specs.Entries.{EntryValue}
use Rattle.ca_script_order.specs.OfScript as machine
use Rattle.ca_run.specs.Status.{status_of_end}
use Rattle.ca_run.specs.declared.status.Status.{Status}
use Rattle.ca_run.specs.declared.status.Status.TheVariants as statuses
use Rattle.ca_run_race.specs.ca_script_run.Statuses.{status_value}
use Rattle.ca_trace.specs.Trace.{text}

-- the status where all is written
abbrev pub status_of_outcome : machine.Status → Outcome → Status
status_of_outcome ended (outcomes.NotClosed queue) = statuses.NotClosed queue
status_of_outcome ended (outcomes.Replies replies) = status_of_end ended

abbrev pub status_beside : Lone → Status
status_beside lone = status_of_outcome (status_value lone.status) lone.outcome

-- the text of a history, and what is written behind it
abbrev pub text_of_outcome : List EntryValue → Outcome → List ℕ
text_of_outcome es (outcomes.NotClosed queue) = text es
text_of_outcome es (outcomes.Replies replies) = text es ++ replies

abbrev pub text_beside : Lone → List ℕ
text_beside lone = text_of_outcome lone.history lone.outcome
