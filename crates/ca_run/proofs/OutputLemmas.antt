-- The outputs of commands. For proofs only.
use Rattle.std.proofs.Common.{◌≡◌, ◌++◌, ℕ, List, Option, Some, ap}
use Rattle.ca_run_alone.specs.Lone.{IsOutcome}
use Rattle.ca_run_alone.specs.declared.lone.Outcome.{Outcome}
use Rattle.ca_run_alone.specs.declared.lone.Outcome.TheVariants as outcomes
use Rattle.ca_isolation.specs.Groups.{group_of}
use Rattle.ca_keys.specs.declared.names.DomainId.{DomainId}
use Rattle.ca_model.specs.Entries.{EntryValue}
use Rattle.ca_script_order.specs.OfScript as machine
use Rattle.ca_script_order.specs.Order.{order}
use Rattle.ca_run.proofs.StatusLemmas.{ended-told}
use Rattle.ca_run.specs.Beside.{status_of_outcome, text_of_outcome}
use Rattle.ca_run.specs.Run.{IsClosedOutput, IsLoneOutput, IsRaceOutput, IsRaced, IsRead, IsScriptOutput, IsTextOf, IsWorked}
use Rattle.ca_run.specs.Status.{ended_as, status_of_end}
use Rattle.ca_run.specs.declared.status.Status.{Status}
use Rattle.ca_script.specs.Script.{ScriptValue}
use Rattle.ca_trace.specs.Trace.{text}

-- what a script that was read and worked comes to
pub script-output : (left left' : Option (List ℕ)) (status : Status) (s : ScriptValue) (output : List ℕ) (ended : machine.Status) → ended_as status ≡ Some ended
    → IsRead left left' s → IsWorked s ended → IsTextOf output (order s) → IsScriptOutput left left' status output
script-output left left' status s output ended is read worked told = record { script = s; ended = ended; is = is; read = read; worked = worked; text = told }

pub script-output-told : (left left' : Option (List ℕ)) (s : ScriptValue) (output : List ℕ) (ended : machine.Status)
    → IsRead left left' s → IsWorked s ended → IsTextOf output (order s) → IsScriptOutput left left' (status_of_end ended) output
script-output-told left left' s output ended read worked told = script-output left left' (status_of_end ended) s output ended (ended-told ended) read worked told

-- what a script that was read and raced comes to
pub race-output : (left left' : Option (List ℕ)) (status : Status) (s : ScriptValue) (es : List EntryValue) (output : List ℕ) (ended : machine.Status) → ended_as status ≡ Some ended
    → IsRead left left' s → IsRaced s es ended → IsTextOf output es → IsRaceOutput left left' status output
race-output left left' status s es output ended is read raced told = record { script = s; ended = ended; is = is; read = read; history = es; raced = raced; text = told }

-- where a group is closed, the status is that of the script
closed-output : (group : List DomainId) (left left' : Option (List ℕ)) (ended : machine.Status) (output : List ℕ)
    → IsClosedOutput group left left' (status_of_end ended) output → IsLoneOutput group left left' (status_of_end ended) output
closed-output group left left' machine.Fine output is = is
closed-output group left left' (machine.Stalled consumer line) output is = is
closed-output group left left' (machine.BudgetSpent count) output is = is

-- what a script and a group beside it come to
pub lone-output : (group : List DomainId) (left left' : Option (List ℕ)) (s : ScriptValue) (history : List EntryValue) (ended : machine.Status) (outcome : Outcome)
    → IsRead left left' s → IsWorked s ended → IsTextOf (text history) (order s) → IsOutcome s.config (group_of group) (order s) outcome
    → IsLoneOutput group left left' (status_of_outcome ended outcome) (text_of_outcome history outcome)
lone-output group left left' s history ended (outcomes.NotClosed queue) read worked told stray =
    record { script = s; ended = ended; read = read; worked = worked; stray = stray; text = told }
lone-output group left left' s history ended (outcomes.Replies replies) read worked told lone = closed-output group left left' ended (text history ++ replies) (record {
  script = s;
  ended = ended;
  is = ended-told ended;
  read = read;
  worked = worked;
  replies = replies;
  lone = lone;
  whole = ap (λ ts. ts ++ replies) told.whole;
})
