-- What the caller makes alone of what workers left. For proofs only.
use Rattle.std.proofs.Common.{◌≡◌, reverse, Result, Ok, Err, IfOk}
use Rattle.ca_keys.specs.declared.memory.Memory.{Memory}
use Rattle.ca_script_order.specs.OfScript as machine
use Rattle.ca_script_order.specs.Order.{Stage, ending_from}
use Rattle.ca_run_race.specs.Raced.{IsGathered, IsRaced}
use Rattle.ca_script.specs.Script.{ScriptValue}
use Rattle.ca_script_run.specs.Progress.{IsAt}
use Rattle.ca_script_run.specs.Statuses.{status_value}
use Rattle.ca_script_run.specs.declared.progress.Progress.{Progress}
use Rattle.ca_script_run.specs.declared.work.Worked.{Worked}

pub raced : (s : ScriptValue) (p : Progress) → IsGathered s p → (r : Result Worked Memory)
    → IfOk r (λ worked. (g : Stage) → IsAt s g p → worked.history ≡ reverse (ending_from s g).past)
    → IfOk r (λ worked. (g : Stage) → IsAt s g p → status_value worked.status ≡ machine.status_of s (ending_from s g))
    → IfOk r (λ worked. IsRaced s worked.history (status_value worked.status))
raced s p gathered (Ok worked) history status = record {
  stage = gathered.stage;
  reached = gathered.reached;
  history_is = history gathered.stage gathered.at;
  status_is = status gathered.stage gathered.at;
}
raced s p gathered (Err error) history status = record {}
