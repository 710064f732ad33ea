use Rattle.ca_script_order.specs.Order.{Stage}
use Rattle.ca_script.specs.Script.{script_value}
use Rattle.ca_script_run.specs.Progress.{IsAt}
use Rattle.ca_script_run.specs.Working.{IsWorkingOn}
use Rattle.ca_script_run.proofs.work.work_on.Given as goal

-- at least so many offers were taken, from whichever stage what was kept is of
abbrev pub invariant-loop : goal.invariant-loop
invariant-loop l = (g : Stage) → IsAt (script_value l.script) g l.initial.progress
    → IsWorkingOn (script_value l.script) g l.counter l.engine l.progress l.known
