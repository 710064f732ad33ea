use Rattle.std.proofs.Common.{◌≡◌, drop}
use Rattle.ca_script_order.specs.OfScript.{stalled_from}
use Rattle.ca_script_run.specs.Progress.{lines_behind}
use Rattle.ca_script_run.proofs.status.stalled.Given as goal

-- each consumer before this one is at its end
abbrev pub invariant-loop-consumer : goal.invariant-loop-consumer
invariant-loop-consumer l =
    stalled_from l.count 0 (lines_behind l.consumers l.done) ≡ stalled_from l.count l.consumer (lines_behind (drop l.consumer l.consumers) (drop l.consumer l.done))
