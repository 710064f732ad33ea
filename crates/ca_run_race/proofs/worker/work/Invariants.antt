use Rattle.ca_run_race.specs.Workers.{IsAtWork, IsSameWorker}
use Rattle.ca_script.specs.Script.{script_value}
use Rattle.ca_run_race.proofs.worker.work.Given as goal

-- it is at work, and is who it was
abbrev pub invariant-loop : goal.invariant-loop
invariant-loop g l = record {
  work : IsAtWork l.fabric (script_value l.script) l.worker;
  same : IsSameWorker l.initial.worker l.worker;
}
