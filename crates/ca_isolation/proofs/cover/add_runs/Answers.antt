use Rattle.std.proofs.Common.{arith}
use Rattle.ca_keys.specs.Memory.{is_in}
use Rattle.ca_isolation.proofs.CoverLemmas.{adds-last, adds-step, run-there, run_at}
use Rattle.ca_isolation.proofs.cover.add_runs.Goals as goal
use Rattle.ca_isolation.specs.Cover.{EndsInReach}

pub loop-run-preserved : goal.loop-run-preserved
loop-run-preserved c = λ new rest. c.loop-run.invariant new (adds-step EndsInReach is_in c.args.runs.now c.loop-run.run-index (run_at c.args.runs.now c.loop-run.run-index)
    c.loop-run.cover.items c.add_run.new.cover.items new c.loop-run-test.true (run-there c.args.runs.now c.loop-run.run-index c.loop-run-test.true) c.in_ok-add_run.ensures rest)

pub returns : goal.returns
returns c = c.loop-run.invariant _ (adds-last EndsInReach is_in c.args.runs.now c.loop-run.run-index _ (omega arith))
