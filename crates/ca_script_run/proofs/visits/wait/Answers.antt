use Rattle.std.proofs.Common.{arith}
use Rattle.ca_script_run.proofs.VisitLemmas.{clock_passed}
use Rattle.ca_script_run.proofs.visits.wait.Goals as goal

pub returns-then-clock-now-clause-visited : goal.returns-then-clock-now-clause-visited
returns-then-clock-now-clause-visited c = λ s g line rest at stands what.
    clock_passed s g c.args.consumer line rest stands c.args.clock what c.args.progress.now at c.pass_line.new.done
    (omega (arith, c.if-clock-now.true, c.from-now.ensures)) c.pass_line.ensures
