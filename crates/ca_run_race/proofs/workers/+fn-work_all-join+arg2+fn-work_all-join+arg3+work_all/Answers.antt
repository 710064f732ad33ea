use Rattle.std.proofs.Common.{arith}
use Rattle.std.proofs.lemmas.Result.{IfOk-at_ok}
use Rattle.ca_run_race.specs.Workers.{IsWorkOf}
use Rattle.ca_script.specs.Script.{script_value}
use Rattle.ca_run_race.proofs.workers.+fn-work_all-join+arg2+fn-work_all-join+arg3+work_all.Goals as goal

pub returns : goal.returns
returns g t c =
    let f = c.args.fabric.now in
    let s = script_value c.args.script.now in
    c.merge.ensures s c.args.team.first _ c.args.team.end c.args.team.workers (omega arith) (omega (arith, c.requires.some))
    (IfOk-at_ok (λ work. IsWorkOf f s c.args.team.first _ c.args.team.workers work) {r = c.join-lower.result.0} c.in_ok-lower.was c.join-lower.ensures.first)
    (IfOk-at_ok (λ work. IsWorkOf f s _ c.args.team.end c.args.team.workers work) {r = c.join-lower.result.1} c.in_ok-upper.was c.join-lower.ensures.second)
