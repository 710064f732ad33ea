use Rattle.std.proofs.Common.{◌≡◌, ◌∙◌, ap, length, replicate, rules, suc}
use Rattle.ca_script.specs.Script.{script_value}
use Rattle.ca_run_race.proofs.TryLemmas.{begun-work}
use Rattle.ca_run_race.proofs.worker.Worker.begin.Goals as goal

pub returns-clause-work : goal.returns-clause-work
returns-clause-work c = λ fabric of none.
    let e : c.in_ok-done.done.items ≡ replicate (length c.as_slice.result.now) 0 = search rules in
    begun-work fabric (script_value c.args.script.now) c.args.number (suc c.args.number) c.args.workers (record { pass = c.args.pass; done = c.in_ok-done.done }) of none
    (e ∙ ap (λ xs. replicate (length xs) 0) c.as_slice.ensures)
