use Rattle.std.proofs.Common.{refl, suc}
use Rattle.ca_script.specs.Script.{script_value}
use Rattle.ca_verbs.specs.Passes.{settings_in}
use Rattle.ca_run_race.proofs.TryLemmas.{same-worker, turned}
use Rattle.ca_run_race.proofs.visits.visit_engine.Goals as goal

pub returns-in-Ok-clause-work : goal.returns-in-Ok-clause-work
returns-in-Ok-clause-work g c =
    let at = same-worker c.args.fabric.now (script_value c.args.script.now) c.args.worker.now c.ask.new.self c.ask.ensures.worker c.ask.ensures.work c.requires.work in
    turned c.args.fabric.now (script_value c.args.script.now) c.ask.new.self.number (suc c.ask.new.self.number) c.ask.new.self.workers c.ask.new.self.work at
    (record { pass = c.try_turn.new.pass; done = c.ask.new.self.work.done }) (settings_in c.args.fabric.now) c.args.turn c.in-Ok.ensures.made.0 c.in-Ok.field-0 refl c.in-Ok.ensures.of
    (c.is_workers.ensures c.if-not-is_workers.false) c.in-Ok.ensures.made.1
