use Rattle.ca_run_race.proofs.RaceLemmas.{raced}
use Rattle.ca_script.specs.Script.{script_value}
use Rattle.ca_run_race.proofs.race.race_script.Goals as goal

pub returns : goal.returns
returns g c = raced (script_value c.args.script.now) c.in_ok-progress.progress c.in_ok-progress.ensures c.finish_script.result c.finish_script.ensures.history c.finish_script.ensures.status
