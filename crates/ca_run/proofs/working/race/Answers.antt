use Rattle.std.proofs.Common.{arith, subst, sym}
use Rattle.ca_keys.specs.Memory.{zeros}
use Rattle.ca_model.specs.machine.Run.{Follows}
use Rattle.ca_script_order.specs.OfScript as machine
use Rattle.ca_script_order.specs.Order.{ending_from, most_rounds}
use Rattle.ca_script.specs.Script.{script_value}
use Rattle.ca_run.proofs.working.race.Goals as goal

pub race_script-requires-clause-workable : goal.race_script-requires-clause-workable
race_script-requires-clause-workable g c κs within = c.can_be_worked.ensures c.requires.means.0 (script_value c.args.script) c.requires.means.1

pub returns-clause-raced : goal.returns-clause-raced
returns-clause-raced g c =
    let s = script_value c.args.script in
    let raced = c.in_ok-worked.ensures in
    let end = ending_from s raced.stage in
    record {
      end = end;
      lawful = c.histories_of_scripts_are_lawful.ensures s c.in_ok-worked.worked.history end
          (record {
            limited = c.texts_mean_limited_scripts.ensures.limits c.requires.means.0 s c.requires.means.1;
            callable = c.texts_mean_limited_scripts.ensures.verbs c.requires.means.0 s c.requires.means.1;
          })
          c.is_history.ensures
          (subst (Follows s.config zeros) (sym raced.history_is) (c.rounds_follow_the_machine.ensures s (most_rounds s) raced.stage raced.reached.follows raced.reached.leads))
          (subst (λ es. machine.LeadsTo s es end) (sym raced.history_is) (c.rounds_are_of_their_scripts.ensures.leads s (most_rounds s) raced.stage raced.reached.leads));
      status = subst (machine.HasStatus s end) (sym raced.status_is)
          (c.stages_have_their_status.ensures.status s end (c.rounds_end.ensures s (most_rounds s) raced.stage raced.reached.lines (omega arith)));
    }
