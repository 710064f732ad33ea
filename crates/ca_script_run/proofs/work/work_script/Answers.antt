use Rattle.std.proofs.Common.{subst, sym}
use Rattle.ca_script_order.specs.Order.{opening_stage}
use Rattle.ca_script.specs.Script.{script_value}
use Rattle.ca_script_run.proofs.OpenLemmas.{opened_at, opened_history, opened_row, opened_status}
use Rattle.ca_script_run.specs.Working.{IsWorkable}
use Rattle.ca_script_run.proofs.work.work_script.Goals as goal

pub finish_script-requires-clause-workable : goal.finish_script-requires-clause-workable
finish_script-requires-clause-workable c = subst IsWorkable (sym c.in_ok-script.ensures.script) c.requires

pub finish_script-requires-clause-under_way : goal.finish_script-requires-clause-under_way
finish_script-requires-clause-under_way c = record {
  stage = opening_stage (script_value c.in_ok-script.script);
  at = opened_at (script_value c.in_ok-script.script) (script_value c.args.script) c.in_ok-script.ensures.script c.in_ok-script.progress c.in_ok-script.ensures.progress;
}

pub returns-clause-history : goal.returns-clause-history
returns-clause-history c =
    opened_history (script_value c.in_ok-script.script) (script_value c.args.script) c.in_ok-script.ensures.script c.in_ok-script.progress c.in_ok-script.ensures.progress
    c.finish_script.result c.finish_script.ensures.history

pub returns-clause-status : goal.returns-clause-status
returns-clause-status c =
    opened_status (script_value c.in_ok-script.script) (script_value c.args.script) c.in_ok-script.ensures.script c.in_ok-script.progress c.in_ok-script.ensures.progress
    c.finish_script.result c.finish_script.ensures.status

pub returns-clause-row : goal.returns-clause-row
returns-clause-row c =
    opened_row (script_value c.in_ok-script.script) (script_value c.args.script) c.in_ok-script.ensures.script c.in_ok-script.progress c.in_ok-script.ensures.progress
    c.finish_script.result c.finish_script.ensures.row
