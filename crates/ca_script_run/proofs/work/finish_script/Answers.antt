use Rattle.std.proofs.Common.{◌∙◌}
use Rattle.ca_script.specs.Script.{script_value}
use Rattle.ca_script_run.proofs.WorkLemmas.{worked_history, worked_row, worked_status}
use Rattle.ca_script_run.specs.Working.{work_at}
use Rattle.ca_script_run.proofs.work.finish_script.Goals as goal

pub returns-clause-history : goal.returns-clause-history
returns-clause-history c = λ g at. worked_history (script_value c.args.script.now) g c.args.progress c.work_on.new.progress at (c.in_ok-work_on.ensures g at)

pub returns-clause-status : goal.returns-clause-status
returns-clause-status c = λ g at.
    c.status_of-status.ensures (work_at (script_value c.args.script.now) g (c.in_ok-work_on.ensures g at).offers).stage (c.in_ok-work_on.ensures g at).at
    ∙ worked_status (script_value c.args.script.now) g c.args.progress c.work_on.new.progress at (c.in_ok-work_on.ensures g at)

pub returns-clause-row : goal.returns-clause-row
returns-clause-row c = λ g at. worked_row (script_value c.args.script.now) g c.args.progress c.work_on.new.progress at (c.in_ok-work_on.ensures g at)
