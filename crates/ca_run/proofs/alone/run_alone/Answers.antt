use Rattle.std.proofs.Common.{ap, inr}
use Rattle.ca_run.proofs.OutputLemmas.{lone-output}
use Rattle.ca_run.specs.Beside.{status_beside, text_beside}
use Rattle.ca_run.specs.Status.{is_whole}
use Rattle.ca_script.specs.Script.{script_value}
use Rattle.ca_run_race.specs.ca_script_run.Statuses.{status_value}
use Rattle.ca_run.proofs.alone.run_alone.Goals as goal

pub returns-in-Ok-work_beside-clause-part : goal.returns-in-Ok-work_beside-clause-part
returns-in-Ok-work_beside-clause-part g c = λ fault. record {
  status = status_beside c.in-Ok-work_beside.lone;
  wrote = record {
    output = text_beside c.in-Ok-work_beside.lone;
    is = lone-output c.args.group.now _ _ (script_value c.in-Ok.script) c.in-Ok-work_beside.lone.history (status_value c.in-Ok-work_beside.lone.status) c.in-Ok-work_beside.lone.outcome
        c.in-Ok.ensures.read c.in-Ok-work_beside.ensures.worked c.in-Ok-work_beside.ensures.text c.in-Ok-work_beside.ensures.outcome;
    appended = c.write_lone.ensures.part (ap is_whole fault);
  };
}

pub returns-in-Ok-work_beside-clause-memory : goal.returns-in-Ok-work_beside-clause-memory
returns-in-Ok-work_beside-clause-memory g c = λ memory. inr (record {
  status = status_beside c.in-Ok-work_beside.lone;
  wrote = record {
    output = text_beside c.in-Ok-work_beside.lone;
    is = lone-output c.args.group.now _ _ (script_value c.in-Ok.script) c.in-Ok-work_beside.lone.history (status_value c.in-Ok-work_beside.lone.status) c.in-Ok-work_beside.lone.outcome
        c.in-Ok.ensures.read c.in-Ok-work_beside.ensures.worked c.in-Ok-work_beside.ensures.text c.in-Ok-work_beside.ensures.outcome;
    appended = c.write_lone.ensures.part (ap is_whole memory);
  };
})
