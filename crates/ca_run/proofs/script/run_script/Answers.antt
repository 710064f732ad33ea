use Rattle.std.proofs.Common.{◌∙◌, ap, inr}
use Rattle.ca_run.proofs.OutputLemmas.{script-output, script-output-told}
use Rattle.ca_run.proofs.StatusLemmas.{ended-told}
use Rattle.ca_run.specs.Status.{ended_as, status_of_end}
use Rattle.ca_script.specs.Script.{script_value}
use Rattle.ca_run_race.specs.ca_script_run.Statuses.{status_value}
use Rattle.ca_trace.specs.Trace.{text}
use Rattle.ca_run.proofs.script.run_script.Goals as goal

pub returns-in-Ok-write_history-clause-whole : goal.returns-in-Ok-write_history-clause-whole
returns-in-Ok-write_history-clause-whole g c = λ _. record {
  output = text c.in-Ok-work.worked.history;
  is = script-output _ _ c.from.result (script_value c.in-Ok.script) _ (status_value c.in-Ok-work.worked.status) (ap ended_as c.from.ensures ∙ ended-told (status_value c.in-Ok-work.worked.status))
      c.in-Ok.ensures.read c.in-Ok-work.ensures.worked c.in-Ok-work.ensures.text;
  appended = c.in-Ok-write_history.ensures.ok;
}

pub returns-clause-part : goal.returns-clause-part
returns-clause-part g c = λ _. record {
  status = status_of_end (status_value c.in-Ok-work.worked.status);
  wrote = record {
    output = text c.in-Ok-work.worked.history;
    is = script-output-told _ _ (script_value c.in-Ok.script) _ (status_value c.in-Ok-work.worked.status) c.in-Ok.ensures.read c.in-Ok-work.ensures.worked c.in-Ok-work.ensures.text;
    appended = c.in-Err-write_history.ensures.err;
  };
}

pub returns-clause-memory : goal.returns-clause-memory
returns-clause-memory g c = λ _. inr (record {
  status = status_of_end (status_value c.in-Ok-work.worked.status);
  wrote = record {
    output = text c.in-Ok-work.worked.history;
    is = script-output-told _ _ (script_value c.in-Ok.script) _ (status_value c.in-Ok-work.worked.status) c.in-Ok.ensures.read c.in-Ok-work.ensures.worked c.in-Ok-work.ensures.text;
    appended = c.in-Err-write_history.ensures.err;
  };
})
