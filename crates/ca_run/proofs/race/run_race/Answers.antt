use Rattle.std.proofs.Common.{◌∙◌, ap, inr}
use Rattle.ca_run.proofs.OutputLemmas.{race-output}
use Rattle.ca_run.proofs.StatusLemmas.{ended-told}
use Rattle.ca_run.specs.Status.{ended_as, status_of_end}
use Rattle.ca_script.specs.Script.{script_value}
use Rattle.ca_run_race.specs.ca_script_run.Statuses.{status_value}
use Rattle.ca_trace.specs.Trace.{text}
use Rattle.ca_run.proofs.race.run_race.Goals as goal

pub returns-in-Ok-write_history-clause-whole : goal.returns-in-Ok-write_history-clause-whole
returns-in-Ok-write_history-clause-whole g c = λ _. record {
  output = text c.in-Ok-race.worked.history;
  is = race-output _ _ c.from.result (script_value c.in-Ok.script) c.in-Ok-race.worked.history _ (status_value c.in-Ok-race.worked.status)
      (ap ended_as c.from.ensures ∙ ended-told (status_value c.in-Ok-race.worked.status)) c.in-Ok.ensures.read c.in-Ok-race.ensures.raced c.in-Ok-race.ensures.text;
  appended = c.in-Ok-write_history.ensures.ok;
}

pub returns-clause-part : goal.returns-clause-part
returns-clause-part g c = λ _. record {
  status = status_of_end (status_value c.in-Ok-race.worked.status);
  wrote = record {
    output = text c.in-Ok-race.worked.history;
    is = race-output _ _ _ (script_value c.in-Ok.script) c.in-Ok-race.worked.history _ (status_value c.in-Ok-race.worked.status) (ended-told (status_value c.in-Ok-race.worked.status))
        c.in-Ok.ensures.read c.in-Ok-race.ensures.raced c.in-Ok-race.ensures.text;
    appended = c.in-Err-write_history.ensures.err;
  };
}

pub returns-clause-memory : goal.returns-clause-memory
returns-clause-memory g c = λ _. inr (record {
  status = status_of_end (status_value c.in-Ok-race.worked.status);
  wrote = record {
    output = text c.in-Ok-race.worked.history;
    is = race-output _ _ _ (script_value c.in-Ok.script) c.in-Ok-race.worked.history _ (status_value c.in-Ok-race.worked.status) (ended-told (status_value c.in-Ok-race.worked.status))
        c.in-Ok.ensures.read c.in-Ok-race.ensures.raced c.in-Ok-race.ensures.text;
    appended = c.in-Err-write_history.ensures.err;
  };
})
