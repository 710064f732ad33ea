use Rattle.std.proofs.Common.{subst}
use Rattle.ca_outside.specs.Outside.{AppendsPart}
use Rattle.ca_run.proofs.StatusLemmas.{ended-told}
use Rattle.ca_run.specs.Status.{status_of_end}
use Rattle.ca_run_race.specs.ca_script_run.Statuses.{status_value}
use Rattle.ca_run.proofs.make.run_make.Goals as goal

pub returns-clause-part : goal.returns-clause-part
returns-clause-part g c = λ _ left left'. record {
  status = status_of_end (status_value c.in-Ok.made.ended);
  wrote = record {
    output = c.in-Ok.made.text.items;
    is = record {
      ended = status_value c.in-Ok.made.ended;
      is = ended-told (status_value c.in-Ok.made.ended);
      worked = c.in-Ok.ensures.worked;
      whole = c.in-Ok.ensures.text;
    };
    appended = subst (AppendsPart (g.K.Sink.held c.args.sink.now) (g.K.Sink.held c.write_all.new.sink)) c.deref.ensures.value c.in-Err.ensures.err;
  };
}
