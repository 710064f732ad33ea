use Rattle.std.proofs.KnownBytes.{Appends-trans}
use Rattle.ca_trace_output.proofs.WrittenLemmas.{on-err, part-behind, part-of-front}
use Rattle.ca_trace_output.proofs.history.write_history_with.Goals as goal

pub returns-in_err-write_history-clause-err : goal.returns-in_err-write_history-clause-err
returns-in_err-write_history-clause-err g c = on-err _ (part-of-front _ _ _ _ c.in_err-write_history.ensures.err)

pub returns-in_err-write_all-clause-err : goal.returns-in_err-write_all-clause-err
returns-in_err-write_all-clause-err g c = on-err _ (part-behind _ _ _ _ _ c.in_ok-write_history.ensures.ok c.in_err-write_all.ensures.err)

pub returns-clause-ok : goal.returns-clause-ok
returns-clause-ok g c = Appends-trans _ _ _ _ _ c.in_ok-write_history.ensures.ok c.in_ok-write_all.ensures.ok
