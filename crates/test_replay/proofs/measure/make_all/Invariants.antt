use Rattle.ca_adapter_store.specs.Rows.{IsRow}
use Rattle.test_replay.proofs.measure.make_all.Given as goal

abbrev pub invariant-loop-event : goal.invariant-loop-event
invariant-loop-event l = IsRow l.row
