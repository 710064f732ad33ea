use Rattle.ca_adapter_store.specs.Rows.{IsRow}
use Rattle.test_adapter.proofs.tests.goes_on.Given as goal

abbrev pub invariant-loop-line : goal.invariant-loop-line
invariant-loop-line g l = IsRow l.row
