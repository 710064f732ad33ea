use Rattle.test_fixture_fabric.specs.ca_verbs.Passes.{IsOf}
use Rattle.test_verbs.proofs.tests.numbers.consume.Given as goal

abbrev pub invariant-loop : goal.invariant-loop
invariant-loop g l = IsOf l.fabric l.pass
