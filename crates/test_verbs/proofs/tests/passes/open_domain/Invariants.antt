use Rattle.test_fixture_fabric.specs.ca_verbs.Passes.{IsOf}
use Rattle.test_verbs.proofs.tests.passes.open_domain.Given as goal

abbrev pub invariant-loop : goal.invariant-loop
invariant-loop l = IsOf l.fabric l.pass
