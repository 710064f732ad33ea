use Rattle.ca_parts.specs.Rows.{IsPassOf}
use Rattle.test_parts.proofs.tests.the_first_pass_splits_thirty_two_times.Given as goal

abbrev pub invariant-loop-split : goal.invariant-loop-split
invariant-loop-split g l = IsPassOf l.parts l.first
