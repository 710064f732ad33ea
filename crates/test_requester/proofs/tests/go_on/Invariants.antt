use Rattle.test_fixture_requester.specs.Bed as beds
use Rattle.test_requester.proofs.tests.go_on.Given as goal

-- after each step the queue pair is one that comes up
abbrev pub invariant-loop-line : goal.invariant-loop-line
invariant-loop-line g l =
    (goal.iterator-loop-line g).can_next l.line-iterator × (goal.iterator-loop-line g).is_finite l.line-iterator × beds.Stands l.bed
