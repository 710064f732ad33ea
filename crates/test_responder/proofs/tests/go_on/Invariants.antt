use Rattle.test_fixture_responder.specs.Responder as responders
use Rattle.test_responder.proofs.tests.go_on.Given as goal

-- after each step what stands before a call stands
abbrev pub invariant-loop-line : goal.invariant-loop-line
invariant-loop-line g l =
    (goal.iterator-loop-line g).can_next l.line-iterator × (goal.iterator-loop-line g).is_finite l.line-iterator × responders.Stands l.r
