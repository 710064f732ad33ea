use Rattle.std.proofs.Common.{◌≤◌}
use Rattle.test_queues.proofs.tests.shared.a_drawn_run_is_that_of_plain_lists.Given as goal

-- at most as many receives were posted as there were calls
abbrev pub invariant-loop : goal.invariant-loop
invariant-loop g l = l.queue.next ≤ l.counter
