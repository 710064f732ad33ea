use Rattle.std.proofs.Common.{◌≤◌}
use Rattle.ca_base.specs.objects.WorkQueue.{next_place}
use Rattle.test_queues.proofs.tests.work.a_drawn_run_is_that_of_a_plain_list.Given as goal

-- at most as many requests were posted as there were calls
abbrev pub invariant-loop : goal.invariant-loop
invariant-loop g l = next_place l.queue ≤ l.counter
