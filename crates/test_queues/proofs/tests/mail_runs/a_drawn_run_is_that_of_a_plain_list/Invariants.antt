use Rattle.std.proofs.Common.{◌≤◌}
use Rattle.test_queues.specs.Delivered.{most_delivered}
use Rattle.test_queues.proofs.tests.mail_runs.a_drawn_run_is_that_of_a_plain_list.Given as goal

-- at most as many packets were sent as there were calls, and none was delivered more often
abbrev pub invariant-loop : goal.invariant-loop
invariant-loop g l = (l.mailbox.next ≤ l.counter) × (most_delivered l.mailbox.envelopes ≤ l.counter)
