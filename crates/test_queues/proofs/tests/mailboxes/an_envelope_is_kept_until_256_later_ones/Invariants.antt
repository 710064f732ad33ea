use Rattle.std.proofs.Common.{◌≤◌}
use Rattle.test_queues.proofs.tests.mailboxes.an_envelope_is_kept_until_256_later_ones.Given as goal

-- at most as many packets were sent as there were calls
abbrev pub invariant-loop : goal.invariant-loop
invariant-loop g l = l.mailbox.next ≤ l.counter
