use Rattle.std.proofs.Common.{◌≤◌}
use Rattle.test_queues.proofs.tests.mailboxes.a_128th_packet_has_room_and_the_next_has_none.Given as goal

-- at most as many packets were sent as there were calls
abbrev pub invariant-loop-index : goal.invariant-loop-index
invariant-loop-index g l = l.mailbox.next ≤ l.index
