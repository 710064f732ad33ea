use Rattle.std.proofs.Common.{◌≡◌, ◌≤◌, length}
use Rattle.test_objects.proofs.cq_tests.drawn.a_drawn_run_is_that_of_a_plain_list.Given as goal

-- no more completions wait than the capacity
abbrev pub invariant-loop : goal.invariant-loop
invariant-loop g l = (l.queue.capacity ≡ 7) × (length l.queue.waiting ≤ 7)
