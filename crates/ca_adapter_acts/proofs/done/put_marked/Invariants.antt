use Rattle.std.proofs.Common.{◌≡◌, ◌+◌, ◌≤◌, drop, length}
use Rattle.ca_base.specs.objects.CompletionQueue.{after_puts}
use Rattle.ca_adapter_acts.specs.Outlets.{completions_by}
use Rattle.ca_adapter_acts.proofs.done.put_marked.Given as goal

-- what the marks from this place on complete fits, and makes of the queue what all marks make of it
abbrev pub invariant-loop-mark : goal.invariant-loop-mark
invariant-loop-mark l =
    (length l.cq.waiting + length (completions_by l.to l.number (drop l.mark-index l.marks)) ≤ l.cq.capacity)
    × (after_puts (completions_by l.to l.number (drop l.mark-index l.marks)) l.cq ≡ after_puts (completions_by l.to l.number l.marks) l.fn.cq)
