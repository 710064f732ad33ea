-- Completions that fit in a completion queue. Contracts cite it.
use Rattle.std.specs.Prelude.{◌≡◌, ◌+◌, ◌≤◌, List, length, Option, None, Some}
use Rattle.ca_base.specs.declared.completion.Completion.{Completion}
use Rattle.ca_base.specs.objects.CompletionQueue.{CompletionQueue, after_puts}
use Rattle.ca_keys.specs.declared.names.Slot.{Slot}
use Rattle.ca_model.specs.machine.Plan.{Did, NotReady, Outcome}
use Rattle.ca_model.specs.machine.World.{World}

-- these completions fit in a completion queue, beside those that wait there
abbrev pub FitIn : Option CompletionQueue → List Completion → Type 0
FitIn None cs = Unit {0}
FitIn (Some cq) cs = length cq.waiting + length cs ≤ cq.capacity

-- what an outcome puts into completion queues fits there, beside what waits
abbrev pub FitsDone : World → Outcome → Type 0
FitsDone w (NotReady reason) = Unit {0}
FitsDone w (Did v ms) = (s : Slot) (q : CompletionQueue) (put : List Completion) → w.cq s ≡ Some q
    → v.cq s ≡ Some (after_puts put q) → length q.waiting + length put ≤ q.capacity
