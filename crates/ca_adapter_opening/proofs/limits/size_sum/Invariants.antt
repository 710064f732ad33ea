use Rattle.std.proofs.Common.{◌≡◌, ◌*◌, ◌^◌, ◌≤◌, sum_by, take}
use Rattle.ca_adapter_opening.proofs.limits.size_sum.Given as goal

abbrev pub invariant-loop-size : goal.invariant-loop-size
invariant-loop-size l =
    (l.count ≡ sum_by (λ bytes. bytes) (take l.size-index l.sizes)) × (l.count ≤ l.size-index * 2 ^ 32)
