use Rattle.std.proofs.Common.{◌≡◌, ◌*◌, ◌≤◌, length, map, sum_by, take}
use Rattle.ca_base.specs.Configuration.{adapter_of}
use Rattle.ca_adapter_opening.proofs.adapters.buffer_count.Given as goal

abbrev pub invariant-loop-adapter : goal.invariant-loop-adapter
invariant-loop-adapter l =
    (l.count ≡ sum_by (λ a. length a.buffers) (map adapter_of (take l.adapter-index l.adapters)))
    × (l.count ≤ l.adapter-index * 16)
