use Rattle.std.proofs.Common.{◌≡◌, ◌*◌, ◌^◌, ◌≤◌, map, sum_by, take}
use Rattle.ca_base.specs.Configuration.{adapter_of, parts_of_adapter}
use Rattle.ca_base.proofs.config.part_count.Given as goal

abbrev pub invariant-loop-adapter : goal.invariant-loop-adapter
invariant-loop-adapter l =
    (l.count ≡ sum_by parts_of_adapter (map adapter_of (take l.adapter-index l.adapter-items)))
    × (l.count ≤ l.adapter-index * 2 ^ 28)
