use Rattle.std.proofs.Common.{◌≡◌, ◌*◌, ◌^◌, ◌≤◌, map, sum_by, take}
use Rattle.ca_base.specs.Configuration.{adapter_in, parts_of_adapter}
use Rattle.ca_model_places.proofs.places.part_sum.Given as goal

abbrev pub invariant-loop-adapter : goal.invariant-loop-adapter
invariant-loop-adapter l =
    (l.sum ≡ sum_by parts_of_adapter (map adapter_in (take l.adapter-index l.adapters)))
    × (l.sum ≤ l.adapter-index * 2 ^ 28)
