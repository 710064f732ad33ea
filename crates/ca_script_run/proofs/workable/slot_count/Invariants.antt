use Rattle.std.proofs.Common.{◌≡◌, ◌*◌, ◌^◌, ◌≤◌, map, sum_by, take}
use Rattle.ca_base.specs.Configuration.{adapter_of}
use Rattle.ca_script_run.proofs.workable.slot_count.Given as goal

abbrev pub invariant-loop-adapter : goal.invariant-loop-adapter
invariant-loop-adapter l =
    (l.count ≡ sum_by (λ a. a.domains * a.qps) (map adapter_of (take l.adapter-index l.adapters))) × (l.count ≤ l.adapter-index * 2 ^ 24)
