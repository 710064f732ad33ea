use Rattle.std.proofs.Common.{◌≡◌, ◌*◌, ◌^◌, ◌≤◌, map, take}
use Rattle.ca_model.specs.Entries.{entry_of}
use Rattle.ca_script_order.specs.Summary.{count_of}
use Rattle.ca_script_seed.specs.Counted.{test_of}
use Rattle.ca_script_seed.proofs.counted.count.Given as goal

abbrev pub invariant-loop-entry : goal.invariant-loop-entry
invariant-loop-entry l =
    (l.count ≡ count_of (test_of l.counted) (map entry_of (take l.entry-index l.entries)))
    × (l.count ≤ l.entry-index * 2 ^ 64)
