use Rattle.std.proofs.Common.{◌≡◌, drop, slice_get}
use Rattle.std.specs.List.{flat_map}
use Rattle.ca_isolation.specs.Groups.{group_of, strays_by}
use Rattle.ca_isolation.proofs.strays.first_stray.Given as goal

abbrev pub invariant-loop-mark : goal.invariant-loop-mark
invariant-loop-mark l = slice_get (flat_map (strays_by (group_of l.group)) (drop l.mark-index l.marks)) 0 ≡ slice_get (flat_map (strays_by (group_of l.group)) l.marks) 0
