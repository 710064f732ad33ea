use Rattle.std.proofs.Common.{◌≡◌, drop, slice_get}
use Rattle.std.specs.List.{flat_map}
use Rattle.ca_isolation.specs.Groups.{group_of, strays_in}
use Rattle.ca_isolation.proofs.strays.first_of_entries.Given as goal

abbrev pub invariant-loop-entry : goal.invariant-loop-entry
invariant-loop-entry l = slice_get (flat_map (strays_in (group_of l.group)) (drop l.entry-index l.entries)) 0 ≡ slice_get (flat_map (strays_in (group_of l.group)) l.entries) 0
