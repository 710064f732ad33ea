use Rattle.std.proofs.Common.{List, drop}
use Rattle.ca_isolation.specs.Groups.{group_of, is_granted_by}
use Rattle.ca_keys.specs.declared.place.Run.{Run}
use Rattle.ca_isolation.specs.Cover.{GrantsInReach}
use Rattle.ca_isolation.specs.Covering.{AddsPlacesOfEach}
use Rattle.ca_isolation.proofs.cover.add_marks.Given as goal

abbrev pub invariant-loop-mark : goal.invariant-loop-mark
invariant-loop-mark l = (new : List Run)
    → AddsPlacesOfEach GrantsInReach (λ m p. is_granted_by (group_of l.group) p m) (drop l.mark-index l.marks) l.cover.items new
    → AddsPlacesOfEach GrantsInReach (λ m p. is_granted_by (group_of l.group) p m) l.marks l.initial.cover.items new
