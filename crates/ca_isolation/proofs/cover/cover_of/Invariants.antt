use Rattle.std.proofs.Common.{List, [], drop, map}
use Rattle.std.specs.List.{AllByRecursion, list_any}
use Rattle.ca_isolation.specs.Groups.{group_of, is_granted_by}
use Rattle.ca_keys.specs.declared.place.Run.{Run}
use Rattle.ca_isolation.specs.Cover.{GrantsInReach}
use Rattle.ca_isolation.specs.Covering.{AddsPlacesOfEach}
use Rattle.ca_model.specs.Entries.{EntryValue, entry_of}
use Rattle.ca_isolation.proofs.cover.cover_of.Given as goal

abbrev pub invariant-loop-entry : goal.invariant-loop-entry
invariant-loop-entry l = (new : List Run)
    → AddsPlacesOfEach (λ (e : EntryValue). AllByRecursion GrantsInReach e.marks) (λ e p. list_any (is_granted_by (group_of l.group) p) e.marks) (map entry_of (drop l.entry-index l.entries)) l.cover.items new
    → AddsPlacesOfEach (λ (e : EntryValue). AllByRecursion GrantsInReach e.marks) (λ e p. list_any (is_granted_by (group_of l.group) p) e.marks) (map entry_of l.entries) [] new
