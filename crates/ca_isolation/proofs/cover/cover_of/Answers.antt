use Rattle.std.proofs.Common.{arith, map, subst}
use Rattle.std.specs.List.{AllByRecursion, list_any}
use Rattle.ca_isolation.specs.Groups.{group_of, is_granted_by}
use Rattle.ca_isolation.proofs.CoverLemmas.{adds-last-of, adds-step-of, entries-covered}
use Rattle.ca_isolation.proofs.cover.cover_of.Goals as goal
use Rattle.ca_isolation.specs.Cover.{GrantsInReach}
use Rattle.ca_isolation.specs.Covering.{AddsPlacesOfEach}
use Rattle.ca_model.specs.Entries.{EntryValue, entry_of}

pub loop-entry-preserved : goal.loop-entry-preserved
loop-entry-preserved c = λ new rest. c.loop-entry.invariant new (adds-step-of (λ (e : EntryValue). AllByRecursion GrantsInReach e.marks) (λ e p. list_any (is_granted_by (group_of c.args.group.now) p) e.marks) entry_of c.as_slice-entries.result.now
    c.loop-entry.entry-index c.entry-item.result c.loop-entry.cover.items c.add_marks.new.cover.items new c.loop-entry-test.true c.entry-item.is
    (subst (λ ms. AddsPlacesOfEach GrantsInReach (λ m p. is_granted_by (group_of c.args.group.now) p m) ms c.loop-entry.cover.items c.add_marks.new.cover.items) c.as_slice.ensures c.in_ok-add_marks.ensures) rest)

pub returns-clause-reach : goal.returns-clause-reach
returns-clause-reach c = (c.loop-entry.invariant _ (adds-last-of (λ (e : EntryValue). AllByRecursion GrantsInReach e.marks) (λ e p. list_any (is_granted_by (group_of c.args.group.now) p) e.marks) entry_of c.as_slice-entries.result.now c.loop-entry.entry-index _ (omega arith))).reach (record {})

pub returns-clause-places : goal.returns-clause-places
returns-clause-places c = entries-covered (group_of c.args.group.now) (map entry_of c.as_slice-entries.result.now) c.args.h.now _ c.as_slice-entries.ensures.entries
    (c.loop-entry.invariant _ (adds-last-of (λ (e : EntryValue). AllByRecursion GrantsInReach e.marks) (λ e p. list_any (is_granted_by (group_of c.args.group.now) p) e.marks) entry_of c.as_slice-entries.result.now c.loop-entry.entry-index _ (omega arith)))
