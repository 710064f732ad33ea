use Rattle.std.proofs.Common.{◌∙◌, ◌+◌, drop, sym}
use Rattle.std.specs.List.{flat_map}
use Rattle.ca_isolation.proofs.CallLemmas.{first_none, first_some, front-of}
use Rattle.ca_isolation.proofs.strays.first_of_entries.Goals as goal
use Rattle.ca_isolation.specs.Groups.{group_of, strays_in}

pub returns-in-Some : goal.returns-in-Some
returns-in-Some c = sym (first_some (strays_in (group_of c.args.group.now) c.entry-item.result) (flat_map (strays_in (group_of c.args.group.now)) (drop (c.loop-entry.entry-index + 1) c.args.entries.now)) c.in-Some.queue
    (sym c.stray_in.ensures ∙ c.in-Some.is))
    ∙ sym (front-of (strays_in (group_of c.args.group.now)) c.args.entries.now c.loop-entry.entry-index c.entry-item.result c.loop-entry-test.true c.entry-item.is) ∙ c.loop-entry.invariant

pub loop-entry-preserved : goal.loop-entry-preserved
loop-entry-preserved c = sym (first_none (strays_in (group_of c.args.group.now) c.entry-item.result) (flat_map (strays_in (group_of c.args.group.now)) (drop (c.loop-entry.entry-index + 1) c.args.entries.now))
    (sym c.stray_in.ensures ∙ c.in_default.is))
    ∙ sym (front-of (strays_in (group_of c.args.group.now)) c.args.entries.now c.loop-entry.entry-index c.entry-item.result c.loop-entry-test.true c.entry-item.is) ∙ c.loop-entry.invariant
