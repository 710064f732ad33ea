use Rattle.std.proofs.Common.{arith, subst}
use Rattle.ca_isolation.specs.Groups.{group_of, is_granted_by}
use Rattle.ca_keys.specs.Memory.{is_in}
use Rattle.ca_isolation.proofs.CoverLemmas.{adds-last, adds-mark, adds-step}
use Rattle.ca_isolation.proofs.cover.add_marks.Goals as goal
use Rattle.ca_isolation.specs.Cover.{EndsInReach, GrantsInReach}
use Rattle.ca_isolation.specs.Covering.{AddsPlacesOfEach}

pub loop-mark-preserved : goal.loop-mark-preserved
loop-mark-preserved c = λ new rest. c.loop-mark.invariant new (adds-step GrantsInReach (λ m p. is_granted_by (group_of c.args.group.now) p m) c.args.marks.now c.loop-mark.mark-index c.mark-item.result
    c.loop-mark.cover.items c.add_runs.new.cover.items new c.loop-mark-test.true c.mark-item.is
    (adds-mark (group_of c.args.group.now) c.mark-item.result c.loop-mark.cover.items c.add_runs.new.cover.items
    (subst (λ rs. AddsPlacesOfEach EndsInReach is_in rs c.loop-mark.cover.items c.add_runs.new.cover.items) c.runs_granted.ensures c.in_ok-add_runs.ensures)) rest)

pub returns : goal.returns
returns c = c.loop-mark.invariant _ (adds-last GrantsInReach (λ m p. is_granted_by (group_of c.args.group.now) p m) c.args.marks.now c.loop-mark.mark-index _ (omega arith))
