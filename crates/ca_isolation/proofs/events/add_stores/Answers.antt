use Rattle.std.proofs.Common.{◌∙◌, ap, arith, reverse, sym}
use Rattle.std.proofs.lemmas.List.{drop_all}
use Rattle.ca_isolation.proofs.FollowLemmas.{past_with, stores-last, stores-more}
use Rattle.ca_isolation.proofs.events.add_stores.Goals as goal
use Rattle.ca_isolation.specs.Cover.{covers}

pub loop-mark-preserved : goal.loop-mark-preserved
loop-mark-preserved c = (
  (c.in_ok-put_mark.ensures (past_with c.loop-mark.in_force.items) (ap reverse (sym c.as_slice.ensures.value))).front,
  λ past are. stores-more (covers c.args.cover.now) c.args.marks.now past c.loop-mark.mark-index c.mark-item.result c.args.stores.now c.loop-mark.stores c.put_mark.new.self c.loop-mark.in_force.items c.follow_mark.new.in_force.items
      c.loop-mark-test.true c.mark-item.is (λ now is. c.in_ok-put_mark.ensures now (is ∙ ap reverse (sym c.as_slice.ensures.value))) c.in_ok-follow_mark.ensures (c.loop-mark.invariant.1 past are),
)

pub returns : goal.returns
returns c = λ past are. stores-last (covers c.args.cover.now) c.args.marks.now past c.args.stores.now c.loop-mark.stores _ _ (drop_all c.loop-mark.mark-index c.args.marks.now (omega arith)) c.loop-mark.invariant.0 (c.loop-mark.invariant.1 past are)
