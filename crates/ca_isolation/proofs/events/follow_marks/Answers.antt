use Rattle.std.proofs.Common.{arith}
use Rattle.std.proofs.lemmas.List.{drop_all}
use Rattle.ca_isolation.proofs.FollowLemmas.{follows-last, follows-more}
use Rattle.ca_isolation.proofs.events.follow_marks.Goals as goal

pub loop-mark-preserved : goal.loop-mark-preserved
loop-mark-preserved c = λ past are. follows-more c.args.marks.now past c.loop-mark.mark-index c.mark-item.result _ _ c.loop-mark-test.true c.mark-item.is c.in_ok-follow_mark.ensures (c.loop-mark.invariant past are)

pub returns : goal.returns
returns c = λ past are. follows-last c.args.marks.now past _ _ (drop_all c.loop-mark.mark-index c.args.marks.now (omega arith)) (c.loop-mark.invariant past are)
