use Rattle.std.proofs.Common.{sym}
use Rattle.test_parts.specs.Held.{hand_of}
use Rattle.test_parts.proofs.Hands.{times_at, none_so_far, held_is}
use Rattle.test_parts.proofs.holding.holds.Goals as goal

pub returns-then-t-part : goal.returns-then-t-part
returns-then-t-part c = sym (held_is c.args.part (hand_of c.args.held.now) (times_at c.args.part c.args.held.now c.loop-t.t-index record { part = 0; value = record { 0 = 0 } } c.loop-t-test.true c.if-t-part.true))

pub loop-t-preserved : goal.loop-t-preserved
loop-t-preserved c = none_so_far c.args.part c.args.held.now c.loop-t.t-index record { part = 0; value = record { 0 = 0 } } c.loop-t-test.true c.loop-t.invariant c.if-t-part.false
