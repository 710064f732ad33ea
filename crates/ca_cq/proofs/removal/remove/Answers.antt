use Rattle.std.proofs.Common.{not, arith}
use Rattle.ca_cq.proofs.Passed.{pass-front}
use Rattle.ca_cq.proofs.removal.remove.Goals as goal

pub loop-preserved : goal.loop-preserved
loop-preserved g c =
    grind (arith, pass-front (λ x. not (g.R.Removal.names c.args.which.now x)) c.loop.counter c.args.ring.now.items (omega (arith, c.loop-test.true, c.len-end.ensures.len)))
