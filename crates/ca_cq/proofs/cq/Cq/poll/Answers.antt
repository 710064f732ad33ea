use Rattle.std.proofs.Common.{arith, drop}
use Rattle.std.proofs.lemmas.Grind.{common_steps}
use Rattle.ca_cq.proofs.Parts.{take-more, take-at, take-none, drop-next}
use Rattle.ca_cq.proofs.cq.Cq.poll.Goals as goal

pub loop-preserved : goal.loop-preserved
loop-preserved c =
    grind (arith, common_steps, take-more c.loop.counter c.args.self.now.waiting, take-at 0 (drop c.loop.counter c.args.self.now.waiting), take-none 0 (drop c.loop.counter c.args.self.now.waiting), drop-next c.loop.counter c.args.self.now.waiting)
