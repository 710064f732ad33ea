use Rattle.std.proofs.Common.{arith}
use Rattle.std.proofs.lemmas.Grind.{common_steps}
use Rattle.ca_srq.proofs.srq.Srq.post.Goals as goal

pub invariant_of-self : goal.invariant_of-self
invariant_of-self c = grind (arith, common_steps)

pub returns-clause-variant : goal.returns-clause-variant
returns-clause-variant c = grind (arith, common_steps)
