use Rattle.std.proofs.Common.{arith}
use Rattle.std.proofs.lemmas.Grind.{common_steps}
use Rattle.ca_region.proofs.region.Region.invalidate.Goals as goal

pub returns-clause-free : goal.returns-clause-free
returns-clause-free c = grind (arith, common_steps)
