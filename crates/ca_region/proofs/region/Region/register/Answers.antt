use Rattle.std.proofs.Common.{arith}
use Rattle.std.proofs.lemmas.Grind.{common_steps}
use Rattle.ca_region.proofs.region.Region.register.Goals as goal

pub returns-clause-granted : goal.returns-clause-granted
returns-clause-granted c = grind (arith, common_steps)

pub returns-clause-valid : goal.returns-clause-valid
returns-clause-valid c = grind (arith, common_steps)
