use Rattle.std.proofs.Common.{arith}
use Rattle.std.proofs.lemmas.Grind.{common_steps}
use Rattle.ca_keys.proofs.grant.Grant.fits.Goals as goal

pub returns-then-not-ask : goal.returns-then-not-ask
returns-then-not-ask c = grind (arith, common_steps)

pub returns-else-not-ask : goal.returns-else-not-ask
returns-else-not-ask c = grind (arith, common_steps)
