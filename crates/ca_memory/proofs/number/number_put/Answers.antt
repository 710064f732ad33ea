use Rattle.std.proofs.Common.{arith}
use Rattle.std.proofs.lemmas.Grind.{common_steps}
use Rattle.ca_memory.proofs.number.number_put.Goals as goal

pub returns-then-found-compare : goal.returns-then-found-compare
returns-then-found-compare c = grind (arith, common_steps)

pub returns-else-found-compare : goal.returns-else-found-compare
returns-else-found-compare c = grind (arith, common_steps)
