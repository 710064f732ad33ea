use Rattle.std.proofs.Common.{arith}
use Rattle.std.proofs.lemmas.Grind.{common_steps}
use Rattle.ca_qp_rows.proofs.asks.first_denied.Goals as goal

pub returns-clause-first : goal.returns-clause-first
returns-clause-first c = grind (arith, common_steps)

pub returns-clause-allowed : goal.returns-clause-allowed
returns-clause-allowed c = grind (arith, common_steps)
