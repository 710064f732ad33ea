use Rattle.std.proofs.Common.{arith}
use Rattle.std.proofs.lemmas.Grind.{common_steps}
use Rattle.ca_trace_lex.proofs.number.appended.Goals as goal

pub returns-else-next-most : goal.returns-else-next-most
returns-else-next-most c = grind (arith, common_steps)
