use Rattle.std.proofs.Common.{arith}
use Rattle.std.proofs.lemmas.Grind.{common_steps}
use Rattle.ca_trace_lex.proofs.field.take_object.Goals as goal

pub returns : goal.returns
returns c = grind (arith, common_steps)
