use Rattle.std.proofs.Common.{arith}
use Rattle.std.proofs.lemmas.Grind.{common_steps}
use Rattle.ca_trace_print.proofs.words.alarm.Goals as goal

pub returns-else-silent : goal.returns-else-silent
returns-else-silent c = grind (arith, common_steps)
