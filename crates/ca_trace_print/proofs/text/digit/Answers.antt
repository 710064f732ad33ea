use Rattle.std.proofs.Common.{arith}
use Rattle.std.proofs.lemmas.Grind.{common_steps}
use Rattle.ca_trace_print.proofs.HexLemmas.{lower_digit}
use Rattle.ca_trace_print.proofs.text.digit.Goals as goal

pub returns-then-value-lt10 : goal.returns-then-value-lt10
returns-then-value-lt10 c = grind (arith, common_steps, lower_digit c.args.value c.requires)

pub returns-else-value-lt10 : goal.returns-else-value-lt10
returns-else-value-lt10 c = grind (arith, common_steps, lower_digit c.args.value c.requires)
