use Rattle.std.proofs.Common.{arith}
use Rattle.std.proofs.lemmas.Grind.{common_steps}
use Rattle.ca_trace_print.proofs.verb.put_poll.Goals as goal

pub returns-then-least-n : goal.returns-then-least-n
returns-then-least-n c = grind (arith, common_steps)
