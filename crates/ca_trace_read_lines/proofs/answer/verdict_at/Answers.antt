use Rattle.std.proofs.Common.{arith}
use Rattle.std.proofs.lemmas.Grind.{common_steps}
use Rattle.ca_trace_read_lines.specs.Answers.{verdict_at}
use Rattle.ca_trace_read_lines.proofs.answer.verdict_at.Goals as goal

pub returns-in_ok-put : goal.returns-in_ok-put
unfolding verdict_at
returns-in_ok-put c = grind (arith, common_steps)
