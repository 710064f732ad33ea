use Rattle.std.proofs.Common.{arith}
use Rattle.std.proofs.lemmas.Grind.{common_steps}
use Rattle.ca_trace_read_lines.specs.Answers.{completion_at}
use Rattle.ca_trace_read_lines.proofs.answer.completion_at.Goals as goal

pub returns : goal.returns
unfolding completion_at
returns c = grind (arith, common_steps)
