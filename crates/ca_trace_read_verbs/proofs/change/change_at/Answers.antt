use Rattle.std.proofs.Common.{arith}
use Rattle.std.proofs.lemmas.Grind.{common_steps}
use Rattle.ca_trace_read_verbs.specs.Verbs.{change_at}
use Rattle.ca_trace_read_verbs.proofs.change.change_at.Goals as goal

pub returns-then-is_name-6 : goal.returns-then-is_name-6
unfolding change_at
returns-then-is_name-6 c = grind (arith, common_steps)
