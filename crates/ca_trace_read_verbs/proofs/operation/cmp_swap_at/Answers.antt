use Rattle.std.proofs.Common.{arith}
use Rattle.std.proofs.lemmas.Grind.{common_steps}
use Rattle.ca_trace_read_verbs.specs.Operations.{cmp_swap_at}
use Rattle.ca_trace_read_verbs.proofs.operation.cmp_swap_at.Goals as goal

pub returns : goal.returns
unfolding cmp_swap_at
returns c = grind (arith, common_steps)
