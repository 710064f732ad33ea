use Rattle.std.proofs.Common.{arith}
use Rattle.std.proofs.lemmas.Grind.{common_steps}
use Rattle.ca_trace_read_verbs.specs.Operations.{fetch_add_at}
use Rattle.ca_trace_read_verbs.proofs.operation.fetch_add_at.Goals as goal

pub returns : goal.returns
unfolding fetch_add_at
returns c = grind (arith, common_steps)
