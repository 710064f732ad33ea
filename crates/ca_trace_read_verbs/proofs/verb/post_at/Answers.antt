use Rattle.std.proofs.Common.{arith}
use Rattle.std.proofs.lemmas.Grind.{common_steps}
use Rattle.ca_trace_read_verbs.specs.Verbs.{post_at}
use Rattle.ca_trace_read_verbs.proofs.verb.post_at.Goals as goal

pub returns : goal.returns
unfolding post_at
returns c = grind (arith, common_steps)
