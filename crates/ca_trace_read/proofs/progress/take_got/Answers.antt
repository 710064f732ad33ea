use Rattle.std.proofs.Common.{arith}
use Rattle.std.proofs.lemmas.Grind.{common_steps}
use Rattle.ca_trace_read.proofs.progress.take_got.Goals as goal

pub returns-in_ok-polled-clause-ok : goal.returns-in_ok-polled-clause-ok
returns-in_ok-polled-clause-ok c = grind (arith, common_steps)
