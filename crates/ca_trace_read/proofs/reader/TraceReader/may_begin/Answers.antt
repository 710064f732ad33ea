use Rattle.std.proofs.Common.{arith}
use Rattle.std.proofs.lemmas.Grind.{common_steps}
use Rattle.ca_trace_read.proofs.reader.TraceReader.may_begin.Goals as goal

pub returns-then-stamp-self : goal.returns-then-stamp-self
returns-then-stamp-self c = grind (arith, common_steps)
