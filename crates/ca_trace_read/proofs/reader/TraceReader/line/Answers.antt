use Rattle.std.proofs.Common.{arith}
use Rattle.std.proofs.lemmas.Grind.{common_steps}
use Rattle.ca_trace_read.proofs.reader.TraceReader.line.Goals as goal

pub returns-in-Err-Outside-clause-refused : goal.returns-in-Err-Outside-clause-refused
returns-in-Err-Outside-clause-refused c = grind (arith, common_steps)
