use Rattle.ca_trace_read.proofs.EndLemmas.{begins}
use Rattle.ca_trace_read.proofs.laws.taken_lines_begin.Goals as goal

pub returns : goal.returns
returns c = begins
