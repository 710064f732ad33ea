use Rattle.ca_trace_read.proofs.ReadLemmas.{taken_more}
use Rattle.ca_trace_read.proofs.laws.one_more_line.Goals as goal

pub returns : goal.returns
returns c = taken_more
