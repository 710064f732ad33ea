use Rattle.ca_trace_read.proofs.ReadLemmas.{all_taken}
use Rattle.ca_trace_read.proofs.laws.lines_give.Goals as goal

pub returns : goal.returns
returns c = all_taken
