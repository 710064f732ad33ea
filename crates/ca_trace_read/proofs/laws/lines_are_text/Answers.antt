use Rattle.ca_trace_read.proofs.ReadLemmas.{taken_text}
use Rattle.ca_trace_read.proofs.laws.lines_are_text.Goals as goal

pub returns : goal.returns
returns c = taken_text
