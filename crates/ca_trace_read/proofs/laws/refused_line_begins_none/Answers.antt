use Rattle.ca_trace_read.proofs.ReadLemmas.{refused_begins_none}
use Rattle.ca_trace_read.proofs.laws.refused_line_begins_none.Goals as goal

pub returns : goal.returns
returns c = λ lines line r es. refused_begins_none lines r es line
