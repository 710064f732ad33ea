use Rattle.ca_trace_read.proofs.WholeLemmas.{history_again}
use Rattle.ca_trace_read.proofs.laws.text_is_read.Goals as goal

pub returns : goal.returns
returns c = history_again
