use Rattle.ca_trace_read.proofs.TextLemmas.{text_is_one}
use Rattle.ca_trace_read.proofs.laws.one_text.Goals as goal

pub returns : goal.returns
returns c = text_is_one
