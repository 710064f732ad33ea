use Rattle.ca_trace_print.proofs.TextLemmas.{text_behind}
use Rattle.ca_trace_print.proofs.text.Text.put.Goals as goal

pub returns-in-Ok : goal.returns-in-Ok
returns-in-Ok g c = record { ok = text_behind _ _ _ c.in-Ok.ensures.writes }
