use Rattle.ca_law_lossless.proofs.EventCalm.{event-calm}
use Rattle.ca_law_lossless.proofs.laws.ties.calm_event_keeps_ties.Goals as goal

pub returns : goal.returns
returns c = event-calm
