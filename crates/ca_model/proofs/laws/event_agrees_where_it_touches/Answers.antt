use Rattle.ca_model.proofs.FrameLemmas.{event-agrees, event-touches-same}
use Rattle.ca_model.proofs.laws.event_agrees_where_it_touches.Goals as goal

pub returns-clause-outcome : goal.returns-clause-outcome
returns-clause-outcome c = event-agrees

pub returns-clause-touches : goal.returns-clause-touches
returns-clause-touches c = event-touches-same
