use Rattle.ca_law_bounds.proofs.EventWeights.{event-lowers}
use Rattle.ca_law_bounds.proofs.laws.runs.event_lowers_weight.Goals as goal

pub returns : goal.returns
returns c = event-lowers
