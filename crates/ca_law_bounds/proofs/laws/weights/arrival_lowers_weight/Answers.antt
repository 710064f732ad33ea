use Rattle.ca_law_bounds.proofs.ArrivalWeights.{arrival-lowers}
use Rattle.ca_law_bounds.proofs.laws.weights.arrival_lowers_weight.Goals as goal

pub returns : goal.returns
returns c = arrival-lowers
