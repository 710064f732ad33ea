use Rattle.ca_law_bounds.proofs.ArrivalWeights.{respond-lowers}
use Rattle.ca_law_bounds.proofs.laws.weights.respond_row_lowers_weight.Goals as goal

pub returns : goal.returns
returns c = respond-lowers
