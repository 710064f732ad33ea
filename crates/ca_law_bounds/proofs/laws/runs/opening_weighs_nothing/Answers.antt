use Rattle.ca_law_bounds.proofs.RunWeights.{opening-weighs}
use Rattle.ca_law_bounds.proofs.laws.runs.opening_weighs_nothing.Goals as goal

pub returns : goal.returns
returns c = opening-weighs
