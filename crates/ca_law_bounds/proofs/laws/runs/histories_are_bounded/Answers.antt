use Rattle.ca_law_bounds.proofs.RunWeights.{histories-bounded}
use Rattle.ca_law_bounds.proofs.laws.runs.histories_are_bounded.Goals as goal

pub returns : goal.returns
returns c = histories-bounded
