use Rattle.ca_law_bounds.proofs.ForwardLemmas.{runs-bounded}
use Rattle.ca_law_bounds.proofs.laws.calm_bounds.calm_runs_are_bounded.Goals as goal

pub returns : goal.returns
returns c = runs-bounded
