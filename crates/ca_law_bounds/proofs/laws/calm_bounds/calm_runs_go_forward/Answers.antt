use Rattle.ca_law_bounds.proofs.ForwardLemmas.{runs-go-forward}
use Rattle.ca_law_bounds.proofs.laws.calm_bounds.calm_runs_go_forward.Goals as goal

pub returns : goal.returns
returns c = runs-go-forward
