use Rattle.ca_law_bounds.proofs.GoLemmas.{runs-lead-on}
use Rattle.ca_law_bounds.proofs.laws.calm_runs.calm_runs_lead_on.Goals as goal

pub returns : goal.returns
returns c = runs-lead-on
