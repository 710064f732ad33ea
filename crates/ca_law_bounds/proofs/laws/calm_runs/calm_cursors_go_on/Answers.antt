use Rattle.ca_law_bounds.proofs.CalmAlong.{cursors-go-on}
use Rattle.ca_law_bounds.proofs.laws.calm_runs.calm_cursors_go_on.Goals as goal

pub returns : goal.returns
returns c = cursors-go-on
