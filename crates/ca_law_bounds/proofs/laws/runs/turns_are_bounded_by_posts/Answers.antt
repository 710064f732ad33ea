use Rattle.ca_law_bounds.proofs.RunWeights.{turns-bounded}
use Rattle.ca_law_bounds.proofs.laws.runs.turns_are_bounded_by_posts.Goals as goal

pub returns : goal.returns
returns c = turns-bounded
