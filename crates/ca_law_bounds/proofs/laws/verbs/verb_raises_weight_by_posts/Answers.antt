use Rattle.ca_law_bounds.proofs.VerbWeights.{verb-raises}
use Rattle.ca_law_bounds.proofs.laws.verbs.verb_raises_weight_by_posts.Goals as goal

pub returns : goal.returns
returns c = verb-raises
