use Rattle.ca_law_once.proofs.Once.OnceLemmas.{once-along}
use Rattle.ca_law_once.proofs.laws.once.atomics_act_at_most_once.Goals as goal

pub returns : goal.returns
returns c = once-along
