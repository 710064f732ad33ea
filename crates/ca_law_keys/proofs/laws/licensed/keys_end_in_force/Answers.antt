use Rattle.ca_law_keys.proofs.Licensed.EndingLemmas.{ends-along}
use Rattle.ca_law_keys.proofs.laws.licensed.keys_end_in_force.Goals as goal

pub returns : goal.returns
returns c = ends-along
