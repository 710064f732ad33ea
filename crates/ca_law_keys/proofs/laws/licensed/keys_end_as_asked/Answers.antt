use Rattle.ca_law_keys.proofs.Licensed.EndingLemmas.{ended-along}
use Rattle.ca_law_keys.proofs.laws.licensed.keys_end_as_asked.Goals as goal

pub returns : goal.returns
returns c = ended-along
