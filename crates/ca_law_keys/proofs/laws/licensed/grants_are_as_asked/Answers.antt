use Rattle.ca_law_keys.proofs.Licensed.EndingLemmas.{asked-along}
use Rattle.ca_law_keys.proofs.laws.licensed.grants_are_as_asked.Goals as goal

pub returns : goal.returns
returns c = asked-along
