use Rattle.ca_law_keys.proofs.Licensed.AloneLemmas.{alone-along}
use Rattle.ca_law_keys.proofs.laws.licensed.grants_stand_alone.Goals as goal

pub returns : goal.returns
returns c = alone-along
