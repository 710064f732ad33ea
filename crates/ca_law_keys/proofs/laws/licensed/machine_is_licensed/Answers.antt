use Rattle.ca_law_keys.proofs.Licensed.LicensedLemmas.{licensed-along}
use Rattle.ca_law_keys.proofs.laws.licensed.machine_is_licensed.Goals as goal

pub returns : goal.returns
returns c = licensed-along
