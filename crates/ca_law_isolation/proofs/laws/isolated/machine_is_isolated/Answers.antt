use Rattle.ca_law_isolation.proofs.AloneLemmas.{alone-goes}
use Rattle.ca_law_isolation.proofs.laws.isolated.machine_is_isolated.Goals as goal

pub returns : goal.returns
returns c = alone-goes
