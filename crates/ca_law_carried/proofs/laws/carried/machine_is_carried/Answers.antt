use Rattle.ca_law_carried.proofs.Carried.EndEventLemmas.{whole-along}
use Rattle.ca_law_carried.proofs.laws.carried.machine_is_carried.Goals as goal

pub returns : goal.returns
returns c = whole-along
