use Rattle.ca_law_carried.proofs.Accesses.EventLemmas.{carried-along}
use Rattle.ca_law_carried.proofs.laws.accesses.accesses_are_carried.Goals as goal

pub returns : goal.returns
returns c = carried-along
