use Rattle.ca_law_carried.proofs.Accesses.EventLemmas.{accesses-along}
use Rattle.ca_law_carried.proofs.laws.accesses.histories_agree_on_accesses.Goals as goal

pub returns : goal.returns
returns c = accesses-along
