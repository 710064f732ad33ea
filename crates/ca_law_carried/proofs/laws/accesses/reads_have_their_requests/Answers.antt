use Rattle.ca_law_carried.proofs.Accesses.EventLemmas.{requests-along}
use Rattle.ca_law_carried.proofs.laws.accesses.reads_have_their_requests.Goals as goal

pub returns : goal.returns
returns c = requests-along
