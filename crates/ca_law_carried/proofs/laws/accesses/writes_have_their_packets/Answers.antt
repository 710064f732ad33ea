use Rattle.ca_law_carried.proofs.Accesses.EventLemmas.{packets-along}
use Rattle.ca_law_carried.proofs.laws.accesses.writes_have_their_packets.Goals as goal

pub returns : goal.returns
returns c = packets-along
