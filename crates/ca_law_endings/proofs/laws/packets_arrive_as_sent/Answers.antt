use Rattle.ca_law_endings.proofs.ArrivalLemmas.{arrivals-along}
use Rattle.ca_law_endings.proofs.laws.packets_arrive_as_sent.Goals as goal

pub returns : goal.returns
returns c = arrivals-along
