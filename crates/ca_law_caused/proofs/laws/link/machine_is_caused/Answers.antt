use Rattle.ca_law_caused.proofs.Link.HistoryLemmas.{caused-along}
use Rattle.ca_law_caused.proofs.laws.link.machine_is_caused.Goals as goal

pub returns : goal.returns
returns c = caused-along
