use Rattle.ca_law_caused.proofs.Caused.EventLemmas.{causes-along}
use Rattle.ca_law_caused.proofs.laws.caused.histories_agree_on_causes.Goals as goal

pub returns : goal.returns
returns c = causes-along
