use Rattle.ca_law_carried.proofs.Starts.StartEventLemmas.{starts-along}
use Rattle.ca_law_carried.proofs.laws.starts.histories_agree_on_starts.Goals as goal

pub returns : goal.returns
returns c = starts-along
