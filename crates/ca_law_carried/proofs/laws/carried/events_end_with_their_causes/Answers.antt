use Rattle.ca_law_carried.proofs.Carried.EndEventLemmas.{causes-along}
use Rattle.ca_law_carried.proofs.laws.carried.events_end_with_their_causes.Goals as goal

pub returns : goal.returns
returns c = causes-along
