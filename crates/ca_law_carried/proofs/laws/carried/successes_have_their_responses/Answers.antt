use Rattle.ca_law_carried.proofs.Carried.AnsweredEventLemmas.{answered-along}
use Rattle.ca_law_carried.proofs.laws.carried.successes_have_their_responses.Goals as goal

pub returns : goal.returns
returns c = answered-along
