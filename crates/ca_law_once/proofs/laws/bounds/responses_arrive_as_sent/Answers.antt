use Rattle.ca_law_once.proofs.Bounds.BoundLemmas.{responses-sent}
use Rattle.ca_law_once.proofs.laws.bounds.responses_arrive_as_sent.Goals as goal

pub returns : goal.returns
returns c = responses-sent
