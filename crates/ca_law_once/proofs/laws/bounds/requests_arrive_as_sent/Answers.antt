use Rattle.ca_law_once.proofs.Bounds.BoundLemmas.{requests-sent}
use Rattle.ca_law_once.proofs.laws.bounds.requests_arrive_as_sent.Goals as goal

pub returns : goal.returns
returns c = requests-sent
