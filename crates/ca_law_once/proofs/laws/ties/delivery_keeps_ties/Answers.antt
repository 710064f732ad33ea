use Rattle.ca_law_once.proofs.Ties.DeliverTies.{deliver-ties}
use Rattle.ca_law_once.proofs.laws.ties.delivery_keeps_ties.Goals as goal

pub returns : goal.returns
returns c = deliver-ties
