use Rattle.ca_law_once.proofs.Ties.TurnTies.{request-turn}
use Rattle.ca_law_once.proofs.laws.ties.request_keeps_ties.Goals as goal

pub returns : goal.returns
returns c = request-turn
