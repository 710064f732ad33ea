use Rattle.ca_law_once.proofs.Ties.TurnTies.{respond-turn}
use Rattle.ca_law_once.proofs.laws.ties.respond_keeps_ties.Goals as goal

pub returns : goal.returns
returns c = respond-turn
