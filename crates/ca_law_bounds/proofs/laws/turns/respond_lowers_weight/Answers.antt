use Rattle.ca_law_bounds.proofs.TurnLemmas.{respond-turn-lowers}
use Rattle.ca_law_bounds.proofs.laws.turns.respond_lowers_weight.Goals as goal

pub returns : goal.returns
returns c = respond-turn-lowers
