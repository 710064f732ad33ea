use Rattle.ca_law_bounds.proofs.TurnLemmas.{request-turn-lowers}
use Rattle.ca_law_bounds.proofs.laws.turns.request_lowers_weight.Goals as goal

pub returns : goal.returns
returns c = request-turn-lowers
