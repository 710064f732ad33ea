use Rattle.ca_law_bounds.proofs.TurnLemmas.{delivery-lowers}
use Rattle.ca_law_bounds.proofs.laws.turns.delivery_lowers_weight.Goals as goal

pub returns : goal.returns
returns c = delivery-lowers
