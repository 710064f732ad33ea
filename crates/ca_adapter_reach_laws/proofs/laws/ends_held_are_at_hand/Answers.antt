use Rattle.ca_adapter_reach_laws.proofs.FitLemmas.{ends-at-hand}
use Rattle.ca_adapter_reach_laws.proofs.laws.ends_held_are_at_hand.Goals as goal

pub returns : goal.returns
returns c = ends-at-hand
