use Rattle.ca_adapter_reach_laws.proofs.FitLemmas.{bytes-at-hand}
use Rattle.ca_adapter_reach_laws.proofs.laws.bytes_held_are_at_hand.Goals as goal

pub returns : goal.returns
returns c = bytes-at-hand
