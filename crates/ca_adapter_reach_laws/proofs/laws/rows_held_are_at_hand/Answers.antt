use Rattle.ca_adapter_reach_laws.proofs.RowLemmas.{rows-at-hand}
use Rattle.ca_adapter_reach_laws.proofs.laws.rows_held_are_at_hand.Goals as goal

pub returns : goal.returns
returns c = rows-at-hand
