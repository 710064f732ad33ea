use Rattle.ca_law_once.proofs.Rows.ArrivalLemmas.{arrival-state}
use Rattle.ca_law_once.proofs.arrival.arrival_leaves_state.Goals as goal

pub returns : goal.returns
returns c = arrival-state
