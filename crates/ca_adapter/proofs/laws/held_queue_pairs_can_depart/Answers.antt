use Rattle.ca_adapter.proofs.HeldLemmas.{destroy-departs}
use Rattle.ca_adapter.proofs.laws.held_queue_pairs_can_depart.Goals as goal

pub returns : goal.returns
returns c = destroy-departs
