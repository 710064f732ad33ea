use Rattle.ca_adapter.proofs.DepartLemmas.{can-depart}
use Rattle.ca_adapter.proofs.laws.queue_pairs_can_depart.Goals as goal

pub returns : goal.returns
returns c = can-depart
