use Rattle.ca_adapter.proofs.FlushLemmas.{can-change}
use Rattle.ca_adapter.proofs.laws.queue_pairs_can_change.Goals as goal

pub returns : goal.returns
returns c = can-change
