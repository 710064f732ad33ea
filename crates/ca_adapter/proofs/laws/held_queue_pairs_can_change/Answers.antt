use Rattle.ca_adapter.proofs.HeldLemmas.{modify-changes}
use Rattle.ca_adapter.proofs.laws.held_queue_pairs_can_change.Goals as goal

pub returns : goal.returns
returns c = modify-changes
