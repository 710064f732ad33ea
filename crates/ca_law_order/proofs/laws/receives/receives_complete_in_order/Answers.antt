use Rattle.ca_law_order.proofs.Receives.ReceiveEventLemmas.{receives-in-order}
use Rattle.ca_law_order.proofs.laws.receives.receives_complete_in_order.Goals as goal

pub returns : goal.returns
returns c = receives-in-order
