use Rattle.ca_law_order.proofs.Receives.ReceiveEventLemmas.{receives-along}
use Rattle.ca_law_order.proofs.laws.receives.histories_agree_on_receives.Goals as goal

pub returns : goal.returns
returns c = receives-along
