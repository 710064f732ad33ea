use Rattle.ca_law_order.proofs.Receives.ReceiveEventLemmas.{opening-receives-agree}
use Rattle.ca_law_order.proofs.laws.receives.opening_agrees_on_receives.Goals as goal

pub returns : goal.returns
returns c = opening-receives-agree
