use Rattle.ca_law_order.proofs.Sends.SendEventLemmas.{opening-completed-agree}
use Rattle.ca_law_order.proofs.laws.sends.opening_agrees_on_completed.Goals as goal

pub returns : goal.returns
returns c = opening-completed-agree
