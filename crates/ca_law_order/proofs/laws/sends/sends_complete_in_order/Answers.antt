use Rattle.ca_law_order.proofs.Sends.SendEventLemmas.{sends-in-order}
use Rattle.ca_law_order.proofs.laws.sends.sends_complete_in_order.Goals as goal

pub returns : goal.returns
returns c = sends-in-order
