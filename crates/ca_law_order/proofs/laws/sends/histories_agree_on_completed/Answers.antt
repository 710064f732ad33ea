use Rattle.ca_law_order.proofs.Sends.SendEventLemmas.{completed-along}
use Rattle.ca_law_order.proofs.laws.sends.histories_agree_on_completed.Goals as goal

pub returns : goal.returns
returns c = completed-along
