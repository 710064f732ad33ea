use Rattle.ca_law_order.proofs.Lists.EventLemmas.{lists-along}
use Rattle.ca_law_order.proofs.laws.lists.histories_agree_on_lists.Goals as goal

pub returns : goal.returns
returns c = lists-along
