use Rattle.ca_law_order.proofs.Ordered.OrderedLemmas.{ordered-along}
use Rattle.ca_law_order.proofs.laws.ordered.machine_is_ordered.Goals as goal

pub returns : goal.returns
returns c = ordered-along
