use Rattle.ca_script_order.proofs.QuietLemmas.{order-ended}
use Rattle.ca_script_order.proofs.laws.orders_end.Goals as goal

pub returns : goal.returns
returns c = order-ended
