use Rattle.ca_script_order.proofs.ScriptLemmas.{order-told}
use Rattle.ca_script_order.proofs.laws.orders_are_of_their_scripts.Goals as goal

pub returns : goal.returns
returns c = order-told
