use Rattle.ca_script_order.proofs.FollowLemmas.{order-follows}
use Rattle.ca_script_order.proofs.laws.orders_follow_the_machine.Goals as goal

pub returns : goal.returns
returns c = order-follows
