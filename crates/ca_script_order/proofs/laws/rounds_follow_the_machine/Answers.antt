use Rattle.ca_script_order.proofs.FollowLemmas.{rounds-follow}
use Rattle.ca_script_order.proofs.laws.rounds_follow_the_machine.Goals as goal

pub returns : goal.returns
returns c = rounds-follow
