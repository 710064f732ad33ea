use Rattle.ca_run_alone.proofs.ReachLemmas.{follows-reach}
use Rattle.ca_run_alone.proofs.laws.grants_are_in_reach.Goals as goal

pub returns : goal.returns
returns c = follows-reach
