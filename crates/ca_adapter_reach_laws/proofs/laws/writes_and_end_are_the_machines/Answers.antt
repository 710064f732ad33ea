use Rattle.ca_adapter_reach_laws.proofs.LeftLemmas.{both-held}
use Rattle.ca_adapter_reach_laws.proofs.laws.writes_and_end_are_the_machines.Goals as goal

pub returns : goal.returns
returns c = both-held
