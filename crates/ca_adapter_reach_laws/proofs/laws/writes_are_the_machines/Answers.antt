use Rattle.ca_adapter_reach_laws.proofs.LeftLemmas.{writes-held}
use Rattle.ca_adapter_reach_laws.proofs.laws.writes_are_the_machines.Goals as goal

pub returns : goal.returns
returns c = writes-held
