use Rattle.ca_adapter_reach_laws.proofs.LeftLemmas.{end-held}
use Rattle.ca_adapter_reach_laws.proofs.laws.end_is_the_machines.Goals as goal

pub returns : goal.returns
returns c = end-held
