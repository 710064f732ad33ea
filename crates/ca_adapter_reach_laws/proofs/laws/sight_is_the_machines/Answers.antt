use Rattle.ca_adapter_reach_laws.proofs.SightLemmas.{sights-agree}
use Rattle.ca_adapter_reach_laws.proofs.laws.sight_is_the_machines.Goals as goal

pub returns : goal.returns
returns c = sights-agree
