use Rattle.ca_adapter_reach_laws.proofs.SightLemmas.{vacant-outside}
use Rattle.ca_adapter_reach_laws.proofs.laws.held_world_is_vacant_outside.Goals as goal

pub returns : goal.returns
returns c = vacant-outside
