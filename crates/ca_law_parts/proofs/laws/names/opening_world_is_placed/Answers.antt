use Rattle.ca_law_parts.proofs.Names.PlacedLemmas.{opening-placed}
use Rattle.ca_law_parts.proofs.laws.names.opening_world_is_placed.Goals as goal

pub returns : goal.returns
returns c = opening-placed
