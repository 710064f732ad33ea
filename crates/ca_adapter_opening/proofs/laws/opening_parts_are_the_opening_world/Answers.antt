use Rattle.ca_adapter_opening.proofs.WorldLemmas.{opening-thing}
use Rattle.ca_adapter_opening.proofs.laws.opening_parts_are_the_opening_world.Goals as goal

pub returns : goal.returns
returns c = opening-thing
