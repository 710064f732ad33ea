use Rattle.ca_law_parts.proofs.Numbers.EventNumberLemmas.{opening-within}
use Rattle.ca_law_parts.proofs.laws.numbers.opening_world_has_no_numbers.Goals as goal

pub returns : goal.returns
returns c = opening-within
