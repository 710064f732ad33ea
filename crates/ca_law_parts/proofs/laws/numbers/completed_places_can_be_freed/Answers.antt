use Rattle.ca_law_parts.proofs.Numbers.LimitLemmas.{places-free}
use Rattle.ca_law_parts.proofs.laws.numbers.completed_places_can_be_freed.Goals as goal

pub returns : goal.returns
returns c = places-free
