use Rattle.ca_law_parts.proofs.Numbers.EventNumberLemmas.{event-within}
use Rattle.ca_law_parts.proofs.laws.numbers.event_raises_numbers_little.Goals as goal

pub returns : goal.returns
returns c = event-within
