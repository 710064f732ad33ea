use Rattle.ca_law_parts.proofs.Names.PlacedLemmas.{event-placed}
use Rattle.ca_law_parts.proofs.laws.names.event_keeps_worlds_placed.Goals as goal

pub returns : goal.returns
returns c = event-placed
