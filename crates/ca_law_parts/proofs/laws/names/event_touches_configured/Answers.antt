use Rattle.ca_law_parts.proofs.Names.PlacedLemmas.{event-touches}
use Rattle.ca_law_parts.proofs.laws.names.event_touches_configured.Goals as goal

pub returns : goal.returns
returns c = event-touches
