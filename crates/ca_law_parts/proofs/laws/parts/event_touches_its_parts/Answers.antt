use Rattle.ca_law_parts.proofs.Parts.EventPartLemmas.{event-touches}
use Rattle.ca_law_parts.proofs.laws.parts.event_touches_its_parts.Goals as goal

pub returns : goal.returns
returns c = event-touches
