use Rattle.ca_law_parts.proofs.Parts.CountLemmas.{few-event}
use Rattle.ca_law_parts.proofs.laws.parts.event_needs_few_parts.Goals as goal

pub returns : goal.returns
returns c = few-event
