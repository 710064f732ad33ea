use Rattle.ca_law_parts.proofs.Parts.EventPartLemmas.{event-held}
use Rattle.ca_law_parts.proofs.laws.parts.held_parts_suffice.Goals as goal

pub returns : goal.returns
returns c = event-held
