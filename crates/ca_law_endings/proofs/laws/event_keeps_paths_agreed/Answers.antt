use Rattle.ca_law_endings.proofs.PathEventLemmas.{event-agrees}
use Rattle.ca_law_endings.proofs.laws.event_keeps_paths_agreed.Goals as goal

pub returns : goal.returns
returns c = event-agrees
