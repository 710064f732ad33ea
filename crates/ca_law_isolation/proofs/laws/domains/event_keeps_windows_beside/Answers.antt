use Rattle.ca_law_isolation.proofs.BesideEventLemmas.{event-beside}
use Rattle.ca_law_isolation.proofs.laws.domains.event_keeps_windows_beside.Goals as goal

pub returns : goal.returns
returns c = event-beside
