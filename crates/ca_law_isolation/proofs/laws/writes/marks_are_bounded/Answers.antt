use Rattle.ca_law_isolation.proofs.BoundedEvents.{event-bounded}
use Rattle.ca_law_isolation.proofs.laws.writes.marks_are_bounded.Goals as goal

pub returns : goal.returns
returns c = event-bounded
