use Rattle.ca_law_endings.proofs.EventFitLemmas.{event-fits}
use Rattle.ca_law_endings.proofs.laws.event_marks_fit.Goals as goal

pub returns : goal.returns
returns c = event-fits
