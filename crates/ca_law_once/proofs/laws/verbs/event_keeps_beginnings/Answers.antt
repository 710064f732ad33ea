use Rattle.ca_law_once.proofs.Verbs.BeginEvents.{event-begins}
use Rattle.ca_law_once.proofs.laws.verbs.event_keeps_beginnings.Goals as goal

pub returns : goal.returns
returns c = event-begins
