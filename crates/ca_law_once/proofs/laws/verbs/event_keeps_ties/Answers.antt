use Rattle.ca_law_once.proofs.Verbs.EventTies.{event-ties}
use Rattle.ca_law_once.proofs.laws.verbs.event_keeps_ties.Goals as goal

pub returns : goal.returns
returns c = event-ties
