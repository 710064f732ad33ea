use Rattle.ca_law_caused.proofs.Caused.EventLemmas.{event-causes-agree}
use Rattle.ca_law_caused.proofs.laws.caused.event_keeps_causes_agreed.Goals as goal

pub returns : goal.returns
returns c = event-causes-agree
