use Rattle.ca_law_once.proofs.Verbs.BeginEvents.{opening-begins}
use Rattle.ca_law_once.proofs.laws.verbs.opening_begins_empty.Goals as goal

pub returns : goal.returns
returns c = opening-begins
