use Rattle.ca_law_endings.proofs.EventFitLemmas.{followed-is-history}
use Rattle.ca_law_endings.proofs.laws.machine_makes_histories.Goals as goal

pub returns : goal.returns
returns c = followed-is-history
