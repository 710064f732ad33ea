use Rattle.ca_law_endings.proofs.PathEventLemmas.{opening-agrees}
use Rattle.ca_law_endings.proofs.laws.opening_agrees_on_paths.Goals as goal

pub returns : goal.returns
returns c = opening-agrees
