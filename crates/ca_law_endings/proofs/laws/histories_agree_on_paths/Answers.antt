use Rattle.ca_law_endings.proofs.PathEventLemmas.{paths-along}
use Rattle.ca_law_endings.proofs.laws.histories_agree_on_paths.Goals as goal

pub returns : goal.returns
returns c = paths-along
