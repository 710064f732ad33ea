use Rattle.ca_law_endings.proofs.IndexLemmas.{indices-along}
use Rattle.ca_law_endings.proofs.laws.packets_have_their_indices.Goals as goal

pub returns : goal.returns
returns c = indices-along
