use Rattle.ca_law_once.proofs.Once.OnceLemmas.{linked-along}
use Rattle.ca_law_once.proofs.laws.once.clean_connections_are_links.Goals as goal

pub returns : goal.returns
returns c = linked-along
