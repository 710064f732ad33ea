use Rattle.ca_law_once.proofs.Success.ListLemmas.{opening-lists}
use Rattle.ca_law_once.proofs.laws.success.opening_lists_fit.Goals as goal

pub returns : goal.returns
returns c = opening-lists
