use Rattle.ca_law_once.proofs.Ties.DestroyLemmas.{destroy-ties}
use Rattle.ca_law_once.proofs.laws.ties.destroy_keeps_ties.Goals as goal

pub returns : goal.returns
returns c = destroy-ties
