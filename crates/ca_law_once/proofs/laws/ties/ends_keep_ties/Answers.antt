use Rattle.ca_law_once.proofs.Ties.EndLemmas.{modify-ties}
use Rattle.ca_law_once.proofs.laws.ties.ends_keep_ties.Goals as goal

pub returns : goal.returns
returns c = modify-ties
