use Rattle.ca_law_once.proofs.Ties.AsideLemmas.{aside-ties}
use Rattle.ca_law_once.proofs.laws.ties.other_verbs_keep_ties.Goals as goal

pub returns : goal.returns
returns c = aside-ties
