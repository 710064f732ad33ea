use Rattle.ca_law_once.proofs.Ties.CreateLemmas.{create-ties}
use Rattle.ca_law_once.proofs.laws.ties.create_keeps_ties.Goals as goal

pub returns : goal.returns
returns c = create-ties
