use Rattle.ca_law_once.proofs.Ties.OpeningLemmas.{opening-tied}
use Rattle.ca_law_once.proofs.laws.ties.opening_is_tied.Goals as goal

pub returns : goal.returns
returns c = opening-tied
