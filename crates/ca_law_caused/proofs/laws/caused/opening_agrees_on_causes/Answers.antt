use Rattle.ca_law_caused.proofs.Caused.EventLemmas.{opening-causes-agree}
use Rattle.ca_law_caused.proofs.laws.caused.opening_agrees_on_causes.Goals as goal

pub returns : goal.returns
returns c = opening-causes-agree
