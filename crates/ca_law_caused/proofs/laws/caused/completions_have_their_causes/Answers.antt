use Rattle.ca_law_caused.proofs.Caused.EventLemmas.{complete-with-causes}
use Rattle.ca_law_caused.proofs.laws.caused.completions_have_their_causes.Goals as goal

pub returns : goal.returns
returns c = complete-with-causes
