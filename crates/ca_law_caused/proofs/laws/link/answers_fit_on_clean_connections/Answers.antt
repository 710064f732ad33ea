use Rattle.ca_law_caused.proofs.Link.MisfitLemmas.{answers-fit}
use Rattle.ca_law_caused.proofs.laws.link.answers_fit_on_clean_connections.Goals as goal

pub returns : goal.returns
returns c = answers-fit
