use Rattle.ca_law_caused.proofs.Caused.RestLemmas.{causes-and-rest}
use Rattle.ca_law_caused.proofs.laws.caused.causes_and_rest_are_caused.Goals as goal

pub returns : goal.returns
returns c = causes-and-rest
