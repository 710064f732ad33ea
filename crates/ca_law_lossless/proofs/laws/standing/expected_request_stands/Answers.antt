use Rattle.ca_law_lossless.proofs.StandLemmas.{request-stands}
use Rattle.ca_law_lossless.proofs.laws.standing.expected_request_stands.Goals as goal

pub returns : goal.returns
returns c = request-stands
