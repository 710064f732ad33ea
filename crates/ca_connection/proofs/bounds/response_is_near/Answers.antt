use Rattle.ca_connection.proofs.OnceLemmas.{law-response-near}
use Rattle.ca_connection.proofs.bounds.response_is_near.Goals as goal

pub returns : goal.returns
returns c = law-response-near
