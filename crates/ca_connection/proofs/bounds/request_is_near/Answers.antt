use Rattle.ca_connection.proofs.OnceLemmas.{law-request-near}
use Rattle.ca_connection.proofs.bounds.request_is_near.Goals as goal

pub returns : goal.returns
returns c = law-request-near
