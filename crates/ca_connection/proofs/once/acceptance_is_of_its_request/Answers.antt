use Rattle.ca_connection.proofs.OnceLemmas.{law-of-its-request}
use Rattle.ca_connection.proofs.once.acceptance_is_of_its_request.Goals as goal

pub returns : goal.returns
returns c = law-of-its-request
