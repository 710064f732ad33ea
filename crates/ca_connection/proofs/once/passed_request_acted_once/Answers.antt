use Rattle.ca_connection.proofs.PassedLemmas.{law-passed}
use Rattle.ca_connection.proofs.once.passed_request_acted_once.Goals as goal

pub returns : goal.returns
returns c = law-passed
