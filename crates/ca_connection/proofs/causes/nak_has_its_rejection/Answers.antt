use Rattle.ca_connection.proofs.OnceLemmas.{law-rejection}
use Rattle.ca_connection.proofs.causes.nak_has_its_rejection.Goals as goal

pub returns : goal.returns
returns c = law-rejection
