use Rattle.ca_connection.proofs.OnceLemmas.{law-covered-once}
use Rattle.ca_connection.proofs.once.number_is_accepted_once.Goals as goal

pub returns : goal.returns
returns c = law-covered-once
