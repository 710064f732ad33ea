use Rattle.ca_connection.proofs.OnceLemmas.{law-success}
use Rattle.ca_connection.proofs.once.packet_of_success_acted_once.Goals as goal

pub returns : goal.returns
returns c = law-success
