use Rattle.ca_connection.proofs.OnceLemmas.{law-completed}
use Rattle.ca_connection.proofs.once.completed_atomic_acted_once.Goals as goal

pub returns : goal.returns
returns c = law-completed
