use Rattle.ca_connection.proofs.OnceLemmas.{law-completes}
use Rattle.ca_connection.proofs.once.atomic_that_succeeded_completed.Goals as goal

pub returns : goal.returns
returns c = law-completes
