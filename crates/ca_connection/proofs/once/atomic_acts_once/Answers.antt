use Rattle.ca_connection.proofs.OnceLemmas.{law-atomic-once}
use Rattle.ca_connection.proofs.once.atomic_acts_once.Goals as goal

pub returns : goal.returns
returns c = law-atomic-once
