use Rattle.ca_isolation.proofs.StretchLemmas.{stores-write}
use Rattle.ca_isolation.proofs.laws.stores_write_what_was_written.Goals as goal

pub returns : goal.returns
returns c = stores-write
