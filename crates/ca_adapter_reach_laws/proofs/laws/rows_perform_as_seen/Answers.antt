use Rattle.ca_adapter_reach_laws.proofs.RowLemmas.{row-seen}
use Rattle.ca_adapter_reach_laws.proofs.laws.rows_perform_as_seen.Goals as goal

pub returns : goal.returns
returns c = row-seen
