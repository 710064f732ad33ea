use Rattle.ca_adapter_reach_laws.proofs.RowLemmas.{row-left}
use Rattle.ca_adapter_reach_laws.proofs.laws.rows_leave_what_the_machine_leaves.Goals as goal

pub returns : goal.returns
returns c = row-left
