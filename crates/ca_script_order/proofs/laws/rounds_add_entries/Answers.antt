use Rattle.ca_script_order.proofs.AddLemmas.{rounds-add}
use Rattle.ca_script_order.proofs.laws.rounds_add_entries.Goals as goal

pub returns : goal.returns
returns c = rounds-add
