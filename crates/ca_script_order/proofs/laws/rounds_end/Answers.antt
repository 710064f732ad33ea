use Rattle.ca_script_order.proofs.QuietLemmas.{rounds-ended}
use Rattle.ca_script_order.proofs.laws.rounds_end.Goals as goal

pub returns : goal.returns
returns c = rounds-ended
