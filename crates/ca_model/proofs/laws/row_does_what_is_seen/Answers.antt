use Rattle.ca_model.proofs.PerformLemmas.{row-performs}
use Rattle.ca_model.proofs.laws.row_does_what_is_seen.Goals as goal

pub returns : goal.returns
returns c = row-performs
