use Rattle.ca_law_bounds.proofs.OperationTurns.{operation-lowers}
use Rattle.ca_law_bounds.proofs.laws.verbs.operation_lowers_weight.Goals as goal

pub returns : goal.returns
returns c = operation-lowers
