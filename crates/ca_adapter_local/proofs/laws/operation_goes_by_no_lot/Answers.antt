use Rattle.ca_adapter_local.proofs.PlanLemmas.{lots-perform, lots-touch}
use Rattle.ca_adapter_local.proofs.laws.operation_goes_by_no_lot.Goals as goal

pub returns : goal.returns
returns c = record { does = lots-perform; touches = lots-touch }
