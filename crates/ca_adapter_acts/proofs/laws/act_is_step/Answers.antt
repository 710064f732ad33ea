use Rattle.ca_adapter_acts.proofs.StepLemmas.{act-steps}
use Rattle.ca_adapter_acts.proofs.laws.act_is_step.Goals as goal

pub returns : goal.returns
returns c = act-steps
