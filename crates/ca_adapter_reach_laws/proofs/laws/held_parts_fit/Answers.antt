use Rattle.ca_adapter_reach_laws.proofs.FitLemmas.{parts-fit}
use Rattle.ca_adapter_reach_laws.proofs.laws.held_parts_fit.Goals as goal

pub returns : goal.returns
returns c = parts-fit
