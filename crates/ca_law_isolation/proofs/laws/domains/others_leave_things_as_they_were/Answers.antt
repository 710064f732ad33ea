use Rattle.ca_law_isolation.proofs.OtherLemmas.{others-keep}
use Rattle.ca_law_isolation.proofs.laws.domains.others_leave_things_as_they_were.Goals as goal

pub returns : goal.returns
returns c = others-keep
