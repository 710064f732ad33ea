use Rattle.ca_law_isolation.proofs.ClosedLemmas.{closed-stays}
use Rattle.ca_law_isolation.proofs.laws.domains.closed_groups_stay_within.Goals as goal

pub returns : goal.returns
returns c = closed-stays
