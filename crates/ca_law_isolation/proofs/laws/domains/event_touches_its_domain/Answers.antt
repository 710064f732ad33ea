use Rattle.ca_law_isolation.proofs.TouchLemmas.{touches-of}
use Rattle.ca_law_isolation.proofs.laws.domains.event_touches_its_domain.Goals as goal

pub returns : goal.returns
returns c = touches-of
