use Rattle.ca_law_isolation.proofs.GrantedLemmas.{touches-granted}
use Rattle.ca_law_isolation.proofs.laws.domains.event_touches_granted_bytes.Goals as goal

pub returns : goal.returns
returns c = touches-granted
