use Rattle.ca_law_isolation.proofs.SameLemmas.{same-alone}
use Rattle.ca_law_isolation.proofs.laws.domains.group_events_depend_on_the_group.Goals as goal

pub returns : goal.returns
returns c = same-alone
