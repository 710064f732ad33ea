use Rattle.ca_law_once.proofs.Success.ListLemmas.{event-lists}
use Rattle.ca_law_once.proofs.laws.success.event_keeps_lists.Goals as goal

pub returns : goal.returns
returns c = event-lists
