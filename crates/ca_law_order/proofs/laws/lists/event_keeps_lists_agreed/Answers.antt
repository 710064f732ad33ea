use Rattle.ca_law_order.proofs.Lists.EventLemmas.{event-lists-agree}
use Rattle.ca_law_order.proofs.laws.lists.event_keeps_lists_agreed.Goals as goal

pub returns : goal.returns
returns c = event-lists-agree
