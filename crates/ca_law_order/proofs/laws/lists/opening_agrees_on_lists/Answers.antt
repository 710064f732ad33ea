use Rattle.ca_law_order.proofs.Lists.EventLemmas.{opening-lists-agree}
use Rattle.ca_law_order.proofs.laws.lists.opening_agrees_on_lists.Goals as goal

pub returns : goal.returns
returns c = opening-lists-agree
