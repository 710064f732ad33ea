use Rattle.ca_law_order.proofs.Polls.PollEventLemmas.{opening-polls-agree}
use Rattle.ca_law_order.proofs.laws.polls.opening_agrees_on_polls.Goals as goal

pub returns : goal.returns
returns c = opening-polls-agree
