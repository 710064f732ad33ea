use Rattle.ca_law_order.proofs.Polls.PollEventLemmas.{polls-in-order}
use Rattle.ca_law_order.proofs.laws.polls.polls_give_in_order.Goals as goal

pub returns : goal.returns
returns c = polls-in-order
