use Rattle.ca_law_order.proofs.Polls.PollEventLemmas.{polls-along}
use Rattle.ca_law_order.proofs.laws.polls.histories_agree_on_polls.Goals as goal

pub returns : goal.returns
returns c = polls-along
