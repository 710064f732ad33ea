use Rattle.ca_law_order.proofs.Polls.PollEventLemmas.{event-polls-agree}
use Rattle.ca_law_order.proofs.laws.polls.event_keeps_polls_agreed.Goals as goal

pub returns : goal.returns
returns c = event-polls-agree
