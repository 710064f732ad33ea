use Rattle.ca_law_order.proofs.Sends.SendEventLemmas.{event-completed-agree}
use Rattle.ca_law_order.proofs.laws.sends.event_keeps_completed_agreed.Goals as goal

pub returns : goal.returns
returns c = event-completed-agree
