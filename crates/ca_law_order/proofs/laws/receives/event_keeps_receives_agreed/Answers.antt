use Rattle.ca_law_order.proofs.Receives.ReceiveEventLemmas.{event-receives-agree}
use Rattle.ca_law_order.proofs.laws.receives.event_keeps_receives_agreed.Goals as goal

pub returns : goal.returns
returns c = event-receives-agree
