use Rattle.ca_law_carried.proofs.Starts.StartEventLemmas.{event-starts-agree}
use Rattle.ca_law_carried.proofs.laws.starts.event_keeps_starts_agreed.Goals as goal

pub returns : goal.returns
returns c = event-starts-agree
