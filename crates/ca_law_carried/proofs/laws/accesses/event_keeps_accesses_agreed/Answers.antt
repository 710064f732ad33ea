use Rattle.ca_law_carried.proofs.Accesses.EventLemmas.{event-accesses-agree}
use Rattle.ca_law_carried.proofs.laws.accesses.event_keeps_accesses_agreed.Goals as goal

pub returns : goal.returns
returns c = event-accesses-agree
