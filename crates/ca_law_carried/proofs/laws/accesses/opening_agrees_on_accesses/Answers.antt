use Rattle.ca_law_carried.proofs.Accesses.EventLemmas.{opening-accesses-agree}
use Rattle.ca_law_carried.proofs.laws.accesses.opening_agrees_on_accesses.Goals as goal

pub returns : goal.returns
returns c = opening-accesses-agree
