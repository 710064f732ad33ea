use Rattle.ca_law_carried.proofs.Starts.StartEventLemmas.{opening-starts-agree}
use Rattle.ca_law_carried.proofs.laws.starts.opening_agrees_on_starts.Goals as goal

pub returns : goal.returns
returns c = opening-starts-agree
