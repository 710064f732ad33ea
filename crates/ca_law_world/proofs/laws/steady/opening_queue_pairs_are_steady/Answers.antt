use Rattle.ca_law_world.proofs.Steady.EventLemmas.{opening-steady}
use Rattle.ca_law_world.proofs.laws.steady.opening_queue_pairs_are_steady.Goals as goal

pub returns : goal.returns
returns c = opening-steady
