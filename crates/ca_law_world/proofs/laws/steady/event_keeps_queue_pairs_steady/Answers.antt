use Rattle.ca_law_world.proofs.Steady.EventLemmas.{event-steady}
use Rattle.ca_law_world.proofs.laws.steady.event_keeps_queue_pairs_steady.Goals as goal

pub returns : goal.returns
returns c = event-steady
