use Rattle.ca_law_parts.proofs.Room.FitLemmas.{receives-few, waiting-few}
use Rattle.ca_law_parts.proofs.laws.room.completion_queues_hold_what_waits.Goals as goal

pub returns-clause-waiting : goal.returns-clause-waiting
returns-clause-waiting c = waiting-few

pub returns-clause-receives : goal.returns-clause-receives
returns-clause-receives c = receives-few
