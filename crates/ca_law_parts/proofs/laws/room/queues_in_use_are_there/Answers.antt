use Rattle.ca_law_parts.proofs.Room.RoomLemmas.{receives-there, sends-there, shared-used}
use Rattle.ca_law_parts.proofs.laws.room.queues_in_use_are_there.Goals as goal

pub returns-clause-sends : goal.returns-clause-sends
returns-clause-sends c = sends-there

pub returns-clause-receives : goal.returns-clause-receives
returns-clause-receives c = receives-there

pub returns-clause-shared : goal.returns-clause-shared
returns-clause-shared c = shared-used
