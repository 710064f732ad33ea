use Rattle.ca_law_parts.proofs.Room.FreedLemmas.{apart-waiting}
use Rattle.ca_law_parts.proofs.laws.room.waiting_receives_stand_apart.Goals as goal

pub returns : goal.returns
returns c = apart-waiting
