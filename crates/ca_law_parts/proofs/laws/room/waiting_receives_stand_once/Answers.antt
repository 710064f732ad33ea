use Rattle.ca_law_parts.proofs.Room.FreedLemmas.{freed-once}
use Rattle.ca_law_parts.proofs.laws.room.waiting_receives_stand_once.Goals as goal

pub returns : goal.returns
returns c = freed-once
