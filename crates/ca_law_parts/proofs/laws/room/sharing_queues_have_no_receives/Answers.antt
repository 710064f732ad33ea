use Rattle.ca_law_parts.proofs.Room.FreedLemmas.{sharing-none}
use Rattle.ca_law_parts.proofs.laws.room.sharing_queues_have_no_receives.Goals as goal

pub returns : goal.returns
returns c = sharing-none
