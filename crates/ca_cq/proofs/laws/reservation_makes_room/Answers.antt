use Rattle.ca_cq.proofs.RoomLemmas.{room-left}
use Rattle.ca_cq.proofs.laws.reservation_makes_room.Goals as goal

pub returns : goal.returns
returns c = room-left
