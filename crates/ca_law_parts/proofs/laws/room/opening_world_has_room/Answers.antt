use Rattle.ca_law_parts.proofs.Room.RoomLemmas.{opening-room}
use Rattle.ca_law_parts.proofs.laws.room.opening_world_has_room.Goals as goal

pub returns : goal.returns
returns c = opening-room
