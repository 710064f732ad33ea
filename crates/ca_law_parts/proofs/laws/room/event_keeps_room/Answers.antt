use Rattle.ca_law_parts.proofs.Room.EventRoomLemmas.{event-room}
use Rattle.ca_law_parts.proofs.laws.room.event_keeps_room.Goals as goal

pub returns : goal.returns
returns c = event-room
