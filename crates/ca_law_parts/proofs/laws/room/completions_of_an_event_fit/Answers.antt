use Rattle.ca_law_parts.proofs.Room.EventRoomLemmas.{each-fits, together-fit}
use Rattle.ca_law_parts.proofs.laws.room.completions_of_an_event_fit.Goals as goal

pub returns-clause-together : goal.returns-clause-together
returns-clause-together c = together-fit

pub returns-clause-each : goal.returns-clause-each
returns-clause-each c = each-fits
