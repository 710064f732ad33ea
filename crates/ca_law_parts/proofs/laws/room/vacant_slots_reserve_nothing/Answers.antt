use Rattle.ca_law_parts.proofs.Room.FitLemmas.{vacant-new}
use Rattle.ca_law_parts.proofs.laws.room.vacant_slots_reserve_nothing.Goals as goal

pub returns : goal.returns
returns c = vacant-new
