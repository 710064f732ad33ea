use Rattle.ca_wire.proofs.WritingLaws.{spelling_spells, spelling_only}
use Rattle.ca_wire.proofs.laws.packet.round_trip.Goals as goal

pub returns-clause-spells : goal.returns-clause-spells
returns-clause-spells c = spelling_spells

pub returns-clause-only : goal.returns-clause-only
returns-clause-only c = spelling_only
