use Rattle.std.proofs.Common.{Some}
use Rattle.ca_parts.proofs.parts.Parts.try_take.Given as goal

abbrev pub ghosts-take : goal.ghosts-take
ghosts-take g a = record { event = Some g.event }
