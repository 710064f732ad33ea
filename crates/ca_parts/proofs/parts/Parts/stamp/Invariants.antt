use Rattle.std.proofs.Common.{Some}
use Rattle.ca_parts.proofs.parts.Parts.stamp.Given as goal

abbrev pub ghosts-add : goal.ghosts-add
ghosts-add g a = record { plan = Some g.plan }
