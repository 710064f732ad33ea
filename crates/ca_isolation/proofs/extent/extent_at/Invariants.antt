use Rattle.std.proofs.Common.{take}
use Rattle.ca_isolation.proofs.ExtentLemmas.{IsBare}
use Rattle.ca_isolation.proofs.extent.extent_at.Given as goal

abbrev pub invariant-loop-run : goal.invariant-loop-run
invariant-loop-run l = IsBare (take l.run-index l.cover) l.at l.bare
