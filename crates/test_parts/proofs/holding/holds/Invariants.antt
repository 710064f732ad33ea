use Rattle.std.proofs.Common.{◌≡◌, take}
use Rattle.ca_parts.specs.Lists.{times, numbers_of}
use Rattle.test_parts.specs.Held.{hand_of}
use Rattle.test_parts.proofs.holding.holds.Given as goal

abbrev pub invariant-loop-t : goal.invariant-loop-t
invariant-loop-t l = times l.part (numbers_of (hand_of (take l.t-index l.held))) ≡ 0
