use Rattle.std.proofs.Common.{◌≡◌, length, map, take}
use Rattle.ca_adapter_opening.proofs.limits.begin_with.Given as goal

abbrev pub invariant-loop-index : goal.invariant-loop-index
invariant-loop-index l = take l.index (map length l.contents) ≡ take l.index l.sizes
