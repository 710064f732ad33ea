use Rattle.std.proofs.Common.{◌≡◌, ◌++◌, take}
use Rattle.ca_adapter_opening.specs.Zeros.{zeros_of}
use Rattle.ca_adapter_opening.proofs.zeros.push_zeros.Given as goal

abbrev pub invariant-loop-size : goal.invariant-loop-size
invariant-loop-size l = l.contents.items ≡ l.fn.contents.items ++ zeros_of (take l.size-index l.sizes)
