use Rattle.std.proofs.Common.{◌≡◌, take}
use Rattle.ca_adapter_polls.proofs.polls.several_completions.Given as goal

-- the first so many
abbrev pub invariant-loop-i : goal.invariant-loop-i
invariant-loop-i l = l.list ≡ take l.i l.cq.waiting
