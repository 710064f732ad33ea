use Rattle.std.proofs.Common.{◌≡◌, ◌++◌, drop}
use Rattle.ca_model.specs.machine.Around.{completions_to}
use Rattle.ca_adapter_acts.proofs.completions.completions_to.Given as goal

-- the completions so far, and those of the marks to come, are those of all
abbrev pub invariant-loop-mark : goal.invariant-loop-mark
invariant-loop-mark l = l.done.items ++ completions_to l.q l.cq (drop l.mark-index l.marks) ≡ completions_to l.q l.cq l.marks
