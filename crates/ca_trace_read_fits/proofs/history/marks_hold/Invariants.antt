use Rattle.std.proofs.Common.{take}
use Rattle.std.specs.List.{AllByRecursion}
use Rattle.ca_trace_read_fits.specs.Histories.{MarkHolds}
use Rattle.ca_trace_read_fits.proofs.history.marks_hold.Given as goal

abbrev pub invariant-loop-mark : goal.invariant-loop-mark
invariant-loop-mark l = AllByRecursion MarkHolds (take l.mark-index l.marks)
