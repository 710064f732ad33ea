use Rattle.std.proofs.Common.{take}
use Rattle.std.specs.List.{AllByRecursion}
use Rattle.ca_trace_lex.specs.Fits.{RunFits}
use Rattle.ca_trace_read_fits.proofs.list.runs_fit.Given as goal

abbrev pub invariant-loop-run : goal.invariant-loop-run
invariant-loop-run l = AllByRecursion RunFits (take l.run-index l.runs)
