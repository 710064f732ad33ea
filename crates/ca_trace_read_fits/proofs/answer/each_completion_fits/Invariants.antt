use Rattle.std.proofs.Common.{take}
use Rattle.std.specs.List.{AllByRecursion}
use Rattle.ca_trace_lex.specs.Fits.{AllFit}
use Rattle.ca_trace.specs.Table.{completion_words}
use Rattle.ca_trace_read_fits.proofs.answer.each_completion_fits.Given as goal

abbrev pub invariant-loop-completion : goal.invariant-loop-completion
invariant-loop-completion l = AllByRecursion (λ c. AllFit (completion_words c)) (take l.completion-index l.completions)
