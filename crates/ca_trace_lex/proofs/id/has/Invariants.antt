use Rattle.std.proofs.Common.{◌≡◌, drop}
use Rattle.ca_trace_lex.specs.Words.{has}
use Rattle.ca_trace_lex.proofs.id.has.Given as goal

abbrev pub invariant-loop-b : goal.invariant-loop-b
invariant-loop-b l = has l.c (drop l.b-index l.word) ≡ has l.c l.word
