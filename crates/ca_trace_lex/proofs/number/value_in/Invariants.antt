use Rattle.std.proofs.Common.{◌≡◌, ◌≤◌, drop}
use Rattle.ca_trace_lex.specs.Words.{value_after}
use Rattle.ca_trace_lex.proofs.number.value_in.Given as goal

abbrev pub invariant-loop-c : goal.invariant-loop-c
invariant-loop-c l = (value_after l.base l.most l.n (drop l.c-index l.word) ≡ value_after l.base l.most 0 l.word) × (l.n ≤ l.most)
