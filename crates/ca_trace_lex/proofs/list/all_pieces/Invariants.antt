use Rattle.std.proofs.Common.{◌≡◌, length}
use Rattle.ca_trace_lex.specs.Words.{piece_in, all_in}
use Rattle.ca_trace_lex.proofs.ListLemmas.{behind}
use Rattle.ca_trace_lex.proofs.list.all_pieces.Given as goal

abbrev pub invariant-loop-parts : goal.invariant-loop-parts
invariant-loop-parts l = behind l.list.items (all_in piece_in l.parts) ≡ all_in piece_in l.fn.parts

abbrev pub decreases-loop-parts : goal.decreases-loop-parts
decreases-loop-parts l = length l.parts
