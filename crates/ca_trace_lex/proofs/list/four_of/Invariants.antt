use Rattle.std.proofs.Common.{◌≡◌, take}
use Rattle.ca_trace_lex.proofs.list.four_of.Given as goal

abbrev pub invariant-loop-piece : goal.invariant-loop-piece
invariant-loop-piece l = l.pieces.items ≡ take l.piece-index l.list
