use Rattle.std.proofs.Common.{take}
use Rattle.std.specs.List.{AllByRecursion}
use Rattle.ca_trace_lex.specs.Fits.{PieceFits}
use Rattle.ca_trace_read_fits.proofs.list.each_piece_fits.Given as goal

abbrev pub invariant-loop-piece : goal.invariant-loop-piece
invariant-loop-piece l = AllByRecursion PieceFits (take l.piece-index l.list)
