use Rattle.std.proofs.Common.{◌≡◌, ◌*◌, ◌++◌, take, drop}
use Rattle.ca_trace_lex.specs.Words.{bytes_of}
use Rattle.ca_trace_lex.proofs.digits.fill.Given as goal

abbrev pub invariant-pairs : goal.invariant-pairs
invariant-pairs l = take l.i l.bytes ++ bytes_of (drop (2 * l.i) l.word) ≡ bytes_of l.word
