use Rattle.std.proofs.Common.{◌≡◌, drop}
use Rattle.ca_trace_lex.specs.Names.{find_named}
use Rattle.ca_trace_lex.proofs.find.find_named.Given as goal

abbrev pub invariant-loop-value : goal.invariant-loop-value
invariant-loop-value g l = find_named g.N.Named.text (drop l.value-index l.all) l.word ≡ find_named g.N.Named.text l.all l.word
