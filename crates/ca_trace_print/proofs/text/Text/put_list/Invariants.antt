use Rattle.std.proofs.Common.{◌≡◌, ◌++◌, drop, map}
use Rattle.ca_trace_print.specs.Words.{led}
use Rattle.ca_trace_print.proofs.text.Text.put_list.Given as goal

abbrev pub invariant-loop-word : goal.invariant-loop-word
invariant-loop-word g l =
    l.self ++ led 44 (map g.W.Word.spelling (drop l.word-index l.others)) ≡ l.initial.self ++ led 44 (map g.W.Word.spelling l.others)
