use Rattle.std.proofs.Common.{◌≡◌, length}
use Rattle.ca_script_lex.specs.Reading.{each}
use Rattle.ca_script_lex.specs.Words.{limited}
use Rattle.ca_script_lex.proofs.ListLemmas.{behind}
use Rattle.ca_script_lex.proofs.list.all_pages.Given as goal

abbrev pub invariant-loop-word : goal.invariant-loop-word
invariant-loop-word l = behind l.list.items (each (limited 0 65535) l.parts) ≡ each (limited 0 65535) l.fn.parts

abbrev pub decreases-loop-word : goal.decreases-loop-word
decreases-loop-word l = length l.parts
