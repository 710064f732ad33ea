use Rattle.std.proofs.Common.{◌≡◌, ◌+◌, ◌≤◌, length}
use Rattle.ca_base.specs.declared.limits.TheConstants.{MAX_PIECES}
use Rattle.ca_script_lex.specs.Reading.{each}
use Rattle.ca_script_lex.specs.Words.{piece}
use Rattle.ca_script_lex.proofs.ListLemmas.{behind}
use Rattle.ca_script_lex.proofs.list.all_pieces.Given as goal

abbrev pub invariant-loop-word : goal.invariant-loop-word
invariant-loop-word l = (behind l.list.items (each piece l.parts) ≡ each piece l.fn.parts) × (length l.list.items + length l.parts ≤ MAX_PIECES)

abbrev pub decreases-loop-word : goal.decreases-loop-word
decreases-loop-word l = length l.parts
