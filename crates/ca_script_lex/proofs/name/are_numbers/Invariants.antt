use Rattle.std.proofs.Common.{◌≡◌, ◌&&◌, eqb, length}
use Rattle.std.specs.List.{list_all}
use Rattle.ca_trace_lex.specs.Words.{pieces}
use Rattle.ca_script_lex.specs.Words.{is_number}
use Rattle.ca_script_lex.proofs.name.are_numbers.Given as goal

abbrev pub invariant-loop-part : goal.invariant-loop-part
invariant-loop-part l = (eqb (length l.parts) l.left && list_all is_number l.parts) ≡ (eqb (length (pieces l.separator l.word)) l.count && list_all is_number (pieces l.separator l.word))

abbrev pub decreases-loop-part : goal.decreases-loop-part
decreases-loop-part l = length l.parts
