use Rattle.std.proofs.Common.{◌≡◌, ◌+◌, eqb, drop}
use Rattle.std.specs.List.{position_or_len}
use Rattle.ca_script_lex.proofs.cursor.word_length.Given as goal

abbrev pub invariant-word : goal.invariant-word
invariant-word l = l.i + position_or_len (λ b. eqb b 32) (drop l.i l.text) ≡ position_or_len (λ b. eqb b 32) l.text
