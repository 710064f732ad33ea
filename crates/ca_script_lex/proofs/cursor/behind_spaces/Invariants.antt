use Rattle.std.proofs.Common.{◌≡◌, drop}
use Rattle.ca_script_lex.specs.Words.{words_of}
use Rattle.ca_script_lex.proofs.cursor.behind_spaces.Given as goal

abbrev pub invariant-spaces : goal.invariant-spaces
invariant-spaces l = words_of (drop l.i l.text) ≡ words_of l.text
