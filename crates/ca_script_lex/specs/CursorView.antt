use Rattle.std.specs.Prelude.{ℕ, List}
use Rattle.ca_script_lex.specs.Words.{words_of}
use Rattle.ca_script_lex.specs.declared.cursor.LineWords.TheInside.{Inside}

abbrev pub view_of : Inside → List (List ℕ)
view_of w = words_of w.text.now
