use Rattle.std.specs.Prelude.{ℕ, List, [], if◌then◌else◌}
use Rattle.ca_trace_lex.specs.declared.pieces.Pieces.TheInside.{Inside}
use Rattle.ca_trace_lex.specs.Words.{pieces}

abbrev pub view_of : Inside → List (List ℕ)
view_of p = if p.over then [] else pieces p.separator p.text.now
