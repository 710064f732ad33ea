-- Taken: which lines may stand behind others, and what they tell. Contracts cite it.
use Rattle.std.specs.Prelude.{◌≡◌, ℕ, List, [], ◌∷◌, ◌++◌, Option, Some, None, map}
use Rattle.std.specs.List.{flat_map, AllByRecursion}
use Rattle.ca_model.specs.Entries.{EntryValue}
use Rattle.ca_trace.specs.declared.line.Line.{Line}
use Rattle.ca_trace.specs.Lines.{line_text}
use Rattle.ca_trace_read_fits.specs.ca_trace_read_lines.Fits.{LineFits}
use Rattle.ca_trace_read.specs.Steps.{Reading, step, run}

-- this text is a line that may stand in a trace, and here; what is known behind it, and the entry that it shows to be
-- complete
pub record IsTaken (r : Reading) (text : List ℕ) (s : Reading) (shown : Option EntryValue) : Type 0 where
  pub line : Line
  pub fits : LineFits line
  pub spelled : text ≡ line_text line
  pub leads : step r line ≡ Some (s, shown)

-- no line that may stand here has this text
abbrev pub IsRefused : Reading → List ℕ → Type 0
IsRefused r text = (line : Line) → LineFits line → text ≡ line_text line → step r line ≡ None

-- these texts are lines that may stand in a trace, and here, one behind the other; what is known behind them, and the
-- entries that they show to be complete, in order
pub record AreTaken (r : Reading) (texts : List (List ℕ)) (s : Reading) (shown : List EntryValue) : Type 0 where
  pub lines : List Line
  pub fit : AllByRecursion LineFits lines
  pub spelled : texts ≡ map line_text lines
  pub leads : run r lines ≡ Some (s, shown)

-- texts, each with its line feed
abbrev pub lined : List (List ℕ) → List ℕ
lined texts = flat_map (λ w. w ++ 10 ∷ []) texts
