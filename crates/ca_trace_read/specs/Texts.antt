-- Texts: the history that a whole text is. Contracts cite it.
use Rattle.std.specs.Prelude.{ℕ, if◌then◌else◌, List, [], ◌∷◌, Option, Some, None}
use Rattle.std.specs.Str.{bytes_eq}
use Rattle.ca_model.specs.Entries.{EntryValue}
use Rattle.ca_trace.specs.declared.line.Line.{Line}
use Rattle.ca_trace_lex.specs.Words.{◌>>=◌, pieces, line_feed}
use Rattle.ca_trace_read_fits.specs.ca_trace_read_lines.Calls.{exact_in}
use Rattle.ca_trace_read.specs.Steps.{is_over, run, start}

-- the lines of a text that was cut at its line feeds; nothing stands behind the last one
abbrev pub lines_in : List (List ℕ) → Option (List Line)
lines_in [] = None
lines_in (w ∷ []) = if bytes_eq w [] then Some [] else None
lines_in (w ∷ v ∷ ws) = do
  line ← exact_in w
  lines ← lines_in (v ∷ ws)
  Some (line ∷ lines)

-- the history that a text is
abbrev pub history_in : List ℕ → Option (List EntryValue)
history_in text = do
  lines ← lines_in (pieces line_feed text)
  read ← run start lines
  if is_over read.0.stage then Some read.1 else None
