-- Calls: the line of a call behind its stamp and its pass, and the one line that a text is. Contracts cite it.
use Rattle.std.specs.Prelude.{ℕ, List, if◌then◌else◌, Option, Some, None}
use Rattle.std.specs.Str.{bytes_eq}
use Rattle.ca_trace.specs.declared.line.Line.{Line}
use Rattle.ca_trace.specs.declared.line.Line.TheVariants as lines
use Rattle.ca_trace.specs.Lines.{line_text}
use Rattle.ca_trace_lex.specs.Words.{◌>>=◌, next_of, lettered_in, max_u32}
use Rattle.ca_trace_read_verbs.specs.Verbs.{verb_at}
use Rattle.ca_trace_read_lines.specs.Reading.{line_in}
use Rattle.ca_trace_read_lines.specs.Answers.{answer_at}

unfoldable pub call_at : ℕ → ℕ → List ℕ → List (List ℕ) → Option Line
call_at stamp pass name ws = do
  by ← lettered_in max_u32 name
  verb ← verb_at ws
  arrow ← next_of verb.1
  answer ← answer_at arrow.1
  Some (lines.Call stamp pass by verb.0 answer.0)

-- the line that prints as this text
unfoldable pub exact_in : List ℕ → Option Line
exact_in text = do
  line ← line_in text
  if bytes_eq (line_text line) text then Some line else None
