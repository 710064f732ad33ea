-- Lines: the words of each line, and the lines of an entry and of a history. Contracts cite it.
use Rattle.std.specs.Prelude.{ℕ, List, [], ◌∷◌, ◌++◌, map, length, codes}
use Rattle.std.specs.Int.{w8, w32, w64}
use Rattle.std.specs.List.{flat_map}
use Rattle.ca_model.specs.declared.answer.Answer.{Answer}
use Rattle.ca_model.specs.declared.answer.Answer.TheVariants as answers
use Rattle.ca_model.specs.declared.event.Event.{Event}
use Rattle.ca_model.specs.declared.mark.Mark.{Mark}
use Rattle.ca_model.specs.declared.mark.Mark.TheVariants as marks
use Rattle.ca_model.specs.Entries.{EntryValue}
use Rattle.ca_trace.specs.declared.line.Line.{Line}
use Rattle.ca_trace.specs.declared.line.Line.TheVariants as lines
use Rattle.ca_trace.specs.declared.line.Told.{Told}
use Rattle.ca_trace.specs.declared.line.Told.TheVariants as told
use Rattle.ca_trace.specs.Table.{event_words, told_words, got_words, mark_words}
use Rattle.ca_trace_print.specs.Verbs.{call_words}
use Rattle.ca_trace.specs.Trace.{completions_of}
use Rattle.ca_trace_print.specs.Words.{Field, Fixed, Number, Lettered, words, joined}

-- what the line of a call tells of its answer
abbrev pub told_of : Answer → Told
told_of (answers.Polled completions) = told.Polled (length completions)
told_of answer = told.Whole answer

-- its words
abbrev pub answer_line_words : Told → List Field
answer_line_words (told.Whole answer) = told_words answer
answer_line_words (told.Polled n) = Fixed (codes "->") ∷ Fixed (codes "polled") ∷ Number w8 n ∷ []

-- the words of a line; a line that begins with a space has an empty first word
abbrev pub line_words : Line → List Field
line_words (lines.Turn stamp pass event) = Lettered 64 w64 stamp ∷ Lettered 112 w32 pass ∷ event_words event
line_words (lines.Call stamp pass by verb told) =
    Lettered 64 w64 stamp ∷ Lettered 112 w32 pass ∷ call_words by verb ++ answer_line_words told
line_words (lines.Got c) = Fixed [] ∷ got_words c
line_words (lines.Mark m) = Fixed [] ∷ mark_words m
line_words (lines.End n) = Fixed (codes "end") ∷ Number w64 n ∷ []

-- a line, without its line feed
abbrev pub line_text : Line → List ℕ
line_text l = joined 32 (words (line_words l))

-- lines, each with its line feed
abbrev pub lines_text : List Line → List ℕ
lines_text ls = flat_map (λ l. line_text l ++ 10 ∷ []) ls

-- the lines of an entry's event and marks: the answer, where one is the first mark, stands on the entry's line
abbrev pub event_lines : ℕ → ℕ → Event → List Mark → List Line
event_lines stamp pass event (marks.Verb by verb answer ∷ ms) =
    lines.Call stamp pass by verb (told_of answer) ∷ map lines.Got (completions_of answer) ++ map lines.Mark ms
event_lines stamp pass event ms = lines.Turn stamp pass event ∷ map lines.Mark ms

-- the lines of an entry
abbrev pub entry_lines : EntryValue → List Line
entry_lines e = event_lines e.stamp e.pass e.event e.marks

-- the lines of a history
abbrev pub history_lines : List EntryValue → List Line
history_lines es = flat_map entry_lines es ++ lines.End (length es) ∷ []
