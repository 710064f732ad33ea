-- Trace: the lines of an entry, and the text of a history. Contracts cite it.
use Rattle.std.specs.Prelude.{ℕ, List, [], ◌∷◌, ◌++◌, length, codes}
use Rattle.std.specs.Int.{w32, w64}
use Rattle.std.specs.List.{flat_map}
use Rattle.ca_base.specs.declared.completion.Completion.{Completion}
use Rattle.ca_model.specs.declared.answer.Answer.{Answer}
use Rattle.ca_model.specs.declared.answer.Answer.TheVariants as answers
use Rattle.ca_model.specs.declared.mark.Mark.{Mark}
use Rattle.ca_model.specs.declared.mark.Mark.TheVariants as marks
use Rattle.ca_model.specs.Entries.{EntryValue}
use Rattle.ca_trace.specs.Table.{event_words, told_words, got_words, mark_words}
use Rattle.ca_trace_print.specs.Verbs.{call_words}
use Rattle.ca_trace_print.specs.Words.{Field, Fixed, Number, Lettered, words, joined, led}

-- a line of these words, with its line feed
abbrev pub line : List Field → List ℕ
line fields = joined 32 (words fields) ++ 10 ∷ []

-- a line that begins with a space
abbrev pub inner_line : List Field → List ℕ
inner_line fields = led 32 (words fields) ++ 10 ∷ []

-- the completions that an answer gave
abbrev pub completions_of : Answer → List Completion
completions_of (answers.Polled completions) = completions
completions_of answer = []

-- the line of a completion that an answer gave
abbrev pub got_line : Completion → List ℕ
got_line c = inner_line (got_words c)

-- the lines of the completions that an answer gave
abbrev pub got_lines : Answer → List ℕ
got_lines answer = flat_map got_line (completions_of answer)

-- a mark's line
abbrev pub mark_text : Mark → List ℕ
mark_text m = inner_line (mark_words m)

-- the end of an entry's line and the lines behind it: the answer, where one is the first mark, stands on the entry's line,
-- and behind it the completions that it gave; each other mark has a line
abbrev pub marks_text : List Mark → List ℕ
marks_text (marks.Verb by verb answer ∷ ms) =
    led 32 (words (told_words answer)) ++ 10 ∷ got_lines answer ++ flat_map mark_text ms
marks_text ms = 10 ∷ flat_map mark_text ms

-- the words in front of an entry's marks
abbrev pub head_words : EntryValue → List Field
head_words e = Lettered 64 w64 e.stamp ∷ Lettered 112 w32 e.pass ∷ event_words e.event

-- the lines of an entry
abbrev pub entry_text : EntryValue → List ℕ
entry_text e = joined 32 (words (head_words e)) ++ marks_text e.marks

-- the last line, which tells how many entries there are
abbrev pub end_text : ℕ → List ℕ
end_text n = line (Fixed (codes "end") ∷ Number w64 n ∷ [])

-- all entries, and the last line
abbrev pub text : List EntryValue → List ℕ
text es = flat_map entry_text es ++ end_text (length es)

-- a reply: an answer with its call and the completions that it gave, and any other mark as its line
abbrev pub reply_text : Mark → List ℕ
reply_text (marks.Verb by verb answer) = line (call_words by verb ++ told_words answer) ++ got_lines answer
reply_text m = mark_text m
