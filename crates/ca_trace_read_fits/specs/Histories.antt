-- Histories: which histories have a text, as the types of the program allow. Contracts cite it.
use Rattle.std.specs.Prelude.{◌<◌, ◌≤◌, ◌^◌, List, length}
use Rattle.std.specs.List.{AllByRecursion}
use Rattle.ca_base.specs.declared.limits.TheConstants.{MAX_POLLED}
use Rattle.ca_model.specs.declared.answer.Answer.{Answer}
use Rattle.ca_model.specs.declared.answer.Answer.TheVariants as answers
use Rattle.ca_model.specs.declared.mark.Mark.{Mark}
use Rattle.ca_model.specs.declared.mark.Mark.TheVariants as marks
use Rattle.ca_model.specs.Entries.{EntryValue}
use Rattle.ca_model.specs.History.{IsHistory}
use Rattle.ca_trace.specs.Lines.{entry_lines}
use Rattle.ca_trace.specs.Table.{answer_words, completion_words, event_words, mark_words}
use Rattle.ca_trace_lex.specs.Fits.{AllFit}
use Rattle.ca_trace_read_lines.specs.Fits.{LineFits}

-- each line of the entry may stand in a trace
abbrev pub EntryFits : EntryValue → Type 0
EntryFits e = AllByRecursion LineFits (entry_lines e)

-- a history whose numbers and lists are within what their types hold
pub record HistoryFits (es : List EntryValue) : Type 0 where
  pub history : IsHistory es
  pub entries : AllByRecursion EntryFits es
  pub few : length es < 2 ^ 64

-- the completions that an answer gave may have lines of a trace
abbrev pub AnswerHolds : Answer → Type 0
AnswerHolds (answers.Polled completions) = (length completions ≤ MAX_POLLED) × AllByRecursion (λ c. AllFit (completion_words c)) completions
AnswerHolds answer = Unit {0}

-- what a mark tells may stand in a trace
abbrev pub MarkHolds : Mark → Type 0
MarkHolds (marks.Verb by verb answer) = AllFit (answer_words answer) × AnswerHolds answer
MarkHolds m = AllFit (mark_words m)

-- what an entry tells may stand in a trace
pub record EntryHolds (e : EntryValue) : Type 0 where
  pub stamp : e.stamp ≤ 18446744073709551615
  pub pass : e.pass ≤ 4294967295
  pub event : AllFit (event_words e.event)
  pub marks : AllByRecursion MarkHolds e.marks
