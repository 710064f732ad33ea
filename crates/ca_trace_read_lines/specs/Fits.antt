-- Fits: which lines may stand in a trace, as the types of the program allow. Contracts cite it.
use Rattle.ca_model.specs.History.{IsPlain}
use Rattle.ca_trace.specs.declared.line.Line.{Line}
use Rattle.ca_trace.specs.declared.line.Line.TheVariants as lines
use Rattle.ca_trace.specs.Lines.{line_words}
use Rattle.ca_trace_lex.specs.Fits.{AllFit}
use Rattle.ca_model.specs.declared.event.Event.{Event}
use Rattle.ca_model.specs.declared.event.Event.TheVariants as events
use Rattle.ca_trace_read_lines.specs.Answers.{IsTold}

-- an event that is no verb's
abbrev pub IsTurn : Event → Type 0
IsTurn (events.Verb by verb) = ⊥
IsTurn event = Unit {0}

-- the shape of a line: a poll's completions have lines of their own, and an answer is no mark's line
abbrev pub IsShaped : Line → Type 0
IsShaped (lines.Turn stamp pass event) = IsTurn event
IsShaped (lines.Call stamp pass by verb answer) = IsTold answer
IsShaped (lines.Mark m) = IsPlain m
IsShaped line = Unit {0}

-- a line that may stand in a trace
abbrev pub LineFits : Line → Type 0
LineFits l = IsShaped l × AllFit (line_words l)
