-- Steps: what a reader of lines knows, and what the next line makes of it. Contracts cite it.
use Rattle.std.specs.Prelude.{ℕ, ◌+◌, ◌-◌, ◌==◌, ◌&&◌, nat_lt, Bool, true, false, if◌then◌else◌, List, [], ◌∷◌, ◌++◌, Option, Some, None}
use Rattle.ca_base.specs.declared.completion.Completion.{Completion}
use Rattle.ca_model.specs.declared.answer.Answer.{Answer}
use Rattle.ca_model.specs.declared.answer.Answer.TheVariants as answers
use Rattle.ca_model.specs.declared.event.Event.TheVariants as events
use Rattle.ca_model.specs.declared.mark.Mark.{Mark}
use Rattle.ca_model.specs.declared.mark.Mark.TheVariants as marks
use Rattle.ca_model.specs.declared.verb.Verb.{Verb}
use Rattle.ca_model.specs.Entries.{EntryValue}
use Rattle.ca_trace.specs.declared.line.Line.{Line}
use Rattle.ca_trace.specs.declared.line.Line.TheVariants as lines
use Rattle.ca_trace.specs.declared.line.Told.{Told}
use Rattle.ca_trace.specs.declared.line.Told.TheVariants as told
use Rattle.ca_trace_read.specs.declared.progress.OpenPoll.{OpenPoll}
use Rattle.ca_trace_lex.specs.Words.{◌>>=◌}

-- where in a text a reader stands
pub data Stage : Type 0 where
  -- at its first line
  Start : Stage
  -- behind lines of this poll
  Polling : OpenPoll → Stage
  -- behind the lines of this entry, or of a front of it
  Open : EntryValue → Stage
  -- behind the last line
  Over : Stage
  -- behind a line that was refused
  Stopped : Stage

-- how many entries have begun, and where the reader stands
pub record Reading : Type 0 where
  pub count : ℕ
  pub stage : Stage

-- the entry that a new entry, or the last line, shows to be complete
abbrev pub shown : Stage → Option EntryValue
shown (Open e) = Some e
shown stage = None

-- a new entry, or the last line, may follow
abbrev pub may_end : Stage → Bool
may_end Start = true
may_end (Open e) = true
may_end stage = false

-- an entry with this stamp may follow: it is the number of the entries before it, and is small enough that the last line
-- can tell how many there are
abbrev pub may_begin : Reading → ℕ → Bool
may_begin r stamp = may_end r.stage && stamp == r.count && nat_lt stamp 18446744073709551615

-- the entry of a call without its answer
abbrev pub unanswered : ℕ → ℕ → ℕ → Verb → EntryValue
unanswered stamp pass by verb = record { stamp = stamp; pass = pass; event = events.Verb by verb; marks = [] }

-- the entry of a call with its answer
abbrev pub answered : ℕ → ℕ → ℕ → Verb → Answer → EntryValue
answered stamp pass by verb answer =
    record { stamp = stamp; pass = pass; event = events.Verb by verb; marks = marks.Verb by verb answer ∷ [] }

-- the entry of a poll that gave these
abbrev pub polled : OpenPoll → List Completion → EntryValue
polled p given = answered p.stamp p.pass p.by p.verb (answers.Polled given)

-- behind the line of a poll, or of one of its completions
abbrev pub polling : OpenPoll → Stage
polling p = if p.wanted == 0 then Open (polled p p.given) else Polling p

-- behind the line of a call
abbrev pub called : ℕ → ℕ → ℕ → Verb → Told → Stage
called stamp pass by verb (told.Whole answer) = Open (answered stamp pass by verb answer)
called stamp pass by verb (told.Polled n) =
    polling (record { stamp = stamp; pass = pass; by = by; verb = verb; given = []; wanted = n })

-- behind the line of a completion
abbrev pub with_got : Completion → Stage → Option Stage
with_got c (Polling p) = Some (polling (record {
  stamp = p.stamp;
  pass = p.pass;
  by = p.by;
  verb = p.verb;
  given = p.given ++ c ∷ [];
  wanted = p.wanted - 1;
}))
with_got c stage = None

-- behind the line of a mark
abbrev pub with_mark : Mark → Stage → Option Stage
with_mark m (Open e) = Some (Open (record { stamp = e.stamp; pass = e.pass; event = e.event; marks = e.marks ++ m ∷ [] }))
with_mark m stage = None

-- what is known behind the next line, and the entry that it shows to be complete
abbrev pub step : Reading → Line → Option (Reading × Option EntryValue)
step r (lines.Turn stamp pass event) =
    if may_begin r stamp
    then Some (record { count = r.count + 1; stage = Open (record { stamp = stamp; pass = pass; event = event; marks = [] }) }, shown r.stage)
    else None
step r (lines.Call stamp pass by verb answer) =
    if may_begin r stamp
    then Some (record { count = r.count + 1; stage = called stamp pass by verb answer }, shown r.stage)
    else None
step r (lines.Got c) = do
  stage ← with_got c r.stage
  Some (record { count = r.count; stage = stage }, None)
step r (lines.Mark m) = do
  stage ← with_mark m r.stage
  Some (record { count = r.count; stage = stage }, None)
step r (lines.End n) =
    if may_end r.stage && n == r.count
    then Some (record { count = r.count; stage = Over }, shown r.stage)
    else None

-- an entry before others, where there is one
abbrev pub before : Option EntryValue → List EntryValue → List EntryValue
before None es = es
before (Some e) es = e ∷ es

-- what is known behind lines, and the entries that they show to be complete, in order
abbrev pub run : Reading → List Line → Option (Reading × List EntryValue)
run r [] = Some (r, [])
run r (l ∷ ls) = do
  s ← step r l
  t ← run s.0 ls
  Some (t.0, before s.1 t.1)

-- before the first line
abbrev pub start : Reading
start = record { count = 0; stage = Start }

-- nothing is to come
abbrev pub is_over : Stage → Bool
is_over Over = true
is_over stage = false

-- behind a line that was refused
abbrev pub stopped : Reading → Reading
stopped r = record { count = r.count; stage = Stopped }
