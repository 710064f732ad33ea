-- The lines of a history show its entries, in order.
use Rattle.std.proofs.Common.{◌≡◌, ℕ, suc, ◌+◌, ◌-◌, ◌^◌, ◌<◌, Bool, true, false, cond, eqb, List, [], ◌∷◌, ◌++◌, Option, Some, None, map, length, refl, sym, ap, ◌∙◌, arith, append_assoc}
use Rattle.std.specs.List.{flat_map}
use Rattle.std.proofs.lemmas.Bool.{eq-eqb, ne_eqb, lt-ltb}
use Rattle.std.proofs.lemmas.List.{append-nil}
use Rattle.ca_base.specs.declared.completion.Completion.{Completion}
use Rattle.ca_model.specs.declared.answer.Answer.{Answer}
use Rattle.ca_model.specs.declared.answer.Answer.TheVariants as answers
use Rattle.ca_model.specs.declared.event.Event.{Event}
use Rattle.ca_model.specs.declared.event.Event.TheVariants as events
use Rattle.ca_model.specs.declared.mark.Mark.{Mark}
use Rattle.ca_model.specs.declared.mark.Mark.TheVariants as marks
use Rattle.ca_model.specs.declared.verb.Verb.{Verb}
use Rattle.ca_model.specs.Entries.{EntryValue}
use Rattle.ca_model.specs.History.{ArePlain, FitTheEvent, IsEntry, IsHistoryFrom, IsHistory}
use Rattle.ca_trace.specs.declared.line.Line.{Line}
use Rattle.ca_trace.specs.declared.line.Line.TheVariants as lines
use Rattle.ca_trace.specs.Lines.{told_of, event_lines, entry_lines, history_lines}
use Rattle.ca_trace.specs.Trace.{completions_of}
use Rattle.ca_trace_lex.specs.Words.{◌>>=◌}
use Rattle.ca_trace_read.specs.declared.progress.OpenPoll.{OpenPoll}
use Rattle.ca_trace_read.specs.Steps.{Stage, Start, Polling, Open, Over, Reading, shown, may_end, answered, polling, called, before, run, start}

abbrev at_stage : ℕ → Stage → Reading
at_stage n stage = record { count = n; stage = stage }

-- an entry with these marks
abbrev with : EntryValue → List Mark → EntryValue
with e ms = record { stamp = e.stamp; pass = e.pass; event = e.event; marks = ms }

-- nothing is shown before the lines that follow
quiet : (r : Option (Reading × List EntryValue)) → (r >>= λ t. Some (t.0, before None t.1)) ≡ r
quiet None = refl
quiet (Some t) = refl

marks_run : (n : ℕ) (e : EntryValue) (ms : List Mark) (rest : List Line) → run (at_stage n (Open e)) (map lines.Mark ms ++ rest) ≡ run (at_stage n (Open (with e (e.marks ++ ms)))) rest
marks_run n e [] rest = rw append-nil refl
marks_run n e (m ∷ ms) rest =
    quiet (run (at_stage n (Open (with e (e.marks ++ m ∷ [])))) (map lines.Mark ms ++ rest))
    ∙ marks_run n (with e (e.marks ++ m ∷ [])) ms rest
    ∙ ap (λ (xs : List Mark). run (at_stage n (Open (with e xs))) rest) (append_assoc e.marks (m ∷ []) ms)

abbrev a_poll : ℕ → ℕ → ℕ → Verb → List Completion → ℕ → OpenPoll
a_poll stamp pass by verb given wanted = record { stamp = stamp; pass = pass; by = by; verb = verb; given = given; wanted = wanted }

gots_run : (n stamp pass by : ℕ) (verb : Verb) (given cs : List Completion) (rest : List Line)
    → run (at_stage n (polling (a_poll stamp pass by verb given (length cs)))) (map lines.Got cs ++ rest)
    ≡ run (at_stage n (Open (answered stamp pass by verb (answers.Polled (given ++ cs))))) rest
gots_run n stamp pass by verb given [] rest = rw append-nil refl
gots_run n stamp pass by verb given (c ∷ cs) rest =
    let more : eqb (suc (length cs)) 0 ≡ false = ne_eqb (suc (length cs)) 0 (λ same. omega arith) in
    let less : suc (length cs) - 1 ≡ length cs = omega arith in
    ap (λ (b : Bool). run (at_stage n (cond b (Open (answered stamp pass by verb (answers.Polled given))) (Polling (a_poll stamp pass by verb given (suc (length cs)))))) (lines.Got c ∷ (map lines.Got cs ++ rest))) more
    ∙ quiet (run (at_stage n (polling (a_poll stamp pass by verb (given ++ c ∷ []) (suc (length cs) - 1)))) (map lines.Got cs ++ rest))
    ∙ ap (λ (k : ℕ). run (at_stage n (polling (a_poll stamp pass by verb (given ++ c ∷ []) k))) (map lines.Got cs ++ rest)) less
    ∙ gots_run n stamp pass by verb (given ++ c ∷ []) cs rest
    ∙ ap (λ (xs : List Completion). run (at_stage n (Open (answered stamp pass by verb (answers.Polled xs)))) rest) (append_assoc given (c ∷ []) cs)

-- behind the line of a call and those of its completions
call_run : (n stamp pass by : ℕ) (verb : Verb) (answer : Answer) (rest : List Line)
    → run (at_stage n (called stamp pass by verb (told_of answer))) (map lines.Got (completions_of answer) ++ rest)
    ≡ run (at_stage n (Open (answered stamp pass by verb answer))) rest
call_run n stamp pass by verb answers.Fine rest = refl
call_run n stamp pass by verb (answers.Key k) rest = refl
call_run n stamp pass by verb (answers.Queue a b) rest = refl
call_run n stamp pass by verb (answers.Posted k) rest = refl
call_run n stamp pass by verb (answers.Polled list) rest = gots_run n stamp pass by verb [] list rest
call_run n stamp pass by verb (answers.Query s a b c) rest = refl
call_run n stamp pass by verb (answers.Loaded bs) rest = refl
call_run n stamp pass by verb (answers.Refused r) rest = refl

-- what is read behind a stage, with the entry that is shown first
abbrev behind : Stage → Option (Reading × List EntryValue) → Option (Reading × List EntryValue)
behind stage r = r >>= λ t. Some (t.0, before (shown stage) t.1)

turn_run : (n pass : ℕ) (event : Event) (ms : List Mark) (stage : Stage) (rest : List Line) → n < 18446744073709551615 → may_end stage ≡ true
    → run (at_stage n stage) (lines.Turn n pass event ∷ (map lines.Mark ms ++ rest))
    ≡ behind stage (run (at_stage (n + 1) (Open (record { stamp = n; pass = pass; event = event; marks = ms }))) rest)
turn_run n pass event ms stage rest b h =
    rw (h, eq-eqb n n refl, lt-ltb n 18446744073709551615 b) (ap (behind stage) (marks_run (n + 1) (record { stamp = n; pass = pass; event = event; marks = [] }) ms rest))

verb_run : (n pass by : ℕ) (verb : Verb) (answer : Answer) (ms : List Mark) (stage : Stage) (rest : List Line) → n < 18446744073709551615 → may_end stage ≡ true
    → run (at_stage n stage) (lines.Call n pass by verb (told_of answer) ∷ (map lines.Got (completions_of answer) ++ (map lines.Mark ms ++ rest)))
    ≡ behind stage (run (at_stage (n + 1) (Open (record { stamp = n; pass = pass; event = events.Verb by verb; marks = marks.Verb by verb answer ∷ ms }))) rest)
verb_run n pass by verb answer ms stage rest b h =
    rw (h, eq-eqb n n refl, lt-ltb n 18446744073709551615 b) (ap (behind stage) (call_run (n + 1) n pass by verb answer (map lines.Mark ms ++ rest) ∙ marks_run (n + 1) (answered n pass by verb answer) ms rest))

turn_parts : (n pass : ℕ) (event : Event) (ms : List Mark) (stage : Stage) (rest : List Line) → n < 18446744073709551615 → may_end stage ≡ true → ArePlain ms
    → run (at_stage n stage) (event_lines n pass event ms ++ rest)
    ≡ behind stage (run (at_stage (n + 1) (Open (record { stamp = n; pass = pass; event = event; marks = ms }))) rest)
turn_parts n pass event [] stage rest b h g = turn_run n pass event [] stage rest b h
turn_parts n pass event (marks.Verb by verb answer ∷ ms) stage rest b h g = absurd g.0
turn_parts n pass event (m ∷ ms) stage rest b h g = turn_run n pass event (m ∷ ms) stage rest b h

verb_parts : (n pass by : ℕ) (verb : Verb) (ms : List Mark) (stage : Stage) (rest : List Line) → n < 18446744073709551615 → may_end stage ≡ true → FitTheEvent (events.Verb by verb) ms
    → run (at_stage n stage) (event_lines n pass (events.Verb by verb) ms ++ rest)
    ≡ behind stage (run (at_stage (n + 1) (Open (record { stamp = n; pass = pass; event = events.Verb by verb; marks = ms }))) rest)
verb_parts n pass by verb [] stage rest b h g = absurd g
verb_parts n pass by verb (marks.Verb by' verb' answer ∷ ms) stage rest b h g =
    ap (λ (ls : List Line). run (at_stage n stage) (lines.Call n pass by' verb' (told_of answer) ∷ ls)) (append_assoc (map lines.Got (completions_of answer)) (map lines.Mark ms) rest)
    ∙ verb_run n pass by' verb' answer ms stage rest b h
    ∙ ap (λ (c : ℕ). behind stage (run (at_stage (n + 1) (Open (record { stamp = n; pass = pass; event = events.Verb c verb'; marks = marks.Verb by' verb' answer ∷ ms }))) rest)) g.0.0
    ∙ ap (λ (v : Verb). behind stage (run (at_stage (n + 1) (Open (record { stamp = n; pass = pass; event = events.Verb by v; marks = marks.Verb by' verb' answer ∷ ms }))) rest)) g.0.1
verb_parts n pass by verb (m ∷ ms) stage rest b h g = absurd g.0

entry_parts : (n pass : ℕ) (event : Event) (ms : List Mark) (stage : Stage) (rest : List Line) → n < 18446744073709551615 → may_end stage ≡ true → FitTheEvent event ms
    → run (at_stage n stage) (event_lines n pass event ms ++ rest)
    ≡ behind stage (run (at_stage (n + 1) (Open (record { stamp = n; pass = pass; event = event; marks = ms }))) rest)
entry_parts n pass (events.Verb by verb) ms stage rest b h g = verb_parts n pass by verb ms stage rest b h g
entry_parts n pass (events.Request q l) ms stage rest b h g = turn_parts n pass (events.Request q l) ms stage rest b h g
entry_parts n pass (events.Deliver q i) ms stage rest b h g = turn_parts n pass (events.Deliver q i) ms stage rest b h g
entry_parts n pass (events.Respond q l) ms stage rest b h g = turn_parts n pass (events.Respond q l) ms stage rest b h g
entry_parts n pass (events.Timeout q t) ms stage rest b h g = turn_parts n pass (events.Timeout q t) ms stage rest b h g
entry_parts n pass (events.RnrWake q) ms stage rest b h g = turn_parts n pass (events.RnrWake q) ms stage rest b h g

-- the lines of an entry show what stood before it, and lead to it
entry_run : (n : ℕ) (e : EntryValue) (stage : Stage) (rest : List Line) → n < 18446744073709551615 → may_end stage ≡ true → IsEntry n e
    → run (at_stage n stage) (entry_lines e ++ rest) ≡ behind stage (run (at_stage (n + 1) (Open e)) rest)
entry_run n e stage rest b h g =
    ap (λ (k : ℕ). run (at_stage n stage) (event_lines k e.pass e.event e.marks ++ rest)) g.stamp
    ∙ entry_parts n e.pass e.event e.marks stage rest b h g.marks
    ∙ ap (λ (k : ℕ). behind stage (run (at_stage (n + 1) (Open (record { stamp = k; pass = e.pass; event = e.event; marks = e.marks }))) rest)) (sym g.stamp)

-- the lines of entries from the nth on, and the last line
history_run : (n : ℕ) (es : List EntryValue) (stage : Stage) → n + length es < 2 ^ 64 → may_end stage ≡ true → IsHistoryFrom n es
    → run (at_stage n stage) (flat_map entry_lines es ++ lines.End (n + length es) ∷ []) ≡ Some (at_stage (n + length es) Over, before (shown stage) es)
history_run n [] stage b h g =
    let same : n + 0 ≡ n = omega arith in
    rw (h, eq-eqb (n + 0) n same, same) refl
history_run n (e ∷ es) stage b h g =
    let one : n + 1 ≡ suc n = omega arith in
    let all : n + suc (length es) ≡ suc n + length es = omega arith in
    ap (run (at_stage n stage)) (append_assoc (entry_lines e) (flat_map entry_lines es) (lines.End (n + suc (length es)) ∷ []))
    ∙ entry_run n e stage (flat_map entry_lines es ++ lines.End (n + suc (length es)) ∷ []) (omega arith) h g.0
    ∙ ap (λ (k : ℕ). behind stage (run (at_stage k (Open e)) (flat_map entry_lines es ++ lines.End (n + suc (length es)) ∷ []))) one
    ∙ ap (λ (k : ℕ). behind stage (run (at_stage (suc n) (Open e)) (flat_map entry_lines es ++ lines.End k ∷ []))) all
    ∙ ap (behind stage) (history_run (suc n) es (Open e) (omega arith) refl g.1)
    ∙ ap (λ (k : ℕ). Some (at_stage k Over, before (shown stage) (e ∷ es))) (sym all)

-- the lines of a history show its entries, in order, and nothing may follow them
pub lines_run : (es : List EntryValue) → length es < 2 ^ 64 → IsHistory es → run start (history_lines es) ≡ Some (record { count = length es; stage = Over }, es)
lines_run es b h =
    let none : 0 + length es ≡ length es = omega arith in
    ap (λ (k : ℕ). run start (flat_map entry_lines es ++ lines.End k ∷ [])) (sym none) ∙ history_run 0 es Start (omega arith) refl h
    ∙ ap (λ (k : ℕ). Some (at_stage k Over, es)) none
