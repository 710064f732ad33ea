-- Where a reader may stand: behind the lines of whole entries, and a front of those of one more.
use Rattle.std.proofs.Common.{◌≡◌, ℕ, ◌+◌, ◌-◌, ◌^◌, ◌<◌, true, eqb, ltb, ◌&&◌, List, [], ◌∷◌, ◌++◌, Option, Some, None, map, length, refl, sym, ap, subst, ◌∙◌, arith, append_assoc, zero-add}
use Rattle.std.specs.List.{flat_map, AllByRecursion}
use Rattle.std.proofs.lemmas.Bool.{and_parts, eqb-true, ltb-true}
use Rattle.std.proofs.lemmas.List.{append-nil, map-append, length-append}
use Rattle.std.proofs.lemmas.List.Concat.{flat_map-append}
use Rattle.std.proofs.lemmas.Option.{cond_some}
use Rattle.ca_base.specs.declared.completion.Completion.{Completion}
use Rattle.ca_model.specs.declared.event.Event.{Event}
use Rattle.ca_model.specs.declared.mark.Mark.{Mark}
use Rattle.ca_model.specs.declared.verb.Verb.{Verb}
use Rattle.ca_model.specs.Entries.{EntryValue}
use Rattle.ca_model.specs.History.{IsHistory}
use Rattle.ca_trace.specs.declared.line.Line.{Line}
use Rattle.ca_trace.specs.declared.line.Line.TheVariants as lines
use Rattle.ca_trace.specs.declared.line.Told.{Told}
use Rattle.ca_trace.specs.declared.line.Told.TheVariants as told
use Rattle.ca_trace.specs.Lines.{entry_lines}
use Rattle.ca_trace_lex.specs.Words.{◌>>=◌}
use Rattle.ca_trace_read_fits.specs.ca_trace_read_lines.Fits.{IsShaped, IsTurn, LineFits}
use Rattle.ca_trace_read_fits.specs.ca_trace_read_lines.Answers.{IsTold}
use Rattle.ca_trace_read.specs.declared.progress.OpenPoll.{OpenPoll}
use Rattle.ca_trace_read.specs.Steps.{Stage, Start, Polling, Open, Over, Stopped, Reading, shown, may_end, may_begin, polling, called, step, before, run, start}
use Rattle.ca_trace_read.proofs.RunLemmas.{bind_some}
use Rattle.ca_trace_read.proofs.EntryLemmas.{stage_lines, StandsAt, turn_fits, call_lines, poll_lines, poll_stands, mark_lines, fit_more, history_more}

-- the lines of these entries and of what has begun
pub record IsBehind (ls : List Line) (n : ℕ) (stage : Stage) (es : List EntryValue) : Type 0 where
  pub lines : ls ≡ flat_map entry_lines es ++ stage_lines n stage
  pub history : IsHistory es
  pub place : StandsAt (length es) n stage
  pub few : n < 2 ^ 64

-- all that has begun is complete
record AllComplete (ls : List Line) (n : ℕ) (es : List EntryValue) : Type 0 where
  pub lines : ls ≡ flat_map entry_lines es
  pub history : IsHistory es
  pub count : length es ≡ n

complete : (ls : List Line) (n : ℕ) (stage : Stage) (es : List EntryValue) → IsBehind ls n stage es → may_end stage ≡ true → AllComplete ls n (es ++ before (shown stage) [])
complete ls n Start es h g =
    let none : length es ≡ n = h.place.1 ∙ sym h.place.0 in
    rw (append-nil es) (record { lines = h.lines ∙ append-nil (flat_map entry_lines es); history = h.history; count = none })
complete ls n (Open e) es h g =
    let count : length (es ++ e ∷ []) ≡ n = length-append es (e ∷ []) ∙ sym h.place.0 in
    record {
      lines = h.lines ∙ ap (λ (x : List Line). flat_map entry_lines es ++ x) (sym (append-nil (entry_lines e))) ∙ sym (flat_map-append entry_lines es (e ∷ []));
      history = history_more 0 (length es) es e h.history (sym (zero-add (length es))) h.place.1;
      count = count;
    }
complete ls n (Polling p) es h g = absurd cc
complete ls n Over es h g = absurd cc
complete ls n Stopped es h g = absurd cc

-- behind the first line of a new entry
begin : (ls : List Line) (l : Line) (n : ℕ) (stage new : Stage) (es : List EntryValue) → IsBehind ls n stage es → may_end stage ≡ true → n < 18446744073709551615
    → stage_lines (n + 1) new ≡ l ∷ [] → StandsAt n (n + 1) new → IsBehind (ls ++ l ∷ []) (n + 1) new (es ++ before (shown stage) [])
begin ls l n stage new es h g low one place =
    let all = complete ls n stage es h g in
    record {
      lines = ap (λ (x : List Line). x ++ l ∷ []) all.lines ∙ ap (λ (x : List Line). flat_map entry_lines (es ++ before (shown stage) []) ++ x) (sym one);
      history = all.history;
      place = subst (λ (k : ℕ). StandsAt k (n + 1) new) (sym all.count) place;
      few = omega arith;
    }

-- the stamp of a new entry
pub stamp_is : (n stamp : ℕ) (stage : Stage) → may_begin (record { count = n; stage = stage }) stamp ≡ true → (may_end stage ≡ true) × (stamp ≡ n) × (n < 18446744073709551615)
stamp_is n stamp stage h =
    let outer = and_parts (may_end stage && eqb stamp n) (ltb stamp 18446744073709551615) h in
    let inner = and_parts (may_end stage) (eqb stamp n) outer.0 in
    let same : stamp ≡ n = eqb-true stamp n inner.1 in
    let low : stamp < 18446744073709551615 = ltb-true stamp 18446744073709551615 outer.1 in
    (inner.0, same, omega arith)

abbrev at_place : ℕ → Stage → Reading
at_place n stage = record { count = n; stage = stage }

-- behind a line, with the entry that it shows to be complete
abbrev Then : List Line → Line → List EntryValue → Reading × Option EntryValue → Type 0
Then ls l es s = IsBehind (ls ++ l ∷ []) s.0.count s.0.stage (es ++ before s.1 [])

turn_step : (ls : List Line) (n stamp pass : ℕ) (event : Event) (stage : Stage) (es : List EntryValue) (s : Reading × Option EntryValue) → IsBehind ls n stage es → IsTurn event
    → step (at_place n stage) (lines.Turn stamp pass event) ≡ Some s → Then ls (lines.Turn stamp pass event) es s
turn_step ls n stamp pass event stage es s h g e =
    let new : Stage = Open (record { stamp = stamp; pass = pass; event = event; marks = [] }) in
    let both = cond_some (may_begin (at_place n stage) stamp) (at_place (n + 1) new, shown stage) s e in
    let is = stamp_is n stamp stage both.0 in
    let place : StandsAt n (n + 1) new = (refl, record { stamp = is.1; marks = turn_fits event g }) in
    subst (Then ls (lines.Turn stamp pass event) es) both.1 (begin ls (lines.Turn stamp pass event) n stage new es h is.0 is.2 refl place)

called_lines : (n stamp pass by : ℕ) (verb : Verb) (t : Told) → IsTold t → stage_lines n (called stamp pass by verb t) ≡ lines.Call stamp pass by verb t ∷ []
called_lines n stamp pass by verb (told.Whole answer) h = call_lines stamp pass by verb answer h
called_lines n stamp pass by verb (told.Polled k) h =
    poll_lines n (record { stamp = stamp; pass = pass; by = by; verb = verb; given = []; wanted = k })
    ∙ ap (λ (i : ℕ). lines.Call stamp pass by verb (told.Polled i) ∷ []) (zero-add k)

called_stands : (k stamp pass by : ℕ) (verb : Verb) (t : Told) → stamp ≡ k → StandsAt k (k + 1) (called stamp pass by verb t)
called_stands k stamp pass by verb (told.Whole answer) e = (refl, record { stamp = e; marks = ((refl, refl), tt) })
called_stands k stamp pass by verb (told.Polled n) e = poll_stands k (k + 1) (record { stamp = stamp; pass = pass; by = by; verb = verb; given = []; wanted = n }) refl e

call_step : (ls : List Line) (n stamp pass by : ℕ) (verb : Verb) (t : Told) (stage : Stage) (es : List EntryValue) (s : Reading × Option EntryValue) → IsBehind ls n stage es → IsTold t
    → step (at_place n stage) (lines.Call stamp pass by verb t) ≡ Some s → Then ls (lines.Call stamp pass by verb t) es s
call_step ls n stamp pass by verb t stage es s h g e =
    let new : Stage = called stamp pass by verb t in
    let both = cond_some (may_begin (at_place n stage) stamp) (at_place (n + 1) new, shown stage) s e in
    let is = stamp_is n stamp stage both.0 in
    subst (Then ls (lines.Call stamp pass by verb t) es) both.1 (begin ls (lines.Call stamp pass by verb t) n stage new es h is.0 is.2 (called_lines (n + 1) stamp pass by verb t g) (called_stands n stamp pass by verb t is.1))

-- the poll behind the line of a completion
abbrev pub next_poll : OpenPoll → Completion → OpenPoll
next_poll p c = record { stamp = p.stamp; pass = p.pass; by = p.by; verb = p.verb; given = p.given ++ c ∷ []; wanted = p.wanted - 1 }

got_lines_more : (n : ℕ) (p : OpenPoll) (c : Completion) → 0 < p.wanted → stage_lines n (polling (next_poll p c)) ≡ stage_lines n (Polling p) ++ lines.Got c ∷ []
got_lines_more n p c h =
    let more : length (p.given ++ c ∷ []) ≡ length p.given + 1 = length-append p.given (c ∷ []) in
    let all : length (p.given ++ c ∷ []) + (p.wanted - 1) ≡ length p.given + p.wanted = omega arith in
    poll_lines n (next_poll p c)
    ∙ ap (λ (k : ℕ). lines.Call p.stamp p.pass p.by p.verb (told.Polled k) ∷ map lines.Got (p.given ++ c ∷ [])) all
    ∙ ap (λ (x : List Line). lines.Call p.stamp p.pass p.by p.verb (told.Polled (length p.given + p.wanted)) ∷ x) (map-append lines.Got p.given (c ∷ []))

-- behind a line that goes on with what has begun
go_on : (ls : List Line) (l : Line) (n : ℕ) (stage new : Stage) (es : List EntryValue) → IsBehind ls n stage es
    → stage_lines n new ≡ stage_lines n stage ++ l ∷ [] → StandsAt (length es) n new → IsBehind (ls ++ l ∷ []) n new (es ++ [])
go_on ls l n stage new es h more place =
    rw (append-nil es) (record {
      lines = ap (λ (x : List Line). x ++ l ∷ []) h.lines ∙ append_assoc (flat_map entry_lines es) (stage_lines n stage) (l ∷ []) ∙ ap (λ (x : List Line). flat_map entry_lines es ++ x) (sym more);
      history = h.history;
      place = place;
      few = h.few;
    })

pub got_place : (ls : List Line) (n : ℕ) (p : OpenPoll) (c : Completion) (es : List EntryValue) → IsBehind ls n (Polling p) es → IsBehind (ls ++ lines.Got c ∷ []) n (polling (next_poll p c)) (es ++ [])
got_place ls n p c es h =
    go_on ls (lines.Got c) n (Polling p) (polling (next_poll p c)) es h (got_lines_more n p c h.place.2) (poll_stands (length es) n (next_poll p c) h.place.0 h.place.1)

got_step : (ls : List Line) (n : ℕ) (c : Completion) (stage : Stage) (es : List EntryValue) (s : Reading × Option EntryValue) → IsBehind ls n stage es
    → step (at_place n stage) (lines.Got c) ≡ Some s → Then ls (lines.Got c) es s
got_step ls n c Start es s h e = absurd cc
got_step ls n c (Open x) es s h e = absurd cc
got_step ls n c Over es s h e = absurd cc
got_step ls n c Stopped es s h e = absurd cc
got_step ls n c (Polling p) es s h e =
    let same : (at_place n (polling (next_poll p c)), None) ≡ s = cc in
    subst (Then ls (lines.Got c) es) same (got_place ls n p c es h)

mark_step : (ls : List Line) (n : ℕ) (m : Mark) (stage : Stage) (es : List EntryValue) (s : Reading × Option EntryValue) → IsBehind ls n stage es → IsShaped (lines.Mark m)
    → step (at_place n stage) (lines.Mark m) ≡ Some s → Then ls (lines.Mark m) es s
mark_step ls n m Start es s h g e = absurd cc
mark_step ls n m (Polling p) es s h g e = absurd cc
mark_step ls n m Over es s h g e = absurd cc
mark_step ls n m Stopped es s h g e = absurd cc
mark_step ls n m (Open x) es s h g e =
    let new : Stage = Open (record { stamp = x.stamp; pass = x.pass; event = x.event; marks = x.marks ++ m ∷ [] }) in
    let same : (at_place n new, None) ≡ s = cc in
    let place : StandsAt (length es) n new = (h.place.0, record { stamp = h.place.1.stamp; marks = fit_more x.event x.marks m h.place.1.marks g }) in
    subst (Then ls (lines.Mark m) es) same (go_on ls (lines.Mark m) n (Open x) new es h (mark_lines x.stamp x.pass x.event x.marks m g) place)

pub end_place : (ls : List Line) (n : ℕ) (stage : Stage) (es : List EntryValue) → IsBehind ls n stage es → may_end stage ≡ true → IsBehind (ls ++ lines.End n ∷ []) n Over (es ++ before (shown stage) [])
end_place ls n stage es h g =
    let all = complete ls n stage es h g in
    record { lines = ap (λ (x : List Line). x ++ lines.End n ∷ []) all.lines; history = all.history; place = sym all.count; few = h.few }

end_step : (ls : List Line) (n k : ℕ) (stage : Stage) (es : List EntryValue) (s : Reading × Option EntryValue) → IsBehind ls n stage es
    → step (at_place n stage) (lines.End k) ≡ Some s → Then ls (lines.End k) es s
end_step ls n k stage es s h e =
    let both = cond_some (may_end stage && eqb k n) (at_place n Over, shown stage) s e in
    let parts = and_parts (may_end stage) (eqb k n) both.0 in
    let same : n ≡ k = sym (eqb-true k n parts.1) in
    subst (Then ls (lines.End k) es) both.1 (subst (λ (i : ℕ). IsBehind (ls ++ lines.End i ∷ []) n Over (es ++ before (shown stage) [])) same (end_place ls n stage es h parts.0))

-- a reader stands so behind each line that it takes
pub step_behind : (ls : List Line) (l : Line) (n : ℕ) (stage : Stage) (es : List EntryValue) (s : Reading × Option EntryValue) → IsBehind ls n stage es → IsShaped l
    → step (at_place n stage) l ≡ Some s → IsBehind (ls ++ l ∷ []) s.0.count s.0.stage (es ++ before s.1 [])
step_behind ls (lines.Turn stamp pass event) n stage es s h g e = turn_step ls n stamp pass event stage es s h g e
step_behind ls (lines.Call stamp pass by verb t) n stage es s h g e = call_step ls n stamp pass by verb t stage es s h g e
step_behind ls (lines.Got c) n stage es s h g e = got_step ls n c stage es s h e
step_behind ls (lines.Mark m) n stage es s h g e = mark_step ls n m stage es s h g e
step_behind ls (lines.End k) n stage es s h g e = end_step ls n k stage es s h e

before_more : (x : Option EntryValue) (es fs : List EntryValue) → (es ++ before x []) ++ fs ≡ es ++ before x fs
before_more None es fs = ap (λ (xs : List EntryValue). xs ++ fs) (append-nil es)
before_more (Some e) es fs = append_assoc es (e ∷ []) fs

run_behind : (ms ls : List Line) (r s : Reading) (es fs : List EntryValue) → IsBehind ls r.count r.stage es → AllByRecursion LineFits ms → run r ms ≡ Some (s, fs)
    → IsBehind (ls ++ ms) s.count s.stage (es ++ fs)
run_behind [] ls r s es fs h g e =
    let same : (r, []) ≡ (s, fs) = cc in
    subst (λ (x : Reading × List EntryValue). IsBehind (ls ++ []) x.0.count x.0.stage (es ++ x.1)) same (rw (append-nil ls, append-nil es) h)
run_behind (m ∷ ms) ls r s es fs h g e =
    let first = bind_some (step r m) (λ x. run x.0 ms >>= λ t. Some (t.0, before x.1 t.1)) (s, fs) e in
    let x = first.0 in
    let others = bind_some (run x.0 ms) (λ t. Some (t.0, before x.1 t.1)) (s, fs) first.2 in
    let t = others.0 in
    let same : (t.0, before x.1 t.1) ≡ (s, fs) = cc (others.2) in
    let rest = run_behind ms (ls ++ m ∷ []) x.0 t.0 (es ++ before x.1 []) t.1 (step_behind ls m r.count r.stage es x h g.0.0 first.1) g.1 others.1 in
    let moved : IsBehind (ls ++ m ∷ ms) t.0.count t.0.stage (es ++ before x.1 t.1) =
    subst (λ (y : List Line). IsBehind y t.0.count t.0.stage (es ++ before x.1 t.1)) (append_assoc ls (m ∷ []) ms)
    (subst (λ (y : List EntryValue). IsBehind ((ls ++ m ∷ []) ++ ms) t.0.count t.0.stage y) (before_more x.1 es t.1) rest) in
    subst (λ (y : Reading × List EntryValue). IsBehind (ls ++ m ∷ ms) y.0.count y.0.stage (es ++ y.1)) same moved

-- a reader stands so behind all lines that it took
pub run_stands : (ls : List Line) (s : Reading) (es : List EntryValue) → AllByRecursion LineFits ls → run start ls ≡ Some (s, es) → IsBehind ls s.count s.stage es
run_stands ls s es h e = run_behind ls [] start s [] es (record { lines = refl; history = tt; place = (refl, refl); few = omega arith }) h e
