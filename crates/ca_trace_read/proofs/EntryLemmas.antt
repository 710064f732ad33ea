-- One more line of an entry, and one more entry of a history.
use Rattle.std.proofs.Common.{◌≡◌, ℕ, zero, suc, ◌+◌, ◌<◌, Bool, true, false, cond, eqb, List, [], ◌∷◌, ◌++◌, map, length, refl, sym, ap, subst, ◌∙◌, arith, append_assoc}
use Rattle.std.proofs.lemmas.Bool.{eqb-true}
use Rattle.std.proofs.lemmas.List.{append-nil, map-append}
use Rattle.ca_model.specs.declared.answer.Answer.{Answer}
use Rattle.ca_model.specs.declared.answer.Answer.TheVariants as answers
use Rattle.ca_model.specs.declared.event.Event.{Event}
use Rattle.ca_model.specs.declared.event.Event.TheVariants as events
use Rattle.ca_model.specs.declared.mark.Mark.{Mark}
use Rattle.ca_model.specs.declared.mark.Mark.TheVariants as marks
use Rattle.ca_model.specs.declared.verb.Verb.{Verb}
use Rattle.ca_model.specs.Entries.{EntryValue}
use Rattle.ca_model.specs.History.{IsPlain, ArePlain, FitTheEvent, IsEntry, IsHistoryFrom}
use Rattle.ca_trace.specs.declared.line.Line.{Line}
use Rattle.ca_trace.specs.declared.line.Line.TheVariants as lines
use Rattle.ca_trace.specs.declared.line.Told.TheVariants as told
use Rattle.ca_trace.specs.Lines.{told_of, event_lines, entry_lines}
use Rattle.ca_trace.specs.Trace.{completions_of}
use Rattle.ca_trace_read_fits.specs.ca_trace_read_lines.Fits.{IsTurn}
use Rattle.ca_trace_read_fits.specs.ca_trace_read_lines.Answers.{IsTold}
use Rattle.ca_trace_read.specs.declared.progress.OpenPoll.{OpenPoll}
use Rattle.ca_trace_read.specs.Steps.{Stage, Start, Polling, Open, Over, Stopped, answered, polled, polling}

-- the lines of what has begun and is not shown to be complete
abbrev pub stage_lines : ℕ → Stage → List Line
stage_lines n Start = []
stage_lines n (Polling p) = lines.Call p.stamp p.pass p.by p.verb (told.Polled (length p.given + p.wanted)) ∷ map lines.Got p.given
stage_lines n (Open e) = entry_lines e
stage_lines n Over = lines.End n ∷ []
stage_lines n Stopped = []

-- where a reader may stand behind k entries, n having begun
abbrev pub StandsAt : ℕ → ℕ → Stage → Type 0
StandsAt k n Start = (n ≡ 0) × (k ≡ 0)
StandsAt k n (Polling p) = (n ≡ k + 1) × (p.stamp ≡ k) × (0 < p.wanted)
StandsAt k n (Open e) = (n ≡ k + 1) × IsEntry k e
StandsAt k n Over = n ≡ k
StandsAt k n Stopped = ⊥

-- a turn's event has no answer
pub turn_fits : (event : Event) → IsTurn event → FitTheEvent event []
turn_fits (events.Verb by verb) h = absurd h
turn_fits (events.Request q l) h = tt
turn_fits (events.Deliver q i) h = tt
turn_fits (events.Respond q l) h = tt
turn_fits (events.Timeout q b) h = tt
turn_fits (events.RnrWake q) h = tt

-- a call's entry with an answer that stands whole on its line
pub call_lines : (stamp pass by : ℕ) (verb : Verb) (answer : Answer) → IsTold (told.Whole answer)
    → entry_lines (answered stamp pass by verb answer) ≡ lines.Call stamp pass by verb (told.Whole answer) ∷ []
call_lines stamp pass by verb answers.Fine h = refl
call_lines stamp pass by verb (answers.Key k) h = refl
call_lines stamp pass by verb (answers.Queue a b) h = refl
call_lines stamp pass by verb (answers.Posted k) h = refl
call_lines stamp pass by verb (answers.Polled list) h = absurd h
call_lines stamp pass by verb (answers.Query s a b c) h = refl
call_lines stamp pass by verb (answers.Loaded bs) h = refl
call_lines stamp pass by verb (answers.Refused r) h = refl

poll_all : (n : ℕ) (p : OpenPoll) (b : Bool) → eqb p.wanted 0 ≡ b → stage_lines n (cond b (Open (polled p p.given)) (Polling p)) ≡ stage_lines n (Polling p)
poll_all n p true h =
    let none : p.wanted ≡ 0 = eqb-true p.wanted 0 h in
    let all : length p.given ≡ length p.given + p.wanted = omega arith in
    append-nil (lines.Call p.stamp p.pass p.by p.verb (told.Polled (length p.given)) ∷ map lines.Got p.given)
    ∙ ap (λ (k : ℕ). lines.Call p.stamp p.pass p.by p.verb (told.Polled k) ∷ map lines.Got p.given) all
poll_all n p false h = refl

-- behind the line of a poll, or of one of its completions
pub poll_lines : (n : ℕ) (p : OpenPoll) → stage_lines n (polling p) ≡ stage_lines n (Polling p)
poll_lines n p = poll_all n p (eqb p.wanted 0) refl

poll_open : (k n : ℕ) (p : OpenPoll) (b : Bool) → eqb p.wanted 0 ≡ b → n ≡ k + 1 → p.stamp ≡ k → StandsAt k n (cond b (Open (polled p p.given)) (Polling p))
poll_open k n p true h e f = (e, record { stamp = f; marks = ((refl, refl), tt) })
poll_open k n p false h e f = (e, f, above p.wanted h)
  where
    above : (w : ℕ) → eqb w 0 ≡ false → 0 < w
    above zero g = absurd cc
    above (suc w) g = omega arith

pub poll_stands : (k n : ℕ) (p : OpenPoll) → n ≡ k + 1 → p.stamp ≡ k → StandsAt k n (polling p)
poll_stands k n p e f = poll_open k n p (eqb p.wanted 0) refl e f

-- one more mark has one more line
pub mark_lines : (stamp pass : ℕ) (event : Event) (ms : List Mark) (m : Mark) → IsPlain m
    → event_lines stamp pass event (ms ++ m ∷ []) ≡ event_lines stamp pass event ms ++ lines.Mark m ∷ []
mark_lines stamp pass event [] (marks.Verb by verb answer) h = absurd h
mark_lines stamp pass event [] m h = refl
mark_lines stamp pass event (marks.Verb by verb answer ∷ ms) m h =
    ap (λ (x : List Line). lines.Call stamp pass by verb (told_of answer) ∷ (map lines.Got (completions_of answer) ++ x)) (map-append lines.Mark ms (m ∷ []))
    ∙ ap (λ (x : List Line). lines.Call stamp pass by verb (told_of answer) ∷ x) (sym (append_assoc (map lines.Got (completions_of answer)) (map lines.Mark ms) (lines.Mark m ∷ [])))
mark_lines stamp pass event (x ∷ ms) m h = ap (λ (y : List Line). lines.Turn stamp pass event ∷ (lines.Mark x ∷ y)) (map-append lines.Mark ms (m ∷ []))

plain_more : (ms : List Mark) (m : Mark) → ArePlain ms → IsPlain m → ArePlain (ms ++ m ∷ [])
plain_more [] m h g = (g, tt)
plain_more (x ∷ ms) m h g = (h.0, plain_more ms m h.1 g)

-- one more plain mark fits
pub fit_more : (event : Event) (ms : List Mark) (m : Mark) → FitTheEvent event ms → IsPlain m → FitTheEvent event (ms ++ m ∷ [])
fit_more (events.Verb by verb) [] m h g = absurd h
fit_more (events.Verb by verb) (x ∷ ms) m h g = (h.0, plain_more ms m h.1 g)
fit_more (events.Request q l) ms m h g = plain_more ms m h g
fit_more (events.Deliver q i) ms m h g = plain_more ms m h g
fit_more (events.Respond q l) ms m h g = plain_more ms m h g
fit_more (events.Timeout q b) ms m h g = plain_more ms m h g
fit_more (events.RnrWake q) ms m h g = plain_more ms m h g

-- one more entry of a history
pub history_more : (n k : ℕ) (es : List EntryValue) (e : EntryValue) → IsHistoryFrom n es → k ≡ n + length es → IsEntry k e → IsHistoryFrom n (es ++ e ∷ [])
history_more n k [] e h same g = let is : k ≡ n = omega arith in (subst (λ (i : ℕ). IsEntry i e) is g, tt)
history_more n k (x ∷ es) e h same g = let is : k ≡ suc n + length es = omega arith in (h.0, history_more (suc n) k es e h.1 is g)

-- the last entry of a history
pub last_entry : (n k : ℕ) (es : List EntryValue) (e : EntryValue) → IsHistoryFrom n (es ++ e ∷ []) → k ≡ n + length es → IsEntry k e
last_entry n k [] e h same = let is : n ≡ k = omega arith in subst (λ (i : ℕ). IsEntry i e) is h.0
last_entry n k (x ∷ es) e h same = let is : k ≡ suc n + length es = omega arith in last_entry (suc n) k es e h.1 is
