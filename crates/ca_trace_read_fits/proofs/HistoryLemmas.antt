-- The lines of entries whose numbers and lists are within what their types hold may stand in a trace.
use Rattle.std.proofs.Common.{◌≡◌, ℕ, suc, ◌<◌, ◌≤◌, ◌^◌, List, [], ◌∷◌, ◌++◌, map, length, refl, sym, ap, subst, ◌∙◌, arith}
use Rattle.std.proofs.lemmas.List.{length-map}
use Rattle.std.specs.List.{AllByRecursion}
use Rattle.ca_base.specs.declared.completion.Completion.{Completion}
use Rattle.ca_model.specs.declared.answer.Answer.{Answer}
use Rattle.ca_model.specs.declared.answer.Answer.TheVariants as answers
use Rattle.ca_model.specs.declared.entry.Entry.{Entry}
use Rattle.ca_model.specs.declared.event.Event.{Event}
use Rattle.ca_model.specs.declared.event.Event.TheVariants as events
use Rattle.ca_model.specs.declared.mark.Mark.{Mark}
use Rattle.ca_model.specs.declared.mark.Mark.TheVariants as marks
use Rattle.ca_model.specs.declared.verb.Verb.{Verb}
use Rattle.ca_model.specs.Entries.{EntryValue, entry_of}
use Rattle.ca_model.specs.History.{IsPlain, ArePlain, FitTheEvent, IsHistoryFrom}
use Rattle.ca_trace.specs.declared.line.Line.{Line}
use Rattle.ca_trace.specs.declared.line.Line.TheVariants as lines
use Rattle.ca_trace.specs.Lines.{told_of, answer_line_words, event_lines}
use Rattle.ca_trace.specs.Table.{answer_words, completion_words, event_words}
use Rattle.ca_trace_print.specs.Verbs.{call_words, verb_words}
use Rattle.ca_trace.specs.Trace.{completions_of}
use Rattle.ca_trace_print.specs.Words.{Field}
use Rattle.ca_trace_lex.specs.Fits.{AllFit}
use Rattle.ca_trace_read_lines.specs.Fits.{LineFits}
use Rattle.ca_trace_read_lines.specs.Answers.{IsTold}
use Rattle.ca_trace_read_fits.specs.Histories.{AnswerHolds, MarkHolds, EntryHolds, EntryFits}

pub fit_both : (ls ms : List Line) → AllByRecursion LineFits ls → AllByRecursion LineFits ms → AllByRecursion LineFits (ls ++ ms)
fit_both [] ms h g = g
fit_both (l ∷ ls) ms h g = (h.0, fit_both ls ms h.1 g)

all_fit_both : (fs gs : List Field) → AllFit fs → AllFit gs → AllFit (fs ++ gs)
all_fit_both [] gs h g = g
all_fit_both (f ∷ fs) gs h g = (h.0, all_fit_both fs gs h.1 g)

told_fits : (answer : Answer) → AllFit (answer_words answer) → AllFit (answer_line_words (told_of answer))
told_fits answers.Fine h = (refl, h)
told_fits (answers.Key k) h = (refl, h)
told_fits (answers.Queue a b) h = (refl, h)
told_fits (answers.Posted k) h = (refl, h)
told_fits (answers.Polled list) h = (refl, h)
told_fits (answers.Query s a b c) h = (refl, h)
told_fits (answers.Loaded bs) h = (refl, h)
told_fits (answers.Refused r) h = (refl, h)

is_told : (answer : Answer) → AnswerHolds answer → IsTold (told_of answer)
is_told answers.Fine h = tt
is_told (answers.Key k) h = tt
is_told (answers.Queue a b) h = tt
is_told (answers.Posted k) h = tt
is_told (answers.Polled list) h = h.0
is_told (answers.Query s a b c) h = tt
is_told (answers.Loaded bs) h = tt
is_told (answers.Refused r) h = tt

gots_fit : (cs : List Completion) → AllByRecursion (λ c. AllFit (completion_words c)) cs → AllByRecursion LineFits (map lines.Got cs)
gots_fit [] h = tt
gots_fit (c ∷ cs) h = ((tt, (refl, (refl, h.0))), gots_fit cs h.1)

got_lines_fit : (answer : Answer) → AnswerHolds answer → AllByRecursion LineFits (map lines.Got (completions_of answer))
got_lines_fit answers.Fine h = tt
got_lines_fit (answers.Key k) h = tt
got_lines_fit (answers.Queue a b) h = tt
got_lines_fit (answers.Posted k) h = tt
got_lines_fit (answers.Polled list) h = gots_fit list h.1
got_lines_fit (answers.Query s a b c) h = tt
got_lines_fit (answers.Loaded bs) h = tt
got_lines_fit (answers.Refused r) h = tt

mark_line : (m : Mark) → IsPlain m → MarkHolds m → LineFits (lines.Mark m)
mark_line (marks.Verb by verb answer) g h = absurd g
mark_line m g h = (g, (refl, h))

mark_lines_fit : (ms : List Mark) → ArePlain ms → AllByRecursion MarkHolds ms → AllByRecursion LineFits (map lines.Mark ms)
mark_lines_fit [] g h = tt
mark_lines_fit (m ∷ ms) g h = (mark_line m g.0 h.0, mark_lines_fit ms g.1 h.1)

turn_lines : (stamp pass : ℕ) (event : Event) (ms : List Mark) → stamp ≤ 18446744073709551615 → pass ≤ 4294967295 → LineFits (lines.Turn stamp pass event) → ArePlain ms → AllByRecursion MarkHolds ms
    → AllByRecursion LineFits (event_lines stamp pass event ms)
turn_lines stamp pass event [] a b f g h = (f, tt)
turn_lines stamp pass event (marks.Verb by verb answer ∷ ms) a b f g h = absurd g.0
turn_lines stamp pass event (m ∷ ms) a b f g h = (f, mark_lines_fit (m ∷ ms) g h)

call_fits : (stamp pass by : ℕ) (verb : Verb) (answer : Answer) → stamp ≤ 18446744073709551615 → pass ≤ 4294967295 → AllFit (call_words by verb) → AllFit (answer_words answer) → AnswerHolds answer
    → LineFits (lines.Call stamp pass by verb (told_of answer))
call_fits stamp pass by verb answer a b f g h =
    (is_told answer h, ((refl, a), ((refl, b), (f.0, all_fit_both (verb_words verb) (answer_line_words (told_of answer)) f.1 (told_fits answer g)))))

verb_lines : (stamp pass by : ℕ) (verb : Verb) (ms : List Mark) → stamp ≤ 18446744073709551615 → pass ≤ 4294967295 → AllFit (call_words by verb) → FitTheEvent (events.Verb by verb) ms → AllByRecursion MarkHolds ms
    → AllByRecursion LineFits (event_lines stamp pass (events.Verb by verb) ms)
verb_lines stamp pass by verb [] a b f g h = absurd g
verb_lines stamp pass by verb (marks.Verb by' verb' answer ∷ ms) a b f g h =
    let words = subst (λ (n : ℕ). AllFit (call_words n verb')) (sym g.0.0) (subst (λ (v : Verb). AllFit (call_words by v)) (sym g.0.1) f) in
    (call_fits stamp pass by' verb' answer a b words h.0.0 h.0.1, fit_both (map lines.Got (completions_of answer)) (map lines.Mark ms) (got_lines_fit answer h.0.1) (mark_lines_fit ms g.1 h.1))
verb_lines stamp pass by verb (m ∷ ms) a b f g h = absurd g.0

entry_lines_fit : (stamp pass : ℕ) (event : Event) (ms : List Mark) → stamp ≤ 18446744073709551615 → pass ≤ 4294967295 → AllFit (event_words event) → FitTheEvent event ms → AllByRecursion MarkHolds ms
    → AllByRecursion LineFits (event_lines stamp pass event ms)
entry_lines_fit stamp pass (events.Verb by verb) ms a b f g h = verb_lines stamp pass by verb ms a b f g h
entry_lines_fit stamp pass (events.Request q l) ms a b f g h = turn_lines stamp pass (events.Request q l) ms a b (tt, ((refl, a), ((refl, b), f))) g h
entry_lines_fit stamp pass (events.Deliver q i) ms a b f g h = turn_lines stamp pass (events.Deliver q i) ms a b (tt, ((refl, a), ((refl, b), f))) g h
entry_lines_fit stamp pass (events.Respond q l) ms a b f g h = turn_lines stamp pass (events.Respond q l) ms a b (tt, ((refl, a), ((refl, b), f))) g h
entry_lines_fit stamp pass (events.Timeout q t) ms a b f g h = turn_lines stamp pass (events.Timeout q t) ms a b (tt, ((refl, a), ((refl, b), f))) g h
entry_lines_fit stamp pass (events.RnrWake q) ms a b f g h = turn_lines stamp pass (events.RnrWake q) ms a b (tt, ((refl, a), ((refl, b), f))) g h

entries_fit_from : (n : ℕ) (es : List EntryValue) → IsHistoryFrom n es → AllByRecursion EntryHolds es → AllByRecursion EntryFits es
entries_fit_from n [] g h = tt
entries_fit_from n (e ∷ es) g h = (entry_lines_fit e.stamp e.pass e.event e.marks h.0.stamp h.0.pass h.0.event g.0.marks h.0.marks, entries_fit_from (suc n) es g.1 h.1)

values_hold : (es : List Entry) → AllByRecursion (λ e. EntryHolds (entry_of e)) es → AllByRecursion EntryHolds (map entry_of es)
values_hold [] h = tt
values_hold (e ∷ es) h = (h.0, values_hold es h.1)

-- the entries of a history that exists as a value
pub entries_fit : (h : List EntryValue) (es : List Entry) → map entry_of es ≡ h → IsHistoryFrom 0 h → AllByRecursion (λ e. EntryHolds (entry_of e)) es → AllByRecursion EntryFits h
entries_fit h es same g held = entries_fit_from 0 h g (subst (λ (x : List EntryValue). AllByRecursion EntryHolds x) same (values_hold es held))

-- a list that exists as a value has no more items than its type can count
pub few_entries : (h : List EntryValue) (es : List Entry) → map entry_of es ≡ h → length es ≤ 18446744073709551615 → length h < 2 ^ 64
few_entries h es same few = let count : length h ≡ length es = ap length (sym same) ∙ length-map es entry_of in omega arith
