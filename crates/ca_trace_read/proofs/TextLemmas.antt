-- The text of a history is that of its lines, and equal texts come from equal histories.
use Rattle.std.proofs.Common.{◌≡◌, ℕ, suc, ◌<◌, ◌^◌, List, [], ◌∷◌, ◌++◌, Option, Some, None, map, length, refl, sym, ap, ◌∙◌, arith, append_assoc}
use Rattle.std.specs.Int.{w32, w64}
use Rattle.std.specs.List.{flat_map, AllByRecursion}
use Rattle.std.proofs.lemmas.List.{append-nil}
use Rattle.std.proofs.lemmas.Option.{same_Some}
use Rattle.std.proofs.lemmas.List.Concat.{flat_map-append}
use Rattle.ca_base.specs.declared.completion.Completion.{Completion}
use Rattle.ca_model.specs.declared.answer.Answer.{Answer}
use Rattle.ca_model.specs.declared.answer.Answer.TheVariants as answers
use Rattle.ca_model.specs.declared.event.Event.{Event}
use Rattle.ca_model.specs.declared.event.Event.TheVariants as events
use Rattle.ca_model.specs.declared.mark.Mark.{Mark}
use Rattle.ca_model.specs.declared.mark.Mark.TheVariants as marks
use Rattle.ca_model.specs.declared.verb.Verb.{Verb}
use Rattle.ca_model.specs.Entries.{EntryValue}
use Rattle.ca_model.specs.History.{ArePlain, FitTheEvent, IsHistoryFrom, IsHistory}
use Rattle.ca_trace.specs.declared.line.Line.{Line}
use Rattle.ca_trace.specs.declared.line.Line.TheVariants as lines
use Rattle.ca_trace.specs.Lines.{told_of, answer_line_words, line_text, lines_text, event_lines, entry_lines, history_lines}
use Rattle.ca_trace.specs.Table.{event_words, told_words}
use Rattle.ca_trace_print.specs.Verbs.{call_words}
use Rattle.ca_trace.specs.Trace.{completions_of, got_line, got_lines, mark_text, marks_text, entry_text, end_text, text}
use Rattle.ca_trace_print.specs.Words.{Field, Lettered, word, words, led, joined}
use Rattle.ca_trace_lex.specs.Words.{◌>>=◌, pieces}
use Rattle.ca_trace_lex.proofs.PieceLemmas.{first_piece}
use Rattle.ca_trace_read_fits.specs.ca_trace_read_lines.Fits.{LineFits}
use Rattle.ca_trace_read_fits.specs.ca_trace_read_lines.Reading.{line_in}
use Rattle.ca_trace_read_fits.proofs.of_ca_trace_read_lines.LineLemmas.{words_append, line_read, line_lacks}
use Rattle.ca_trace_read_fits.specs.Histories.{EntryFits, HistoryFits}
use Rattle.ca_trace_read.specs.Steps.{Reading, run, start}
use Rattle.ca_trace_read.proofs.StepLemmas.{lines_run}

marks_lines : (ms : List Mark) → lines_text (map lines.Mark ms) ≡ flat_map mark_text ms
marks_lines [] = refl
marks_lines (m ∷ ms) = ap (λ (rest : List ℕ). mark_text m ++ rest) (marks_lines ms)

gots_lines : (cs : List Completion) → lines_text (map lines.Got cs) ≡ flat_map got_line cs
gots_lines [] = refl
gots_lines (c ∷ cs) = ap (λ (rest : List ℕ). got_line c ++ rest) (gots_lines cs)

told_same : (answer : Answer) → answer_line_words (told_of answer) ≡ told_words answer
told_same answers.Fine = refl
told_same (answers.Key k) = refl
told_same (answers.Queue a b) = refl
told_same (answers.Posted k) = refl
told_same (answers.Polled list) = refl
told_same (answers.Query s a b c) = refl
told_same (answers.Loaded bs) = refl
told_same (answers.Refused r) = refl

-- the words in front of an answer, and the answer's
joined_led : (f : Field) (fs gs : List Field) → joined 32 (words ((f ∷ fs) ++ gs)) ≡ joined 32 (words (f ∷ fs)) ++ led 32 (words gs)
joined_led f fs gs =
    ap (λ (ws : List (List ℕ)). word f ++ led 32 ws) (words_append fs gs)
    ∙ ap (λ (rest : List ℕ). word f ++ rest) (flat_map-append (λ w. 32 ∷ w) (words fs) (words gs))
    ∙ sym (append_assoc (word f) (led 32 (words fs)) (led 32 (words gs)))

abbrev front : ℕ → ℕ → List Field → List Field
front stamp pass fs = Lettered 64 w64 stamp ∷ Lettered 112 w32 pass ∷ fs

call_text : (stamp pass by : ℕ) (verb : Verb) (answer : Answer) → line_text (lines.Call stamp pass by verb (told_of answer)) ≡ joined 32 (words (front stamp pass (call_words by verb))) ++ led 32 (words (told_words answer))
call_text stamp pass by verb answer =
    joined_led (Lettered 64 w64 stamp) (Lettered 112 w32 pass ∷ call_words by verb) (answer_line_words (told_of answer))
    ∙ ap (λ (fs : List Field). joined 32 (words (front stamp pass (call_words by verb))) ++ led 32 (words fs)) (told_same answer)

turn_text : (stamp pass : ℕ) (event : Event) (ms : List Mark) → lines_text (lines.Turn stamp pass event ∷ map lines.Mark ms) ≡ joined 32 (words (front stamp pass (event_words event))) ++ (10 ∷ flat_map mark_text ms)
turn_text stamp pass event ms =
    append_assoc (line_text (lines.Turn stamp pass event)) (10 ∷ []) (lines_text (map lines.Mark ms))
    ∙ ap (λ (rest : List ℕ). line_text (lines.Turn stamp pass event) ++ 10 ∷ rest) (marks_lines ms)

regroup : (t l g m : List ℕ) → t ++ (l ++ 10 ∷ g ++ m) ≡ ((t ++ l) ++ 10 ∷ []) ++ (g ++ m)
regroup t l g m = simp append_assoc

verb_text : (stamp pass by : ℕ) (verb : Verb) (answer : Answer) (ms : List Mark)
    → joined 32 (words (front stamp pass (call_words by verb))) ++ marks_text (marks.Verb by verb answer ∷ ms) ≡ lines_text (event_lines stamp pass (events.Verb by verb) (marks.Verb by verb answer ∷ ms))
verb_text stamp pass by verb answer ms =
    let t = joined 32 (words (front stamp pass (call_words by verb))) in
    let l = led 32 (words (told_words answer)) in
    let parts : lines_text (map lines.Got (completions_of answer) ++ map lines.Mark ms) ≡ got_lines answer ++ flat_map mark_text ms =
    flat_map-append (λ l. line_text l ++ 10 ∷ []) (map lines.Got (completions_of answer)) (map lines.Mark ms)
    ∙ ap (λ (x : List ℕ). x ++ lines_text (map lines.Mark ms)) (gots_lines (completions_of answer))
    ∙ ap (λ (x : List ℕ). got_lines answer ++ x) (marks_lines ms) in
    regroup t l (got_lines answer) (flat_map mark_text ms)
    ∙ ap (λ (x : List ℕ). (x ++ 10 ∷ []) ++ (got_lines answer ++ flat_map mark_text ms)) (sym (call_text stamp pass by verb answer))
    ∙ ap (λ (x : List ℕ). (line_text (lines.Call stamp pass by verb (told_of answer)) ++ 10 ∷ []) ++ x) (sym parts)

turn_parts_text : (stamp pass : ℕ) (event : Event) (ms : List Mark) → ArePlain ms
    → joined 32 (words (front stamp pass (event_words event))) ++ marks_text ms ≡ lines_text (event_lines stamp pass event ms)
turn_parts_text stamp pass event [] h = sym (turn_text stamp pass event [])
turn_parts_text stamp pass event (marks.Verb by verb answer ∷ ms) h = absurd h.0
turn_parts_text stamp pass event (m ∷ ms) h = sym (turn_text stamp pass event (m ∷ ms))

verb_parts_text : (stamp pass by : ℕ) (verb : Verb) (ms : List Mark) → FitTheEvent (events.Verb by verb) ms
    → joined 32 (words (front stamp pass (event_words (events.Verb by verb)))) ++ marks_text ms ≡ lines_text (event_lines stamp pass (events.Verb by verb) ms)
verb_parts_text stamp pass by verb [] h = absurd h
verb_parts_text stamp pass by verb (marks.Verb by' verb' answer ∷ ms) h =
    ap (λ (b : ℕ). joined 32 (words (front stamp pass (call_words b verb))) ++ marks_text (marks.Verb by' verb' answer ∷ ms)) (sym h.0.0)
    ∙ ap (λ (v : Verb). joined 32 (words (front stamp pass (call_words by' v))) ++ marks_text (marks.Verb by' verb' answer ∷ ms)) (sym h.0.1)
    ∙ verb_text stamp pass by' verb' answer ms
verb_parts_text stamp pass by verb (m ∷ ms) h = absurd h.0

parts_text : (stamp pass : ℕ) (event : Event) (ms : List Mark) → FitTheEvent event ms
    → joined 32 (words (front stamp pass (event_words event))) ++ marks_text ms ≡ lines_text (event_lines stamp pass event ms)
parts_text stamp pass (events.Verb by verb) ms h = verb_parts_text stamp pass by verb ms h
parts_text stamp pass (events.Request q l) ms h = turn_parts_text stamp pass (events.Request q l) ms h
parts_text stamp pass (events.Deliver q i) ms h = turn_parts_text stamp pass (events.Deliver q i) ms h
parts_text stamp pass (events.Respond q l) ms h = turn_parts_text stamp pass (events.Respond q l) ms h
parts_text stamp pass (events.Timeout q b) ms h = turn_parts_text stamp pass (events.Timeout q b) ms h
parts_text stamp pass (events.RnrWake q) ms h = turn_parts_text stamp pass (events.RnrWake q) ms h

-- the text of entries is that of their lines
entries_text : (n : ℕ) (es : List EntryValue) → IsHistoryFrom n es → flat_map entry_text es ≡ lines_text (flat_map entry_lines es)
entries_text n [] h = refl
entries_text n (e ∷ es) h =
    ap (λ (x : List ℕ). x ++ flat_map entry_text es) (parts_text e.stamp e.pass e.event e.marks h.0.marks)
    ∙ ap (λ (x : List ℕ). lines_text (entry_lines e) ++ x) (entries_text (suc n) es h.1)
    ∙ sym (flat_map-append (λ l. line_text l ++ 10 ∷ []) (entry_lines e) (flat_map entry_lines es))

-- the text of a history is that of its lines
pub history_text : (es : List EntryValue) → IsHistory es → text es ≡ lines_text (history_lines es)
history_text es h =
    ap (λ (x : List ℕ). x ++ end_text (length es)) (entries_text 0 es h)
    ∙ ap (λ (x : List ℕ). lines_text (flat_map entry_lines es) ++ x) (sym (append-nil (line_text (lines.End (length es)) ++ 10 ∷ [])))
    ∙ sym (flat_map-append (λ l. line_text l ++ 10 ∷ []) (flat_map entry_lines es) (lines.End (length es) ∷ []))

-- a text of lines is cut into these lines, and nothing stands behind the last line feed
pub lines_cut : (ls : List Line) → AllByRecursion LineFits ls → pieces 10 (lines_text ls) ≡ map line_text ls ++ [] ∷ []
lines_cut [] h = refl
lines_cut (l ∷ ls) h =
    ap (pieces 10) (append_assoc (line_text l) (10 ∷ []) (lines_text ls))
    ∙ first_piece 10 (line_text l) (lines_text ls) (line_lacks l h.0)
    ∙ ap (λ (x : List (List ℕ)). line_text l ∷ x) (lines_cut ls h.1)

-- what stands before the last piece, where the last one is nothing
abbrev unless_last : List (List ℕ) → Option (List Line) → Option (List Line)
unless_last [] more = Some []
unless_last (v ∷ vs) more = more

-- the lines that pieces are read as, but for the last piece
abbrev readable : List (List ℕ) → Option (List Line)
readable [] = Some []
readable (w ∷ ws) = unless_last ws (line_in w >>= λ l. readable ws >>= λ ls. Some (l ∷ ls))

readable_again : (ls : List Line) → AllByRecursion LineFits ls → readable (map line_text ls ++ [] ∷ []) ≡ Some ls
readable_again [] h = refl
readable_again (l ∷ []) h = rw (line_read l h.0) refl
readable_again (l ∷ m ∷ ls) h = rw (line_read l h.0, readable_again (m ∷ ls) h.1) refl

-- equal texts of lines are of equal lines
lines_equal : (ls ms : List Line) → AllByRecursion LineFits ls → AllByRecursion LineFits ms → lines_text ls ≡ lines_text ms → ls ≡ ms
lines_equal ls ms h g e =
    let same : map line_text ls ++ [] ∷ [] ≡ map line_text ms ++ [] ∷ [] = sym (lines_cut ls h) ∙ ap (pieces 10) e ∙ lines_cut ms g in
    same_Some ls ms (sym (readable_again ls h) ∙ ap readable same ∙ readable_again ms g)

all_append : (ls ms : List Line) → AllByRecursion LineFits ls → AllByRecursion LineFits ms → AllByRecursion LineFits (ls ++ ms)
all_append [] ms h g = g
all_append (l ∷ ls) ms h g = (h.0, all_append ls ms h.1 g)

entries_fit : (es : List EntryValue) → AllByRecursion EntryFits es → AllByRecursion LineFits (flat_map entry_lines es)
entries_fit [] h = tt
entries_fit (e ∷ es) h = all_append (entry_lines e) (flat_map entry_lines es) h.0 (entries_fit es h.1)

-- each line of a history that fits may stand in a trace
pub history_fits : (es : List EntryValue) → HistoryFits es → AllByRecursion LineFits (history_lines es)
history_fits es h =
    let few : length es < 2 ^ 64 = h.few in
    all_append (flat_map entry_lines es) (lines.End (length es) ∷ []) (entries_fit es h.entries) ((tt, (refl, (omega arith, tt))), tt)

abbrev given : Option (Reading × List EntryValue) → List EntryValue
given None = []
given (Some t) = t.1

-- equal texts come from equal histories
pub text_is_one : (es fs : List EntryValue) → HistoryFits es → HistoryFits fs → text es ≡ text fs → es ≡ fs
text_is_one es fs h g e =
    let same : lines_text (history_lines es) ≡ lines_text (history_lines fs) = sym (history_text es h.history) ∙ e ∙ history_text fs g.history in
    let lines_same = lines_equal (history_lines es) (history_lines fs) (history_fits es h) (history_fits fs g) same in
    sym (ap given (lines_run es h.few h.history)) ∙ ap (λ (ls : List Line). given (run start ls)) lines_same ∙ ap given (lines_run fs g.few g.history)
