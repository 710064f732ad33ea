-- A line that is spelled is read as what it says.
use Rattle.std.proofs.Common.{◌≡◌, ℕ, ◌≤◌, true, false, List, [], ◌∷◌, ◌++◌, Some, decimal, refl, ap, ◌∙◌, arith}
use Rattle.std.specs.Prelude.{codes}
use Rattle.std.specs.Int.{w32, w64}
use Rattle.std.proofs.lemmas.Bool.{and_parts}
use Rattle.ca_base.specs.declared.completion.Completion.{Completion}
use Rattle.ca_model.specs.declared.event.Event.{Event}
use Rattle.ca_model.specs.declared.event.Event.TheVariants as events
use Rattle.ca_model.specs.declared.mark.Mark.{Mark}
use Rattle.ca_model.specs.declared.mark.Mark.TheVariants as marks
use Rattle.ca_model.specs.declared.verb.Verb.{Verb}
use Rattle.ca_trace.specs.declared.line.Line.{Line}
use Rattle.ca_trace.specs.declared.line.Line.TheVariants as lines
use Rattle.ca_trace.specs.declared.line.Told.{Told}
use Rattle.ca_trace.specs.declared.line.Told.TheVariants as told
use Rattle.ca_trace_lex.specs.Words.{pieces, lettered_in}
use Rattle.ca_keys.specs.Spelling.{perhaps}
use Rattle.ca_base.specs.Spelling.{op_refusal_text}
use Rattle.ca_keys.specs.declared.names.QueueId.{QueueId}
use Rattle.ca_trace.specs.Table.{event_words, completion_words, got_words, mark_words}
use Rattle.ca_trace.specs.ca_trace_print.Verbs.{verb_words, call_words}
use Rattle.ca_trace.specs.ca_trace_print.Words.{Field, Fixed, Number, Lettered, OfCause, word, words, led, joined}
use Rattle.ca_trace.specs.Lines.{answer_line_words, line_words, line_text}
use Rattle.ca_model.specs.History.{IsPlain}
use Rattle.ca_trace_lex.specs.Fits.{AllFit}
use Rattle.ca_trace_lex.proofs.PieceLemmas.{lacks, all_lack, pieces_joined, lacks_append, plain_lacks}
use Rattle.ca_trace_lex.proofs.NumberLemmas.{number_again}
use Rattle.ca_trace_lex.proofs.WordLemmas.{place_again, domain_again, queue_again, queues_again, key_again, address_again, hex_again, perhaps_number_again, runs_again, rights_again}
use Rattle.ca_trace_lex.proofs.NameLemmas.{object_again, alarm_again, kind_again, lot_again, drop_again, perhaps_cause_again, field_plain}
use Rattle.ca_trace_read_lines.specs.Fits.{IsTurn, LineFits}
use Rattle.ca_trace_read_lines.specs.Answers.{IsTold}
use Rattle.ca_trace_lex.specs.Fields.{Words}
use Rattle.ca_trace_read_lines.specs.Reading.{granted_at, remote_at, local_mark_at, stored_at, sent_at, done_at, passing_at, mark_at, turn_at, head_at, inner_at, line_at, line_in}
use Rattle.ca_trace_read_verbs.proofs.VerbLemmas.{verb_again}
use Rattle.ca_trace_lex.proofs.FieldLemmas.{u8, u32, u64}
use Rattle.ca_trace_read_lines.proofs.AnswerLemmas.{tail_words, answer_again, completion_again, verdict_again}

lettered_again : (bound c n : ℕ) → n ≤ bound → bound ≤ 18446744073709551615 → lettered_in bound (c ∷ decimal n) ≡ Some n
unfolding lettered_in
lettered_again bound c n h small = number_again bound n h small

arrow_first : (t : Told) → answer_line_words t ≡ Fixed (codes "->") ∷ tail_words t
arrow_first (told.Whole answer) = refl
arrow_first (told.Polled n) = refl

all_front : (fs gs : List Field) → AllFit (fs ++ gs) → AllFit fs
all_front [] gs h = tt
all_front (f ∷ fs) gs h = (h.0, all_front fs gs h.1)

all_back : (fs gs : List Field) → AllFit (fs ++ gs) → AllFit gs
all_back [] gs h = h
all_back (f ∷ fs) gs h = all_back fs gs h.1

pub words_append : (fs gs : List Field) → words (fs ++ gs) ≡ words fs ++ words gs
words_append [] gs = refl
words_append (f ∷ fs) gs = ap (λ (ws : Words). word f ∷ ws) (words_append fs gs)

-- the line of a mark, behind its empty first word
mark_again : (m : Mark) → IsPlain m → AllFit (mark_words m) → inner_at (words (mark_words m)) ≡ Some (lines.Mark m)
unfolding inner_at mark_at granted_at remote_at local_mark_at stored_at sent_at done_at passing_at
mark_again (marks.Verb by verb answer) g h = absurd g
mark_again (marks.Granted x) g h = rw (domain_again x.domain h.1.0, key_again x.key h.1.1.0, object_again x.local, queues_again x.queue h.1.1.1.1.0, address_again x.address h.1.1.1.1.1.0, u32 x.length h.1.1.1.1.1.1.0, rights_again x.rights, runs_again x.runs h.1.1.1.1.1.1.1.1.0) refl
mark_again (marks.Revoked a k) g h = rw (u8 a h.1.0, key_again k h.1.1.0) refl
mark_again (marks.Remote q d i k kind at n v) g h = rw (queue_again q h.1.0, domain_again d h.1.1.0, perhaps_number_again 18446744073709551615 i (omega arith) h.1.1.1.0, key_again k h.1.1.1.1.0, kind_again kind, address_again at h.1.1.1.1.1.1.0, u32 n h.1.1.1.1.1.1.1.0, verdict_again v h.1.1.1.1.1.1.1.1) refl
mark_again (marks.Local q d k kind at n v) g h = rw (queue_again q h.1.0, domain_again d h.1.1.0, key_again k h.1.1.1.0, kind_again kind, address_again at h.1.1.1.1.1.0, u32 n h.1.1.1.1.1.1.0, verdict_again v h.1.1.1.1.1.1.1) refl
mark_again (marks.Stored p bs) g h = rw (place_again 65535 p.adapter p.buffer h.1.0.0 h.1.0.1 (omega arith), u32 p.offset h.1.1.0, hex_again bs h.1.1.1.0) refl
mark_again (marks.Sent a b i r bs) g h = rw (queue_again a h.1.0, queue_again b h.1.1.0, perhaps_number_again 18446744073709551615 i (omega arith) h.1.1.1.0, perhaps_number_again 18446744073709551615 r (omega arith) h.1.1.1.1.0, hex_again bs h.1.1.1.1.1.0) refl
mark_again (marks.Lost q i) g h = rw (queue_again q h.1.0, perhaps_number_again 18446744073709551615 i (omega arith) h.1.1.0) refl
mark_again (marks.Arrived q i) g h = rw (queue_again q h.1.0, perhaps_number_again 18446744073709551615 i (omega arith) h.1.1.0) refl
mark_again (marks.Dropped q c) g h = rw (queue_again q h.1.0, drop_again c) refl
mark_again (marks.Timer q s) g h = rw (queue_again q h.1.0, alarm_again s) refl
mark_again (marks.Done q c cause) g h =
    let fits = all_front (completion_words c) (OfCause cause ∷ []) h.1 in
    rw (completion_again c (perhaps op_refusal_text cause ∷ []) fits, perhaps_cause_again cause) (ap (λ (p : QueueId). Some (lines.Mark (marks.Done p c cause))) g)

got_again : (c : Completion) → AllFit (got_words c) → inner_at (words (got_words c)) ≡ Some (lines.Got c)
unfolding inner_at
got_again c h = rw (completion_again c [] h.1) refl

turn_line : (stamp pass : ℕ) (event : Event) → IsTurn event → stamp ≤ 18446744073709551615 → pass ≤ 4294967295 → AllFit (event_words event) → head_at (words (Lettered 64 w64 stamp ∷ Lettered 112 w32 pass ∷ event_words event)) ≡ Some (lines.Turn stamp pass event)
unfolding head_at turn_at
turn_line stamp pass (events.Verb by verb) g a b h = absurd g
turn_line stamp pass (events.Request q l) g a b h = rw (lettered_again 18446744073709551615 64 stamp a (omega arith), lettered_again 4294967295 112 pass b (omega arith), queue_again q h.1.0, lot_again l h.1.1.0) refl
turn_line stamp pass (events.Deliver q i) g a b h = rw (lettered_again 18446744073709551615 64 stamp a (omega arith), lettered_again 4294967295 112 pass b (omega arith), queue_again q h.1.0, u64 i h.1.1.0) refl
turn_line stamp pass (events.Respond q l) g a b h = rw (lettered_again 18446744073709551615 64 stamp a (omega arith), lettered_again 4294967295 112 pass b (omega arith), queue_again q h.1.0, lot_again l h.1.1.0) refl
turn_line stamp pass (events.RnrWake q) g a b h = rw (lettered_again 18446744073709551615 64 stamp a (omega arith), lettered_again 4294967295 112 pass b (omega arith), queue_again q h.1.0) refl
turn_line stamp pass (events.Timeout q true) g a b h = rw (lettered_again 18446744073709551615 64 stamp a (omega arith), lettered_again 4294967295 112 pass b (omega arith), queue_again q h.1.0, alarm_again false) refl
turn_line stamp pass (events.Timeout q false) g a b h = rw (lettered_again 18446744073709551615 64 stamp a (omega arith), lettered_again 4294967295 112 pass b (omega arith), queue_again q h.1.0, alarm_again true) refl

call_line : (stamp pass by : ℕ) (v : Verb) (t : Told) → IsTold t → AllFit (line_words (lines.Call stamp pass by v t)) → head_at (words (line_words (lines.Call stamp pass by v t))) ≡ Some (lines.Call stamp pass by v t)
unfolding head_at
call_line stamp pass by v t g h =
    let verb_fits = all_front (verb_words v) (answer_line_words t) h.1.1.1 in
    let tail_fits = rw (arrow_first t) at (all_back (verb_words v) (answer_line_words t) h.1.1.1) in
    let apart : words (verb_words v ++ answer_line_words t) ≡ words (verb_words v) ++ (codes "->" ∷ words (tail_words t)) = words_append (verb_words v) (answer_line_words t) ∙ ap (λ (fs : List Field). words (verb_words v) ++ words fs) (arrow_first t) in
    rw (lettered_again 18446744073709551615 64 stamp h.0.1 (omega arith), lettered_again 4294967295 112 pass h.1.0.1 (omega arith), lettered_again 4294967295 99 by h.1.1.0.1 (omega arith), apart, verb_again v (words (tail_words t)) verb_fits, answer_again t g tail_fits.1) refl

-- the words of a line are read as what it says
line_again : (l : Line) → LineFits l → line_at (words (line_words l)) ≡ Some l
unfolding line_at
line_again (lines.Turn stamp pass event) h = turn_line stamp pass event h.0 h.1.0.1 h.1.1.0.1 h.1.1.1
line_again (lines.Call stamp pass by v t) h = call_line stamp pass by v t h.0 h.1
line_again (lines.Got c) h = got_again c h.1.1
line_again (lines.Mark m) h = mark_again m h.0 h.1.1
line_again (lines.End n) h = rw (u64 n h.1.1.0) refl

fields_lack : (separator : ℕ) (fs : List Field) → separator ≤ 32 → AllFit fs → all_lack separator (words fs) ≡ true
fields_lack separator [] low h = refl
fields_lack separator (f ∷ fs) low h = rw (plain_lacks separator (word f) low (field_plain f h.0)) (fields_lack separator fs low h.1)

cut_again : (f : Field) (fs : List Field) → AllFit (f ∷ fs) → pieces 32 (joined 32 (words (f ∷ fs))) ≡ words (f ∷ fs)
cut_again f fs h = pieces_joined 32 (word f) (words fs) (plain_lacks 32 (word f) (omega arith) (field_plain f h.0)) (fields_lack 32 fs (omega arith) h.1)

line_cut : (l : Line) → AllFit (line_words l) → pieces 32 (line_text l) ≡ words (line_words l)
line_cut (lines.Turn stamp pass event) h = cut_again (Lettered 64 w64 stamp) (Lettered 112 w32 pass ∷ event_words event) h
line_cut (lines.Call stamp pass by v t) h = cut_again (Lettered 64 w64 stamp) (Lettered 112 w32 pass ∷ (call_words by v ++ answer_line_words t)) h
line_cut (lines.Got c) h = cut_again (Fixed []) (got_words c) h
line_cut (lines.Mark m) h = cut_again (Fixed []) (mark_words m) h
line_cut (lines.End n) h = cut_again (Fixed (codes "end")) (Number w64 n ∷ []) h

-- a line is read as what it says
pub line_read : (l : Line) → LineFits l → line_in (line_text l) ≡ Some l
line_read l h = ap line_at (line_cut l h.1) ∙ line_again l h

led_lacks : (ws : Words) → all_lack 10 ws ≡ true → lacks 10 (led 32 ws) ≡ true
led_lacks [] h = refl
led_lacks (w ∷ ws) h = let both = and_parts (lacks 10 w) (all_lack 10 ws) h in lacks_append 10 (32 ∷ w) (led 32 ws) both.0 (led_lacks ws both.1)

joined_lacks : (ws : Words) → all_lack 10 ws ≡ true → lacks 10 (joined 32 ws) ≡ true
joined_lacks [] h = refl
joined_lacks (w ∷ ws) h = let both = and_parts (lacks 10 w) (all_lack 10 ws) h in lacks_append 10 w (led 32 ws) both.0 (led_lacks ws both.1)

-- a line has no line feed
pub line_lacks : (l : Line) → LineFits l → lacks 10 (line_text l) ≡ true
line_lacks l h = joined_lacks (words (line_words l)) (fields_lack 10 (line_words l) (omega arith) h.1)
