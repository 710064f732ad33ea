-- One more line of a text that is read, and where reading ends.
use Rattle.std.proofs.Common.{◌≡◌, ℕ, ◌+◌, true, false, List, [], ◌∷◌, ◌++◌, Option, Some, map, length, sym, ap, subst, ◌∙◌, arith, append_assoc, zero-add}
use Rattle.std.specs.Prelude.{Err}
use Rattle.std.specs.List.{AllByRecursion}
use Rattle.std.proofs.lemmas.List.{append-nil, map-append, length-append}
use Rattle.std.proofs.lemmas.List.Concat.{flat_map-append}
use Rattle.ca_model.specs.Entries.{EntryValue}
use Rattle.ca_model.specs.History.{IsEntry}
use Rattle.ca_trace.specs.Lines.{line_text, history_lines}
use Rattle.ca_trace.specs.Trace.{text}
use Rattle.ca_trace_read.specs.declared.error.TraceError.{TraceError}
use Rattle.ca_trace_read.specs.declared.error.TraceError.TheVariants as errors
use Rattle.ca_trace_read_fits.specs.Histories.{HistoryFits}
use Rattle.ca_trace_read.specs.Steps.{Stage, Over, Reading, before, start, is_over}
use Rattle.ca_trace_read.specs.Taken.{IsTaken, IsRefused, AreTaken, lined}
use Rattle.ca_trace_read.specs.Outside.{BeginsText, is_one_line}
use Rattle.ca_trace_read.specs.ReaderValue.{ReaderValue}
use Rattle.ca_trace_read.specs.Reader.{HasRead, IsReached, TakesInto, IsCause, IsRefusedRight, IsReadAs}
use Rattle.ca_trace_read.proofs.RunLemmas.{run_more}
use Rattle.ca_trace_read.proofs.SplitLemmas.{lined_lines, same_lines}
use Rattle.ca_trace_read_fits.proofs.HistoryLemmas.{fit_both}
use Rattle.ca_trace_read.proofs.EntryLemmas.{last_entry}
use Rattle.ca_trace_read.proofs.ReachLemmas.{IsBehind, run_stands, step_behind}
use Rattle.ca_trace_read.proofs.EndLemmas.{whole_text}
use Rattle.ca_trace_read.proofs.OutsideLemmas.{line_outside, end_outside, not_there}
use Rattle.ca_trace_read.proofs.StepLemmas.{lines_run}
use Rattle.ca_trace_read.proofs.TextLemmas.{history_text, history_fits}

-- the entry that a line shows may stand behind those before it
pub shown_entry : (v : ReaderValue) (es : List EntryValue) (w : List ℕ) (s : Reading) (e : EntryValue) → IsReached v es → IsTaken v.reading w s (Some e) → IsEntry (length es) e
shown_entry v es w s e h t =
    let there = run_stands h.taken.lines v.reading es h.taken.fit h.taken.leads in
    let next = step_behind h.taken.lines t.line v.reading.count v.reading.stage es (s, Some e) there t.fits.0 t.leads in
    last_entry 0 (length es) es e next.history (sym (zero-add (length es)))

-- the lines that were taken, with one more
pub taken_more : (ws : List (List ℕ)) (w : List ℕ) (r s : Reading) (es : List EntryValue) (shown : Option EntryValue) → AreTaken start ws r es → IsTaken r w s shown → AreTaken start (ws ++ w ∷ []) s (es ++ before shown [])
taken_more ws w r s es shown h t = record {
  lines = h.lines ++ t.line ∷ [];
  fit = fit_both h.lines (t.line ∷ []) h.fit (t.fits, tt);
  spelled = ap (λ (x : List (List ℕ)). x ++ w ∷ []) h.spelled ∙ ap (λ (x : List ℕ). map line_text h.lines ++ x ∷ []) t.spelled ∙ sym (map-append line_text h.lines (t.line ∷ []));
  leads = run_more h.lines t.line start r s es shown h.leads t.leads;
}

pub read_more : (bytes rest w more : List ℕ) (v u : ReaderValue) (es fs : List EntryValue) → HasRead bytes rest v es → rest ≡ w ++ 10 ∷ more → TakesInto v es w u fs → HasRead bytes more u fs
read_more bytes rest w more v u es fs h cut t =
    let count : length (h.lines ++ w ∷ []) ≡ length h.lines + 1 = length-append h.lines (w ∷ []) in
    let old = h.number in
    let new = t.taken.next in
    record {
      lines = h.lines ++ w ∷ [];
      whole = h.whole ∙ ap (λ (x : List ℕ). lined h.lines ++ x) (cut ∙ sym (append_assoc w (10 ∷ []) more) ∙ ap (λ (x : List ℕ). x ++ more) (sym (append-nil (w ++ 10 ∷ []))))
          ∙ sym (append_assoc (lined h.lines) (lined (w ∷ [])) more) ∙ ap (λ (x : List ℕ). x ++ more) (sym (flat_map-append (λ w. w ++ 10 ∷ []) h.lines (w ∷ [])));
      taken = subst (λ (x : List EntryValue). AreTaken start (h.lines ++ w ∷ []) u.reading x) (sym t.added) (taken_more h.lines w v.reading u.reading es t.shown h.taken t.taken.taken);
      number = omega arith;
    }

-- where a line is refused it is the first outside the grammar
pub cause_right : (bytes rest w more : List ℕ) (v : ReaderValue) (es : List EntryValue) (e : TraceError) → HasRead bytes rest v es → rest ≡ w ++ 10 ∷ more → is_one_line w ≡ true → IsCause v w e → IsRefusedRight bytes e
cause_right bytes rest w more v es (errors.Refused n) h cut one c =
    line_outside bytes h.lines v.reading es n w more (h.whole ∙ ap (λ (x : List ℕ). lined h.lines ++ x) cut) h.taken (c.0 ∙ h.number) one c.1
cause_right bytes rest w more v es errors.Memory h cut one c = tt

-- so it is where the text stops
pub end_right : (bytes rest : List ℕ) (v : ReaderValue) (es : List EntryValue) (e : TraceError) → HasRead bytes rest v es → is_one_line rest ≡ true → e ≡ errors.Refused v.next → (rest ≡ [] → is_over v.reading.stage ≡ false)
    → IsRefusedRight bytes e
end_right bytes rest v es e h one same going =
    subst (λ (x : TraceError). IsRefusedRight bytes x) (sym same) (end_outside bytes h.lines v.reading es v.next rest h.whole h.taken h.number one going)

-- what is refused is the text of no history
pub not_read : (bytes : List ℕ) (e : TraceError) → IsRefusedRight bytes e → (es : List EntryValue) → HistoryFits es → bytes ≡ text es → IsReadAs es (Err e)
not_read bytes (errors.Refused n) h es fits same = h.no_text es fits same
not_read bytes errors.Memory h es fits same = tt

-- what is read to its end is the text of these entries
pub read_whole : (bytes rest : List ℕ) (v : ReaderValue) (es : List EntryValue) → HasRead bytes rest v es → rest ≡ [] → v.reading.stage ≡ Over → HistoryFits es × (bytes ≡ text es)
read_whole bytes rest v es h none over =
    let there = run_stands h.taken.lines v.reading es h.taken.fit h.taken.leads in
    let whole = whole_text h.taken.lines v.reading.count es (subst (λ (x : Stage). IsBehind h.taken.lines v.reading.count x es) over there) h.taken.fit in
    (whole.fits, h.whole ∙ ap (λ (x : List ℕ). lined h.lines ++ x) none ∙ append-nil (lined h.lines) ∙ ap lined h.taken.spelled ∙ lined_lines h.taken.lines ∙ sym whole.whole)

-- the lines of the text of a history
pub all_taken : (es : List EntryValue) (ws : List (List ℕ)) → HistoryFits es → AllByRecursion (λ w. is_one_line w ≡ true) ws → lined ws ≡ text es → AreTaken start ws (record { count = length es; stage = Over }) es
all_taken es ws h one same = record {
  lines = history_lines es;
  fit = history_fits es h;
  spelled = same_lines ws (history_lines es) one (history_fits es h) (same ∙ history_text es h.history);
  leads = lines_run es h.few h.history;
}

-- lines that are taken to the end are the text of what they showed
pub taken_text : (ws : List (List ℕ)) (s : Reading) (es : List EntryValue) → AreTaken start ws s es → s.stage ≡ Over → HistoryFits es × (lined ws ≡ text es)
taken_text ws s es t over =
    let there = run_stands t.lines s es t.fit t.leads in
    let whole = whole_text t.lines s.count es (subst (λ (x : Stage). IsBehind t.lines s.count x es) over there) t.fit in
    (whole.fits, ap lined t.spelled ∙ lined_lines t.lines ∙ sym whole.whole)

-- no text of a history begins with lines and one that is refused behind them
pub refused_begins_none : (ws : List (List ℕ)) (s : Reading) (es : List EntryValue) (w : List ℕ) → AreTaken start ws s es → is_one_line w ≡ true → IsRefused s w → BeginsText (lined ws ++ (w ++ 10 ∷ [])) → ⊥
refused_begins_none ws s es w t one refused b =
    not_there ws s es b.entries w b.rest t one refused b.fits
    (b.whole ∙ append_assoc (lined ws) (w ++ 10 ∷ []) b.rest ∙ ap (λ (x : List ℕ). lined ws ++ x) (append_assoc w (10 ∷ []) b.rest))
