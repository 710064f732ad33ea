-- A line that may not stand where it does is the first outside the grammar.
use Rattle.std.proofs.Common.{◌≡◌, ℕ, true, false, List, [], ◌∷◌, ◌++◌, Some, None, length, refl, sym, ap, subst, ◌∙◌, append_assoc}
use Rattle.std.specs.List.{AllByRecursion}
use Rattle.std.proofs.lemmas.List.{append-nil}
use Rattle.std.proofs.lemmas.Option.{same_Some}
use Rattle.ca_model.specs.Entries.{EntryValue}
use Rattle.ca_trace.specs.declared.line.Line.{Line}
use Rattle.ca_trace.specs.Lines.{line_text, lines_text, history_lines}
use Rattle.ca_trace.specs.Trace.{text}
use Rattle.ca_trace_read_fits.specs.ca_trace_read_lines.Fits.{LineFits}
use Rattle.ca_trace_read_fits.proofs.of_ca_trace_read_lines.LineLemmas.{line_lacks}
use Rattle.ca_trace_read_fits.specs.Histories.{HistoryFits}
use Rattle.ca_trace_read.specs.Steps.{Over, Reading, run, start, is_over}
use Rattle.ca_trace_read.specs.Taken.{IsRefused, AreTaken, lined}
use Rattle.ca_trace_read.specs.Outside.{IsFirstOutside, is_one_line, line_number}
use Rattle.ca_trace_read.proofs.StepLemmas.{lines_run}
use Rattle.ca_trace_read.proofs.TextLemmas.{history_text, history_fits}
use Rattle.ca_trace_read.proofs.RunLemmas.{run_stops}
use Rattle.ca_trace_read.proofs.SplitLemmas.{Begins, split, cut_same, no_feed, lacks_feed, lined_lines, fit_back}
use Rattle.ca_trace_read.proofs.EndLemmas.{begins}

-- the text of a history that begins with lines that a reader took
behind_lines : (ws : List (List ℕ)) (s : Reading) (es fs : List EntryValue) (rest : List ℕ) → AreTaken start ws s es → HistoryFits fs → text fs ≡ lined ws ++ rest
    → (t : AreTaken start ws s es) × Begins (history_lines fs) t.lines rest
behind_lines ws s es fs rest t h e =
    let front : lined ws ≡ lines_text t.lines = ap lined t.spelled ∙ lined_lines t.lines in
    let same : lines_text (history_lines fs) ≡ lines_text t.lines ++ rest = sym (history_text fs h.history) ∙ e ∙ ap (λ (x : List ℕ). x ++ rest) front in
    (t, split t.lines (history_lines fs) rest t.fit (history_fits fs h) same)

not_none : {A : Type 0} (x : A) → Some x ≡ None → ⊥
not_none x h = absurd cc

-- the first line behind them, where there is one
next_line : (ls : List Line) (fs : List EntryValue) (s : Reading) (es : List EntryValue) (more : List Line) (w rest : List ℕ) → run start ls ≡ Some (s, es) → HistoryFits fs
    → history_lines fs ≡ ls ++ more → AllByRecursion LineFits more → is_one_line w ≡ true → IsRefused s w → lines_text more ≡ w ++ 10 ∷ rest → ⊥
next_line ls fs s es [] w rest leads h all fit one refused e = no_feed [] w rest refl e
next_line ls fs s es (l ∷ more) w rest leads h all fit one refused e =
    let cut = cut_same (line_text l) w (lines_text more) rest (line_lacks l fit.0) (lacks_feed w ∙ one) (sym (append_assoc (line_text l) (10 ∷ []) (lines_text more)) ∙ e) in
    let stops = run_stops ls more l start s es leads (refused l fit.0 (sym cut.0)) in
    let end : Reading × List EntryValue = (record { count = length fs; stage = Over }, fs) in
    not_none end (sym (lines_run fs h.few h.history) ∙ ap (run start) all ∙ stops)

-- no text of a history has a refused line there
pub not_there : (ws : List (List ℕ)) (s : Reading) (es fs : List EntryValue) (w rest : List ℕ) → AreTaken start ws s es → is_one_line w ≡ true → IsRefused s w → HistoryFits fs
    → text fs ≡ lined ws ++ (w ++ 10 ∷ rest) → ⊥
not_there ws s es fs w rest t one refused h e =
    let found = behind_lines ws s es fs (w ++ 10 ∷ rest) t h e in
    let all = found.1.lines in
    let fit = fit_back found.0.lines found.1.more (subst (λ (x : List Line). AllByRecursion LineFits x) all (history_fits fs h)) in
    next_line found.0.lines fs s es found.1.more w rest found.0.leads h all fit one refused found.1.text

same_line : (a b x y : List ℕ) → is_one_line a ≡ true → is_one_line b ≡ true → a ++ 10 ∷ x ≡ b ++ 10 ∷ y → a ≡ b
same_line a b x y h g e = (cut_same a b x y (lacks_feed a ∙ h) (lacks_feed b ∙ g) e).0

-- the first line of the rest was refused
pub line_outside : (bytes : List ℕ) (ws : List (List ℕ)) (s : Reading) (es : List EntryValue) (n : ℕ) (w rest : List ℕ) → bytes ≡ lined ws ++ (w ++ 10 ∷ rest) → AreTaken start ws s es
    → n ≡ line_number (length ws) → is_one_line w ≡ true → IsRefused s w → IsFirstOutside bytes n
line_outside bytes ws s es n w rest whole t number one refused = record {
  before = ws;
  rest = w ++ 10 ∷ rest;
  whole = whole;
  number = number;
  begins = begins ws s es t;
  outside = λ line more single e there.
      let same = same_line w line rest more one single e in
      let cut : text there.entries ≡ lined ws ++ (w ++ 10 ∷ there.rest) =
      there.whole ∙ append_assoc (lined ws) (line ++ 10 ∷ []) there.rest ∙ ap (λ (x : List ℕ). lined ws ++ x) (append_assoc line (10 ∷ []) there.rest)
      ∙ ap (λ (x : List ℕ). lined ws ++ (x ++ 10 ∷ there.rest)) (sym same) in
      not_there ws s es there.entries w there.rest t one refused there.fits cut;
  no_text = λ fs h e. not_there ws s es fs w rest t one refused h (sym e ∙ whole);
}

-- nothing more stands behind the lines of a history but a line feed that ends a line
last_line : (ls : List Line) (fs : List EntryValue) (s : Reading) (es : List EntryValue) (more : List Line) (rest : List ℕ) → run start ls ≡ Some (s, es) → HistoryFits fs
    → history_lines fs ≡ ls ++ more → is_one_line rest ≡ true → (rest ≡ [] → is_over s.stage ≡ false) → lines_text more ≡ rest → ⊥
last_line ls fs s es (l ∷ more) rest leads h all one going e =
    no_feed rest (line_text l) (lines_text more) (lacks_feed rest ∙ one) (sym e ∙ append_assoc (line_text l) (10 ∷ []) (lines_text more))
last_line ls fs s es [] rest leads h all one going e =
    let end : Reading × List EntryValue = (record { count = length fs; stage = Over }, fs) in
    let there : Reading × List EntryValue = (s, es) in
    let same : end ≡ there = same_Some end there (sym (lines_run fs h.few h.history) ∙ ap (run start) (all ∙ append-nil ls) ∙ leads) in
    let over : is_over s.stage ≡ true = ap (λ (x : Reading × List EntryValue). is_over x.0.stage) (sym same) in
    let not_over : is_over s.stage ≡ false = going (sym e) in
    absurd cc

pub not_whole : (ws : List (List ℕ)) (s : Reading) (es fs : List EntryValue) (rest : List ℕ) → AreTaken start ws s es → is_one_line rest ≡ true → (rest ≡ [] → is_over s.stage ≡ false) → HistoryFits fs
    → text fs ≡ lined ws ++ rest → ⊥
not_whole ws s es fs rest t one going h e =
    let found = behind_lines ws s es fs rest t h e in
    last_line found.0.lines fs s es found.1.more rest found.0.leads h found.1.lines one going found.1.text

-- no line feed is left, and the text is not over
pub end_outside : (bytes : List ℕ) (ws : List (List ℕ)) (s : Reading) (es : List EntryValue) (n : ℕ) (rest : List ℕ) → bytes ≡ lined ws ++ rest → AreTaken start ws s es
    → n ≡ line_number (length ws) → is_one_line rest ≡ true → (rest ≡ [] → is_over s.stage ≡ false) → IsFirstOutside bytes n
end_outside bytes ws s es n rest whole t number one going = record {
  before = ws;
  rest = rest;
  whole = whole;
  number = number;
  begins = begins ws s es t;
  outside = λ line more single e there. no_feed rest line more (lacks_feed rest ∙ one) e;
  no_text = λ fs h e. not_whole ws s es fs rest t one going h (sym e ∙ whole);
}
