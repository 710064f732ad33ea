-- The text of a history is read as this history.
use Rattle.std.proofs.Common.{◌≡◌, List, [], ◌∷◌, ◌++◌, Some, map, refl, ap, ◌∙◌}
use Rattle.std.specs.List.{AllByRecursion}
use Rattle.ca_model.specs.Entries.{EntryValue}
use Rattle.ca_trace.specs.declared.line.Line.{Line}
use Rattle.ca_trace.specs.Lines.{line_text, history_lines}
use Rattle.ca_trace.specs.Trace.{text}
use Rattle.ca_trace_lex.specs.Words.{pieces}
use Rattle.ca_trace_read_fits.specs.ca_trace_read_lines.Fits.{LineFits}
use Rattle.ca_trace_read_fits.proofs.of_ca_trace_read_lines.ExactLemmas.{exact_again}
use Rattle.ca_trace_read_fits.specs.Histories.{HistoryFits}
use Rattle.ca_trace_read.specs.Texts.{lines_in, history_in}
use Rattle.ca_trace_read.proofs.StepLemmas.{lines_run}
use Rattle.ca_trace_read.proofs.TextLemmas.{history_text, lines_cut, history_fits}

lines_again : (ls : List Line) → AllByRecursion LineFits ls → lines_in (map line_text ls ++ [] ∷ []) ≡ Some ls
lines_again [] h = refl
lines_again (l ∷ []) h = rw (exact_again l h.0) refl
lines_again (l ∷ m ∷ ls) h = rw (exact_again l h.0, lines_again (m ∷ ls) h.1) refl

pub history_again : (es : List EntryValue) → HistoryFits es → history_in (text es) ≡ Some es
history_again es h =
    let cut : pieces 10 (text es) ≡ map line_text (history_lines es) ++ [] ∷ [] = ap (pieces 10) (history_text es h.history) ∙ lines_cut (history_lines es) (history_fits es h) in
    rw (cut, lines_again (history_lines es) (history_fits es h), lines_run es h.few h.history) refl
