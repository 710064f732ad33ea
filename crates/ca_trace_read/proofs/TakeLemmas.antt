-- What a reader of lines knows of a text that it does not take.
use Rattle.std.proofs.Common.{◌≡◌, List, ℕ, Some, None, sym, ap, subst, ◌∙◌}
use Rattle.std.specs.Prelude.{Result, Ok, Err, IfErr}
use Rattle.std.proofs.lemmas.Option.{same_Some}
use Rattle.ca_trace.specs.declared.line.Line.{Line}
use Rattle.ca_trace.specs.Lines.{line_text}
use Rattle.ca_trace_lex.specs.declared.stop.Stop.{Stop}
use Rattle.ca_trace_lex.specs.declared.stop.Stop.TheVariants as stops
use Rattle.ca_trace_read_fits.specs.ca_trace_read_lines.Calls.{exact_in}
use Rattle.ca_trace_read_fits.specs.ca_trace_read_lines.Fits.{IsShaped, LineFits}
use Rattle.ca_trace_read_fits.proofs.of_ca_trace_read_lines.ExactLemmas.{exact_again}
use Rattle.ca_trace_read.specs.Steps.{Reading, step}
use Rattle.ca_trace_read.specs.Taken.{IsRefused}

-- a text is one line
only_line : (w : List ℕ) (read l : Line) → exact_in w ≡ Some read → LineFits l → w ≡ line_text l → l ≡ read
only_line w read l h fits e = same_Some l read (sym (exact_again l fits) ∙ ap exact_in (sym e) ∙ h)

-- a line that has not the shape of one may stand nowhere
pub shape_refused : (r : Reading) (w : List ℕ) (read : Line) → exact_in w ≡ Some read → (IsShaped read → ⊥) → IsRefused r w
shape_refused r w read h g l fits e = absurd (g (subst IsShaped (only_line w read l h fits e) fits.0))

step_refused : (r : Reading) (w : List ℕ) (read : Line) → exact_in w ≡ Some read → step r read ≡ None → IsRefused r w
step_refused r w read h g l fits e = subst (λ (x : Line). step r x ≡ None) (sym (only_line w read l h fits e)) g

-- where the line that was read may not stand, no line of this text may
pub stop_refused : {X : Type 0} (result : Result X Stop) (r : Reading) (w : List ℕ) (read : Line) → exact_in w ≡ Some read → IfErr result (λ stop. stop ≡ stops.Outside → step r read ≡ None)
    → IfErr result (λ stop. stop ≡ stops.Outside → IsRefused r w)
stop_refused (Ok x) r w read h g = tt
stop_refused (Err stop) r w read h g = λ e. step_refused r w read h (g e)
