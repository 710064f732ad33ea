-- The line that a text is: each line that may stand in a trace is read, and what is read prints as the text.
use Rattle.std.proofs.Common.{◌≡◌, ℕ, true, List, [], ◌∷◌, Some, None, refl, sym, ap, ◌∙◌}
use Rattle.std.specs.Str.{bytes_eq}
use Rattle.std.proofs.lemmas.Bool.{eq-eqb}
use Rattle.ca_trace.specs.declared.line.Line.{Line}
use Rattle.ca_trace.specs.Lines.{line_text}
use Rattle.std.specs.Prelude.{Result, Ok, Err, IfErr}
use Rattle.ca_trace_lex.specs.declared.stop.Stop.{Stop}
use Rattle.ca_trace_lex.specs.declared.stop.Stop.TheVariants as stops
use Rattle.ca_trace_lex.specs.Words.{Gives}
use Rattle.ca_trace_read_lines.specs.Fits.{LineFits}
use Rattle.ca_trace_read_lines.specs.Calls.{exact_in}
use Rattle.ca_trace_read_lines.proofs.LineLemmas.{line_read}

pub same_bytes : (w : List ℕ) → bytes_eq w w ≡ true
same_bytes [] = refl
same_bytes (c ∷ cs) = rw (eq-eqb c c refl) (same_bytes cs)

-- a line that may stand in a trace is read from its text
pub exact_again : (l : Line) → LineFits l → exact_in (line_text l) ≡ Some l
unfolding exact_in
exact_again l h = rw (line_read l h, same_bytes (line_text l)) refl

-- a text from which nothing is read is no such line's
pub no_line : (text : List ℕ) → exact_in text ≡ None → (l : Line) → LineFits l → text ≡ line_text l → ⊥
no_line text h l fits e =
    let both : Some l ≡ None = sym (exact_again l fits) ∙ ap exact_in (sym e) ∙ h in
    absurd cc

-- where reading stops outside, no line that may stand in a trace prints so
pub none_fits : (r : Result Line Stop) (text : List ℕ) → Gives r (exact_in text) → IfErr r (λ stop. stop ≡ stops.Outside → (l : Line) → LineFits l → text ≡ line_text l → ⊥)
none_fits (Ok line) text h = tt
none_fits (Err stops.Outside) text h = λ _ l fits e. no_line text h l fits e
none_fits (Err stops.Memory) text h = λ other. absurd cc
