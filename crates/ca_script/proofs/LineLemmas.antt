-- Lines that are read one after another, and lines of consumers.
use Rattle.std.proofs.Common.{◌≡◌, ℕ, zero, suc, ◌+◌, ◌-◌, ◌<◌, ◌≤◌, true, false, eqb, ltb, List, [], ◌∷◌, ◌++◌, length, get_or, set, Some, None, Ok, Err, refl, ap, arith}
use Rattle.std.proofs.lemmas.Bool.{lt-ltb, eqb-true}
use Rattle.std.proofs.lemmas.Bool.Decides.{nat_tests}
use Rattle.ca_script_lines.specs.ca_trace_lex.Words.{next_of}
use Rattle.ca_script_lines.proofs.of_ca_trace_lex.ListLemmas.{next_is, next_none}
use Rattle.ca_script_lines.specs.ca_script_lex.declared.cause.ScriptCause.{ScriptCause}
use Rattle.ca_script_lines.specs.ca_script_lex.declared.cause.ScriptCause.TheVariants.{TooLarge}
use Rattle.ca_script_lines.specs.declared.what.Line.{Line}
use Rattle.ca_script.specs.Script.{Draft, with_line, size_of, after_line, after_lines}

-- ---- consumers

pub pad_more : (k : ℕ) (line : Line) (cs : List (List Line)) → length cs ≤ k → with_line k line (cs ++ [] ∷ []) ≡ with_line k line cs
pad_more zero line [] h = refl
pad_more zero line (c ∷ cs) h = absurd (omega (arith, h))
pad_more (suc k) line [] h = refl
pad_more (suc k) line (c ∷ cs) h = ap (λ (x : List (List Line)). c ∷ x) (pad_more k line cs (omega (arith, h)))

pub add_at : (k : ℕ) (line : Line) (cs : List (List Line)) (d : List Line) → k < length cs → set cs k (get_or cs k d ++ line ∷ []) ≡ with_line k line cs
add_at k line [] d h = absurd (omega (arith, h))
add_at zero line (c ∷ cs) d h = refl
add_at (suc k) line (c ∷ cs) d h = ap (λ (x : List (List Line)). c ∷ x) (add_at k line cs d (omega (arith, h)))

-- ---- lines

pub size_last : (line : List ℕ) (lines : List (List ℕ)) → eqb (length lines) 0 ≡ true → length line ≡ size_of line lines
size_last line [] h = refl
size_last line (l ∷ ls) h = absurd (omega (arith, eqb-true _ _ h))

pub size_more : (line : List ℕ) (lines : List (List ℕ)) → eqb (length lines) 0 ≡ false → length line + 1 ≡ size_of line lines
size_more line [] h = absurd cc
size_more line (l ∷ ls) h = refl

pub lines_too_large : (number room : ℕ) (d : Draft) (ws rest : List (List ℕ)) (w : List ℕ) → next_of ws ≡ Some (w, rest) → room < size_of w rest → after_lines number room d ws ≡ Err (number, TooLarge)
lines_too_large number room d ws rest w h large = rw (next_is ws w rest h, lt-ltb _ _ large) refl

pub lines_refused : (number room : ℕ) (d : Draft) (ws rest : List (List ℕ)) (w : List ℕ) (cause : ScriptCause) → next_of ws ≡ Some (w, rest) → size_of w rest ≤ room → after_line number d w ≡ Err cause → after_lines number room d ws ≡ Err (number, cause)
lines_refused number room d ws rest w cause h small e =
    let within : ltb room (size_of w rest) ≡ false = grind (arith, nat_tests) in
    rw (next_is ws w rest h, within, e) refl

pub lines_more : (number room : ℕ) (d after : Draft) (ws rest : List (List ℕ)) (w : List ℕ) → next_of ws ≡ Some (w, rest) → size_of w rest ≤ room → after_line number d w ≡ Ok after → after_lines (number + 1) (room - size_of w rest) after rest ≡ after_lines number room d ws
lines_more number room d after ws rest w h small e =
    let within : ltb room (size_of w rest) ≡ false = grind (arith, nat_tests) in
    rw (next_is ws w rest h, within, e) refl

pub lines_over : (number room : ℕ) (d : Draft) (ws : List (List ℕ)) → next_of ws ≡ None → after_lines number room d ws ≡ Ok d
lines_over number room d ws h = rw (next_none ws h) refl

pub length_next : (ws rest : List (List ℕ)) (w : List ℕ) → next_of ws ≡ Some (w, rest) → length rest < length ws
length_next ws rest w h = rw (next_is ws w rest h) (omega arith)

pub size_some : (line : List ℕ) (lines : List (List ℕ)) → 0 < length lines → 1 ≤ size_of line lines
size_some line [] h = absurd (omega (arith, h))
size_some line (l ∷ ls) h = omega arith

pub ruleset padding = (pad_more)

pub ruleset adding = (add_at)

pub ruleset sizes = (size_last, size_more)

pub ruleset going = (lines_too_large, lines_refused, lines_more, lines_over, length_next, size_some)
