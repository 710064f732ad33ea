-- Two texts of lines that begin alike begin with the same lines.
use Rattle.std.proofs.Common.{◌≡◌, ℕ, true, not, ◌&&◌, eqb, List, [], ◌∷◌, ◌++◌, map, refl, sym, ap, ◌∙◌, append_assoc}
use Rattle.std.specs.List.{AllByRecursion}
use Rattle.std.proofs.lemmas.Bool.{and_parts}
use Rattle.std.proofs.lemmas.Option.{same_Some}
use Rattle.ca_trace.specs.declared.line.Line.{Line}
use Rattle.ca_trace.specs.Lines.{line_text, lines_text}
use Rattle.ca_trace_lex.proofs.PieceLemmas.{lacks}
use Rattle.ca_trace_read_fits.specs.ca_trace_read_lines.Fits.{LineFits}
use Rattle.ca_trace_read_fits.specs.ca_trace_read_lines.Reading.{line_in}
use Rattle.ca_trace_read_fits.proofs.of_ca_trace_read_lines.LineLemmas.{line_read, line_lacks}
use Rattle.ca_trace_read.specs.Outside.{is_one_line}
use Rattle.ca_trace_read.specs.Taken.{lined}

-- a text without a line feed
pub lacks_feed : (w : List ℕ) → lacks 10 w ≡ is_one_line w
lacks_feed [] = refl
lacks_feed (c ∷ cs) = ap (λ b. not (eqb c 10) && b) (lacks_feed cs)

no_feed_first : (c : ℕ) (cs : List ℕ) → lacks 10 (c ∷ cs) ≡ true → c ≡ 10 → ⊥
no_feed_first c cs h e = let g = rw e at h in absurd cc

-- what stands before the first line feed of a text, and what stands behind it
pub cut_same : (a b x y : List ℕ) → lacks 10 a ≡ true → lacks 10 b ≡ true → a ++ 10 ∷ x ≡ b ++ 10 ∷ y → (a ≡ b) × (x ≡ y)
cut_same [] [] x y h g e = (refl, cc)
cut_same [] (c ∷ cs) x y h g e = absurd (no_feed_first c cs g cc)
cut_same (c ∷ cs) [] x y h g e = absurd (no_feed_first c cs h cc)
cut_same (c ∷ cs) (d ∷ ds) x y h g e =
    let first : c ≡ d = cc in
    let rest : cs ++ 10 ∷ x ≡ ds ++ 10 ∷ y = cc in
    let others = cut_same cs ds x y (and_parts (not (eqb c 10)) (lacks 10 cs) h).1 (and_parts (not (eqb d 10)) (lacks 10 ds) g).1 rest in
    (ap (λ (n : ℕ). n ∷ cs) first ∙ ap (λ (w : List ℕ). d ∷ w) others.0, others.1)

-- a text without a line feed is no text with one
pub no_feed : (a b y : List ℕ) → lacks 10 a ≡ true → a ≡ b ++ 10 ∷ y → ⊥
no_feed [] [] y h e = absurd cc
no_feed [] (d ∷ ds) y h e = absurd cc
no_feed (c ∷ cs) [] y h e = no_feed_first c cs h cc
no_feed (c ∷ cs) (d ∷ ds) y h e = let rest : cs ≡ ds ++ 10 ∷ y = cc in no_feed cs ds y (and_parts (not (eqb c 10)) (lacks 10 cs) h).1 rest

regroup : (a b c : List ℕ) → ((a ++ 10 ∷ []) ++ b) ++ c ≡ a ++ 10 ∷ (b ++ c)
regroup a b c = simp append_assoc

not_nil : (a b c : List ℕ) → [] ≡ ((a ++ 10 ∷ []) ++ b) ++ c → ⊥
not_nil [] b c e = absurd cc
not_nil (x ∷ xs) b c e = absurd cc

-- lines that begin with these, and the text of the others
pub record Begins (all front : List Line) (rest : List ℕ) : Type 0 where
  pub more : List Line
  pub lines : all ≡ front ++ more
  pub text : lines_text more ≡ rest

pub split : (ls hs : List Line) (rest : List ℕ) → AllByRecursion LineFits ls → AllByRecursion LineFits hs → lines_text hs ≡ lines_text ls ++ rest → Begins hs ls rest
split [] hs rest f g e = record { more = hs; lines = refl; text = e }
split (l ∷ ls) [] rest f g e = absurd (not_nil (line_text l) (lines_text ls) rest e)
split (l ∷ ls) (h ∷ hs) rest f g e =
    let cut : line_text h ++ 10 ∷ lines_text hs ≡ line_text l ++ 10 ∷ (lines_text ls ++ rest) =
    sym (append_assoc (line_text h) (10 ∷ []) (lines_text hs)) ∙ e ∙ regroup (line_text l) (lines_text ls) rest in
    let both = cut_same (line_text h) (line_text l) (lines_text hs) (lines_text ls ++ rest) (line_lacks h g.0) (line_lacks l f.0) cut in
    let same = same_Some h l (sym (line_read h g.0) ∙ ap line_in both.0 ∙ line_read l f.0) in
    let others = split ls hs rest f.1 g.1 both.1 in
    record {
      more = others.more;
      lines = ap (λ (x : List Line). h ∷ x) others.lines ∙ ap (λ (x : Line). x ∷ (ls ++ others.more)) same;
      text = others.text;
    }

-- the text of lines is that of their texts
pub lined_lines : (ls : List Line) → lined (map line_text ls) ≡ lines_text ls
lined_lines [] = refl
lined_lines (l ∷ ls) = ap (λ (x : List ℕ). (line_text l ++ 10 ∷ []) ++ x) (lined_lines ls)

pub fit_front : (ls ms : List Line) → AllByRecursion LineFits (ls ++ ms) → AllByRecursion LineFits ls
fit_front [] ms h = tt
fit_front (l ∷ ls) ms h = (h.0, fit_front ls ms h.1)

pub fit_back : (ls ms : List Line) → AllByRecursion LineFits (ls ++ ms) → AllByRecursion LineFits ms
fit_back [] ms h = h
fit_back (l ∷ ls) ms h = fit_back ls ms h.1

-- a text is cut into its lines in one way
pub same_lines : (ws : List (List ℕ)) (hs : List Line) → AllByRecursion (λ w. is_one_line w ≡ true) ws → AllByRecursion LineFits hs → lined ws ≡ lines_text hs → ws ≡ map line_text hs
same_lines [] [] h g e = refl
same_lines [] (l ∷ ls) h g e = absurd (no_feed [] (line_text l) (lines_text ls) refl (e ∙ append_assoc (line_text l) (10 ∷ []) (lines_text ls)))
same_lines (w ∷ ws) [] h g e = absurd (no_feed [] w (lined ws) refl (sym e ∙ append_assoc w (10 ∷ []) (lined ws)))
same_lines (w ∷ ws) (l ∷ ls) h g e =
    let both = cut_same w (line_text l) (lined ws) (lines_text ls) (lacks_feed w ∙ h.0) (line_lacks l g.0)
    (sym (append_assoc w (10 ∷ []) (lined ws)) ∙ e ∙ append_assoc (line_text l) (10 ∷ []) (lines_text ls)) in
    ap (λ (x : List ℕ). x ∷ ws) both.0 ∙ ap (λ (x : List (List ℕ)). line_text l ∷ x) (same_lines ws ls h.1 g.1 both.1)
