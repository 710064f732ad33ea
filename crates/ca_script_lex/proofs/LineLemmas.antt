-- The first word of a line whose first byte is no space.
use Rattle.std.proofs.Common.{◌≡◌, ℕ, suc, true, false, eqb, List, [], ◌∷◌, length, take, drop, slice_index, Ok, Err, refl, sym, ap, ◌∙◌, arith, inl, inr}
use Rattle.std.specs.List.{filter, position_or_len}
use Rattle.std.proofs.lemmas.Bool.{cases_Bool, ne_eqb, eqb-true}
use Rattle.ca_trace_lex.specs.Words.{pieces}
use Rattle.ca_script_lex.specs.Reading.{first_word}
use Rattle.ca_script_lex.specs.Words.{is_word, words_of}
use Rattle.ca_script_lex.specs.declared.cause.ScriptCause.TheVariants.{Missing}

-- how many bytes stand before the first space
abbrev space_at : List ℕ → ℕ
space_at text = position_or_len (λ b. eqb b 32) text

-- what stands before the first space is the first part of a line, and the words of the others are those from there on
abbrev IsCut : List ℕ → Type 0
IsCut text = (more : List (List ℕ)) × (pieces 32 text ≡ take (space_at text) text ∷ more) × (words_of (drop (space_at text) text) ≡ filter is_word more)

later : (c : ℕ) (cs : List ℕ) → eqb c 32 ≡ false → space_at (c ∷ cs) ≡ suc (space_at cs)
later c cs h = rw h (omega arith)

further : (c : ℕ) (cs : List ℕ) → eqb c 32 ≡ false → IsCut cs → IsCut (c ∷ cs)
further c cs h (more, first, others) =
    let front : pieces 32 (c ∷ cs) ≡ take (suc (space_at cs)) (c ∷ cs) ∷ more = rw (h, first) refl in
    (more, front ∙ ap (λ (n : ℕ). take n (c ∷ cs) ∷ more) (sym (later c cs h)), ap (λ (n : ℕ). words_of (drop n (c ∷ cs))) (later c cs h) ∙ others)

cut : (text : List ℕ) → IsCut text
cut [] = ([], refl, refl)
cut (c ∷ cs) =
    elim (cases_Bool (eqb c 32)) [
      | inl e ↦ (pieces 32 cs, rw e refl, rw (e, e) refl)
      | inr e ↦ further c cs e (cut cs)
    ]

both : (all : List (List ℕ)) (w : List ℕ) (more rest : List (List ℕ)) → all ≡ w ∷ more → eqb (length w) 0 ≡ false → rest ≡ filter is_word more → first_word (filter is_word all) ≡ Ok (w, rest)
both all w more rest first there others = rw (others, first, there) refl

pub first_cut : (text : List ℕ) → eqb (slice_index text 0) 32 ≡ false → eqb (length text) 0 ≡ false → first_word (words_of text) ≡ Ok (take (space_at text) text, words_of (drop (space_at text) text))
first_cut [] h some = absurd cc
first_cut (c ∷ cs) h some = word c cs h (cut (c ∷ cs))
  where
    word : (c : ℕ) (cs : List ℕ) → eqb c 32 ≡ false → IsCut (c ∷ cs) → first_word (words_of (c ∷ cs)) ≡ Ok (take (space_at (c ∷ cs)) (c ∷ cs), words_of (drop (space_at (c ∷ cs)) (c ∷ cs)))
    word c cs h (more, first, others) =
        let there : eqb (length (take (space_at (c ∷ cs)) (c ∷ cs))) 0 ≡ false =
        ap (λ (n : ℕ). eqb (length (take n (c ∷ cs))) 0) (later c cs h) ∙ ne_eqb (suc (length (take (space_at cs) cs))) 0 (λ same. omega arith) in
        both (pieces 32 (c ∷ cs)) (take (space_at (c ∷ cs)) (c ∷ cs)) more (words_of (drop (space_at (c ∷ cs)) (c ∷ cs))) first there others

pub none_left : (text : List ℕ) → eqb (length text) 0 ≡ true → first_word (words_of text) ≡ Err Missing
none_left [] h = refl
none_left (c ∷ cs) h = absurd (omega (arith, eqb-true _ _ h))

pub ruleset cutting = (first_cut, none_left)
