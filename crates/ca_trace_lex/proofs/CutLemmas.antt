-- The first word of a text, where the first separator stands, and where there is none.
use Rattle.std.proofs.Common.{◌≡◌, ℕ, ◌+◌, ◌≤◌, Bool, true, false, cond, eqb, ltb, List, [], ◌∷◌, length, take, drop, Some, None, refl, sym, ap, ◌∙◌, arith, inl, inr}
use Rattle.std.specs.List.{position, position_or_len}
use Rattle.std.proofs.lemmas.Bool.{cases_Bool, ltb-true, ltb-false}
use Rattle.std.proofs.lemmas.Option.{cond_some}
use Rattle.std.proofs.lemmas.List.Splits.{slice_split_first}
use Rattle.ca_trace_lex.specs.Words.{pieces, next_of}

pub cut_at : (separator : ℕ) (text : List ℕ) (i : ℕ) → position (λ b. eqb b separator) text ≡ Some i → pieces separator text ≡ take i text ∷ pieces separator (drop (i + 1) text)
cut_at separator text i h =
    let found = cond_some (ltb (position_or_len (λ b. eqb b separator) text) (length text)) (position_or_len (λ b. eqb b separator) text) i h in
    slice_split_first (λ b. eqb b separator) text 0 (ltb-true _ _ found.0)
    ∙ ap (λ (k : ℕ). take k text ∷ pieces separator (drop (k + 1) text)) found.1

not_below : (separator : ℕ) (text : List ℕ) → length text ≤ position_or_len (λ b. eqb b separator) text → pieces separator text ≡ text ∷ []
not_below separator [] h = refl
not_below separator (c ∷ cs) h =
    elim (cases_Bool (eqb c separator)) [
      | inl e ↦ absurd (omega (arith, rw e at h))
      | inr e ↦
          let g = rw e at h in
          rw (e, not_below separator cs (omega (arith, g))) refl
    ]

none_past : {A : Type 0} (b : Bool) (x : A) → cond b (Some x) None ≡ None → b ≡ false
none_past true x h = absurd cc
none_past false x h = refl

pub cut_none : (separator : ℕ) (text : List ℕ) → position (λ b. eqb b separator) text ≡ None → pieces separator text ≡ text ∷ []
cut_none separator text h =
    not_below separator text (ltb-false _ _ (none_past (ltb (position_or_len (λ b. eqb b separator) text) (length text)) (position_or_len (λ b. eqb b separator) text) h))

-- the first word of what is left, where something is left
pub first_word : (over : Bool) (all now : List (List ℕ)) (w : List ℕ) (rest : List (List ℕ)) → over ≡ false → cond over [] all ≡ now → all ≡ w ∷ rest → next_of now ≡ Some (w, rest)
first_word true all now w rest h e cut = absurd cc
first_word false all now w rest h e cut = ap next_of (sym e ∙ cut)

pub last_word : (over : Bool) (all now : List (List ℕ)) (w : List ℕ) → over ≡ false → cond over [] all ≡ now → all ≡ w ∷ [] → next_of now ≡ Some (w, [])
last_word true all now w h e cut = absurd cc
last_word false all now w h e cut = ap next_of (sym e ∙ cut)

pub front_word : (over : Bool) (all now : List (List ℕ)) (w : List ℕ) (rest : List (List ℕ)) → over ≡ false → cond over [] all ≡ now → all ≡ w ∷ rest → next_of now ≡ Some (w, drop 1 now)
front_word true all now w rest h e cut = absurd cc
front_word false all now w rest h e cut =
    let is : w ∷ rest ≡ now = sym cut ∙ e in
    ap (λ (ws : List (List ℕ)). next_of ws) (sym is) ∙ ap (λ (ws : List (List ℕ)). Some (w, drop 1 ws)) is
