-- Where the first line feed of a text stands.
use Rattle.std.proofs.Common.{◌≡◌, ℕ, suc, ◌+◌, ◌<◌, ◌≤◌, Bool, true, false, cond, eqb, ltb, List, [], ◌∷◌, ◌++◌, length, take, drop, Some, None, refl, sym, ap, subst, arith, add-one, inl, inr}
use Rattle.std.specs.List.{position, position_or_len}
use Rattle.std.proofs.lemmas.Bool.{cases_Bool, eqb-true, ltb-true, ltb-false}
use Rattle.std.proofs.lemmas.Option.{cond_some}
use Rattle.ca_trace_read.specs.Outside.{is_one_line}

abbrev place : List ℕ → ℕ
place text = position_or_len (λ b. eqb b 10) text

cut_later : (c : ℕ) (cs : List ℕ) (k : ℕ) → eqb c 10 ≡ false → k ≡ suc (place cs) → (cs ≡ take (place cs) cs ++ 10 ∷ drop (suc (place cs)) cs) × (is_one_line (take (place cs) cs) ≡ true)
    → (c ∷ cs ≡ take k (c ∷ cs) ++ 10 ∷ drop (suc k) (c ∷ cs)) × (is_one_line (take k (c ∷ cs)) ≡ true)
cut_later c cs k e same others =
    subst (λ (i : ℕ). (c ∷ cs ≡ take i (c ∷ cs) ++ 10 ∷ drop (suc i) (c ∷ cs)) × (is_one_line (take i (c ∷ cs)) ≡ true)) (sym same)
    (ap (λ (x : List ℕ). c ∷ x) others.0, rw e others.1)

cut_there : (text : List ℕ) → place text < length text → (text ≡ take (place text) text ++ 10 ∷ drop (suc (place text)) text) × (is_one_line (take (place text) text) ≡ true)
cut_there [] h = absurd (omega arith)
cut_there (c ∷ cs) h =
    elim (cases_Bool (eqb c 10)) [
      | inl e ↦ rw e (ap (λ (n : ℕ). n ∷ cs) (eqb-true c 10 e), refl)
      | inr e ↦
          let below = rw e at h in
          let others = cut_there cs (omega (arith, below)) in
          rw e (cut_later c cs (1 + place cs) e (omega arith) others)
    ]

none_there : (text : List ℕ) → length text ≤ place text → is_one_line text ≡ true
none_there [] h = refl
none_there (c ∷ cs) h =
    elim (cases_Bool (eqb c 10)) [
      | inl e ↦ absurd (omega (arith, rw e at h))
      | inr e ↦ let past = rw e at h in rw e (none_there cs (omega (arith, past)))
    ]

-- the first line, and what stands behind its line feed
pub cut_line : (text : List ℕ) (i : ℕ) → position (λ b. eqb b 10) text ≡ Some i → (text ≡ take i text ++ 10 ∷ drop (i + 1) text) × (is_one_line (take i text) ≡ true)
cut_line text i h =
    let found = cond_some (ltb (place text) (length text)) (place text) i h in
    let cut = cut_there text (ltb-true _ _ found.0) in
    subst (λ (k : ℕ). (text ≡ take k text ++ 10 ∷ drop (k + 1) text) × (is_one_line (take k text) ≡ true)) found.1 (rw (add-one (place text)) cut)

none_past : {A : Type 0} (b : Bool) (x : A) → cond b (Some x) None ≡ None → b ≡ false
none_past true x h = absurd cc
none_past false x h = refl

-- no line feed
pub no_cut : (text : List ℕ) → position (λ b. eqb b 10) text ≡ None → is_one_line text ≡ true
no_cut text h = none_there text (ltb-false _ _ (none_past (ltb (place text) (length text)) (place text) h))
