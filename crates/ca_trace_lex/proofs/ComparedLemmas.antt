-- A word of which pieces were displayed one behind the other is compared with all of them.
use Rattle.std.proofs.Common.{◌≡◌, ℕ, ◌+◌, true, false, eqb, List, [], ◌∷◌, ◌++◌, length, take, drop, Option, Some, None, refl, sym, subst, ap, ◌∙◌, inl, inr, Bor}
use Rattle.std.specs.Prelude.{MatchOption}
use Rattle.std.specs.Option.{option_map}
use Rattle.std.specs.Fmt.{WritesInCalls, WritesText}
use Rattle.std.specs.List.{FoldsTo, concat}
use Rattle.std.specs.Str.{bytes_eq}
use Rattle.std.proofs.lemmas.Bool.{cases_Bool}
use Rattle.ca_trace_lex.specs.Compared.{behind, after, is_whole}

behind_two : (a b w : List ℕ) → after b (behind a w) ≡ behind (a ++ b) w
behind_two [] b w = refl
behind_two (c ∷ cs) b [] = refl
behind_two (c ∷ cs) b (d ∷ ds) =
    elim (cases_Bool (eqb d c)) [
      | inl e ↦ rw e (behind_two cs b ds)
      | inr e ↦ rw e refl
    ]

after_two : (a b : List ℕ) (c : Option (List ℕ)) → after b (after a c) ≡ after (a ++ b) c
after_two a b None = refl
after_two a b (Some w) = behind_two a b w

after_none : (c : Option (List ℕ)) → c ≡ after [] c
after_none None = refl
after_none (Some w) = refl

-- what one piece more leaves
abbrev pub Takes : Option (List ℕ) → List ℕ → Option (List ℕ) → Type 0
Takes compared piece left = left ≡ after piece compared

after_calls : (c : Option (List ℕ)) (pieces : List (List ℕ)) (d : Option (List ℕ)) → FoldsTo Takes c pieces d → d ≡ after (concat pieces) c
after_calls c [] d e = sym e ∙ after_none c
after_calls c (p ∷ ps) d e = after_calls e.0 ps d e.2 ∙ ap (λ (x : Option (List ℕ)). after (concat ps) x) e.1 ∙ after_two p (concat ps) c

pub after_writes : (c : Option (List ℕ)) (text : List ℕ) (d : Option (List ℕ)) → WritesInCalls Takes c text d → d ≡ after text c
after_writes c text d e = after_calls c e.parts d e.calls ∙ ap (λ (t : List ℕ). after t c) e.whole

-- a word is a text where nothing of it is left behind that
whole_is : (text w : List ℕ) → is_whole (behind text w) ≡ bytes_eq w text
whole_is [] [] = refl
whole_is [] (d ∷ ds) = refl
whole_is (c ∷ cs) [] = refl
whole_is (c ∷ cs) (d ∷ ds) =
    elim (cases_Bool (eqb d c)) [
      | inl e ↦ rw e (whole_is cs ds)
      | inr e ↦ rw e refl
    ]

pub named_is : (w text : List ℕ) (o : Option (List ℕ)) (d : Option (List ℕ)) → o ≡ Some text → WritesText Takes (Some w) o d → is_whole d ≡ bytes_eq w text
named_is w text o d e h =
    let P : Option (List ℕ) → Type 0 = λ x. WritesText Takes (Some w) x d in
    ap is_whole (after_writes (Some w) text d (subst P e h)) ∙ whole_is text w

stripped_no : (piece w : List ℕ) → bytes_eq (take (length piece) w) piece ≡ false → behind piece w ≡ None
stripped_no [] w h = absurd cc
stripped_no (c ∷ cs) [] h = refl
stripped_no (c ∷ cs) (d ∷ ds) h =
    elim (cases_Bool (eqb d c)) [
      | inl e ↦ rw e (stripped_no cs ds (rw e at h))
      | inr e ↦ rw e refl
    ]

stripped_yes : (piece w : List ℕ) → bytes_eq (take (length piece) w) piece ≡ true → behind piece w ≡ Some (drop (length piece) w)
stripped_yes [] w h = refl
stripped_yes (c ∷ cs) [] h = absurd cc
stripped_yes (c ∷ cs) (d ∷ ds) h =
    elim (cases_Bool (eqb d c)) [
      | inl e ↦ rw e (stripped_yes cs ds (rw e at h))
      | inr e ↦ absurd (let g : false ≡ true = rw e at h in cc)
    ]

-- what is left behind one piece more, by what is stripped
pub stripped_is : (piece bytes w : List ℕ) (before : Option (List ℕ)) (r : Option (Bor (List ℕ))) → before ≡ Some w → bytes ≡ piece → MatchOption r (bytes_eq (take (length bytes) w) bytes ≡ false) (λ x. (bytes_eq (take (length bytes) w) bytes ≡ true) × (x.now ≡ drop (length bytes) w) × (length x.now + length bytes ≡ length w)) → option_map (λ left. left.now) r ≡ after piece before
stripped_is piece bytes w before None is same h = rw (is, ← same) (sym (stripped_no bytes w h))
stripped_is piece bytes w before (Some x) is same h = rw (is, ← same, h.1) (sym (stripped_yes bytes w h.0))
