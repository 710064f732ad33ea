-- Parts given back one after another, the last one first. For proofs only.
use Rattle.std.proofs.Common.{◌≡◌, ◌≢◌, ◌∙◌, sym, refl, ap, subst, ℕ, ◌+◌, ◌≤◌, arith, eq-eqb, ne_eqb, Bool, List, [], ◌∷◌, ◌++◌, inl, if◌then◌else◌}
use Rattle.std.specs.Prelude.{◌==◌}
use Rattle.std.proofs.lemmas.List.{map-append}
use Rattle.ca_verbs_machine.specs.Values.{PartValue}
use Rattle.ca_parts.proofs.Lists.{bit_same, has_right, times_last}
use Rattle.ca_parts.specs.Lists.{Has, bit, numbers_of, times, without}
use Rattle.ca_verbs_taking.specs.Holding.{hand_of}
use Rattle.ca_verbs_taking.specs.declared.in_hand.InHand.{InHand}

-- the hand where the last part is t
pub hand-last : (all rest : List (InHand PartValue)) (t : InHand PartValue) → all ≡ rest ++ t ∷ [] → hand_of all ≡ hand_of rest ++ (t.part, t.value) ∷ []
hand-last all rest t e = ap hand_of e ∙ map-append (λ (u : InHand PartValue). (u.part, u.value)) rest (t ∷ [])

pub last-has : (hand before : List (ℕ × PartValue)) (p : ℕ × PartValue) → hand ≡ before ++ p ∷ [] → Has p hand
last-has hand before p e = subst (λ (h : List (ℕ × PartValue)). Has p h) (sym e) (has_right p before (p ∷ []) (inl refl))

pub without-last : (k : ℕ) (x : PartValue) (xs : List (ℕ × PartValue)) → times k (numbers_of xs) ≡ 0 → without k (xs ++ (k, x) ∷ []) ≡ xs
without-last k x [] z = ap (λ (b : Bool). if b then [] else (k, x) ∷ []) (eq-eqb k k refl)
without-last k x (y ∷ ys) z =
    let ne : k ≢ y.0 = λ e. absurd (omega (arith, z, bit_same k y.0 e)) in
    ap (λ (b : Bool). if b then ys ++ (k, x) ∷ [] else y ∷ without k (ys ++ (k, x) ∷ [])) (ne_eqb k y.0 ne) ∙ ap (λ (l : List (ℕ × PartValue)). y ∷ l) (without-last k x ys (omega (arith, z)))

-- the last part of a hand in which none stands twice
pub apart-before : (hand before : List (ℕ × PartValue)) (p : ℕ × PartValue) → hand ≡ before ++ p ∷ [] → ((k : ℕ) → times k (numbers_of hand) ≤ 1) → (k : ℕ) → times k (numbers_of before) ≤ 1
apart-before hand before p e apart k =
    let sum : times k (numbers_of hand) ≡ times k (numbers_of before) + bit (k == p.0) = ap (λ (h : List (ℕ × PartValue)). times k (numbers_of h)) e ∙ times_last k before p in
    omega (arith, sum, apart k)

pub apart-last : (hand before : List (ℕ × PartValue)) (p : ℕ × PartValue) → hand ≡ before ++ p ∷ [] → ((k : ℕ) → times k (numbers_of hand) ≤ 1) → times p.0 (numbers_of before) ≡ 0
apart-last hand before p e apart =
    let sum : times p.0 (numbers_of hand) ≡ times p.0 (numbers_of before) + bit (p.0 == p.0) = ap (λ (h : List (ℕ × PartValue)). times p.0 (numbers_of h)) e ∙ times_last p.0 before p in
    omega (arith, sum, apart p.0, bit_same p.0 p.0 refl)
