-- Lemmas on the parts that a move holds.
use Rattle.std.proofs.Common.{◌≡◌, ◌≢◌, ℕ, zero, suc, ◌+◌, ◌<◌, ◌≤◌, ◌⊎◌, inl, inr, Bool, true, false, List, [], ◌∷◌, ◌++◌, length, take, get_or, Some, None, if◌then◌else◌, sym, refl, ap, ◌∙◌, subst, eq-eqb, ne_eqb, add-one, arith}
use Rattle.std.specs.Prelude.{◌==◌}
use Rattle.std.proofs.lemmas.List.{map-append}
use Rattle.std.proofs.lemmas.Bool.Decides.{nat_tests}
use mathlib.Core.Logic.{dite}
use native.Mathlib.Decide.{ℕ_discrete}
use Rattle.ca_parts.specs.declared.pass.Turn1.{Turn1}
use Rattle.ca_parts.specs.Lists.{Has, bit, times, numbers_of, without}
use Rattle.ca_parts.proofs.Lists.{bit_same, bit_other, has_right, times_last}
use Rattle.test_parts.specs.declared.amount.Amount.{Amount}
use Rattle.test_parts.specs.declared.amount.Move.{Move}
use Rattle.test_parts.specs.Numbers.{is_held, next_of}
use Rattle.test_parts.specs.Held.{hand_of, AreApart, first_parts}

pub held_is : (k : ℕ) (hand : List (ℕ × Amount)) → 0 < times k (numbers_of hand) → is_held k hand ≡ true
held_is k hand some_hand = grind (arith, nat_tests)

pub not_held_is : (k : ℕ) (hand : List (ℕ × Amount)) → times k (numbers_of hand) ≡ 0 → is_held k hand ≡ false
not_held_is k hand none_there = grind (arith, nat_tests)

pub times_at : (k : ℕ) (held : List (Turn1 Amount)) (i : ℕ) (d : Turn1 Amount) → i < length held → (get_or held i d).part ≡ k → 0 < times k (numbers_of (hand_of held))
times_at k [] i d inside e = absurd (omega arith)
times_at k (t ∷ ts) zero d inside e = let one : bit (k == t.part) ≡ 1 = bit_same k t.part (sym e) in let out : 0 < bit (k == t.part) + times k (numbers_of (hand_of ts)) = omega arith in out
times_at k (t ∷ ts) (suc i) d inside e = let rest : 0 < times k (numbers_of (hand_of ts)) = times_at k ts i d (omega arith) e in let out : 0 < bit (k == t.part) + times k (numbers_of (hand_of ts)) = omega arith in out

none_suc : (k : ℕ) (held : List (Turn1 Amount)) (i : ℕ) (d : Turn1 Amount) → i < length held → times k (numbers_of (hand_of (take i held))) ≡ 0 → (get_or held i d).part ≢ k → times k (numbers_of (hand_of (take (suc i) held))) ≡ 0
none_suc k [] i d inside z ne = absurd (omega arith)
none_suc k (t ∷ ts) zero d inside z ne = let other : bit (k == t.part) ≡ 0 = bit_other k t.part (λ e. ne (sym e)) in let out : bit (k == t.part) + 0 ≡ 0 = omega arith in out
none_suc k (t ∷ ts) (suc i) d inside z ne = let both : bit (k == t.part) + times k (numbers_of (hand_of (take i ts))) ≡ 0 = z in let rest : times k (numbers_of (hand_of (take (suc i) ts))) ≡ 0 = none_suc k ts i d (omega arith) (omega arith) ne in
    let out : bit (k == t.part) + times k (numbers_of (hand_of (take (suc i) ts))) ≡ 0 = omega arith in out

pub none_so_far : (k : ℕ) (held : List (Turn1 Amount)) (i : ℕ) (d : Turn1 Amount) → i < length held → times k (numbers_of (hand_of (take i held))) ≡ 0 → (get_or held i d).part ≢ k → times k (numbers_of (hand_of (take (i + 1) held))) ≡ 0
none_so_far k held i d inside z ne = rw add-one (none_suc k held i d inside z ne)

-- the hand where the last part is t
pub hand_last : (held rest : List (Turn1 Amount)) (t : Turn1 Amount) → held ≡ rest ++ t ∷ [] → hand_of held ≡ hand_of rest ++ (t.part, t.value) ∷ []
hand_last held rest t e = ap hand_of e ∙ map-append (λ (u : Turn1 Amount). (u.part, u.value)) rest (t ∷ [])

pub last_has : (hand : List (ℕ × Amount)) (before : List (ℕ × Amount)) (p : ℕ × Amount) → hand ≡ before ++ p ∷ [] → Has p hand
last_has hand before p e = subst (λ (h : List (ℕ × Amount)). Has p h) (sym e) (has_right p before (p ∷ []) (inl refl))

pub without_last : (k : ℕ) (x : Amount) (xs : List (ℕ × Amount)) → times k (numbers_of xs) ≡ 0 → without k (xs ++ (k, x) ∷ []) ≡ xs
without_last k x [] z = ap (λ (b : Bool). if b then [] else (k, x) ∷ []) (eq-eqb k k refl)
without_last k x (y ∷ ys) z = let both : bit (k == y.0) + times k (numbers_of ys) ≡ 0 = z in
    let ne : k ≢ y.0 = λ e. absurd (let one : bit (k == y.0) ≡ 1 = bit_same k y.0 e in omega arith) in
    ap (λ (b : Bool). if b then ys ++ (k, x) ∷ [] else y ∷ without k (ys ++ (k, x) ∷ [])) (ne_eqb k y.0 ne) ∙ ap (λ (l : List (ℕ × Amount)). y ∷ l) (without_last k x ys (omega arith))

-- the last part of a hand in which none stands twice
pub apart_last : (hand before : List (ℕ × Amount)) (p : ℕ × Amount) → hand ≡ before ++ p ∷ [] → AreApart hand → AreApart before × (times p.0 (numbers_of before) ≡ 0)
apart_last hand before p e apart =
    let sum : (k : ℕ) → times k (numbers_of hand) ≡ times k (numbers_of before) + bit (k == p.0) = λ k. ap (λ (h : List (ℕ × Amount)). times k (numbers_of h)) e ∙ times_last k before p in
    (λ k. let s = sum k in let a = apart k in omega arith, let s = sum p.0 in let a = apart p.0 in let one = bit_same p.0 p.0 refl in omega arith)

pub apart_of : (from to : ℕ) (n : ℕ) (hand : List (ℕ × Amount)) → n ≤ 2 → from ≢ to → numbers_of hand ≡ take n (from ∷ to ∷ []) → AreApart hand
apart_of from to n hand few ne e k = let is : times k (numbers_of hand) ≡ times k (take n (from ∷ to ∷ [])) = ap (λ (l : List ℕ). times k l) e in let b = bound n few in omega arith
  where
    two : bit (k == from) + (bit (k == to) + 0) ≤ 1
    two = dite (ℕ_discrete k from) (λ (a : k ≡ from). let one = bit_same k from a in let other = bit_other k to (λ b. ne (sym a ∙ b)) in let out : bit (k == from) + (bit (k == to) + 0) ≤ 1 = omega arith in out)
        (λ (a : k ≢ from). let other = bit_other k from a in let small = bit_small (k == to) in let out : bit (k == from) + (bit (k == to) + 0) ≤ 1 = omega arith in out)
      where
        bit_small : (b : Bool) → bit b ≤ 1
        bit_small true = omega arith
        bit_small false = omega arith

    bound : (n : ℕ) → n ≤ 2 → times k (take n (from ∷ to ∷ [])) ≤ 1
    bound zero h = omega arith
    bound (suc zero) h = let t = two in omega arith
    bound (suc (suc zero)) h = two
    bound (suc (suc (suc n))) h = absurd (omega arith)

-- the part that a move needs next is the next one of its two
pub next_number : (m : Move) (n part : ℕ) (hand : List (ℕ × Amount)) → n ≤ 2 → m.from ≢ m.to → numbers_of hand ≡ first_parts m n → next_of m hand ≡ Some part → (n < 2) × (numbers_of hand ++ part ∷ [] ≡ first_parts m (n + 1)) × ((part ≡ m.from) ⊎ (part ≡ m.to))
next_number m zero part hand few ne e next =
    let free : is_held m.from hand ≡ false = not_held_is m.from hand (ap (λ (l : List ℕ). times m.from l) e) in
    let is : Some m.from ≡ Some part = sym (ap (λ (a : Bool). if a then (if is_held m.to hand then None else Some m.to) else Some m.from) free) ∙ next in
    let same : m.from ≡ part = cc in
    (omega arith, ap (λ (l : List ℕ). l ++ part ∷ []) e ∙ ap (λ (p : ℕ). p ∷ []) (sym same), inl (sym same))
next_number m (suc zero) part hand few ne e next =
    let one : times m.from (numbers_of hand) ≡ bit (m.from == m.from) + 0 = ap (λ (l : List ℕ). times m.from l) e in let here = bit_same m.from m.from refl in
    let other : times m.to (numbers_of hand) ≡ bit (m.to == m.from) + 0 = ap (λ (l : List ℕ). times m.to l) e in let not_here = bit_other m.to m.from (λ q. ne (sym q)) in
    let has : is_held m.from hand ≡ true = held_is m.from hand (omega arith) in let free : is_held m.to hand ≡ false = not_held_is m.to hand (omega arith) in
    let is : Some m.to ≡ Some part = sym (ap (λ (a : Bool). if a then (if is_held m.to hand then None else Some m.to) else Some m.from) has ∙ ap (λ (b : Bool). if b then None else Some m.to) free) ∙ next in
    let same : m.to ≡ part = cc in
    (omega arith, ap (λ (l : List ℕ). l ++ part ∷ []) e ∙ ap (λ (p : ℕ). m.from ∷ p ∷ []) (sym same), inr (sym same))
next_number m (suc (suc zero)) part hand few ne e next =
    let one : times m.from (numbers_of hand) ≡ bit (m.from == m.from) + (bit (m.from == m.to) + 0) = ap (λ (l : List ℕ). times m.from l) e in let here = bit_same m.from m.from refl in
    let two : times m.to (numbers_of hand) ≡ bit (m.to == m.from) + (bit (m.to == m.to) + 0) = ap (λ (l : List ℕ). times m.to l) e in let here_too = bit_same m.to m.to refl in
    let has : is_held m.from hand ≡ true = held_is m.from hand (omega arith) in let has_too : is_held m.to hand ≡ true = held_is m.to hand (omega arith) in
    let is : None ≡ Some part = sym (ap (λ (a : Bool). if a then (if is_held m.to hand then None else Some m.to) else Some m.from) has ∙ ap (λ (b : Bool). if b then None else Some m.to) has_too) ∙ next in
    absurd (cc)
next_number m (suc (suc (suc n))) part hand few ne e next = absurd (omega arith)
