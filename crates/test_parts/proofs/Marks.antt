-- The stamp of a move may be asked for, and no number passes the sum of all.
use Rattle.std.proofs.Common.{◌≡◌, ◌≢◌, ℕ, ◌+◌, ◌-◌, ◌*◌, ◌<◌, ◌≤◌, ◌⊎◌, inl, inr, ⊎_elim, Bool, true, false, List, [], ◌∷◌, ◌++◌, length, set, Some, None, slice_get, slice_index, if◌then◌else◌, sym, refl, ap, ◌∙◌, subst, length-set, arith}
use Rattle.std.specs.Prelude.{◌==◌}
use Rattle.std.proofs.lemmas.Option.{slice_get_within, get_or_from_slice_get}
use Rattle.ca_base.specs.declared.limits.TheConstants.{LATE_STAMP}
use Rattle.ca_parts.specs.declared.pass.Turn1.{Turn1}
use Rattle.ca_parts.specs.Lists.{Has, EachFollows, bit, times, numbers_of}
use Rattle.ca_parts.specs.Hands.{AllStand}
use Rattle.ca_parts.specs.Calls.{MayStamp}
use Rattle.ca_parts.proofs.Lists.{bit_same}
use Rattle.test_parts.specs.declared.amount.Amount.{Amount}
use Rattle.test_parts.specs.declared.amount.Move.{Move}
use Rattle.test_parts.specs.declared.amount.Opening.{Opening}
use Rattle.test_parts.specs.Numbers.{numbers_after, opening_numbers, IsMove, CanFollow, StandsFor, is_held, next_of}
use Rattle.test_parts.specs.Held.{Known}
use Rattle.test_parts.specs.Laws.{numbers_after-append, slice_get-set_other}
use Rattle.test_parts.proofs.Hands.{held_is}
use Rattle.test_parts.proofs.Sums.{all_two, all_of_history}

-- two of the numbers are no more than all of them
pub two_fit : (key : Opening) (log : List Move) (i j : ℕ) (x y : Amount) → EachFollows (CanFollow key) [] log → i ≢ j → StandsFor key log i x → StandsFor key log j y → x.0 + y.0 ≤ 8 * key.each
two_fit key log i j x y follows ne at_i at_j =
    let numbers : List ℕ = numbers_after log (opening_numbers key) in
    let x_is : slice_index numbers i ≡ x.0 = get_or_from_slice_get numbers i x.0 0 at_i in let y_is : slice_index numbers j ≡ y.0 = get_or_from_slice_get numbers j y.0 0 at_j in
    let both = all_two numbers i j ne in let whole = (all_of_history key log follows).0 in omega arith

-- the same of the two parts in a hand
pub two_of : (key : Opening) (m : Move) (log : List Move) (hand : List (ℕ × Amount)) (from to : Turn1 Amount) → EachFollows (CanFollow key) [] log → AllStand (StandsFor key log) hand → hand ≡ (from.part, from.value) ∷ (to.part, to.value) ∷ []
    → from.part ≡ m.from → to.part ≡ m.to → m.from ≢ m.to → from.value.0 + to.value.0 ≤ 8 * key.each
two_of key m log hand from to follows stand is from_is to_is ne =
    two_fit key log m.from m.to from.value to.value follows ne
    (subst (λ (k : ℕ). StandsFor key log k from.value) from_is (stand from.part from.value (subst (λ (h : List (ℕ × Amount)). Has (from.part, from.value) h) (sym is) (inl refl))))
    (subst (λ (k : ℕ). StandsFor key log k to.value) to_is (stand to.part to.value (subst (λ (h : List (ℕ × Amount)). Has (to.part, to.value) h) (sym is) (inr (inl refl)))))

slice_get-set_same : (numbers : List ℕ) (i n : ℕ) → i < length numbers → slice_get (set numbers i n) i ≡ Some n
slice_get-set_same numbers i n inside = Rattle.std.proofs.lemmas.Option.slice_get_read (set numbers i n) (length numbers) i n (sym (length-set numbers i n)) inside (sym (Rattle.std.proofs.lemmas.List.get_or-set_same numbers i n n inside))

next_none : (m : Move) (hand : List (ℕ × Amount)) → m.from ≢ m.to → numbers_of hand ≡ m.from ∷ m.to ∷ [] → next_of m hand ≡ None
next_none m hand ne e =
    let one : times m.from (numbers_of hand) ≡ bit (m.from == m.from) + (bit (m.from == m.to) + 0) = ap (λ (l : List ℕ). times m.from l) e in let here = bit_same m.from m.from refl in
    let two : times m.to (numbers_of hand) ≡ bit (m.to == m.from) + (bit (m.to == m.to) + 0) = ap (λ (l : List ℕ). times m.to l) e in let here_too = bit_same m.to m.to refl in
    let has : is_held m.from hand ≡ true = held_is m.from hand (omega arith) in let has_too : is_held m.to hand ≡ true = held_is m.to hand (omega arith) in
    ap (λ (a : Bool). if a then (if is_held m.to hand then None else Some m.to) else Some m.from) has ∙ ap (λ (b : Bool). if b then None else Some m.to) has_too

-- after the move the first number is less by the amount, and the second more
stand_after : (key : Opening) (log : List Move) (m : Move) (x y x' y' : Amount) → m.from ≢ m.to → StandsFor key log m.from x → StandsFor key log m.to y → x'.0 ≡ x.0 - m.amount → y'.0 ≡ y.0 + m.amount
    → StandsFor key (log ++ m ∷ []) m.from x' × StandsFor key (log ++ m ∷ []) m.to y'
stand_after key log m x y x' y' ne at_from at_to less more =
    let numbers : List ℕ = numbers_after log (opening_numbers key) in let a : ℕ = slice_index numbers m.from - m.amount in let b : ℕ = slice_index numbers m.to + m.amount in
    let x_is : slice_index numbers m.from ≡ x.0 = get_or_from_slice_get numbers m.from x.0 0 at_from in let y_is : slice_index numbers m.to ≡ y.0 = get_or_from_slice_get numbers m.to y.0 0 at_to in
    let from_inside = slice_get_within numbers m.from x.0 at_from in let to_inside = slice_get_within numbers m.to y.0 at_to in let wide = length-set numbers m.from a in
    let now = numbers_after-append log m (opening_numbers key) in
    let a_is : a ≡ x'.0 = omega arith in let b_is : b ≡ y'.0 = omega arith in (
      ap (λ (l : List ℕ). slice_get l m.from) now ∙ (slice_get-set_other (set numbers m.from a) m.to m.from b ne ∙ (slice_get-set_same numbers m.from a from_inside ∙ ap (λ (n : ℕ). Some n) a_is)),
      ap (λ (l : List ℕ). slice_get l m.to) now ∙ (slice_get-set_same (set numbers m.from a) m.to b (omega arith) ∙ ap (λ (n : ℕ). Some n) b_is),
    )

pub may_mark : (key : Opening) (m : Move) (v : Known) (n : ℕ) (from to from' to' : Turn1 Amount) → v.looked ≡ Some n → n < LATE_STAMP → v.giving ≡ false → v.event ≡ Some m → v.hand ≡ (from.part, from.value) ∷ (to.part, to.value) ∷ []
    → from.part ≡ m.from → to.part ≡ m.to → IsMove m → m.amount ≤ from.value.0 → from'.part ≡ from.part → from'.value.0 ≡ from.value.0 - m.amount → to'.part ≡ to.part → to'.value.0 ≡ to.value.0 + m.amount
    → MayStamp (λ (entry event : Move). entry ≡ event) (λ (_ : Opening) e hand. next_of e hand) CanFollow StandsFor key m ((from'.part, from'.value) ∷ (to'.part, to'.value) ∷ []) v
may_mark key m v n from to from' to' looked early giving event hand from_is to_is is_move enough from'_is less to'_is more = record {
  looked = (n, looked, early);
  event = m;
  recorded = refl;
  taking = inr (giving, event);
  all = next_none m v.hand is_move.2 (ap numbers_of hand ∙ (λ i. from_is i ∷ to_is i ∷ []));
  same_parts = (λ i. from'_is i ∷ to'_is i ∷ []) ∙ sym (ap numbers_of hand);
  step = λ log stand.
      let at_from : StandsFor key log m.from from.value = subst (λ (k : ℕ). StandsFor key log k from.value) from_is (stand from.part from.value (subst (λ (h : List (ℕ × Amount)). Has (from.part, from.value) h) (sym hand) (inl refl))) in
      let at_to : StandsFor key log m.to to.value = subst (λ (k : ℕ). StandsFor key log k to.value) to_is (stand to.part to.value (subst (λ (h : List (ℕ × Amount)). Has (to.part, to.value) h) (sym hand) (inr (inl refl)))) in
      let x_is = get_or_from_slice_get (numbers_after log (opening_numbers key)) m.from from.value.0 0 at_from in
      let after = stand_after key log m from.value to.value from'.value to'.value is_move.2 at_from at_to less more in
      let P : ℕ × Amount → Type 0 = λ (q : ℕ × Amount). StandsFor key (log ++ m ∷ []) q.0 q.1 in (
        (is_move, omega arith),
        λ k z has. ⊎_elim
            (λ (e : (k, z) ≡ (from'.part, from'.value)). subst P (sym e) (subst (λ (i : ℕ). StandsFor key (log ++ m ∷ []) i from'.value) (sym (from'_is ∙ from_is)) after.0))
            (λ (r : ((k, z) ≡ (to'.part, to'.value)) ⊎ ⊥). ⊎_elim (λ (e : (k, z) ≡ (to'.part, to'.value)). subst P (sym e) (subst (λ (i : ℕ). StandsFor key (log ++ m ∷ []) i to'.value) (sym (to'_is ∙ to_is)) after.1)) (λ (x : ⊥). absurd x) r) has,
      );
}
