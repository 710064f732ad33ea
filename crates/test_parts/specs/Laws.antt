-- The laws of the machine: a move changes only the two numbers that it needs, and it needs next what is not in hand. For proofs only.
use Rattle.std.proofs.Common.{◌≡◌, ◌≢◌, ℕ, zero, suc, ◌+◌, ◌-◌, Bool, true, false, List, [], ◌∷◌, ◌++◌, set, Some, None, slice_get, slice_index, if◌then◌else◌, sym, refl, ap, ◌∙◌, subst, arith}
use Rattle.std.proofs.lemmas.Bool.Decides.{nat_tests}
use Rattle.ca_parts.specs.Lists.{Has}
use Rattle.ca_parts.specs.Hands.{Suffices, AllStand}
use Rattle.ca_parts.proofs.Lists.{has_times, times_has}
use Rattle.test_parts.specs.declared.amount.Amount.{Amount}
use Rattle.test_parts.specs.declared.amount.Move.{Move}
use Rattle.test_parts.specs.declared.amount.Opening.{Opening}
use Rattle.test_parts.specs.Numbers.{numbers_after_move, numbers_after, opening_numbers, CanFollow, StandsFor, is_held, next_of}

pub numbers_after-append : (log : List Move) (m : Move) (numbers : List ℕ) → numbers_after (log ++ m ∷ []) numbers ≡ numbers_after_move m (numbers_after log numbers)
numbers_after-append [] m numbers = refl
numbers_after-append (x ∷ xs) m numbers = numbers_after-append xs m (numbers_after_move x numbers)

pub slice_get-set_other : (numbers : List ℕ) (i k n : ℕ) → k ≢ i → slice_get (set numbers i n) k ≡ slice_get numbers k
slice_get-set_other [] i k n ne = refl
slice_get-set_other (x ∷ xs) zero zero n ne = absurd (ne refl)
slice_get-set_other (x ∷ xs) zero (suc k) n ne = refl
slice_get-set_other (x ∷ xs) (suc i) zero n ne = refl
slice_get-set_other (x ∷ xs) (suc i) (suc k) n ne = slice_get-set_other xs i k n (λ e. ne (ap suc e))

held_has : (k : ℕ) (hand : List (ℕ × Amount)) → is_held k hand ≡ true → (x : Amount) × Has (k, x) hand
held_has k hand e = times_has k hand (grind (arith, nat_tests))

held_not : (k : ℕ) (hand : List (ℕ × Amount)) (x : Amount) → is_held k hand ≡ false → ¬ Has (k, x) hand
held_not k hand x e has = let some_hand = has_times k x hand has in absurd (grind (arith, nat_tests))

-- where a move needs nothing more, both parts are in hand
both_held : (m : Move) (hand : List (ℕ × Amount)) (a b : Bool) → is_held m.from hand ≡ a → is_held m.to hand ≡ b → (if a then (if b then None else Some m.to) else Some m.from) ≡ None → (a ≡ true) × (b ≡ true)
both_held m hand true true p q e = (refl, refl)
both_held m hand true false p q e = absurd (let d : Some m.to ≡ None = e in cc)
both_held m hand false b p q e = absurd (let d : Some m.from ≡ None = e in cc)

pub others_stay : (key : Opening) (log : List Move) (entry event : Move) (hand : List (ℕ × Amount)) (k : ℕ) (x : Amount) → entry ≡ event → Suffices (λ (_ : Opening) m h. next_of m h) key event hand → AllStand (StandsFor key log) hand → CanFollow key log entry
    → ((y : Amount) → ¬ Has (k, y) hand) → StandsFor key log k x → StandsFor key (log ++ entry ∷ []) k x
others_stay key log entry event hand k x same all stand follows absent was =
    let both = both_held event hand (is_held event.from hand) (is_held event.to hand) refl refl all.1 in
    let from = held_has event.from hand both.0 in let to = held_has event.to hand both.1 in
    let not_from : k ≢ entry.from = λ e. absent from.0 (subst (λ (i : ℕ). Has (i, from.0) hand) (sym (e ∙ ap (λ (m : Move). m.from) same)) from.1) in
    let not_to : k ≢ entry.to = λ e. absent to.0 (subst (λ (i : ℕ). Has (i, to.0) hand) (sym (e ∙ ap (λ (m : Move). m.to) same)) to.1) in
    let numbers : List ℕ = numbers_after log (opening_numbers key) in
    ap (λ (l : List ℕ). slice_get l k) (numbers_after-append log entry (opening_numbers key))
    ∙ (slice_get-set_other (set numbers entry.from (slice_index numbers entry.from - entry.amount)) entry.to k (slice_index numbers entry.to + entry.amount) not_to
    ∙ (slice_get-set_other numbers entry.from k (slice_index numbers entry.from - entry.amount) not_from ∙ was))

apart_by : (m : Move) (hand : List (ℕ × Amount)) (k : ℕ) (y : Amount) (a b : Bool) → is_held m.from hand ≡ a → is_held m.to hand ≡ b → (if a then (if b then None else Some m.to) else Some m.from) ≡ Some k → ¬ Has (k, y) hand
apart_by m hand k y true true p q e has = absurd (let d : None ≡ Some k = e in cc)
apart_by m hand k y true false p q e has = let d : Some m.to ≡ Some k = e in let is : m.to ≡ k = cc in held_not m.to hand y q (subst (λ (i : ℕ). Has (i, y) hand) (sym is) has)
apart_by m hand k y false b p q e has = let d : Some m.from ≡ Some k = e in let is : m.from ≡ k = cc in held_not m.from hand y p (subst (λ (i : ℕ). Has (i, y) hand) (sym is) has)

pub next_is_apart : (m : Move) (hand : List (ℕ × Amount)) (k : ℕ) → next_of m hand ≡ Some k → (y : Amount) → ¬ Has (k, y) hand
next_is_apart m hand k next y = apart_by m hand k y (is_held m.from hand) (is_held m.to hand) refl refl next
