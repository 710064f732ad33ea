-- The eight numbers add up to what they did before, after any moves that can follow.
use Rattle.std.proofs.Common.{◌≡◌, ◌≢◌, ℕ, zero, suc, ◌+◌, ◌-◌, ◌*◌, ◌<◌, ◌≤◌, List, [], ◌∷◌, ◌++◌, length, set, Some, slice_get, slice_index, sym, refl, ap, ◌∙◌, subst, length-set, arith}
use Rattle.std.proofs.lemmas.List.{get_or-set_other}
use Rattle.ca_parts.specs.Lists.{EachFollows, total}
use Rattle.test_parts.specs.declared.amount.Amount.{Amount}
use Rattle.test_parts.specs.declared.amount.Move.{Move}
use Rattle.test_parts.specs.declared.amount.Opening.{Opening}
use Rattle.test_parts.specs.Numbers.{numbers_after_move, numbers_after, opening_numbers, CanFollow, StandsFor}
use Rattle.test_parts.specs.Laws.{numbers_after-append}

abbrev pub all : List ℕ → ℕ
all numbers = total (λ n. n) numbers

pub all_set : (numbers : List ℕ) (i n : ℕ) → i < length numbers → all (set numbers i n) + slice_index numbers i ≡ all numbers + n
all_set [] i n inside = absurd (omega arith)
all_set (x ∷ xs) zero n inside = let out : (n + all xs) + x ≡ (x + all xs) + n = omega arith in out
all_set (x ∷ xs) (suc i) n inside = let rest : all (set xs i n) + slice_index xs i ≡ all xs + n = all_set xs i n (omega arith) in let out : (x + all (set xs i n)) + slice_index xs i ≡ (x + all xs) + n = omega arith in out

pub all_one : (numbers : List ℕ) (i : ℕ) → slice_index numbers i ≤ all numbers
all_one [] i = omega arith
all_one (y ∷ ys) zero = let out : y ≤ y + all ys = omega arith in out
all_one (y ∷ ys) (suc i) = let rest : slice_index ys i ≤ all ys = all_one ys i in let out : slice_index ys i ≤ y + all ys = omega arith in out

pub all_two : (numbers : List ℕ) (i j : ℕ) → i ≢ j → slice_index numbers i + slice_index numbers j ≤ all numbers
all_two [] i j ne = omega arith
all_two (x ∷ xs) zero zero ne = absurd (ne refl)
all_two (x ∷ xs) zero (suc j) ne = let one : slice_index xs j ≤ all xs = all_one xs j in let out : x + slice_index xs j ≤ x + all xs = omega arith in out
all_two (x ∷ xs) (suc i) zero ne = let one : slice_index xs i ≤ all xs = all_one xs i in let out : slice_index xs i + x ≤ x + all xs = omega arith in out
all_two (x ∷ xs) (suc i) (suc j) ne = let rest : slice_index xs i + slice_index xs j ≤ all xs = all_two xs i j (λ e. ne (ap suc e)) in let out : slice_index xs i + slice_index xs j ≤ x + all xs = omega arith in out

pub all_after_move : (numbers : List ℕ) (m : Move) → length numbers ≡ 8 → m.from < 8 → m.to < 8 → m.from ≢ m.to → m.amount ≤ slice_index numbers m.from → (all (numbers_after_move m numbers) ≡ all numbers) × (length (numbers_after_move m numbers) ≡ 8)
all_after_move numbers m long from to apart less =
    let taken : List ℕ = set numbers m.from (slice_index numbers m.from - m.amount) in
    let wide : length taken ≡ length numbers = length-set numbers m.from (slice_index numbers m.from - m.amount) in
    let first = all_set numbers m.from (slice_index numbers m.from - m.amount) (omega arith) in
    let stays : slice_index taken m.to ≡ slice_index numbers m.to = get_or-set_other numbers m.from m.to (slice_index numbers m.from - m.amount) 0 (λ e. apart (sym e)) in
    let second = all_set taken m.to (slice_index numbers m.to + m.amount) (omega arith) in
    (omega arith, length-set taken m.to (slice_index numbers m.to + m.amount) ∙ (wide ∙ long))

-- a history of the machine keeps the sum
pub all_after : (key : Opening) (before log : List Move) → EachFollows (CanFollow key) before log → (all (numbers_after before (opening_numbers key)) ≡ 8 * key.each) × (length (numbers_after before (opening_numbers key)) ≡ 8)
    → (all (numbers_after (before ++ log) (opening_numbers key)) ≡ 8 * key.each) × (length (numbers_after (before ++ log) (opening_numbers key)) ≡ 8)
all_after key before [] follows so_far = subst (λ (l : List Move). (all (numbers_after l (opening_numbers key)) ≡ 8 * key.each) × (length (numbers_after l (opening_numbers key)) ≡ 8)) (sym (Rattle.std.proofs.Common.append-nil before)) so_far
all_after key before (m ∷ ms) follows so_far =
    let step = follows.0 in let move = all_after_move (numbers_after before (opening_numbers key)) m so_far.1 step.0.0 step.0.1 step.0.2 step.1 in
    let now = numbers_after-append before m (opening_numbers key) in
    subst (λ (l : List Move). (all (numbers_after l (opening_numbers key)) ≡ 8 * key.each) × (length (numbers_after l (opening_numbers key)) ≡ 8)) (Rattle.std.proofs.Common.append_assoc before (m ∷ []) ms)
    (all_after key (before ++ m ∷ []) ms follows.1 (ap all now ∙ (move.0 ∙ so_far.0), ap (λ (l : List ℕ). length l) now ∙ move.1))

pub all_of_history : (key : Opening) (log : List Move) → EachFollows (CanFollow key) [] log → (all (numbers_after log (opening_numbers key)) ≡ 8 * key.each) × (length (numbers_after log (opening_numbers key)) ≡ 8)
all_of_history key log follows = all_after key [] log follows (omega arith, refl)

same_sum : (values : List Amount) (numbers : List ℕ) → length values ≡ length numbers → ((k : ℕ) (x : Amount) → slice_get values k ≡ Some x → slice_get numbers k ≡ Some x.0) → total (λ (x : Amount). x.0) values ≡ all numbers
same_sum [] [] long each = refl
same_sum [] (n ∷ ns) long each = absurd (omega arith)
same_sum (x ∷ xs) [] long each = absurd (omega arith)
same_sum (x ∷ xs) (n ∷ ns) long each = let e : Some n ≡ Some x.0 = each 0 x refl in let here : n ≡ x.0 = cc in let rest : total (λ (y : Amount). y.0) xs ≡ all ns = same_sum xs ns (omega arith) (λ k y d. each (suc k) y d) in
    let out : x.0 + total (λ (y : Amount). y.0) xs ≡ n + all ns = omega arith in out

-- what stands for the numbers after a history adds up to what they did before
pub all_values : (key : Opening) (log : List Move) (values : List Amount) → EachFollows (CanFollow key) [] log → length values ≡ 8 → ((k : ℕ) (x : Amount) → slice_get values k ≡ Some x → StandsFor key log k x) → total (λ (x : Amount). x.0) values ≡ 8 * key.each
all_values key log values follows long each = let whole = all_of_history key log follows in same_sum values (numbers_after log (opening_numbers key)) (long ∙ sym whole.1) each ∙ whole.0
