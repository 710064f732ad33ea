-- Where the first separator stands.
use Rattle.std.proofs.Common.{◌≡◌, ℕ, true, false, eqb, ltb, List, length, Option, Some, None, refl, arith}
use Rattle.std.specs.List.{position, position_or_len}
use Rattle.std.proofs.lemmas.Bool.{false_from_ne_true, lt-ltb}
use Rattle.std.proofs.lemmas.Bool.Decides.{nat_tests}
use Rattle.std.proofs.lemmas.List.Sums.{position_or_len_is}
use Rattle.memchr.specs.Find.{IsFirstByte, is_byte}

-- what a search for the separator finds
pub first_place : (separator : ℕ) (text : List ℕ) (r : Option ℕ) → IsFirstByte (is_byte separator) text r → r ≡ position (λ b. eqb b separator) text
first_place separator text None h =
    let past : position_or_len (λ b. eqb b separator) text ≡ length text =
    position_or_len_is (λ b. eqb b separator) text (length text) 0 (omega arith)
    (λ k below. false_from_ne_true _ (h k (omega arith) below)) (λ below. absurd (omega arith)) in
    let none : ltb (length text) (length text) ≡ false = grind (arith, nat_tests) in
    rw (past, none) refl
first_place separator text (Some k) h =
    let found : position_or_len (λ b. eqb b separator) text ≡ k =
    position_or_len_is (λ b. eqb b separator) text k 0 (omega (arith, h.0.high))
    (λ i below. false_from_ne_true _ (h.0.before i (omega arith) below)) (λ below. h.1) in
    let some : ltb k (length text) ≡ true = lt-ltb k (length text) h.0.high in
    rw (found, some) refl
