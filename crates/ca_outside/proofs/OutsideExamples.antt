-- What the definitions say of small values.
use Rattle.std.proofs.Common.{◌≡◌, true, false, [], ◌∷◌, Some, None, refl, arith, ap, length, length-append, inl, inr}
use Rattle.ca_outside.specs.Outside.{next_count, Rose, last_count, is_failing_call, is_full_for, LosesAtMost, AppendsPart}

next_count_once : next_count 4 ≡ 5
next_count_once = refl

next_count_at_the_end : next_count last_count ≡ last_count
next_count_at_the_end = refl

rose_by_two : Rose 4 6
rose_by_two = inl (omega arith)

stays_at_the_end : Rose last_count last_count
stays_at_the_end = inr (refl, refl)

not_rose : Rose 4 4 → ⊥
not_rose rose = elim rose [ inl grew ↦ omega arith | inr end ↦ cc ]

falls_from_the_end : Rose last_count 4 → ⊥
falls_from_the_end rose = elim rose [ inl grew ↦ omega arith | inr end ↦ cc ]

second_call_fails : is_failing_call (1 ∷ 3 ∷ []) 1 ≡ true
second_call_fails = refl

third_call_does_not : is_failing_call (1 ∷ 3 ∷ []) 2 ≡ false
third_call_does_not = refl

full_for_a_byte : is_full_for (7 ∷ 8 ∷ []) 2 (9 ∷ []) ≡ true
full_for_a_byte = refl

not_full_for_nothing : is_full_for (7 ∷ 8 ∷ []) 2 [] ≡ false
not_full_for_nothing = refl

not_full_before : is_full_for (7 ∷ []) 2 (9 ∷ []) ≡ false
not_full_before = refl

one_byte_lost : LosesAtMost 1 (Some (7 ∷ 8 ∷ [])) (Some (8 ∷ []))
one_byte_lost = (7 ∷ [], omega arith, refl)

two_are_not_one : LosesAtMost 1 (Some (7 ∷ 8 ∷ [])) (Some []) → ⊥
two_are_not_one loses = omega (arith, loses.1, ap length loses.2, length-append loses.0 [])

never_silent : LosesAtMost 1 (Some (7 ∷ [])) None → ⊥
never_silent loses = loses.2

one_byte_taken : AppendsPart (Some (6 ∷ [])) (Some (6 ∷ 7 ∷ [])) (7 ∷ 8 ∷ [])
one_byte_taken = (1, omega arith, refl)
