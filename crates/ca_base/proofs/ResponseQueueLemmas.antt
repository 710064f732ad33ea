-- An acknowledgement at the end of a response queue: what stands there, and what is set there or added.
use Rattle.std.proofs.Common.{◌≡◌, arith, refl, ap, ℕ, zero, suc, ◌+◌, ◌-◌, ◌<◌, true, false, List, [], ◌∷◌, ◌++◌, length, slice_index_or, slice_set}
use Rattle.ca_base.specs.declared.queue_numbers.Queued.{Queued}
use Rattle.ca_base.specs.declared.queue_numbers.Queued.TheVariants.{Ack}
use Rattle.ca_base.specs.objects.Answers.{ends_with_ack, is_ack, with_ack_at_end}

set_at : (psn n : ℕ) (xs : List Queued) → n + 1 ≡ length xs → ends_with_ack xs ≡ true → slice_set xs n (Ack psn) ≡ with_ack_at_end psn xs
set_at psn n [] count ack = absurd (omega (arith, count))
set_at psn zero (x ∷ []) count ack = rw ack refl
set_at psn (suc n) (x ∷ []) count ack = absurd (omega (arith, count))
set_at psn zero (x ∷ y ∷ rest) count ack = absurd (omega (arith, count))
set_at psn (suc n) (x ∷ y ∷ rest) count ack = ap (λ ys. x ∷ ys) (set_at psn n (y ∷ rest) (omega (arith, count)) ack)

pub ack_set : (psn : ℕ) (xs : List Queued) → ends_with_ack xs ≡ true → slice_set xs (length xs - 1) (Ack psn) ≡ with_ack_at_end psn xs
ack_set psn [] ack = search
ack_set psn (x ∷ xs) ack = set_at psn (length (x ∷ xs) - 1) (x ∷ xs) (omega (arith)) ack

pub ack_added : (psn : ℕ) (xs : List Queued) → ends_with_ack xs ≡ false → xs ++ Ack psn ∷ [] ≡ with_ack_at_end psn xs
ack_added psn [] ack = refl
ack_added psn (x ∷ []) ack = rw ack refl
ack_added psn (x ∷ y ∷ rest) ack = ap (λ ys. x ∷ ys) (ack_added psn (y ∷ rest) ack)

last_at : (n : ℕ) (a : Queued) (xs : List Queued) → n + 1 ≡ length xs → a ≡ slice_index_or xs n a → is_ack a ≡ ends_with_ack xs
last_at n a [] count there = absurd (omega (arith, count))
last_at zero a (x ∷ []) count there = ap is_ack there
last_at (suc n) a (x ∷ []) count there = absurd (omega (arith, count))
last_at zero a (x ∷ y ∷ rest) count there = absurd (omega (arith, count))
last_at (suc n) a (x ∷ y ∷ rest) count there = last_at n a (y ∷ rest) (omega (arith, count)) there

pub last_ack : (a : Queued) (xs : List Queued) → a ≡ slice_index_or xs (length xs - 1) a → 0 < length xs → is_ack a ≡ ends_with_ack xs
last_ack a [] there some = absurd (omega (arith, some))
last_ack a (x ∷ xs) there some = last_at (length (x ∷ xs) - 1) a (x ∷ xs) (omega (arith)) there

pub none_last : (xs : List Queued) → length xs ≡ 0 → false ≡ ends_with_ack xs
none_last [] none = refl
none_last (x ∷ xs) none = absurd (omega (arith, none))
