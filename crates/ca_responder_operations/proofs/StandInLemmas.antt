-- An answer that stands at the end of a response queue for one to come, behind all PSNs that wait.
use Rattle.std.proofs.Common.{◌≡◌, ℕ, zero, suc, ◌+◌, ◌-◌, ◌≤◌, arith, refl, ap, ◌∙◌, Bool, true, false, List, [], ◌∷◌, ◌++◌, length, length-append, slice_get, slice_set, Option, None, Some}
use Rattle.std.proofs.lemmas.Bool.{le-ltb, lt-ltb}
use Rattle.std.specs.List.{AllByRecursion}
use Rattle.ca_base.proofs.ResponseQueueLemmas.{ack_added, ack_set}
use Rattle.ca_base.specs.declared.queue_numbers.Queued.{Queued}
use Rattle.ca_base.specs.declared.queue_numbers.Queued.TheVariants.{Ack, Atomic, Nak, Read, Rnr}
use Rattle.ca_base.specs.objects.Answers.{answers_before, ends_with_ack, is_ack, psn_of_answer, with_ack_at_end}
use Rattle.ca_model.specs.machine.Invariants.{IsAnswer}
use Rattle.ca_responder_answers.proofs.EndLemmas.{end-set}
use Rattle.ca_responder_operations.specs.StandIn.{AreUntil, with_stand_in}

until : (mtu expected : ℕ) (a : Queued) → IsAnswer mtu expected a → psn_of_answer a ≤ expected
until mtu expected (Ack psn) h = h
until mtu expected (Rnr psn) h = h
until mtu expected (Nak psn code) h = h
until mtu expected (Read psn key address left first envelope duplicate) h = omega (arith, h.0)
until mtu expected (Atomic psn found duplicate) h = h

-- what waits stands at the expected PSN or before it
pub are_until : (mtu expected : ℕ) (xs : List Queued) → AllByRecursion (IsAnswer mtu expected) xs → AreUntil expected xs
are_until mtu expected [] h = record {}
are_until mtu expected (x ∷ xs) h = (until mtu expected x h.0, are_until mtu expected xs h.1)

-- what stands in is removed
pub given_up : (psn : ℕ) (xs : List Queued) → AreUntil psn xs → answers_before (psn + 1) (with_stand_in psn xs) ≡ xs
given_up psn [] h = rw (le-ltb (psn + 1) (psn + 1) (omega arith)) refl
given_up psn (x ∷ xs) h = rw (lt-ltb (psn_of_answer x) (psn + 1) (omega (arith, h.0))) (ap (λ (ys : List Queued). x ∷ ys) (given_up psn xs h.1))

abbrev pub ack-at : Option Queued → Bool
ack-at (Some a) = is_ack a
ack-at None = false

-- what stands before it
pub before_end : (xs : List Queued) (a : Queued) (n : ℕ) → n + 2 ≡ length (xs ++ a ∷ []) → ack-at (slice_get (xs ++ a ∷ []) n) ≡ ends_with_ack xs
before_end [] a n count = absurd (omega (arith, count))
before_end (x ∷ []) a zero count = refl
before_end (x ∷ []) a (suc n) count = absurd (omega (arith, count))
before_end (x ∷ y ∷ rest) a zero count = absurd (omega (arith, count, length-append rest (a ∷ [])))
before_end (x ∷ y ∷ rest) a (suc n) count = before_end (y ∷ rest) a n (omega (arith, count))

-- an acknowledgement comes in its place
pub taken_by : (psn : ℕ) (xs ys : List Queued) → ends_with_ack xs ≡ false → ys ≡ slice_set (with_stand_in psn xs) (length (with_stand_in psn xs) - 1) (Ack psn) → ys ≡ with_ack_at_end psn xs
taken_by psn xs ys other e = e ∙ end-set xs (Ack (psn + 1)) (Ack psn) ∙ ack_added psn xs other

-- an acknowledgement that stands before it makes room for the new one
pub given_for : (psn : ℕ) (xs ys zs : List Queued) → AreUntil psn xs → ends_with_ack xs ≡ true → ys ≡ answers_before (psn + 1) (with_stand_in psn xs)
    → zs ≡ slice_set ys (length ys - 1) (Ack psn) → zs ≡ with_ack_at_end psn xs
given_for psn xs ys zs before ack e f = f ∙ ap (λ (l : List Queued). slice_set l (length l - 1) (Ack psn)) (e ∙ given_up psn xs before) ∙ ack_set psn xs ack
