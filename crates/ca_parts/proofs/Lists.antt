-- Lemmas on lists of numbered things: what stands in them, how often, and what each follows.
use Rattle.std.proofs.Common.{◌≡◌, ◌≢◌, ℕ, zero, suc, ◌+◌, ◌<◌, ◌≤◌, ◌⊎◌, inl, inr, ⊎_elim, Bool, eq-eqb, ne_eqb, List, [], ◌∷◌, ◌++◌, length, Some, slice_get, if◌then◌else◌, sym, refl, ap, subst, append_assoc, append-nil, arith}
use Rattle.std.specs.Prelude.{◌==◌}
use mathlib.Core.Logic.{dite}
use native.Mathlib.Decide.{ℕ_discrete}
use Rattle.std.proofs.lemmas.Bool.Decides.{nat_tests}
use Rattle.ca_parts.specs.Lists.{Has, EachFollows, bit, below, times, numbers_of, without}

module _ {A : Type 0} where
  pub has_left : (a : A) (xs ys : List A) → Has a xs → Has a (xs ++ ys)
  has_left a [] ys h = absurd h
  has_left a (x ∷ xs) ys h = ⊎_elim (λ (e : a ≡ x). inl e) (λ (t : Has a xs). inr (has_left a xs ys t)) h

  pub has_right : (a : A) (xs ys : List A) → Has a ys → Has a (xs ++ ys)
  has_right a [] ys h = h
  has_right a (x ∷ xs) ys h = inr (has_right a xs ys h)

  pub has_either : (a : A) (xs ys : List A) → Has a (xs ++ ys) → Has a xs ⊎ Has a ys
  has_either a [] ys h = inr h
  has_either a (x ∷ xs) ys h = ⊎_elim (λ (e : a ≡ x). inl (inl e)) (λ (t : Has a (xs ++ ys)). ⊎_elim (λ (l : Has a xs). inl (inr l)) (λ (r : Has a ys). inr r) (has_either a xs ys t)) h

  pub has_last : (a b : A) (xs : List A) → Has a (xs ++ b ∷ []) → Has a xs ⊎ (a ≡ b)
  has_last a b xs h = ⊎_elim (λ (l : Has a xs). inl l) (λ (r : (a ≡ b) ⊎ ⊥). ⊎_elim (λ (e : a ≡ b). inr e) (λ (n : ⊥). absurd n) r) (has_either a xs (b ∷ []) h)

  pub follows_last : (R : List A → A → Type 0) (before xs : List A) (x : A) → EachFollows R before xs → R (before ++ xs) x → EachFollows R before (xs ++ x ∷ [])
  follows_last R before [] x f r = (subst (λ (l : List A). R l x) (append-nil before) r, tt)
  follows_last R before (y ∷ ys) x f r = (f.0, follows_last R (before ++ y ∷ []) ys x f.1 (subst (λ (l : List A). R l x) (sym (append_assoc before (y ∷ []) ys)) r))

  pub slice_get_left : (xs ys : List A) (n : ℕ) (a : A) → slice_get xs n ≡ Some a → slice_get (xs ++ ys) n ≡ Some a
  slice_get_left [] ys n a e = cc
  slice_get_left (x ∷ xs) ys zero a e = e
  slice_get_left (x ∷ xs) ys (suc n) a e = slice_get_left xs ys n a e

  pub slice_get_last : (xs : List A) (a : A) (n : ℕ) → n ≡ length xs → slice_get (xs ++ a ∷ []) n ≡ Some a
  slice_get_last [] a zero e = refl
  slice_get_last [] a (suc n) e = absurd (omega arith)
  slice_get_last (x ∷ xs) a zero e = absurd (omega arith)
  slice_get_last (x ∷ xs) a (suc n) e = slice_get_last xs a n (omega arith)

pub bit_same : (n m : ℕ) → n ≡ m → bit (n == m) ≡ 1
bit_same n m e = ap bit (eq-eqb n m e)

pub bit_other : (n m : ℕ) → n ≢ m → bit (n == m) ≡ 0
bit_other n m ne = ap bit (ne_eqb n m ne)

pub times_append : (n : ℕ) (xs ys : List ℕ) → times n (xs ++ ys) ≡ times n xs + times n ys
times_append n [] ys = omega arith
times_append n (x ∷ xs) ys = omega (arith, times_append n xs ys)

module _ {A : Type 0} where
  pub times_last : (k : ℕ) (xs : List (ℕ × A)) (p : ℕ × A) → times k (numbers_of (xs ++ p ∷ [])) ≡ times k (numbers_of xs) + bit (k == p.0)
  times_last k [] p = omega arith
  times_last k (x ∷ xs) p = omega (arith, times_last k xs p)

  pub times_both : (k : ℕ) (xs ys : List (ℕ × A)) → times k (numbers_of (xs ++ ys)) ≡ times k (numbers_of xs) + times k (numbers_of ys)
  times_both k [] ys = omega arith
  times_both k (x ∷ xs) ys = omega (arith, times_both k xs ys)

  pub has_times : (k : ℕ) (a : A) (xs : List (ℕ × A)) → Has (k, a) xs → 0 < times k (numbers_of xs)
  has_times k a [] h = absurd h
  has_times k a (x ∷ xs) h = ⊎_elim (λ (e : (k, a) ≡ x). let one : bit (k == x.0) ≡ 1 = bit_same k x.0 (ap (λ (q : ℕ × A). q.0) e) in let more : 0 < bit (k == x.0) + times k (numbers_of xs) = omega arith in more)
      (λ (t : Has (k, a) xs). let some_more : 0 < times k (numbers_of xs) = has_times k a xs t in let more : 0 < bit (k == x.0) + times k (numbers_of xs) = omega arith in more) h

  pub times_has : (k : ℕ) (xs : List (ℕ × A)) → 0 < times k (numbers_of xs) → (a : A) × Has (k, a) xs
  times_has k [] h = absurd (omega arith)
  times_has k (x ∷ xs) h = dite (ℕ_discrete k x.0) (λ (e : k ≡ x.0). (x.1, inl (λ i. (e i, x.1))))
      (λ (ne : k ≢ x.0). let none_here : bit (k == x.0) ≡ 0 = bit_other k x.0 ne in let r = times_has k xs (omega arith) in (r.0, inr r.1))

  pub has_without : (k : ℕ) (p : ℕ × A) (xs : List (ℕ × A)) → Has p (without k xs) → Has p xs
  has_without k p [] h = h
  has_without k p (x ∷ xs) h = dite (ℕ_discrete k x.0)
      (λ (e : k ≡ x.0). inr (subst (λ (b : Bool). Has p (if b then xs else x ∷ without k xs)) (eq-eqb k x.0 e) h))
      (λ (ne : k ≢ x.0). ⊎_elim (λ (e : p ≡ x). inl e) (λ (t : Has p (without k xs)). inr (has_without k p xs t)) (subst (λ (b : Bool). Has p (if b then xs else x ∷ without k xs)) (ne_eqb k x.0 ne) h))

  pub times_without : (j k : ℕ) (a : A) (xs : List (ℕ × A)) → Has (k, a) xs → times j (numbers_of (without k xs)) + bit (j == k) ≡ times j (numbers_of xs)
  times_without j k a [] h = absurd h
  times_without j k a (x ∷ xs) h = dite (ℕ_discrete k x.0)
      (λ (e : k ≡ x.0). subst (λ (b : Bool). times j (numbers_of (if b then xs else x ∷ without k xs)) + bit (j == k) ≡ bit (j == x.0) + times j (numbers_of xs)) (sym (eq-eqb k x.0 e))
      (let same : bit (j == k) ≡ bit (j == x.0) = ap (λ (n : ℕ). bit (j == n)) e in let out : times j (numbers_of xs) + bit (j == k) ≡ bit (j == x.0) + times j (numbers_of xs) = omega arith in out))
      (λ (ne : k ≢ x.0). subst (λ (b : Bool). times j (numbers_of (if b then xs else x ∷ without k xs)) + bit (j == k) ≡ bit (j == x.0) + times j (numbers_of xs)) (sym (ne_eqb k x.0 ne))
      (let t : Has (k, a) xs = ⊎_elim (λ (e : (k, a) ≡ x). absurd (ne (ap (λ (q : ℕ × A). q.0) e))) (λ (u : Has (k, a) xs). u) h in let rest : times j (numbers_of (without k xs)) + bit (j == k) ≡ times j (numbers_of xs) = times_without j k a xs t in
      let out : (bit (j == x.0) + times j (numbers_of (without k xs))) + bit (j == k) ≡ bit (j == x.0) + times j (numbers_of xs) = omega arith in out))

pub below_next : (n m : ℕ) → below n (m + 1) ≡ below n m + bit (n == m)
below_next n m = grind (arith, nat_tests)

pub below_more : (n a b : ℕ) → a ≤ b → below n a ≤ below n b
below_more n a b le = grind (arith, nat_tests)

pub below_one : (n m : ℕ) → n < m → below n m ≡ 1
below_one n m lt = grind (arith, nat_tests)

pub one_below : (n m : ℕ) → 0 < below n m → n < m
one_below n m pos = grind (arith, nat_tests)

pub below_zero : (n : ℕ) → below n 0 ≡ 0
below_zero n = grind (arith, nat_tests)

pub below_at_most : (n m : ℕ) → below n m ≤ 1
below_at_most n m = grind (arith, nat_tests)
