-- Lemmas on runs that are cut. For proofs only.
use Rattle.std.proofs.Common.{◌≡◌, ℕ, suc, zero, ◌+◌, ◌-◌, ◌<◌, ◌≤◌, ◌==◌, nat_le, min, Bool, true, false, List, [], ◌∷◌, refl, sym, ap, ◌∙◌, ⊎_elim, arith, if◌then◌else◌}
use Rattle.std.proofs.lemmas.Bool.{cases_lt, eqb-true, leb-true, leb-false}
use Rattle.std.proofs.lemmas.Bool.Decides.{nat_tests}
use Rattle.std.proofs.lemmas.List.Sums.{sum_by-cons}
use Rattle.ca_keys.specs.declared.place.Run.{Run}
use Rattle.ca_keys.specs.Memory.{cut, run_part, places_count}

-- a run of which nothing is left does not stand
pub cut-skip : (r : Run) (rs : List Run) (s n : ℕ) → r.length ≤ s → cut s n (r ∷ rs) ≡ cut (s - r.length) n rs
cut-skip r rs s n h = grind (arith, nat_tests, h)

-- no byte has a run
pub cut-none : (rs : List Run) (s : ℕ) → cut s 0 rs ≡ []
cut-none [] s = refl
cut-none (r ∷ rs) s = grind (arith, nat_tests, cut-none rs (s - r.length))

-- the first run of which something is left
pub cut-first : (r : Run) (rs : List Run) (s n : ℕ) → s < r.length → 0 < n →
    cut s n (r ∷ rs) ≡ run_part r s (min n (r.length - s)) ∷ cut 0 (n - (r.length - s)) rs
cut-first r rs s n h g = grind (arith, nat_tests, h, g)

-- a part of a part of a run
pub part-part : (r : Run) (t m s n : ℕ) → run_part (run_part r t m) s n ≡ run_part r (t + s) n
part-part r t m s n = ap (λ (at : ℕ). record { adapter = r.adapter; buffer = r.buffer; offset = at; length = n }) (omega arith)

module _ (r : Run) (rs : List Run) (again : (t m s n : ℕ) → s + n ≤ m → cut s n (cut t m rs) ≡ cut (t + s) n rs) (t m s n : ℕ) (h : s + n ≤ m) (some : 0 < n) where
  behind : r.length ≤ t → cut s n (cut t m (r ∷ rs)) ≡ cut (t + s) n (r ∷ rs)
  behind g =
      let later : t - r.length + s ≡ t + s - r.length = omega arith in
      ap (λ (xs : List Run). cut s n xs) (cut-skip r rs t m g)
      ∙ again (t - r.length) m s n h
      ∙ ap (λ (k : ℕ). cut k n rs) later
      ∙ sym (cut-skip r rs (t + s) n (omega arith))

  in-first : t < r.length → s < min m (r.length - t) → cut s n (run_part r t (min m (r.length - t)) ∷ cut 0 (m - (r.length - t)) rs) ≡ cut (t + s) n (r ∷ rs)
  in-first g f =
      let taken : min n (min m (r.length - t) - s) ≡ min n (r.length - (t + s)) = omega arith in
      let left : n - (min m (r.length - t) - s) ≡ n - (r.length - (t + s)) = omega arith in
      cut-first (run_part r t (min m (r.length - t))) (cut 0 (m - (r.length - t)) rs) s n f some
      ∙ ap (λ (xs : List Run). run_part (run_part r t (min m (r.length - t))) s (min n (min m (r.length - t) - s)) ∷ xs) (again 0 (m - (r.length - t)) 0 (n - (min m (r.length - t) - s)) (omega arith))
      ∙ ap (λ (x : Run). x ∷ cut 0 (n - (min m (r.length - t) - s)) rs) (part-part r t (min m (r.length - t)) s (min n (min m (r.length - t) - s)))
      ∙ ap (λ (k : ℕ). run_part r (t + s) k ∷ cut 0 (n - (min m (r.length - t) - s)) rs) taken
      ∙ ap (λ (k : ℕ). run_part r (t + s) (min n (r.length - (t + s))) ∷ cut 0 k rs) left
      ∙ sym (cut-first r rs (t + s) n (omega arith) some)

  past-first : t < r.length → min m (r.length - t) ≤ s → cut s n (run_part r t (min m (r.length - t)) ∷ cut 0 (m - (r.length - t)) rs) ≡ cut (t + s) n (r ∷ rs)
  past-first g f =
      let later : 0 + (s - min m (r.length - t)) ≡ t + s - r.length = omega arith in
      cut-skip (run_part r t (min m (r.length - t))) (cut 0 (m - (r.length - t)) rs) s n f
      ∙ again 0 (m - (r.length - t)) (s - min m (r.length - t)) n (omega arith)
      ∙ ap (λ (k : ℕ). cut k n rs) later
      ∙ sym (cut-skip r rs (t + s) n (omega arith))

  cut-cut-step : cut s n (cut t m (r ∷ rs)) ≡ cut (t + s) n (r ∷ rs)
  cut-cut-step =
      ⊎_elim
      (λ (g : t < r.length).
      ap (λ (xs : List Run). cut s n xs) (cut-first r rs t m g (omega arith))
      ∙ ⊎_elim (in-first g) (past-first g) (cases_lt s (min m (r.length - t))))
      behind
      (cases_lt t r.length)

-- what is cut once more is cut once, from both begins together
pub cut-cut : (rs : List Run) (t m s n : ℕ) → s + n ≤ m → cut s n (cut t m rs) ≡ cut (t + s) n rs
cut-cut [] t m s n h = refl
cut-cut (r ∷ rs) t m s zero h = cut-none (cut t m (r ∷ rs)) s ∙ sym (cut-none (r ∷ rs) (t + s))
cut-cut (r ∷ rs) t m s (suc n) h = cut-cut-step r rs (λ t m s n h. cut-cut rs t m s n h) t m s (suc n) h (omega arith)

-- runs that are cut have as many places as are left of them
pub cut-count : (rs : List Run) (s n : ℕ) → s + n ≤ places_count rs → places_count (cut s n rs) ≡ n
cut-count [] s n h = omega (arith, h)
cut-count (r ∷ rs) s n h =
    by (nat_le r.length s) refl (n == 0) refl (cut-count rs (s - r.length) n) (cut-count rs 0 (n - (r.length - s)))
  where
    total : s + n ≤ r.length + places_count rs
    total = omega (arith, h, sum_by-cons (λ (r : Run). r.length) r rs)

    by : (b : Bool) → nat_le r.length s ≡ b → (z : Bool) → (n == 0) ≡ z
        → (s - r.length + n ≤ places_count rs → places_count (cut (s - r.length) n rs) ≡ n)
        → (0 + (n - (r.length - s)) ≤ places_count rs → places_count (cut 0 (n - (r.length - s)) rs) ≡ n - (r.length - s))
        → places_count (if b then cut (s - r.length) n rs else if z then [] else run_part r s (min n (r.length - s)) ∷ cut 0 (n - (r.length - s)) rs) ≡ n
    by true e z f later here = later (omega (arith, total, leb-true r.length s e))
    by false e true f later here = sym (eqb-true n 0 f)
    by false e false f later here =
        omega (
          arith,
          sum_by-cons (λ (r : Run). r.length) (run_part r s (min n (r.length - s))) (cut 0 (n - (r.length - s)) rs),
          here (omega (arith, total, leb-false r.length s e)),
          leb-false r.length s e,
        )
