-- What digits say, read up to a bound.
use Rattle.std.proofs.Common.{◌≡◌, ℕ, ◌+◌, ◌*◌, ◌<◌, ◌≤◌, cond, leb, List, [], ◌∷◌, Some, None, refl, arith, inl, inr}
use Rattle.std.specs.Char.{digit_value}
use Rattle.std.specs.Str.Parse.{digits_value, digits_value_after}
use Rattle.std.proofs.lemmas.Bool.{cases_Bool, leb-true, leb-false}
use Rattle.ca_trace_lex.specs.Words.{value_after, value_in}
use Rattle.ca_trace_lex.proofs.NumberLemmas.{value_read}

value_past : (base most n : ℕ) (ds : List ℕ) → 1 ≤ base → n ≤ most → most < digits_value_after base n ds → value_after base most n ds ≡ None
value_past base most n [] low h past = absurd (omega (arith, h, past))
value_past base most n (c ∷ cs) low h past =
    elim (cases_Bool (leb (n * base + digit_value c) most)) [
      | inl e ↦ rw e (value_past base most (n * base + digit_value c) cs low (leb-true _ _ e) past)
      | inr e ↦ rw e refl
    ]

pub value_in_is : (base most : ℕ) (w : List ℕ) → 1 ≤ base → value_in base most w ≡ cond (leb (digits_value base w) most) (Some (digits_value base w)) None
unfolding value_in
value_in_is base most w low =
    elim (cases_Bool (leb (digits_value base w) most)) [
      | inl e ↦ rw e (value_read base most 0 w low (leb-true _ _ e))
      | inr e ↦ rw e (value_past base most 0 w low (omega arith) (leb-false _ _ e))
    ]
