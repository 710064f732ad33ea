-- A number that is spelled is read again.
use Rattle.std.proofs.Common.{◌≡◌, ℕ, ◌+◌, ◌*◌, ◌^◌, ◌<◌, ◌≤◌, true, false, leb, eqb, List, [], ◌∷◌, Some, decimal, refl, ap, ◌∙◌, arith}
use Rattle.std.specs.Char.{digit_value}
use Rattle.std.specs.Fmt.{digits}
use Rattle.std.specs.Str.{bytes_eq}
use Rattle.std.specs.Str.Parse.{IsNumeral, digits_value_after}
use Rattle.std.proofs.lemmas.Bool.{le-leb, ne_eqb}
use Rattle.std.proofs.lemmas.Nat.{mul-le}
use Rattle.std.proofs.lemmas.Fmt.{digits_is_IsNumeral}
use Rattle.ca_trace_lex.specs.Words.{value_after, value_in, number_in}
use Rattle.ca_trace_lex.proofs.PieceLemmas.{lacks, digits_plain, digits_lack, more_digits}
use Rattle.ca_trace_lex.specs.Fits.{plain}

-- digits behind a number make it no less
pub value_grows : (base n : ℕ) (ds : List ℕ) → 1 ≤ base → n ≤ digits_value_after base n ds
value_grows base n [] low = omega arith
value_grows base n (c ∷ cs) low =
    let more = value_grows base (n * base + digit_value c) cs low in
    let times : n ≤ n * base = omega (arith, mul-le n 1 n base (omega arith) low) in
    omega arith

-- digits whose number is within the bound are read
pub value_read : (base most n : ℕ) (ds : List ℕ) → 1 ≤ base → digits_value_after base n ds ≤ most → value_after base most n ds ≡ Some (digits_value_after base n ds)
value_read base most n [] low h = refl
value_read base most n (c ∷ cs) low h =
    let grows = value_grows base (n * base + digit_value c) cs low in
    let within : leb (n * base + digit_value c) most ≡ true = le-leb _ _ (omega arith) in
    rw within (value_read base most (n * base + digit_value c) cs low h)

pub digits_again : (base most n : ℕ) → 2 ≤ base → base ≤ 16 → n ≤ most → most < base ^ 64 → value_in base most (digits base false n) ≡ Some n
unfolding value_in
digits_again base most n low high h small =
    let numeral = digits_is_IsNumeral base false low high n (omega arith) in
    value_read base most 0 (digits base false n) (omega arith) (rw numeral.1 h) ∙ ap (λ (k : ℕ). Some k) numeral.1

-- the digits of a decimal number
pub decimal_digits : (n : ℕ) → n ≤ 18446744073709551615 → IsNumeral 10 (decimal n)
decimal_digits n h = (digits_is_IsNumeral 10 false (omega arith) (omega arith) n (omega arith)).0

pub number_again : (most n : ℕ) → n ≤ most → most ≤ 18446744073709551615 → number_in most (decimal n) ≡ Some n
number_again most n h small = digits_again 10 most n (omega arith) (omega arith) h (omega arith)

pub number_plain : (n : ℕ) → n ≤ 18446744073709551615 → plain (decimal n) ≡ true
number_plain n h = digits_plain (decimal n) (more_digits (decimal n) (decimal_digits n h).1)

pub number_lacks : (separator n : ℕ) → 16 ≤ digit_value separator → n ≤ 18446744073709551615 → lacks separator (decimal n) ≡ true
number_lacks separator n high h = digits_lack separator (decimal n) high (more_digits (decimal n) (decimal_digits n h).1)

-- a text that begins with a digit is not nothing
numeral_is_some : (w : List ℕ) → IsNumeral 10 w → bytes_eq w (45 ∷ []) ≡ false
numeral_is_some [] h = absurd (omega (arith, h.0))
numeral_is_some (c ∷ cs) h =
    let below : digit_value c < 10 = h.1.0 in
    let differs : eqb c 45 ≡ false = ne_eqb c 45 (λ same. let e : digit_value c ≡ digit_value 45 = ap digit_value same in omega (arith, e, below)) in
    rw differs refl

pub number_is_some : (n : ℕ) → n ≤ 18446744073709551615 → bytes_eq (decimal n) (45 ∷ []) ≡ false
number_is_some n h = numeral_is_some (decimal n) (decimal_digits n h)
