-- Front: a number at the front of a text. Clauses of this crate's own functions cite it, and it may be skipped.
use Rattle.std.specs.Prelude.{◌≡◌, ℕ, ◌+◌, ◌*◌, true, if◌then◌else◌, List, [], ◌∷◌, ◌++◌}
use Rattle.std.specs.Char.{digit_value, is_digit}
use Rattle.ca_script_lex.specs.Words.{is_number, value_of}

-- the number that the digits at the front of a text write behind those of n, and what stands behind them
abbrev pub digits_front : ℕ → ℕ → List ℕ → ℕ × List ℕ
digits_front base n [] = (n, [])
digits_front base n (c ∷ cs) = if is_digit c base then digits_front base (n * base + digit_value c) cs else (n, c ∷ cs)

-- a text is a word of the form of a number, which says this number, and what stands behind it
abbrev pub BeginsWith : ℕ → List ℕ → List ℕ → Type 0
BeginsWith n rest text = (w : List ℕ) × (text ≡ w ++ rest) × (is_number w ≡ true) × (value_of w ≡ n)
