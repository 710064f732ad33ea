-- Hexadecimal digits: what each is, and those of bytes in two parts.
use Rattle.std.proofs.Common.{◌≡◌, ℕ, zero, suc, ◌+◌, ◌/◌, ◌%◌, ◌<◌, ◌≤◌, ◌==◌, Bool, true, ◌&&◌, if◌then◌else◌, nat_lt, inl, inr, List, [], ◌∷◌, ◌++◌, length, drop, take, slice_index, refl, sym, ap, ◌∙◌, arith}
use Rattle.std.proofs.lemmas.Bool.{and_parts, cases_lt, eqb-true}
use Rattle.std.proofs.lemmas.List.{append-nil, append_assoc, drop_all, take-append-drop}
use Rattle.hex.specs.Hex.{encode_with, lower_digits}
use Rattle.hex.proofs.Pairs.{encode_with-drop}

-- the digit of a value below sixteen
abbrev glyph : ℕ → ℕ
glyph d = if nat_lt d 10 then 48 + d else 87 + d

abbrev is_glyph : ℕ → Bool
is_glyph d = slice_index lower_digits d == glyph d

abbrev are_glyphs : ℕ → Bool
are_glyphs zero = true
are_glyphs (suc n) = is_glyph n && are_glyphs n

glyph_at : (n d : ℕ) → are_glyphs n ≡ true → d < n → slice_index lower_digits d ≡ glyph d
glyph_at zero d h lt = absurd (omega arith)
glyph_at (suc n) d h lt =
    let parts = and_parts (is_glyph n) (are_glyphs n) h in
    elim (cases_lt d n) [
      | inl below ↦ glyph_at n d parts.1 below
      | inr top ↦
          let e : d ≡ n = omega arith in
          rw e (eqb-true (slice_index lower_digits n) (glyph n) parts.0)
    ]

pub lower_digit : (d : ℕ) → d < 16 → slice_index lower_digits d ≡ if nat_lt d 10 then 48 + d else 87 + d
lower_digit d lt = glyph_at 16 d refl lt

-- the digits of bytes are those of a front and those of the rest
pub encode_with-append : (t xs ys : List ℕ) → encode_with t (xs ++ ys) ≡ encode_with t xs ++ encode_with t ys
unfolding encode_with
encode_with-append t [] ys = refl
encode_with-append t (b ∷ xs) ys =
    ap (λ rest. slice_index t (b / 16) ∷ slice_index t (b % 16) ∷ rest) (encode_with-append t xs ys)

-- the digits of a front stand behind what was there
pub behind_front : (t rest front others a b : List ℕ) (n : ℕ) → front ≡ take n rest → others ≡ drop n rest
    → a ++ encode_with t rest ≡ b → (a ++ encode_with t front) ++ encode_with t others ≡ b
behind_front t rest front others a b n ef eo e =
    let whole : front ++ others ≡ rest = ap (λ x. x ++ others) ef ∙ ap (λ x. take n rest ++ x) eo ∙ take-append-drop n rest in
    append_assoc a (encode_with t front) (encode_with t others)
    ∙ ap (λ x. a ++ x) (sym (encode_with-append t front others))
    ∙ ap (λ x. a ++ encode_with t x) whole ∙ e

-- the digits of one byte stand behind what was there
pub behind_one : (t xs a b : List ℕ) (i x y : ℕ) → i < length xs
    → x ≡ slice_index t (slice_index xs i / 16) → y ≡ slice_index t (slice_index xs i % 16)
    → a ++ encode_with t (drop i xs) ≡ b → (a ++ (x ∷ y ∷ [])) ++ encode_with t (drop (i + 1) xs) ≡ b
behind_one t xs a b i x y h ex ey e =
    let rest = encode_with-drop t xs i h in
    rw (append_assoc, ex, ey) (rw rest at e)

-- the digits of all bytes stand there
pub behind_all : (t xs a b : List ℕ) (i : ℕ) → length xs ≤ i → a ++ encode_with t (drop i xs) ≡ b → a ≡ b
unfolding encode_with
behind_all t xs a b i h e =
    let d = drop_all i xs h in
    rw (d, append-nil) at e
