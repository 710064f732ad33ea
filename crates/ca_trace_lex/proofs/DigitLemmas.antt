-- Bytes are read from their digits.
use Rattle.std.proofs.Common.{◌≡◌, ℕ, zero, suc, ◌+◌, ◌*◌, ◌/◌, ◌%◌, ◌<◌, ◌≤◌, List, [], ◌∷◌, ◌++◌, length, take, drop, refl, arith}
use Rattle.std.specs.Prelude.{slice_index, slice_set}
use Rattle.std.proofs.lemmas.List.{append_assoc, append-nil, take_all, take_more_set, length-drop}
use Rattle.hex.specs.Hex.{encode_lower, encode_with, lower_digits, IsBytes}
use Rattle.hex.proofs.Pairs.{drop-pair}
use Rattle.ca_trace_lex.specs.Words.{hex_digit, bytes_of}

-- the digit of each value
digit_again : (d : ℕ) → d < 16 → hex_digit (slice_index lower_digits d) ≡ d
digit_again zero h = refl
digit_again (suc zero) h = refl
digit_again (suc (suc zero)) h = refl
digit_again (suc (suc (suc zero))) h = refl
digit_again (suc (suc (suc (suc zero)))) h = refl
digit_again (suc (suc (suc (suc (suc zero))))) h = refl
digit_again (suc (suc (suc (suc (suc (suc zero)))))) h = refl
digit_again (suc (suc (suc (suc (suc (suc (suc zero))))))) h = refl
digit_again (suc (suc (suc (suc (suc (suc (suc (suc zero)))))))) h = refl
digit_again (suc (suc (suc (suc (suc (suc (suc (suc (suc zero))))))))) h = refl
digit_again (suc (suc (suc (suc (suc (suc (suc (suc (suc (suc zero)))))))))) h = refl
digit_again (suc (suc (suc (suc (suc (suc (suc (suc (suc (suc (suc zero))))))))))) h = refl
digit_again (suc (suc (suc (suc (suc (suc (suc (suc (suc (suc (suc (suc zero)))))))))))) h = refl
digit_again (suc (suc (suc (suc (suc (suc (suc (suc (suc (suc (suc (suc (suc zero))))))))))))) h = refl
digit_again (suc (suc (suc (suc (suc (suc (suc (suc (suc (suc (suc (suc (suc (suc zero)))))))))))))) h = refl
digit_again (suc (suc (suc (suc (suc (suc (suc (suc (suc (suc (suc (suc (suc (suc (suc zero))))))))))))))) h = refl
digit_again (suc (suc (suc (suc (suc (suc (suc (suc (suc (suc (suc (suc (suc (suc (suc (suc n)))))))))))))))) h = absurd (omega arith)

-- bytes that are spelled are read again
pub bytes_again : (bs : List ℕ) → IsBytes bs → bytes_of (encode_lower bs) ≡ bs
unfolding encode_with bytes_of
bytes_again [] h = refl
bytes_again (b ∷ bs) h =
    let byte : b < 256 = h 0 in
    let high = digit_again (b / 16) (omega arith) in
    let low = digit_again (b % 16) (omega arith) in
    let same : b / 16 * 16 + b % 16 ≡ b = omega arith in
    rw (high, low, same, bytes_again bs (λ i. h (suc i))) refl

-- at most one digit is left
no_pair : (word : List ℕ) → length word ≤ 1 → bytes_of word ≡ []
unfolding bytes_of
no_pair [] h = refl
no_pair (c ∷ []) h = refl
no_pair (c ∷ d ∷ cs) h = absurd (omega arith)

pair_first : (high low : ℕ) (rest : List ℕ) → bytes_of (high ∷ low ∷ rest) ≡ (hex_digit high * 16 + hex_digit low) ∷ bytes_of rest
unfolding bytes_of
pair_first high low rest = refl

-- one byte more
pub fill_step : (word bytes : List ℕ) (i x : ℕ) → 2 * i + 1 < length word → i < length bytes
    → x ≡ hex_digit (slice_index word (2 * i)) * 16 + hex_digit (slice_index word (2 * i + 1))
    → take i bytes ++ bytes_of (drop (2 * i) word) ≡ bytes_of word
    → take (i + 1) (slice_set bytes i x) ++ bytes_of (drop (2 * (i + 1)) word) ≡ bytes_of word
fill_step word bytes i x fits below is inv =
    let front = take_more_set bytes i x below in
    let first = pair_first (slice_index word (2 * i)) (slice_index word (2 * i + 1)) (drop (2 * (i + 1)) word) in
    rw (front, append_assoc, is) (rw (drop-pair word i fits, first) at inv)

-- all bytes
pub fill_done : (word bytes : List ℕ) (i : ℕ) → length bytes ≤ i → length bytes ≡ length word / 2
    → take i bytes ++ bytes_of (drop (2 * i) word) ≡ bytes_of word
    → bytes ≡ bytes_of word
fill_done word bytes i past size inv =
    let short : length (drop (2 * i) word) ≤ 1 = rw (length-drop (2 * i) word) (omega arith) in
    rw (take_all i bytes past, no_pair (drop (2 * i) word) short, append-nil) at inv
