-- A number that is read from bytes is the number that was written there, and the other way round.
use Rattle.std.proofs.Common.{◌≡◌, ℕ, zero, suc, ◌+◌, ◌/◌, ◌%◌, ◌^◌, ◌<◌, ◌≤◌, Bool, true, false, eqb, List, [], ◌++◌, length, get_or, take, drop, refl, sym, append_assoc, append-nil, arith, inl, inr}
use Rattle.std.specs.Int.{Width, w32, w64, byte_len, from_be_bytes}
use Rattle.std.proofs.lemmas.Bool.{cases_lt}
use Rattle.std.proofs.lemmas.List.{take_at, drop_at, take-append-drop, length-take, length-drop, get_or-drop, get_or-take, get_or_past}
use Rattle.std.proofs.lemmas.Nat.{be_bytes_4, be_bytes_8, from_be_bytes-to_be_bytes_4, from_be_bytes-to_be_bytes_8}
use Rattle.ca_wire.specs.Packet.{be_bytes, bit}
use Rattle.ca_wire.specs.Decoding.{number_at}

-- a list of bytes
abbrev pub IsBytes : List ℕ → Type 0
IsBytes bytes = (i : ℕ) → get_or bytes i 0 < 256

pub IsBytes-drop : (n : ℕ) (bytes : List ℕ) → IsBytes bytes → IsBytes (drop n bytes)
IsBytes-drop n bytes h i = rw get_or-drop (h (n + i))

pub IsBytes-take : (n : ℕ) (bytes : List ℕ) → IsBytes bytes → IsBytes (take n bytes)
IsBytes-take n bytes h i =
    elim (cases_lt i n) [
      | inl lt ↦ rw (get_or-take n bytes i 0 lt) (h i)
      | inr le ↦ rw (get_or_past (take n bytes) i 0 (omega (arith, length-take n bytes))) (omega arith)
    ]

-- what a width of this many bytes promises
pub record IsWide (w : Width) (limit : ℕ) : Type 0 where
  pub len : (n : ℕ) → length (be_bytes w n) ≡ byte_len w
  pub back : (bytes : List ℕ) → length bytes ≡ byte_len w → IsBytes bytes → be_bytes w (from_be_bytes w bytes) ≡ bytes
  pub again : (n : ℕ) → n < limit → from_be_bytes w (be_bytes w n) ≡ n
  pub below : (bytes : List ℕ) → IsBytes bytes → from_be_bytes w bytes < limit

pub wide32 : IsWide w32 (2 ^ 32)
unfolding be_bytes
wide32 = record {
  len = λ n. refl;
  back = λ bytes len fits. be_bytes_4 bytes _ len fits refl;
  again = λ n lt. from_be_bytes-to_be_bytes_4 n lt;
  below = λ bytes fits. omega (arith, fits 0, fits 1, fits 2, fits 3);
}

pub wide64 : IsWide w64 (2 ^ 64)
unfolding be_bytes
wide64 = record {
  len = λ n. refl;
  back = λ bytes len fits. be_bytes_8 bytes _ len fits refl;
  again = λ n lt. from_be_bytes-to_be_bytes_8 n lt;
  below = λ bytes fits. omega (arith, fits 0, fits 1, fits 2, fits 3, fits 4, fits 5, fits 6, fits 7);
}

-- a number that was read from the front
pub record Took (w : Width) (limit : ℕ) (bytes : List ℕ) (n : ℕ) (rest : List ℕ) : Type 0 where
  pub parts : bytes ≡ be_bytes w n ++ rest
  pub fits : IsBytes rest
  pub below : n < limit
  pub len : length rest + byte_len w ≡ length bytes

pub number_takes : (w : Width) (limit : ℕ) (wide : IsWide w limit) (bytes : List ℕ) → IsBytes bytes → byte_len w ≤ length bytes → Took w limit bytes (number_at w bytes).0 (number_at w bytes).1
unfolding number_at
number_takes w limit wide bytes fits long =
    let front : be_bytes w (from_be_bytes w (take (byte_len w) bytes)) ≡ take (byte_len w) bytes = wide.back (take (byte_len w) bytes) (omega (arith, length-take (byte_len w) bytes)) (IsBytes-take (byte_len w) bytes fits) in
    record {
      parts = rw front (sym (take-append-drop (byte_len w) bytes));
      fits = IsBytes-drop (byte_len w) bytes fits;
      below = wide.below (take (byte_len w) bytes) (IsBytes-take (byte_len w) bytes fits);
      len = omega (arith, length-drop (byte_len w) bytes);
    }

pub number_again : (w : Width) (limit : ℕ) (wide : IsWide w limit) (n : ℕ) (rest : List ℕ) → n < limit → number_at w (be_bytes w n ++ rest) ≡ (n, rest)
unfolding number_at
number_again w limit wide n rest lt =
    rw (take_at (be_bytes w n) rest (byte_len w) (wide.len n), drop_at (be_bytes w n) rest (byte_len w) (wide.len n), wide.again n lt) refl

-- a bit that is read as a test
pub bit_is : (n : ℕ) → n < 2 → bit (eqb n 1) ≡ n
bit_is zero h = refl
bit_is (suc zero) h = refl
bit_is (suc (suc n)) h = absurd (omega arith)

pub bit_below : (b : Bool) → bit b < 2
bit_below true = omega arith
bit_below false = omega arith

pub is_bit : (b : Bool) (n : ℕ) → n ≡ bit b → eqb n 1 ≡ b
is_bit true n e = rw e refl
is_bit false n e = rw e refl

-- a number of eight bytes, by its halves
be_bytes_halves : (n : ℕ) → be_bytes w64 n ≡ be_bytes w32 (n / 2 ^ 32) ++ be_bytes w32 (n % 2 ^ 32)
unfolding be_bytes
be_bytes_halves n =
    let e0 : n / 72057594037927936 % 256 ≡ n / 4294967296 / 16777216 % 256 = omega arith in
    let e1 : n / 281474976710656 % 256 ≡ n / 4294967296 / 65536 % 256 = omega arith in
    let e2 : n / 1099511627776 % 256 ≡ n / 4294967296 / 256 % 256 = omega arith in
    let e3 : n / 16777216 % 256 ≡ n % 4294967296 / 16777216 % 256 = omega arith in
    let e4 : n / 65536 % 256 ≡ n % 4294967296 / 65536 % 256 = omega arith in
    let e5 : n / 256 % 256 ≡ n % 4294967296 / 256 % 256 = omega arith in
    let e6 : n % 256 ≡ n % 4294967296 % 256 = omega arith in
    rw (e0, e1, e2, e3, e4, e5, e6) refl

-- an address, a key and a length, in groups of four bytes
pub reth_groups : (a k l : ℕ) → be_bytes w32 (a / 2 ^ 32) ++ (be_bytes w32 (a % 2 ^ 32) ++ (be_bytes w32 k ++ (be_bytes w32 l ++ []))) ≡ be_bytes w64 a ++ (be_bytes w32 k ++ be_bytes w32 l)
reth_groups a k l = rw (be_bytes_halves a) (simp (append_assoc, append-nil))

-- an address, a key and two numbers, in groups of four bytes
pub atomic_groups : (a k s c : ℕ) → be_bytes w32 (a / 2 ^ 32) ++ (be_bytes w32 (a % 2 ^ 32) ++ (be_bytes w32 k ++ (be_bytes w32 (s / 2 ^ 32) ++ (be_bytes w32 (s % 2 ^ 32) ++ (be_bytes w32 (c / 2 ^ 32) ++ (be_bytes w32 (c % 2 ^ 32) ++ [])))))) ≡ be_bytes w64 a ++ (be_bytes w32 k ++ (be_bytes w64 s ++ be_bytes w64 c))
atomic_groups a k s c = rw (be_bytes_halves a, be_bytes_halves s, be_bytes_halves c) (simp (append_assoc, append-nil))
