-- A base transport header that was read is the one that was written, and the other way round.
use Rattle.ca_wire.specs.Packet.{be_bytes, bit, number_of_fields, bytes_of_fields, first_word, second_word, third_word, Ignored, bth_bytes, FitsBth}
use Rattle.ca_wire.specs.Decoding.{number_at, bth_at, bth_from, version_of}
use Rattle.ca_wire.specs.declared.bth.Bth.{Bth}
use Rattle.ca_wire.specs.declared.wire_error.WireError.TheVariants.{TooShort, Version}
use Rattle.std.proofs.Common.{◌≡◌, ℕ, ◌+◌, ◌/◌, ◌%◌, ◌^◌, ◌<◌, ◌≤◌, true, false, cond, eqb, ltb, List, [], ◌∷◌, ◌++◌, length, Ok, Err, refl, ap, subst, ◌∙◌, append_assoc, arith}
use Rattle.std.proofs.lemmas.Bool.{ltb-false, le-ltb, eqb-true, eq-eqb}
use Rattle.std.proofs.lemmas.List.{length-append}
use Rattle.std.specs.Int.{w32}
use Rattle.ca_wire.proofs.NumberLaws.{IsBytes, wide32, number_takes, number_again, bit_is, bit_below, is_bit}
use Rattle.ca_wire.proofs.Steps.{guard_next, guard_ended, join}

pub record IsHeader (bytes : List ℕ) (b : Bth) (rest : List ℕ) : Type 0 where
  pub ignored : Ignored
  pub before_queue : ignored.before_queue < 2 ^ 8
  pub before_psn : ignored.before_psn < 2 ^ 7
  pub parts : bytes ≡ bth_bytes ignored b ++ rest
  pub fits : IsBytes rest
  pub bth : FitsBth b
  pub len : length rest + 12 ≡ length bytes

first_back : (a b c : ℕ) → a < 2 ^ 32 → version_of a ≡ 0 → number_of_fields (first_word (bth_from a b c)) ≡ a
first_back a b c lt version =
    rw (bit_is (a / 2 ^ 23 % 2) (omega arith), bit_is (a / 2 ^ 22 % 2) (omega arith)) (omega arith)

second_back : (a b c : ℕ) → b < 2 ^ 32 → number_of_fields (second_word (b / 2 ^ 24) (bth_from a b c)) ≡ b
second_back a b c lt = omega arith

third_back : (a b c : ℕ) → c < 2 ^ 32 → number_of_fields (third_word (c / 2 ^ 24 % 2 ^ 7) (bth_from a b c)) ≡ c
third_back a b c lt = rw (bit_is (c / 2 ^ 31) (omega arith)) (omega arith)

pub bth_takes : (bytes : List ℕ) (x : Bth × List ℕ) → IsBytes bytes → bth_at bytes ≡ Ok x → IsHeader bytes x.0 x.1
unfolding bth_at
bth_takes bytes x fits e =
    let a = number_at w32 bytes in
    let b = number_at w32 a.1 in
    let c = number_at w32 b.1 in
    let g = guard_next (ltb (length bytes) 12) TooShort (cond (eqb (version_of a.0) 0) (Ok (bth_from a.0 b.0 c.0, c.1)) (Err Version)) x e in
    let long : 12 ≤ length bytes = ltb-false _ _ g.0 in
    let v = guard_ended (eqb (version_of a.0) 0) Version (bth_from a.0 b.0 c.0, c.1) x g.1 in
    let ta = number_takes w32 (2 ^ 32) wide32 bytes fits (omega arith) in
    let tb = number_takes w32 (2 ^ 32) wide32 a.1 ta.fits (omega arith) in
    let tc = number_takes w32 (2 ^ 32) wide32 b.1 tb.fits (omega arith) in
    let wa : bytes ≡ bytes_of_fields (first_word (bth_from a.0 b.0 c.0)) ++ a.1 = rw (first_back a.0 b.0 c.0 ta.below (eqb-true _ _ v.0)) ta.parts in
    let wb : a.1 ≡ bytes_of_fields (second_word (b.0 / 2 ^ 24) (bth_from a.0 b.0 c.0)) ++ b.1 = rw (second_back a.0 b.0 c.0 tb.below) tb.parts in
    let wc : b.1 ≡ bytes_of_fields (third_word (c.0 / 2 ^ 24 % 2 ^ 7) (bth_from a.0 b.0 c.0)) ++ c.1 = rw (third_back a.0 b.0 c.0 tc.below) tc.parts in
    let i : Ignored = record { before_queue = b.0 / 2 ^ 24; before_psn = c.0 / 2 ^ 24 % 2 ^ 7; pad = [] } in
    let whole : IsHeader bytes (bth_from a.0 b.0 c.0) c.1 = record {
      ignored = i;
      before_queue = omega (arith, tb.below);
      before_psn = omega arith;
      parts = join bytes _ a.1 _ c.1 wa (join a.1 _ b.1 _ c.1 wb wc);
      fits = tc.fits;
      bth = record { opcode = omega (arith, ta.below); pad = omega arith; pkey = omega arith; queue = omega arith; psn = omega arith };
      len = omega (arith, ta.len, tb.len, tc.len);
    } in
    subst (λ (y : Bth × List ℕ). IsHeader bytes y.0 y.1) v.1 whole

pub bth_length : (i : Ignored) (b : Bth) → length (bth_bytes i b) ≡ 12
bth_length i b =
    let x = be_bytes w32 (number_of_fields (first_word b)) in
    let y = be_bytes w32 (number_of_fields (second_word i.before_queue b)) in
    let z = be_bytes w32 (number_of_fields (third_word i.before_psn b)) in
    omega (arith, length-append x (y ++ z), length-append y z, wide32.len (number_of_fields (first_word b)), wide32.len (number_of_fields (second_word i.before_queue b)), wide32.len (number_of_fields (third_word i.before_psn b)))

first_fields : (op s m pad pkey a : ℕ) → op < 2 ^ 8 → s < 2 → m < 2 → pad < 4 → pkey < 2 ^ 16 → a ≡ number_of_fields ((8, op) ∷ (1, s) ∷ (1, m) ∷ (2, pad) ∷ (4, 0) ∷ (16, pkey) ∷ [])
    → (a / 2 ^ 24 ≡ op) × (a / 2 ^ 23 % 2 ≡ s) × (a / 2 ^ 22 % 2 ≡ m) × (a / 2 ^ 20 % 4 ≡ pad) × (a / 2 ^ 16 % 16 ≡ 0) × (a % 2 ^ 16 ≡ pkey) × (a < 2 ^ 32)
first_fields op s m pad pkey a h0 h1 h2 h3 h4 e = (omega arith, omega arith, omega arith, omega arith, omega arith, omega arith, omega arith)

pub second_fields : (r q b : ℕ) → r < 2 ^ 8 → q < 2 ^ 24 → b ≡ number_of_fields ((8, r) ∷ (24, q) ∷ []) → (b / 2 ^ 24 ≡ r) × (b % 2 ^ 24 ≡ q) × (b < 2 ^ 32)
second_fields r q b h0 h1 e = (omega arith, omega arith, omega arith)

third_fields : (k r p c : ℕ) → k < 2 → r < 2 ^ 7 → p < 2 ^ 24 → c ≡ number_of_fields ((1, k) ∷ (7, r) ∷ (24, p) ∷ []) → (c / 2 ^ 31 ≡ k) × (c % 2 ^ 24 ≡ p) × (c < 2 ^ 32)
third_fields k r p c h0 h1 h2 e = (omega arith, omega arith, omega arith)

-- a header of three words says what its fields say
same_bth : (b : Bth) (x y z : ℕ) → x / 2 ^ 24 ≡ b.opcode → eqb (x / 2 ^ 23 % 2) 1 ≡ b.solicited → eqb (x / 2 ^ 22 % 2) 1 ≡ b.migrated → x / 2 ^ 20 % 4 ≡ b.pad → x % 2 ^ 16 ≡ b.pkey → y % 2 ^ 24 ≡ b.queue → eqb (z / 2 ^ 31) 1 ≡ b.ack → z % 2 ^ 24 ≡ b.psn → bth_from x y z ≡ b
same_bth b x y z e0 e1 e2 e3 e4 e5 e6 e7 = rw (e0, e1, e2, e3, e4, e5, e6, e7) refl

pub bth_again : (i : Ignored) (b : Bth) (rest : List ℕ) → FitsBth b → i.before_queue < 2 ^ 8 → i.before_psn < 2 ^ 7 → bth_at (bth_bytes i b ++ rest) ≡ Ok (b, rest)
unfolding bth_at
bth_again i b rest fits hq hp =
    let x = number_of_fields (first_word b) in
    let y = number_of_fields (second_word i.before_queue b) in
    let z = number_of_fields (third_word i.before_psn b) in
    let fx = first_fields b.opcode (bit b.solicited) (bit b.migrated) b.pad b.pkey x fits.opcode (bit_below b.solicited) (bit_below b.migrated) fits.pad fits.pkey refl in
    let fy = second_fields i.before_queue b.queue y hq fits.queue refl in
    let fz = third_fields (bit b.ack) i.before_psn b.psn z (bit_below b.ack) hp fits.psn refl in
    let regrouped : bth_bytes i b ++ rest ≡ be_bytes w32 x ++ (be_bytes w32 y ++ (be_bytes w32 z ++ rest)) = append_assoc (be_bytes w32 x) (be_bytes w32 y ++ be_bytes w32 z) rest ∙ ap (λ (t : List ℕ). be_bytes w32 x ++ t) (append_assoc (be_bytes w32 y) (be_bytes w32 z) rest) in
    let long : ltb (length (be_bytes w32 x ++ (be_bytes w32 y ++ (be_bytes w32 z ++ rest)))) 12 ≡ false = le-ltb _ _ (omega (arith, length-append (be_bytes w32 x) (be_bytes w32 y ++ (be_bytes w32 z ++ rest)), length-append (be_bytes w32 y) (be_bytes w32 z ++ rest), length-append (be_bytes w32 z) rest, wide32.len x, wide32.len y, wide32.len z)) in
    let same : bth_from x y z ≡ b = same_bth b x y z fx.0 (is_bit b.solicited _ fx.1) (is_bit b.migrated _ fx.2) fx.3 fx.5 fy.1 (is_bit b.ack _ fz.0) fz.1 in
    let version : eqb (version_of x) 0 ≡ true = eq-eqb _ _ fx.4 in
    ap bth_at regrouped ∙ rw (long, number_again w32 (2 ^ 32) wide32 x (be_bytes w32 y ++ (be_bytes w32 z ++ rest)) fx.6, number_again w32 (2 ^ 32) wide32 y (be_bytes w32 z ++ rest) fy.2, number_again w32 (2 ^ 32) wide32 z rest fz.2, version, same) refl
