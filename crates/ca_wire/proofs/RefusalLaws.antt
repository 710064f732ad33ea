-- Reading fails exactly where a test refuses the bytes, and with the fault of that test.
use Rattle.ca_base.specs.ca_keys.Refusals.{first_of}
use Rattle.ca_base.specs.declared.limits.TheConstants.{MAX_PAYLOAD_BYTES}
use Rattle.ca_wire.specs.declared.bth.TheConstants.{BTH_BYTES}
use Rattle.ca_wire.specs.Packet.{headers_size, opcode_in, version_in, pad_in, refusal_of, bth_refusal_of}
use Rattle.ca_wire.specs.Decoding.{number_at, bth_at, bth_from, version_of, payload_at, payload_behind, ◌>>=◌, headers_at, body_in, fields_from, packet_in, front_at}
use Rattle.ca_wire.specs.Table.{Row, size_of, row_of, allows_payload}
use Rattle.ca_wire.specs.declared.bth.Bth.{Bth}
use Rattle.ca_wire.specs.declared.headers.Headers.{Headers}
use Rattle.ca_wire.specs.declared.wire_error.WireError.{WireError}
use Rattle.ca_wire.specs.declared.wire_error.WireError.TheVariants.{TooShort, Length, Pad, Opcode}
use Rattle.std.proofs.Common.{◌≡◌, ℕ, ◌-◌, ◌/◌, ◌%◌, ◌^◌, ◌≤◌, Bool, true, false, not, ◌&&◌, cond, eqb, ltb, List, [], ◌∷◌, length, take, drop, Option, Some, None, Result, Ok, Err, refl, sym, ap, ◌∙◌, arith, inl, inr}
use Rattle.std.proofs.lemmas.Bool.{le-ltb, eq-eqb, ne_eqb, cases_eq, lt-ltb, cases_lt}
use Rattle.std.proofs.lemmas.List.{get_or-take, length-drop}
use Rattle.std.specs.Int.{w32}
use Rattle.std.specs.Prelude.{is_none, sum_by}
use Rattle.ca_wire.proofs.NumberLaws.{IsBytes, wide32, number_takes}
use Rattle.ca_wire.proofs.PacketLaws.{after_bth}

-- the fault of a reading
abbrev pub fault : {A : Type 0} → Result A WireError → Option WireError
fault (Ok x) = None
fault (Err e) = Some e

fault_after : {A B C : Type 0} (r : Result A WireError) (f : A → B) (g : B → C) → fault ((r >>= λ x. Ok (f x)) >>= λ y. Ok (g y)) ≡ fault r
fault_after (Ok x) f g = refl
fault_after (Err e) f g = refl

abbrev payload_tests : ℕ → Bool → ℕ → List (Bool × WireError)
payload_tests n allowed pad =
    (not (eqb (n % 4) 0), Length)
    ∷ (not (eqb n 0) && not allowed, Length)
    ∷ (ltb MAX_PAYLOAD_BYTES (n - pad), Length)
    ∷ (eqb n 0 && not (eqb pad 0), Pad)
    ∷ []

abbrev opcode_tests : Option Row → ℕ → ℕ → Bool → ℕ → ℕ → List (Bool × WireError)
opcode_tests row n size allowed rest pad = (is_none row, Opcode) ∷ (ltb n size, TooShort) ∷ payload_tests rest allowed pad

four_tests : {A : Type 0} (a b c d : Bool) (ea eb ec ed : WireError) (x : A) → fault (cond a (Err ea) (cond b (Err eb) (cond c (Err ec) (cond d (Err ed) (Ok x))))) ≡ first_of ((a, ea) ∷ (b, eb) ∷ (c, ec) ∷ (d, ed) ∷ [])
four_tests true b c d ea eb ec ed x = refl
four_tests false true c d ea eb ec ed x = refl
four_tests false false true d ea eb ec ed x = refl
four_tests false false false true ea eb ec ed x = refl
four_tests false false false false ea eb ec ed x = refl

payload_fault : (allowed : Bool) (pad : ℕ) (rest : List ℕ) → fault (payload_at allowed pad rest) ≡ first_of (payload_tests (length rest) allowed pad)
unfolding payload_at
payload_fault allowed pad rest =
    let n = length rest in
    four_tests (not (eqb (n % 4) 0)) (not (eqb n 0) && not allowed) (ltb MAX_PAYLOAD_BYTES (n - pad)) (eqb n 0 && not (eqb pad 0)) Length Length Length Pad (take (n - pad) rest)

row_fault : (b : Bth × List ℕ) (o : Option Row) → row_of b.0.opcode ≡ o → fault (after_bth b) ≡ first_of (opcode_tests (row_of b.0.opcode) (length b.1) (headers_size b.0.opcode) (allows_payload b.0.opcode) (length b.1 - headers_size b.0.opcode) b.0.pad)
unfolding body_in payload_behind
row_fault b None e = rw e refl
row_fault b (Some r) e =
    let size = sum_by size_of r.headers in
    rw e (elim (cases_lt (length b.1) size) [
      | inl lt ↦ rw (lt-ltb (length b.1) size lt) refl
      | inr le ↦ rw (le-ltb (length b.1) size le) (fault_after (payload_at r.payload b.0.pad (drop size b.1)) (λ (p : List ℕ). ((headers_at r.headers b.1).0, p)) (λ (x : Headers × List ℕ). fields_from b.0 x.0 x.1) ∙ payload_fault r.payload b.0.pad (drop size b.1) ∙ ap (λ n. first_of (payload_tests n r.payload b.0.pad)) (length-drop size b.1))
    ])

-- the first word holds the opcode, the pad count and the version where the bytes do
pub in_first_word : (bytes : List ℕ) → IsBytes bytes → ((number_at w32 bytes).0 / 2 ^ 24 ≡ opcode_in bytes) × ((number_at w32 bytes).0 / 2 ^ 20 % 4 ≡ pad_in bytes) × (version_of (number_at w32 bytes).0 ≡ version_in bytes)
unfolding number_at
in_first_word bytes fits =
    let g0 = get_or-take 4 bytes 0 0 (omega arith) in
    let g1 = get_or-take 4 bytes 1 0 (omega arith) in
    let g2 = get_or-take 4 bytes 2 0 (omega arith) in
    let g3 = get_or-take 4 bytes 3 0 (omega arith) in
    (omega (arith, g0, g1, g2, g3, fits 0, fits 1, fits 2, fits 3), omega (arith, g0, g1, g2, g3, fits 0, fits 1, fits 2, fits 3), omega (arith, g0, g1, g2, g3, fits 0, fits 1, fits 2, fits 3))

refused_long : (bytes : List ℕ) → IsBytes bytes → BTH_BYTES ≤ length bytes → refusal_of bytes ≡ fault (packet_in bytes)
unfolding refusal_of packet_in bth_at
refused_long bytes fits long =
    let a = number_at w32 bytes in
    let b = number_at w32 a.1 in
    let c = number_at w32 b.1 in
    let ta = number_takes w32 (2 ^ 32) wide32 bytes fits (omega arith) in
    let la = ta.len in
    let tb = number_takes w32 (2 ^ 32) wide32 a.1 ta.fits (omega arith) in
    let lb = tb.len in
    let tc = number_takes w32 (2 ^ 32) wide32 b.1 tb.fits (omega arith) in
    let lc = tc.len in
    let len : length bytes - BTH_BYTES ≡ length c.1 = omega arith in
    let w = in_first_word bytes fits in
    rw (le-ltb (length bytes) BTH_BYTES long, ← w.2) (elim (cases_eq (version_of a.0) 0) [
      | inl is ↦ rw (eq-eqb _ _ is, len, ← w.0, ← w.1) (sym (row_fault (bth_from a.0 b.0 c.0, c.1) _ refl))
      | inr ne ↦ rw (ne_eqb _ _ ne) refl
    ])

-- reading fails exactly where a test refuses
pub refusal_is : (bytes : List ℕ) → IsBytes bytes → refusal_of bytes ≡ fault (packet_in bytes)
unfolding refusal_of packet_in bth_at
refusal_is bytes fits =
    elim (cases_lt (length bytes) BTH_BYTES) [
      | inl lt ↦ rw (lt-ltb (length bytes) BTH_BYTES lt) refl
      | inr le ↦ refused_long bytes fits le
    ]

pub front_refused : (bytes : List ℕ) → IsBytes bytes → bth_refusal_of bytes ≡ fault (front_at bytes)
unfolding bth_at front_at
front_refused bytes fits =
    elim (cases_lt (length bytes) BTH_BYTES) [
      | inl lt ↦ rw (lt-ltb (length bytes) BTH_BYTES lt) refl
      | inr le ↦
          let w = in_first_word bytes fits in
          rw (le-ltb (length bytes) BTH_BYTES le, ← w.2) (elim (cases_eq (version_of (number_at w32 bytes).0) 0) [
            | inl is ↦ rw (eq-eqb _ _ is) refl
            | inr ne ↦ rw (ne_eqb _ _ ne) refl
          ])
    ]
