-- An ATOMIC Acknowledge that was read has its result, and of a result the eight lowest bytes count. For proofs only.
use Rattle.std.proofs.Common.{◌≡◌, ℕ, ◌/◌, ◌%◌, ◌^◌, true, List, [], ◌∷◌, Some, is_some, Ok, refl, ap, sym, subst, ◌∙◌, arith}
use Rattle.std.proofs.lemmas.Option.{same_Some}
use Rattle.std.specs.Option.{ok_or}
use Rattle.std.specs.Prelude.{sum_by}
use Rattle.ca_keys.specs.Memory.{little_endian_bytes}
use Rattle.ca_wire.proofs.AllHeaders.{known_row}
use Rattle.ca_wire.proofs.PacketLaws.{after_body, after_bth, after_row, with_headers}
use Rattle.ca_wire.proofs.Steps.{bind_ok, ok_is}
use Rattle.ca_wire.specs.Decoding.{bth_at, body_in, fields_from, headers_at, packet_in, payload_behind}
use Rattle.ca_wire.specs.Packet.{Fields}
use Rattle.ca_wire.specs.Table.{Row, row_of, size_of}
use Rattle.ca_wire.specs.declared.headers.Headers.{Headers}
use Rattle.ca_wire.specs.declared.opcode.TheConstants.{ATOMIC_ACKNOWLEDGE}
use Rattle.ca_wire.specs.declared.wire_error.WireError.TheVariants.{Opcode}

-- a packet has the headers of the row of its opcode
record HasHeaders (p : Fields) : Type 0 where
  row : Row
  known : row_of p.opcode ≡ Some row
  rest : List ℕ
  «result» : p.«result» ≡ (headers_at row.headers rest).0.«result»

packet-read : (bytes : List ℕ) (p : Fields) → packet_in bytes ≡ Ok p → HasHeaders p
unfolding packet_in body_in
packet-read bytes p is =
    let b = bind_ok (bth_at bytes) after_bth p is in
    let x = bind_ok (body_in b.0.0.opcode b.0.0.pad b.0.1) (after_body b.0.0) p b.2 in
    let r = bind_ok (ok_or (row_of b.0.0.opcode) Opcode) (after_row b.0.0.pad b.0.1) x.0 x.1 in
    let t = bind_ok (payload_behind (sum_by size_of r.0.headers) r.0.payload b.0.0.pad b.0.1) (with_headers r.0 b.0.1) x.0 r.2 in
    let whole : fields_from b.0.0 x.0.0 x.0.1 ≡ p = ok_is _ _ x.2 in record {
      row = r.0;
      known = ap (λ (g : Fields). row_of g.opcode) (sym whole) ∙ known_row (row_of b.0.0.opcode) r.0 r.1;
      rest = b.0.1;
      «result» = ap (λ (g : Fields). g.«result») (sym whole) ∙ ap (λ (y : Headers × List ℕ). y.0.«result») (sym (ok_is _ _ t.2));
    }

atomic-row : (row : Row) (rest : List ℕ) → row_of ATOMIC_ACKNOWLEDGE ≡ Some row → is_some (headers_at row.headers rest).0.«result» ≡ true
unfolding row_of
atomic-row row rest known = subst (λ (r : Row). is_some (headers_at r.headers rest).0.«result» ≡ true) (same_Some _ row known) refl

pub atomic-has-result : (bytes : List ℕ) (p : Fields) → packet_in bytes ≡ Ok p → p.opcode ≡ ATOMIC_ACKNOWLEDGE → is_some p.«result» ≡ true
atomic-has-result bytes p is opcode = let h = packet-read bytes p is in ap is_some h.«result» ∙ atomic-row h.row h.rest (ap row_of (sym opcode) ∙ h.known)

-- the eight bytes of a number are those of its rest modulo 2^64
pub low-bytes : (n : ℕ) → little_endian_bytes (n % 2 ^ 64) ≡ little_endian_bytes n
low-bytes n = λ i. first i ∷ second i ∷ third i ∷ fourth i ∷ fifth i ∷ sixth i ∷ seventh i ∷ eighth i ∷ []
  where
    first : n % 2 ^ 64 % 256 ≡ n % 256
    first = omega arith

    second : n % 2 ^ 64 / 256 % 256 ≡ n / 256 % 256
    second = omega arith

    third : n % 2 ^ 64 / 256 ^ 2 % 256 ≡ n / 256 ^ 2 % 256
    third = omega arith

    fourth : n % 2 ^ 64 / 256 ^ 3 % 256 ≡ n / 256 ^ 3 % 256
    fourth = omega arith

    fifth : n % 2 ^ 64 / 256 ^ 4 % 256 ≡ n / 256 ^ 4 % 256
    fifth = omega arith

    sixth : n % 2 ^ 64 / 256 ^ 5 % 256 ≡ n / 256 ^ 5 % 256
    sixth = omega arith

    seventh : n % 2 ^ 64 / 256 ^ 6 % 256 ≡ n / 256 ^ 6 % 256
    seventh = omega arith

    eighth : n % 2 ^ 64 / 256 ^ 7 % 256 ≡ n / 256 ^ 7 % 256
    eighth = omega arith
