-- The packets that both sides spell are those of their entries, where they decode.
use Rattle.std.proofs.Common.{◌≡◌, ℕ, ◌/◌, ◌%◌, ◌^◌, ◌<◌, List, [], ◌∷◌, ◌++◌, drop, Some, IfSome, refl, ap, sym, subst, ◌∙◌, arith, append_assoc}
use Rattle.std.proofs.lemmas.List.{drop_at, take_at}
use Rattle.std.proofs.lemmas.Option.{same_Some}
use Rattle.std.specs.Int.{w32, w64}
use Rattle.std.specs.Option.{option_and_then}
use Rattle.ca_wire.proofs.HeaderLaws.{aeth_header}
use Rattle.ca_wire.proofs.NumberLaws.{number_again, wide32, wide64}
use Rattle.ca_wire.specs.Decoding.{aeth_from, headers_at, number_at, number_from, reth_from}
use Rattle.ca_wire.specs.Packet.{Fields, aeth_bytes, be_bytes, reth_bytes}
use Rattle.ca_wire.specs.Table.{AETH, AtomicAckETH, Header, RETH, Row, row_of}
use Rattle.ca_wire.specs.declared.aeth.Aeth.{Aeth}
use Rattle.ca_wire.specs.declared.reth.Reth.{Reth}
use Rattle.ca_law_once.specs.Entries.{syndrome_of}
use Rattle.ca_wire.proofs.SyndromeLaws.{received}
use Rattle.ca_wire.specs.Builders.{acknowledge, aeth_of, atomic_acknowledge, fine_aeth, read_request}
use Rattle.ca_wire.specs.Syndrome.{FitsSyndrome, syndrome_byte, syndrome_in}
use Rattle.ca_wire.specs.declared.syndrome.Syndrome.{Syndrome}
use Rattle.ca_wire.specs.declared.syndrome.Syndrome.TheVariants as syndromes
use Rattle.ca_wire.specs.declared.syndrome.NakCode.TheVariants as codes
use Rattle.ca_law_once.proofs.Rows.DecodeLemmas.{Decoded, behind_bth}

-- eight bytes of a number are those of what is left of it modulo 2^64
low-bytes : (n : ℕ) → be_bytes w64 n ≡ be_bytes w64 (n % 2 ^ 64)
unfolding be_bytes
low-bytes n =
    let e0 : n % 2 ^ 64 / 72057594037927936 % 256 ≡ n / 72057594037927936 % 256 = omega arith in
    let e1 : n % 2 ^ 64 / 281474976710656 % 256 ≡ n / 281474976710656 % 256 = omega arith in
    let e2 : n % 2 ^ 64 / 1099511627776 % 256 ≡ n / 1099511627776 % 256 = omega arith in
    let e3 : n % 2 ^ 64 / 4294967296 % 256 ≡ n / 4294967296 % 256 = omega arith in
    let e4 : n % 2 ^ 64 / 16777216 % 256 ≡ n / 16777216 % 256 = omega arith in
    let e5 : n % 2 ^ 64 / 65536 % 256 ≡ n / 65536 % 256 = omega arith in
    let e6 : n % 2 ^ 64 / 256 % 256 ≡ n / 256 % 256 = omega arith in
    let e7 : n % 2 ^ 64 % 256 ≡ n % 256 = omega arith in
    rw (e0, e1, e2, e3, e4, e5, e6, e7) refl

syndrome-byte : (s : Syndrome) → FitsSyndrome s → syndrome_byte s < 2 ^ 8
syndrome-byte (syndromes.Ack credits) fits = omega (arith, fits)
syndrome-byte (syndromes.RnrNak timer) fits = omega (arith, fits)
syndrome-byte (syndromes.Nak codes.PsnSequenceError) fits = omega arith
syndrome-byte (syndromes.Nak codes.InvalidRequest) fits = omega arith
syndrome-byte (syndromes.Nak codes.RemoteAccessError) fits = omega arith
syndrome-byte (syndromes.Nak codes.RemoteOperationalError) fits = omega arith

-- a RETH that is read says the length that was spelt
reth-length : (h : Reth) (rest : List ℕ) → h.length < 2 ^ 32 → (reth_from (reth_bytes h ++ rest)).length ≡ h.length
unfolding reth_from number_at
reth-length h rest fits =
    let a = be_bytes w64 h.address in
    let b = be_bytes w32 h.key.0 in
    let c = be_bytes w32 h.length in
    let regrouped : (a ++ (b ++ c)) ++ rest ≡ a ++ (b ++ (c ++ rest)) = append_assoc a (b ++ c) rest ∙ ap (λ (t : List ℕ). a ++ t) (append_assoc b c rest) in
    ap (λ (t : List ℕ). (reth_from t).length) regrouped
    ∙ rw (drop_at a (b ++ (c ++ rest)) 8 (wide64.len h.address), drop_at b (c ++ rest) 4 (wide32.len h.key.0), take_at c rest 4 (wide32.len h.length), wide32.again h.length fits) refl

pub read-decoded : (h : Reth) (queue psn : ℕ) (p : Fields) → h.length < 2 ^ 32 → Decoded (read_request h queue psn) p → IfSome p.reth (λ r. r.length ≡ h.length)
unfolding row_of
read-decoded h queue psn p fits dec =
    let f = read_request h queue psn in
    let headers : RETH ∷ [] ≡ dec.row.headers = ap (λ (r : Row). r.headers) (same_Some _ _ dec.known) in
    let there : p.reth ≡ Some (reth_from (behind_bth f)) = dec.reth ∙ ap (λ (hs : List Header). (headers_at hs (behind_bth f)).0.reth) (sym headers) in
    subst (λ o. IfSome o (λ r. r.length ≡ h.length)) (sym there) (ap (λ (t : List ℕ). (reth_from t).length) (append_assoc (reth_bytes h) [] []) ∙ reth-length h [] fits)

pub aeth-decoded : (s : Syndrome) (queue psn msn : ℕ) (p : Fields) → FitsSyndrome s → msn < 2 ^ 24 → Decoded (acknowledge s queue psn msn) p → syndrome_of p ≡ Some s
unfolding row_of
aeth-decoded s queue psn msn p fits below dec =
    let f = acknowledge s queue psn msn in
    let a = aeth_of s msn in
    let headers : AETH ∷ [] ≡ dec.row.headers = ap (λ (r : Row). r.headers) (same_Some _ _ dec.known) in
    let there : p.aeth ≡ Some (aeth_from (behind_bth f)) = dec.aeth ∙ ap (λ (hs : List Header). (headers_at hs (behind_bth f)).0.aeth) (sym headers) in
    let again : aeth_from (behind_bth f) ≡ a = ap aeth_from (append_assoc (aeth_bytes a) [] []) ∙ aeth_header.again a [] (syndrome-byte s fits, below) in
    ap (λ o. option_and_then (λ (a : Aeth). syndrome_in a.syndrome) o) (there ∙ ap (λ x. Some x) again) ∙ received s fits

pub result-decoded : (found queue psn msn : ℕ) (p : Fields) → Decoded (atomic_acknowledge found queue psn msn) p → IfSome p.«result» (λ n. n ≡ found % 2 ^ 64)
unfolding row_of number_from
result-decoded found queue psn msn p dec =
    let f = atomic_acknowledge found queue psn msn in
    let a = fine_aeth msn in
    let headers : AETH ∷ AtomicAckETH ∷ [] ≡ dec.row.headers = ap (λ (r : Row). r.headers) (same_Some _ _ dec.known) in
    let there : p.«result» ≡ Some (number_from w64 (drop 4 (behind_bth f))) = dec.«result» ∙ ap (λ (hs : List Header). (headers_at hs (behind_bth f)).0.«result») (sym headers) in
    let parts : behind_bth f ≡ aeth_bytes a ++ (be_bytes w64 (found % 2 ^ 64) ++ []) =
    append_assoc (aeth_bytes a) (be_bytes w64 found ++ []) [] ∙ ap (λ t. aeth_bytes a ++ t) (append_assoc (be_bytes w64 found) [] []) ∙ ap (λ t. aeth_bytes a ++ (t ++ [])) (low-bytes found) in
    let dropped : drop 4 (behind_bth f) ≡ be_bytes w64 (found % 2 ^ 64) ++ [] = ap (drop 4) parts ∙ drop_at (aeth_bytes a) (be_bytes w64 (found % 2 ^ 64) ++ []) 4 (aeth_header.len a) in
    subst (λ o. IfSome o (λ n. n ≡ found % 2 ^ 64)) (sym there) (ap (number_from w64) dropped ∙ ap (λ (x : ℕ × List ℕ). x.0) (number_again w64 (2 ^ 64) wide64 (found % 2 ^ 64) [] (omega arith)))
