-- Each header that was read is the one that was written, and the other way round.
use Rattle.ca_wire.specs.Packet.{be_bytes, number_of_fields, reth_bytes, atomic_bytes, aeth_bytes, FitsReth, FitsAtomic}
use Rattle.ca_wire.specs.Decoding.{number_at, if_there, reth_from, atomic_from, aeth_of_word, aeth_from, number_from, part_at}
use Rattle.ca_wire.specs.declared.aeth.Aeth.{Aeth}
use Rattle.ca_wire.specs.declared.atomic_eth.AtomicEth.{AtomicEth}
use Rattle.ca_wire.specs.declared.reth.Reth.{Reth}
use Rattle.std.proofs.Common.{◌≡◌, ℕ, ◌+◌, ◌/◌, ◌%◌, ◌^◌, ◌<◌, ◌≤◌, Bool, true, false, List, [], ◌∷◌, ◌++◌, length, drop, Option, Some, None, refl, ap, ◌∙◌, append_assoc, arith}
use Rattle.std.proofs.lemmas.List.{drop-drop, drop_at, length-drop, length-append}
use Rattle.std.specs.Int.{Width, w32, w64, byte_len}
use Rattle.std.specs.Option.{option_map_or}
use Rattle.std.specs.Prelude.{IfSome, is_some}
use Rattle.ca_wire.proofs.NumberLaws.{IsBytes, IsBytes-drop, IsWide, wide32, wide64, number_takes, number_again}
use Rattle.ca_wire.proofs.Steps.{join}
use Rattle.ca_wire.proofs.BthLaws.{second_fields}

-- how a header of this many bytes is read and spelt
pub record IsHeaderOf {X : Type 0} (size : ℕ) (read : List ℕ → X) (spell : X → List ℕ) (Holds : X → Type 0) : Type 0 where
  pub len : (x : X) → length (spell x) ≡ size
  pub takes : (bytes : List ℕ) → IsBytes bytes → size ≤ length bytes → bytes ≡ spell (read bytes) ++ drop size bytes
  pub holds : (bytes : List ℕ) → IsBytes bytes → size ≤ length bytes → Holds (read bytes)
  pub again : (x : X) (rest : List ℕ) → Holds x → read (spell x ++ rest) ≡ x

reth_takes : (bytes : List ℕ) → IsBytes bytes → 16 ≤ length bytes → (bytes ≡ reth_bytes (reth_from bytes) ++ drop 16 bytes) × FitsReth (reth_from bytes)
unfolding reth_from number_at
reth_takes bytes fits long =
    let a = number_at w64 bytes in
    let b = number_at w32 a.1 in
    let c = number_at w32 b.1 in
    let ta = number_takes w64 (2 ^ 64) wide64 bytes fits (omega arith) in
    let tb = number_takes w32 (2 ^ 32) wide32 a.1 ta.fits (omega (arith, ta.len)) in
    let tc = number_takes w32 (2 ^ 32) wide32 b.1 tb.fits (omega (arith, ta.len, tb.len)) in
    let end : c.1 ≡ drop 16 bytes = ap (drop 4) (drop-drop 4 8 bytes) ∙ drop-drop 4 12 bytes in
    (join bytes _ a.1 _ c.1 ta.parts (join a.1 _ b.1 _ c.1 tb.parts tc.parts) ∙ ap (λ (t : List ℕ). reth_bytes (reth_from bytes) ++ t) end, (ta.below, tb.below, tc.below))

reth_again : (h : Reth) (rest : List ℕ) → FitsReth h → reth_from (reth_bytes h ++ rest) ≡ h
unfolding reth_from
reth_again h rest fits =
    let a = be_bytes w64 h.address in
    let b = be_bytes w32 h.key.0 in
    let c = be_bytes w32 h.length in
    let regrouped : (a ++ (b ++ c)) ++ rest ≡ a ++ (b ++ (c ++ rest)) = append_assoc a (b ++ c) rest ∙ ap (λ (t : List ℕ). a ++ t) (append_assoc b c rest) in
    ap reth_from regrouped ∙ rw (number_again w64 (2 ^ 64) wide64 h.address (b ++ (c ++ rest)) fits.0, number_again w32 (2 ^ 32) wide32 h.key.0 (c ++ rest) fits.1, number_again w32 (2 ^ 32) wide32 h.length rest fits.2) refl

pub reth_header : IsHeaderOf 16 reth_from reth_bytes FitsReth
reth_header = record {
  len = λ h. omega (arith, length-append (be_bytes w64 h.address) (be_bytes w32 h.key.0 ++ be_bytes w32 h.length), length-append (be_bytes w32 h.key.0) (be_bytes w32 h.length), wide64.len h.address, wide32.len h.key.0, wide32.len h.length);
  takes = λ bytes fits long. (reth_takes bytes fits long).0;
  holds = λ bytes fits long. (reth_takes bytes fits long).1;
  again = reth_again;
}

atomic_takes : (bytes : List ℕ) → IsBytes bytes → 28 ≤ length bytes → (bytes ≡ atomic_bytes (atomic_from bytes) ++ drop 28 bytes) × FitsAtomic (atomic_from bytes)
unfolding atomic_from number_at
atomic_takes bytes fits long =
    let a = number_at w64 bytes in
    let b = number_at w32 a.1 in
    let c = number_at w64 b.1 in
    let d = number_at w64 c.1 in
    let ta = number_takes w64 (2 ^ 64) wide64 bytes fits (omega arith) in
    let tb = number_takes w32 (2 ^ 32) wide32 a.1 ta.fits (omega (arith, ta.len)) in
    let tc = number_takes w64 (2 ^ 64) wide64 b.1 tb.fits (omega (arith, ta.len, tb.len)) in
    let td = number_takes w64 (2 ^ 64) wide64 c.1 tc.fits (omega (arith, ta.len, tb.len, tc.len)) in
    let end : d.1 ≡ drop 28 bytes = ap (λ (t : List ℕ). drop 8 (drop 8 t)) (drop-drop 4 8 bytes) ∙ ap (drop 8) (drop-drop 8 12 bytes) ∙ drop-drop 8 20 bytes in
    (join bytes _ a.1 _ d.1 ta.parts (join a.1 _ b.1 _ d.1 tb.parts (join b.1 _ c.1 _ d.1 tc.parts td.parts)) ∙ ap (λ (t : List ℕ). atomic_bytes (atomic_from bytes) ++ t) end, (ta.below, tb.below, tc.below, td.below))

atomic_again : (h : AtomicEth) (rest : List ℕ) → FitsAtomic h → atomic_from (atomic_bytes h ++ rest) ≡ h
unfolding atomic_from
atomic_again h rest fits =
    let a = be_bytes w64 h.address in
    let b = be_bytes w32 h.key.0 in
    let c = be_bytes w64 h.swap in
    let d = be_bytes w64 h.compare in
    let regrouped : (a ++ (b ++ (c ++ d))) ++ rest ≡ a ++ (b ++ (c ++ (d ++ rest))) = append_assoc a (b ++ (c ++ d)) rest ∙ ap (λ (t : List ℕ). a ++ t) (append_assoc b (c ++ d) rest ∙ ap (λ (t : List ℕ). b ++ t) (append_assoc c d rest)) in
    ap atomic_from regrouped ∙ rw (number_again w64 (2 ^ 64) wide64 h.address (b ++ (c ++ (d ++ rest))) fits.0, number_again w32 (2 ^ 32) wide32 h.key.0 (c ++ (d ++ rest)) fits.1, number_again w64 (2 ^ 64) wide64 h.swap (d ++ rest) fits.2, number_again w64 (2 ^ 64) wide64 h.compare rest fits.3) refl

pub atomic_header : IsHeaderOf 28 atomic_from atomic_bytes FitsAtomic
atomic_header = record {
  len = λ h. omega (arith, length-append (be_bytes w64 h.address) (be_bytes w32 h.key.0 ++ (be_bytes w64 h.swap ++ be_bytes w64 h.compare)), length-append (be_bytes w32 h.key.0) (be_bytes w64 h.swap ++ be_bytes w64 h.compare), length-append (be_bytes w64 h.swap) (be_bytes w64 h.compare), wide64.len h.address, wide32.len h.key.0, wide64.len h.swap, wide64.len h.compare);
  takes = λ bytes fits long. (atomic_takes bytes fits long).0;
  holds = λ bytes fits long. (atomic_takes bytes fits long).1;
  again = atomic_again;
}

abbrev pub FitsAeth : Aeth → Type 0
FitsAeth h = (h.syndrome < 2 ^ 8) × (h.msn < 2 ^ 24)

aeth_takes : (bytes : List ℕ) → IsBytes bytes → 4 ≤ length bytes → (bytes ≡ aeth_bytes (aeth_from bytes) ++ drop 4 bytes) × FitsAeth (aeth_from bytes)
unfolding aeth_from number_at
aeth_takes bytes fits long =
    let a = number_at w32 bytes in
    let ta = number_takes w32 (2 ^ 32) wide32 bytes fits (omega arith) in
    let same : number_of_fields ((8, a.0 / 2 ^ 24) ∷ (24, a.0 % 2 ^ 24) ∷ []) ≡ a.0 = omega arith in
    (rw same ta.parts, (omega (arith, ta.below), omega arith))

same_aeth : (h : Aeth) (a : ℕ) → a / 2 ^ 24 ≡ h.syndrome → a % 2 ^ 24 ≡ h.msn → aeth_of_word a ≡ h
same_aeth h a e f = rw (e, f) refl

aeth_again : (h : Aeth) (rest : List ℕ) → FitsAeth h → aeth_from (aeth_bytes h ++ rest) ≡ h
unfolding aeth_from
aeth_again h rest fits =
    let a = number_of_fields ((8, h.syndrome) ∷ (24, h.msn) ∷ []) in
    let f = second_fields h.syndrome h.msn a fits.0 fits.1 refl in
    rw (number_again w32 (2 ^ 32) wide32 a rest f.2) (same_aeth h a f.0 f.1)

pub aeth_header : IsHeaderOf 4 aeth_from aeth_bytes FitsAeth
aeth_header = record {
  len = λ h. wide32.len _;
  takes = λ bytes fits long. (aeth_takes bytes fits long).0;
  holds = λ bytes fits long. (aeth_takes bytes fits long).1;
  again = aeth_again;
}

number_from_takes : (w : Width) (limit : ℕ) (wide : IsWide w limit) (bytes : List ℕ) → IsBytes bytes → byte_len w ≤ length bytes → (bytes ≡ be_bytes w (number_from w bytes) ++ drop (byte_len w) bytes) × (number_from w bytes < limit)
unfolding number_from number_at
number_from_takes w limit wide bytes fits long = let t = number_takes w limit wide bytes fits long in (t.parts, t.below)

number_from_again : (w : Width) (limit : ℕ) (wide : IsWide w limit) (n : ℕ) (rest : List ℕ) → n < limit → number_from w (be_bytes w n ++ rest) ≡ n
unfolding number_from
number_from_again w limit wide n rest below = ap (λ (x : ℕ × List ℕ). x.0) (number_again w limit wide n rest below)

pub number_header : (w : Width) (limit : ℕ) (wide : IsWide w limit) → IsHeaderOf (byte_len w) (number_from w) (be_bytes w) (λ n. n < limit)
number_header w limit wide = record {
  len = wide.len;
  takes = λ bytes fits long. (number_from_takes w limit wide bytes fits long).0;
  holds = λ bytes fits long. (number_from_takes w limit wide bytes fits long).1;
  again = number_from_again w limit wide;
}

-- a header that was read where it is there
pub record IsPart {X : Type 0} (present : Bool) (size : ℕ) (spell : X → List ℕ) (Holds : X → Type 0) (bytes : List ℕ) (found : Option X) (rest : List ℕ) : Type 0 where
  pub parts : bytes ≡ option_map_or spell found [] ++ rest
  pub fits : IsBytes rest
  pub there : is_some found ≡ present
  pub holds : IfSome found Holds
  pub len : length rest + if_there present size ≡ length bytes

pub part_takes : {X : Type 0} (size : ℕ) (read : List ℕ → X) (spell : X → List ℕ) (Holds : X → Type 0) → IsHeaderOf size read spell Holds → (present : Bool) (bytes : List ℕ) → IsBytes bytes → if_there present size ≤ length bytes → IsPart present size spell Holds bytes (part_at size read present bytes).0 (part_at size read present bytes).1
part_takes size read spell Holds h false bytes fits long = record { parts = refl; fits = fits; there = refl; holds = tt; len = omega arith }
part_takes size read spell Holds h true bytes fits long = record {
  parts = h.takes bytes fits long;
  fits = IsBytes-drop size bytes fits;
  there = refl;
  holds = h.holds bytes fits long;
  len = omega (arith, length-drop size bytes);
}

pub part_again : {X : Type 0} (size : ℕ) (read : List ℕ → X) (spell : X → List ℕ) (Holds : X → Type 0) → IsHeaderOf size read spell Holds → (o : Option X) (rest : List ℕ) → IfSome o Holds → part_at size read (is_some o) (option_map_or spell o [] ++ rest) ≡ (o, rest)
part_again size read spell Holds h None rest fits = refl
part_again size read spell Holds h (Some x) rest fits = rw (h.again x rest fits, drop_at (spell x) rest size (h.len x)) refl

pub part_length : {X : Type 0} (size : ℕ) (read : List ℕ → X) (spell : X → List ℕ) (Holds : X → Type 0) → IsHeaderOf size read spell Holds → (o : Option X) → length (option_map_or spell o []) ≡ if_there (is_some o) size
part_length size read spell Holds h None = refl
part_length size read spell Holds h (Some x) = h.len x

pub part_rest : {X : Type 0} (size : ℕ) (read : List ℕ → X) (present : Bool) (bytes : List ℕ) → (part_at size read present bytes).1 ≡ drop (if_there present size) bytes
part_rest size read false bytes = refl
part_rest size read true bytes = refl
