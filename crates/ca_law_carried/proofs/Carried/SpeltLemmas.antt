-- A packet that is spelt is read again, with its numbers of 32 and 64 bits as those have room for. For proofs only.
use Rattle.std.proofs.Common.{IfSome, None, Option, Some, [], ap, arith, is_some, length, option_map, refl, replicate, sym, ℕ, ◌%◌, ◌++◌, ◌/◌, ◌<◌, ◌^◌, ◌∙◌, ◌≡◌}
use Rattle.std.specs.Int.{w32, w64}
use Rattle.std.specs.List.{flat_map}
use Rattle.std.specs.Option.{option_map_or}
use Rattle.std.specs.Result.{result_ok}
use Rattle.ca_model.specs.Packets.{packet_of}
use Rattle.ca_wire.proofs.PacketLaws.{packet_again}
use Rattle.ca_wire.proofs.WritingLaws.{spelling_spells}
use Rattle.ca_wire.specs.Packet.{Fields, FitsAtomic, FitsBits, FitsReth, IsWellFormed, atomic_bytes, be_bytes, bth_bytes, bth_of, canonical, header_bytes, packet_bytes, pad_count, reth_bytes, spelling}
use Rattle.ca_wire.specs.Table.{AETH, AtomicAckETH, AtomicETH, Header, IETH, ImmDt, RETH, headers_of}
use Rattle.ca_wire.specs.declared.atomic_eth.AtomicEth.{AtomicEth}
use Rattle.ca_wire.specs.declared.reth.Reth.{Reth}

-- the numbers that a packet's bits have room for
abbrev pub short_reth : Reth → Reth
short_reth h = record { address = h.address % 2 ^ 64; key = record { 0 = h.key.0 % 2 ^ 32 }; length = h.length % 2 ^ 32 }

abbrev pub short_atomic : AtomicEth → AtomicEth
short_atomic h = record { address = h.address % 2 ^ 64; key = record { 0 = h.key.0 % 2 ^ 32 }; swap = h.swap % 2 ^ 64; compare = h.compare % 2 ^ 64 }

abbrev pub shortened : Fields → Fields
shortened f = record f {
  reth = option_map short_reth f.reth;
  atomic = option_map short_atomic f.atomic;
  «result» = option_map (λ n. n % 2 ^ 64) f.«result»;
  imm = option_map (λ n. n % 2 ^ 32) f.imm;
  ieth = option_map (λ n. n % 2 ^ 32) f.ieth;
}

digits32 : (n : ℕ) → be_bytes w32 (n % 2 ^ 32) ≡ be_bytes w32 n
unfolding be_bytes
digits32 n =
    let e3 : n % 4294967296 / 16777216 % 256 ≡ n / 16777216 % 256 = omega arith in
    let e4 : n % 4294967296 / 65536 % 256 ≡ n / 65536 % 256 = omega arith in
    let e5 : n % 4294967296 / 256 % 256 ≡ n / 256 % 256 = omega arith in
    let e6 : n % 4294967296 % 256 ≡ n % 256 = omega arith in
    rw (e3, e4, e5, e6) refl

digits64 : (n : ℕ) → be_bytes w64 (n % 2 ^ 64) ≡ be_bytes w64 n
unfolding be_bytes
digits64 n =
    let e0 : n % 18446744073709551616 / 72057594037927936 % 256 ≡ n / 72057594037927936 % 256 = omega arith in
    let e1 : n % 18446744073709551616 / 281474976710656 % 256 ≡ n / 281474976710656 % 256 = omega arith in
    let e2 : n % 18446744073709551616 / 1099511627776 % 256 ≡ n / 1099511627776 % 256 = omega arith in
    let e3 : n % 18446744073709551616 / 4294967296 % 256 ≡ n / 4294967296 % 256 = omega arith in
    let e4 : n % 18446744073709551616 / 16777216 % 256 ≡ n / 16777216 % 256 = omega arith in
    let e5 : n % 18446744073709551616 / 65536 % 256 ≡ n / 65536 % 256 = omega arith in
    let e6 : n % 18446744073709551616 / 256 % 256 ≡ n / 256 % 256 = omega arith in
    let e7 : n % 18446744073709551616 % 256 ≡ n % 256 = omega arith in
    rw (e0, e1, e2, e3, e4, e5, e6, e7) refl

header-same : (f : Fields) (h : Header) → header_bytes (shortened f) h ≡ header_bytes f h
header-same f RETH = by f.reth
  where
    by : (o : Option Reth) → option_map_or reth_bytes (option_map short_reth o) [] ≡ option_map_or reth_bytes o []
    by None = refl
    by (Some h) = λ i. digits64 h.address i ++ (digits32 h.key.0 i ++ digits32 h.length i)
header-same f AtomicETH = by f.atomic
  where
    by : (o : Option AtomicEth) → option_map_or atomic_bytes (option_map short_atomic o) [] ≡ option_map_or atomic_bytes o []
    by None = refl
    by (Some h) = λ i. digits64 h.address i ++ (digits32 h.key.0 i ++ (digits64 h.swap i ++ digits64 h.compare i))
header-same f AETH = refl
header-same f AtomicAckETH = by f.«result»
  where
    by : (o : Option ℕ) → option_map_or (be_bytes w64) (option_map (λ n. n % 2 ^ 64) o) [] ≡ option_map_or (be_bytes w64) o []
    by None = refl
    by (Some n) = digits64 n
header-same f ImmDt = by f.imm
  where
    by : (o : Option ℕ) → option_map_or (be_bytes w32) (option_map (λ n. n % 2 ^ 32) o) [] ≡ option_map_or (be_bytes w32) o []
    by None = refl
    by (Some n) = digits32 n
header-same f IETH = by f.ieth
  where
    by : (o : Option ℕ) → option_map_or (be_bytes w32) (option_map (λ n. n % 2 ^ 32) o) [] ≡ option_map_or (be_bytes w32) o []
    by None = refl
    by (Some n) = digits32 n

-- both are spelt alike
pub spelling-same : (f : Fields) → spelling (shortened f) ≡ spelling f
unfolding packet_bytes
spelling-same f = λ i. bth_bytes (canonical (pad_count (length f.payload))) (bth_of f)
    ++ (flat_map (λ h. header-same f h i) (headers_of f.opcode) ++ (f.payload ++ replicate (pad_count (length f.payload)) 0))

-- a packet that can be spelt, whatever its numbers of 32 and 64 bits
pub record IsSpelt (f : Fields) : Type 0 where
  pub well : IsWellFormed f
  pub pkey : f.pkey < 2 ^ 16
  pub syndrome : IfSome f.aeth (λ a. a.syndrome < 2 ^ 8)

map-some : {A B : Type 0} (g : A → B) (o : Option A) → is_some (option_map g o) ≡ is_some o
map-some g None = refl
map-some g (Some x) = refl

short-well : (f : Fields) → IsWellFormed f → IsWellFormed (shortened f)
short-well f well = record {
  known = well.known;
  reth = map-some short_reth f.reth ∙ well.reth;
  atomic = map-some short_atomic f.atomic ∙ well.atomic;
  aeth = well.aeth;
  «result» = map-some (λ n. n % 2 ^ 64) f.«result» ∙ well.«result»;
  imm = map-some (λ n. n % 2 ^ 32) f.imm ∙ well.imm;
  ieth = map-some (λ n. n % 2 ^ 32) f.ieth ∙ well.ieth;
  queue = well.queue;
  psn = well.psn;
  msn = well.msn;
  most = well.most;
  empty = well.empty;
}

short-fits : (f : Fields) → IsSpelt f → FitsBits (shortened f)
short-fits f spelt = record {
  pkey = spelt.pkey;
  reth = reths f.reth;
  atomic = atomics f.atomic;
  syndrome = spelt.syndrome;
  «result» = sixty f.«result»;
  imm = thirty f.imm;
  ieth = thirty f.ieth;
}
  where
    reths : (o : Option Reth) → IfSome (option_map short_reth o) FitsReth
    reths None = record {}
    reths (Some h) = (omega arith, omega arith, omega arith)

    atomics : (o : Option AtomicEth) → IfSome (option_map short_atomic o) FitsAtomic
    atomics None = record {}
    atomics (Some h) = (omega arith, omega arith, omega arith, omega arith)

    sixty : (o : Option ℕ) → IfSome (option_map (λ n. n % 2 ^ 64) o) (λ n. n < 2 ^ 64)
    sixty None = record {}
    sixty (Some n) = omega arith

    thirty : (o : Option ℕ) → IfSome (option_map (λ n. n % 2 ^ 32) o) (λ n. n < 2 ^ 32)
    thirty None = record {}
    thirty (Some n) = omega arith

-- what is spelt is read again
pub spelt-again : (f : Fields) → IsSpelt f → packet_of (spelling f) ≡ Some (shortened f)
spelt-again f spelt = ap packet_of (sym (spelling-same f))
    ∙ ap result_ok (packet_again (spelling (shortened f)) (shortened f) (spelling_spells (shortened f) (short-well f spelt.well) (short-fits f spelt)))
