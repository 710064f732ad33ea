-- The grammar of packets: which bytes spell which packet, field by field, and what refuses the others. Contracts cite it.
use Rattle.std.specs.Prelude.{◌≡◌, ℕ, ◌+◌, ◌-◌, ◌*◌, ◌/◌, ◌%◌, ◌^◌, ◌<◌, ◌≤◌, ◌==◌, nat_lt, max, Bool, false, not, ◌&&◌, if◌then◌else◌, List, [], ◌∷◌, ◌++◌, length, fold, slice_index, replicate, sum_by, Option, None, is_some, is_none, IsSome, IfSome}
use Rattle.std.specs.Int.{Width, w32, w64, to_be_bytes}
use Rattle.std.specs.List.{flat_map}
use Rattle.std.specs.Option.{option_map_or}
use Rattle.ca_base.specs.ca_keys.Refusals.{first_of}
use Rattle.ca_base.specs.declared.limits.TheConstants.{MAX_PAYLOAD_BYTES}
use Rattle.ca_wire.specs.declared.bth.Bth.{Bth}
use Rattle.ca_wire.specs.declared.bth.TheConstants.{BTH_BYTES}
use Rattle.ca_wire.specs.declared.reth.Reth.{Reth}
use Rattle.ca_wire.specs.declared.atomic_eth.AtomicEth.{AtomicEth}
use Rattle.ca_wire.specs.declared.aeth.Aeth.{Aeth}
use Rattle.ca_wire.specs.declared.packet.TheConstants.{DEFAULT_PKEY}
use Rattle.ca_wire.specs.declared.wire_error.WireError.{WireError}
use Rattle.ca_wire.specs.declared.wire_error.WireError.TheVariants.{TooShort, Version, Opcode, Length, Pad}
use Rattle.ca_wire.specs.Table.{Header, RETH, AtomicETH, AETH, AtomicAckETH, ImmDt, IETH, has, size_of, row_of, headers_of, allows_payload}

-- what a packet says, apart from where its payload lies: contracts see a packet as this
pub record Fields : Type 0 where
  pub opcode : ℕ
  pub solicited : Bool
  pub migrated : Bool
  pub pkey : ℕ
  pub queue : ℕ
  pub ack : Bool
  pub psn : ℕ
  pub reth : Option Reth
  pub atomic : Option AtomicEth
  pub aeth : Option Aeth
  pub «result» : Option ℕ
  pub imm : Option ℕ
  pub ieth : Option ℕ
  pub payload : List ℕ

-- whether this header follows the base transport header of a packet with this opcode
abbrev pub follows : Header → ℕ → Bool
follows header opcode = has header (headers_of opcode)

-- The opcode is known, the headers are those of the opcode, the numbers of 24 bits are below 2^24, and the payload
-- has at most MAX_PAYLOAD_BYTES bytes and stands only where the table allows one.
pub record IsWellFormed (f : Fields) : Type 0 where
  pub known : IsSome (row_of f.opcode)
  pub reth : is_some f.reth ≡ follows RETH f.opcode
  pub atomic : is_some f.atomic ≡ follows AtomicETH f.opcode
  pub aeth : is_some f.aeth ≡ follows AETH f.opcode
  pub «result» : is_some f.«result» ≡ follows AtomicAckETH f.opcode
  pub imm : is_some f.imm ≡ follows ImmDt f.opcode
  pub ieth : is_some f.ieth ≡ follows IETH f.opcode
  pub queue : f.queue < 2 ^ 24
  pub psn : f.psn < 2 ^ 24
  pub msn : IfSome f.aeth (λ a. a.msn < 2 ^ 24)
  pub most : length f.payload ≤ MAX_PAYLOAD_BYTES
  pub empty : allows_payload f.opcode ≡ false → f.payload ≡ []

-- the numbers of a RETH fit their bits
abbrev pub FitsReth : Reth → Type 0
FitsReth h = (h.address < 2 ^ 64) × (h.key.0 < 2 ^ 32) × (h.length < 2 ^ 32)

-- the numbers of an AtomicETH fit their bits
abbrev pub FitsAtomic : AtomicEth → Type 0
FitsAtomic h = (h.address < 2 ^ 64) × (h.key.0 < 2 ^ 32) × (h.swap < 2 ^ 64) × (h.compare < 2 ^ 64)

-- Every other number fits the bits that its field has, as the types of a packet have it.
pub record FitsBits (f : Fields) : Type 0 where
  pub pkey : f.pkey < 2 ^ 16
  pub reth : IfSome f.reth FitsReth
  pub atomic : IfSome f.atomic FitsAtomic
  pub syndrome : IfSome f.aeth (λ a. a.syndrome < 2 ^ 8)
  pub «result» : IfSome f.«result» (λ n. n < 2 ^ 64)
  pub imm : IfSome f.imm (λ n. n < 2 ^ 32)
  pub ieth : IfSome f.ieth (λ n. n < 2 ^ 32)

-- a number as bytes, the highest first
unfoldable pub be_bytes : Width → ℕ → List ℕ
be_bytes w n = to_be_bytes w n

-- a flag as one bit
abbrev pub bit : Bool → ℕ
bit b = if b then 1 else 0

-- a number by its fields, from the highest bit down: how many bits each has, and what it says
abbrev pub number_of_fields : List (ℕ × ℕ) → ℕ
number_of_fields fields = fold (λ n field. n * 2 ^ field.0 + field.1) 0 fields

-- four bytes, by their fields
abbrev pub bytes_of_fields : List (ℕ × ℕ) → List ℕ
bytes_of_fields fields = be_bytes w32 (number_of_fields fields)

-- how many pad bytes lead from this many bytes to a multiple of four
abbrev pub pad_count : ℕ → ℕ
pad_count n = (4 - n % 4) % 4

-- what a receiver ignores: the eight bits before the destination, the seven bits before the PSN, the pad bytes
pub record Ignored : Type 0 where
  pub before_queue : ℕ
  pub before_psn : ℕ
  pub pad : List ℕ

-- the base transport header of a packet
abbrev pub bth_of : Fields → Bth
bth_of f = record {
  opcode = f.opcode;
  solicited = f.solicited;
  migrated = f.migrated;
  pad = pad_count (length f.payload);
  pkey = f.pkey;
  queue = f.queue;
  ack = f.ack;
  psn = f.psn;
}

-- the fields of a base transport header fit their bits
pub record FitsBth (b : Bth) : Type 0 where
  pub opcode : b.opcode < 2 ^ 8
  pub pad : b.pad < 4
  pub pkey : b.pkey < 2 ^ 16
  pub queue : b.queue < 2 ^ 24
  pub psn : b.psn < 2 ^ 24

-- OpCode 8, SE 1, M 1, Pad 2, TVer 4, P_Key 16
abbrev pub first_word : Bth → List (ℕ × ℕ)
first_word b = (8, b.opcode) ∷ (1, bit b.solicited) ∷ (1, bit b.migrated) ∷ (2, b.pad) ∷ (4, 0) ∷ (16, b.pkey) ∷ []

-- reserved 8, DestQP 24
abbrev pub second_word : ℕ → Bth → List (ℕ × ℕ)
second_word reserved b = (8, reserved) ∷ (24, b.queue) ∷ []

-- A 1, reserved 7, PSN 24
abbrev pub third_word : ℕ → Bth → List (ℕ × ℕ)
third_word reserved b = (1, bit b.ack) ∷ (7, reserved) ∷ (24, b.psn) ∷ []

-- the three words of the base transport header
abbrev pub bth_bytes : Ignored → Bth → List ℕ
bth_bytes i b = bytes_of_fields (first_word b) ++ (bytes_of_fields (second_word i.before_queue b) ++ bytes_of_fields (third_word i.before_psn b))

-- virtual address 64, R_Key 32, DMA length 32
abbrev pub reth_bytes : Reth → List ℕ
reth_bytes h = be_bytes w64 h.address ++ (be_bytes w32 h.key.0 ++ be_bytes w32 h.length)

-- virtual address 64, R_Key 32, swap or add 64, compare 64
abbrev pub atomic_bytes : AtomicEth → List ℕ
atomic_bytes h = be_bytes w64 h.address ++ (be_bytes w32 h.key.0 ++ (be_bytes w64 h.swap ++ be_bytes w64 h.compare))

-- syndrome 8, MSN 24
abbrev pub aeth_bytes : Aeth → List ℕ
aeth_bytes h = bytes_of_fields ((8, h.syndrome) ∷ (24, h.msn) ∷ [])

-- a header as the packet has it
abbrev pub header_bytes : Fields → Header → List ℕ
header_bytes f RETH = option_map_or reth_bytes f.reth []
header_bytes f AtomicETH = option_map_or atomic_bytes f.atomic []
header_bytes f AETH = option_map_or aeth_bytes f.aeth []
header_bytes f AtomicAckETH = option_map_or (be_bytes w64) f.«result» []
header_bytes f ImmDt = option_map_or (be_bytes w32) f.imm []
header_bytes f IETH = option_map_or (be_bytes w32) f.ieth []

-- the base transport header, the headers of the opcode in the table's order, the payload and the pad bytes
unfoldable pub packet_bytes : Ignored → Fields → List ℕ
packet_bytes i f = bth_bytes i (bth_of f) ++ (flat_map (header_bytes f) (headers_of f.opcode) ++ (f.payload ++ i.pad))

-- These bytes spell this packet: what is ignored may be anything that has its place.
pub record Spells (bytes : List ℕ) (f : Fields) : Type 0 where
  pub well_formed : IsWellFormed f
  pub fits : FitsBits f
  pub ignored : Ignored
  pub before_queue : ignored.before_queue < 2 ^ 8
  pub before_psn : ignored.before_psn < 2 ^ 7
  pub pad : length ignored.pad ≡ pad_count (length f.payload)
  pub whole : bytes ≡ packet_bytes ignored f

-- what a sender puts in place of what is ignored: zeros, with this many pad bytes
abbrev pub canonical : ℕ → Ignored
canonical pad = record { before_queue = 0; before_psn = 0; pad = replicate pad 0 }

-- the canonical spelling
abbrev pub spelling : Fields → List ℕ
spelling f = packet_bytes (canonical (pad_count (length f.payload))) f

-- how many bytes the headers of the opcode have
abbrev pub headers_size : ℕ → ℕ
headers_size opcode = sum_by size_of (headers_of opcode)

-- how many bytes spell a packet: those of the base transport header, of the opcode's headers, of the payload and its pad
abbrev pub spelling_size : Fields → ℕ
spelling_size f = BTH_BYTES + headers_size f.opcode + length f.payload + pad_count (length f.payload)

-- The most bytes that spell a packet with so many bytes of payload: the 40 of an atomic, which carries none, or those of a
-- WRITE with immediate data and its pad.
abbrev pub most_spelt : ℕ → ℕ
most_spelt count = max 40 (count + 35)

-- The most that spell a response: the 24 of an ATOMIC Acknowledge, which carries none, or those of a READ Response with an
-- AETH and its pad.
abbrev pub most_of_response : ℕ → ℕ
most_of_response count = max 24 (count + 19)

-- These bytes spell this base transport header.
pub record SpellsBth (bytes : List ℕ) (b : Bth) : Type 0 where
  pub fits : FitsBth b
  pub ignored : Ignored
  pub before_queue : ignored.before_queue < 2 ^ 8
  pub before_psn : ignored.before_psn < 2 ^ 7
  pub whole : bytes ≡ bth_bytes ignored b

-- the first byte
abbrev pub opcode_in : List ℕ → ℕ
opcode_in bytes = slice_index bytes 0

-- the low half of the second byte
abbrev pub version_in : List ℕ → ℕ
version_in bytes = slice_index bytes 1 % 16

-- the two bits above it
abbrev pub pad_in : List ℕ → ℕ
pad_in bytes = slice_index bytes 1 / 16 % 4

-- how many bytes stand after the headers
abbrev pub rest_in : List ℕ → ℕ
rest_in bytes = length bytes - BTH_BYTES - headers_size (opcode_in bytes)

-- why these bytes are no packet: the first of the ordered tests that holds
unfoldable pub refusal_of : List ℕ → Option WireError
refusal_of bytes = first_of (
    (nat_lt (length bytes) BTH_BYTES, TooShort)
    ∷ (not (version_in bytes == 0), Version)
    ∷ (is_none (row_of (opcode_in bytes)), Opcode)
    ∷ (nat_lt (length bytes - BTH_BYTES) (headers_size (opcode_in bytes)), TooShort)
    ∷ (not (rest_in bytes % 4 == 0), Length)
    ∷ (not (rest_in bytes == 0) && not (allows_payload (opcode_in bytes)), Length)
    ∷ (nat_lt MAX_PAYLOAD_BYTES (rest_in bytes - pad_in bytes), Length)
    ∷ ((rest_in bytes == 0) && not (pad_in bytes == 0), Pad)
    ∷ [])

-- why these bytes do not begin with a base transport header
abbrev pub bth_refusal_of : List ℕ → Option WireError
bth_refusal_of bytes = first_of ((nat_lt (length bytes) BTH_BYTES, TooShort) ∷ (not (version_in bytes == 0), Version) ∷ [])

-- the packet with this opcode, for this queue pair, at this PSN, in the default partition: no flag is set, and no header
-- and no payload stands behind the base transport header
abbrev pub plain : ℕ → ℕ → ℕ → Fields
plain opcode queue psn = record {
  opcode = opcode;
  solicited = false;
  migrated = false;
  pkey = DEFAULT_PKEY;
  queue = queue;
  ack = false;
  psn = psn;
  reth = None;
  atomic = None;
  aeth = None;
  «result» = None;
  imm = None;
  ieth = None;
  payload = [];
}
