-- Reading a packet from left to right, with the first fault that is met. Contracts cite it; the grammar is in Packet.antt.
use Rattle.std.specs.Prelude.{◌≡◌, ℕ, ◌+◌, ◌-◌, ◌/◌, ◌%◌, ◌^◌, ◌==◌, nat_lt, Bool, true, false, not, ◌&&◌, if◌then◌else◌, List, length, take, drop, sum_by, Option, Some, None, Result, Ok, Err}
use Rattle.std.specs.Int.{Width, w32, w64, byte_len, from_be_bytes}
use Rattle.std.specs.Option.{ok_or}
use Rattle.ca_base.specs.declared.limits.TheConstants.{MAX_PAYLOAD_BYTES}
use Rattle.ca_wire.specs.declared.bth.Bth.{Bth}
use Rattle.ca_wire.specs.declared.bth.TheConstants.{BTH_BYTES}
use Rattle.ca_wire.specs.declared.reth.Reth.{Reth}
use Rattle.ca_wire.specs.declared.atomic_eth.AtomicEth.{AtomicEth}
use Rattle.ca_wire.specs.declared.aeth.Aeth.{Aeth}
use Rattle.ca_wire.specs.declared.headers.Headers.{Headers}
use Rattle.ca_wire.specs.declared.wire_error.WireError.{WireError}
use Rattle.ca_wire.specs.declared.wire_error.WireError.TheVariants.{TooShort, Version, Opcode, Length, Pad}
use Rattle.ca_wire.specs.Table.{Header, RETH, AtomicETH, AETH, AtomicAckETH, ImmDt, IETH, row_of, has, size_of}
use Rattle.ca_wire.specs.Packet.{Fields}

-- what a function returned, seen by view, is what reading gives
abbrev pub Returns : {X Y : Type 0} → (X → Y) → Result X WireError → Result Y WireError → Type 0
Returns view (Ok x) read = read ≡ Ok (view x)
Returns view (Err e) read = read ≡ Err e

-- a step after another, where that one did not fail
infixl 10 ◌>>=◌
abbrev pub ◌>>=◌ : {A B : Type 0} → Result A WireError → (A → Result B WireError) → Result B WireError
(Ok x) >>= f = f x
(Err e) >>= f = Err e

-- the number at the front, and the bytes after it
unfoldable pub number_at : Width → List ℕ → ℕ × List ℕ
number_at w bytes = (from_be_bytes w (take (byte_len w) bytes), drop (byte_len w) bytes)

-- the base transport header of three words
abbrev pub bth_from : ℕ → ℕ → ℕ → Bth
bth_from a b c = record {
  opcode = a / 2 ^ 24;
  solicited = a / 2 ^ 23 % 2 == 1;
  migrated = a / 2 ^ 22 % 2 == 1;
  pad = a / 2 ^ 20 % 4;
  pkey = a % 2 ^ 16;
  queue = b % 2 ^ 24;
  ack = c / 2 ^ 31 == 1;
  psn = c % 2 ^ 24;
}

-- the header version in the first word
abbrev pub version_of : ℕ → ℕ
version_of a = a / 2 ^ 16 % 16

-- the base transport header at the front, and the bytes after it
unfoldable pub bth_at : List ℕ → Result (Bth × List ℕ) WireError
bth_at bytes =
    if nat_lt (length bytes) BTH_BYTES then Err TooShort else
    (let a = number_at w32 bytes in
    let b = number_at w32 a.1 in
    let c = number_at w32 b.1 in
    if version_of a.0 == 0 then Ok (bth_from a.0 b.0 c.0, c.1) else Err Version)

-- the base transport header, whatever follows it
unfoldable pub front_at : List ℕ → Result Bth WireError
front_at bytes = do
  b ← bth_at bytes
  Ok b.0

-- as many bytes as a header has, where it is there
abbrev pub if_there : Bool → ℕ → ℕ
if_there present size = if present then size else 0

-- how many bytes these headers have, each counted once
abbrev pub flags_size : List Header → ℕ
flags_size hs =
    if_there (has RETH hs) 16 + if_there (has AtomicETH hs) 28 + if_there (has AETH hs) 4
    + if_there (has AtomicAckETH hs) 8 + if_there (has ImmDt hs) 4 + if_there (has IETH hs) 4

-- the RETH at the front
unfoldable pub reth_from : List ℕ → Reth
reth_from bytes =
    let a = number_at w64 bytes in
    let b = number_at w32 a.1 in
    let c = number_at w32 b.1 in
    record { address = a.0; key = record { 0 = b.0 }; length = c.0 }

-- the AtomicETH at the front
unfoldable pub atomic_from : List ℕ → AtomicEth
atomic_from bytes =
    let a = number_at w64 bytes in
    let b = number_at w32 a.1 in
    let c = number_at w64 b.1 in
    let d = number_at w64 c.1 in
    record { address = a.0; key = record { 0 = b.0 }; swap = c.0; compare = d.0 }

-- the AETH of one word
abbrev pub aeth_of_word : ℕ → Aeth
aeth_of_word a = record { syndrome = a / 2 ^ 24; msn = a % 2 ^ 24 }

-- the AETH at the front
unfoldable pub aeth_from : List ℕ → Aeth
aeth_from bytes = aeth_of_word (number_at w32 bytes).0

-- the number at the front
unfoldable pub number_from : Width → List ℕ → ℕ
number_from w bytes = (number_at w bytes).0

-- a header of this many bytes at the front where it is there, and the bytes after it
abbrev pub part_at : {X : Type 0} → ℕ → (List ℕ → X) → Bool → List ℕ → Option X × List ℕ
part_at size read false bytes = (None, bytes)
part_at size read true bytes = (Some (read bytes), drop size bytes)

-- these headers at the front, and the bytes after them
abbrev pub headers_at : List Header → List ℕ → Headers × List ℕ
headers_at hs bytes =
    let a = part_at 16 reth_from (has RETH hs) bytes in
    let b = part_at 28 atomic_from (has AtomicETH hs) a.1 in
    let c = part_at 4 aeth_from (has AETH hs) b.1 in
    let d = part_at 8 (number_from w64) (has AtomicAckETH hs) c.1 in
    let e = part_at 4 (number_from w32) (has ImmDt hs) d.1 in
    let f = part_at 4 (number_from w32) (has IETH hs) e.1 in
    (record { reth = a.0; atomic = b.0; aeth = c.0; «result» = d.0; imm = e.0; ieth = f.0 }, f.1)

-- the payload of what follows the headers
unfoldable pub payload_at : Bool → ℕ → List ℕ → Result (List ℕ) WireError
payload_at allowed pad rest =
    if not (length rest % 4 == 0) then Err Length
    else if not (length rest == 0) && not allowed then Err Length
    else if nat_lt MAX_PAYLOAD_BYTES (length rest - pad) then Err Length
    else if (length rest == 0) && not (pad == 0) then Err Pad
    else Ok (take (length rest - pad) rest)

-- the packet of its parts
abbrev pub fields_from : Bth → Headers → List ℕ → Fields
fields_from b h payload = record {
  opcode = b.opcode;
  solicited = b.solicited;
  migrated = b.migrated;
  pkey = b.pkey;
  queue = b.queue;
  ack = b.ack;
  psn = b.psn;
  reth = h.reth;
  atomic = h.atomic;
  aeth = h.aeth;
  «result» = h.«result»;
  imm = h.imm;
  ieth = h.ieth;
  payload = payload;
}

-- the payload behind headers of this many bytes, where they are whole
unfoldable pub payload_behind : ℕ → Bool → ℕ → List ℕ → Result (List ℕ) WireError
payload_behind size allowed pad bytes =
    if nat_lt (length bytes) size then Err TooShort else payload_at allowed pad (drop size bytes)

-- the headers of this opcode at the front, and the payload behind them
unfoldable pub body_in : ℕ → ℕ → List ℕ → Result (Headers × List ℕ) WireError
body_in opcode pad bytes = do
  r ← ok_or (row_of opcode) Opcode
  p ← payload_behind (sum_by size_of r.headers) r.payload pad bytes
  Ok ((headers_at r.headers bytes).0, p)

-- the packet that all of the bytes spell
unfoldable pub packet_in : List ℕ → Result Fields WireError
packet_in bytes = do
  b ← bth_at bytes
  x ← body_in b.0.opcode b.0.pad b.1
  Ok (fields_from b.0 x.0 x.1)
