-- Packets that follow from the standard's tables, byte for byte, so that a wrong definition does not check.
use Rattle.std.proofs.Common.{◌≡◌, ℕ, false, List, [], ◌∷◌, Some, None, take, drop, refl}
use Rattle.ca_wire.specs.declared.atomic_eth.AtomicEth.{AtomicEth}
use Rattle.ca_wire.specs.declared.reth.Reth.{Reth}
use Rattle.ca_wire.specs.declared.requests.SendKind.TheVariants.{WithInvalidate}
use Rattle.ca_wire.specs.declared.segment.Segment.{Segment}
use Rattle.ca_wire.specs.declared.syndrome.NakCode.TheVariants.{RemoteAccessError}
use Rattle.ca_wire.specs.declared.wire_error.WireError.TheVariants.{TooShort, Version, Opcode, Length, Pad}
use Rattle.ca_wire.specs.Builders.{acknowledgement, nak, rnr_nak, atomic_acknowledge, read_response, send_packet, write_packet, read_request, cmp_swap}
use Rattle.ca_wire.specs.Packet.{be_bytes, packet_bytes, spelling, refusal_of}
use Rattle.ca_wire.specs.Table.{row_of}

-- the only packet of its message
abbrev only : Segment
only = record { index = 0; count = 1 }

-- the last of two
abbrev last : Segment
last = record { index = 1; count = 2 }

abbrev reth : Reth
reth = record { address = 0x100000000; key = record { 0 = 1 }; length = 1 }

abbrev atomic : AtomicEth
atomic = record { address = 0x100000008; key = record { 0 = 1 }; swap = 77; compare = 0 }

-- an RDMA WRITE Only of the one byte 0xab
abbrev write_bytes : List ℕ
write_bytes = 0x0a ∷ 0x30 ∷ 0xff ∷ 0xff ∷ 0x00 ∷ 0x00 ∷ 0x01 ∷ 0x00 ∷ 0x80 ∷ 0x00 ∷ 0x00 ∷ 0x00 ∷ 0x00 ∷ 0x00 ∷ 0x00 ∷ 0x01 ∷ 0x00 ∷ 0x00 ∷ 0x00 ∷ 0x00 ∷ 0x00 ∷ 0x00 ∷ 0x00 ∷ 0x01 ∷ 0x00 ∷ 0x00 ∷ 0x00 ∷ 0x01 ∷ 0xab ∷ 0x00 ∷ 0x00 ∷ 0x00 ∷ []

pub record AreWorked : Type 0 where
  pub write : spelling (write_packet only reth None false 256 0 (0xab ∷ [])) ≡ write_bytes
  pub acknowledged : spelling (acknowledgement 256 0 1) ≡ 0x11 ∷ 0x00 ∷ 0xff ∷ 0xff ∷ 0x00 ∷ 0x00 ∷ 0x01 ∷ 0x00 ∷ 0x00 ∷ 0x00 ∷ 0x00 ∷ 0x00 ∷ 0x1f ∷ 0x00 ∷ 0x00 ∷ 0x01 ∷ []
  pub denied : spelling (nak RemoteAccessError 256 1 1) ≡ 0x11 ∷ 0x00 ∷ 0xff ∷ 0xff ∷ 0x00 ∷ 0x00 ∷ 0x01 ∷ 0x00 ∷ 0x00 ∷ 0x00 ∷ 0x00 ∷ 0x01 ∷ 0x62 ∷ 0x00 ∷ 0x00 ∷ 0x01 ∷ []
  pub not_ready : spelling (rnr_nak 12 256 0 0) ≡ 0x11 ∷ 0x00 ∷ 0xff ∷ 0xff ∷ 0x00 ∷ 0x00 ∷ 0x01 ∷ 0x00 ∷ 0x00 ∷ 0x00 ∷ 0x00 ∷ 0x00 ∷ 0x2c ∷ 0x00 ∷ 0x00 ∷ 0x00 ∷ []
  pub found : spelling (atomic_acknowledge 0x0102030405060708 257 6 6) ≡ 0x12 ∷ 0x00 ∷ 0xff ∷ 0xff ∷ 0x00 ∷ 0x00 ∷ 0x01 ∷ 0x01 ∷ 0x00 ∷ 0x00 ∷ 0x00 ∷ 0x06 ∷ 0x1f ∷ 0x00 ∷ 0x00 ∷ 0x06 ∷ 0x01 ∷ 0x02 ∷ 0x03 ∷ 0x04 ∷ 0x05 ∷ 0x06 ∷ 0x07 ∷ 0x08 ∷ []
  pub last_read : spelling (read_response last 256 1 3 (0xab ∷ [])) ≡ 0x0f ∷ 0x30 ∷ 0xff ∷ 0xff ∷ 0x00 ∷ 0x00 ∷ 0x01 ∷ 0x00 ∷ 0x00 ∷ 0x00 ∷ 0x00 ∷ 0x01 ∷ 0x1f ∷ 0x00 ∷ 0x00 ∷ 0x03 ∷ 0xab ∷ 0x00 ∷ 0x00 ∷ 0x00 ∷ []
  pub invalidate : spelling (send_packet (WithInvalidate (record { 0 = 0x08000138 })) last false 17 165 (0x74 ∷ [])) ≡ 0x16 ∷ 0x30 ∷ 0xff ∷ 0xff ∷ 0x00 ∷ 0x00 ∷ 0x00 ∷ 0x11 ∷ 0x80 ∷ 0x00 ∷ 0x00 ∷ 0xa5 ∷ 0x08 ∷ 0x00 ∷ 0x01 ∷ 0x38 ∷ 0x74 ∷ 0x00 ∷ 0x00 ∷ 0x00 ∷ []
  pub read : spelling (read_request reth 256 4) ≡ 0x0c ∷ 0x00 ∷ 0xff ∷ 0xff ∷ 0x00 ∷ 0x00 ∷ 0x01 ∷ 0x00 ∷ 0x80 ∷ 0x00 ∷ 0x00 ∷ 0x04 ∷ 0x00 ∷ 0x00 ∷ 0x00 ∷ 0x01 ∷ 0x00 ∷ 0x00 ∷ 0x00 ∷ 0x00 ∷ 0x00 ∷ 0x00 ∷ 0x00 ∷ 0x01 ∷ 0x00 ∷ 0x00 ∷ 0x00 ∷ 0x01 ∷ []
  pub swap : spelling (cmp_swap atomic 256 0xffffff) ≡ 0x13 ∷ 0x00 ∷ 0xff ∷ 0xff ∷ 0x00 ∷ 0x00 ∷ 0x01 ∷ 0x00 ∷ 0x80 ∷ 0xff ∷ 0xff ∷ 0xff ∷ 0x00 ∷ 0x00 ∷ 0x00 ∷ 0x01 ∷ 0x00 ∷ 0x00 ∷ 0x00 ∷ 0x08 ∷ 0x00 ∷ 0x00 ∷ 0x00 ∷ 0x01 ∷ 0x00 ∷ 0x00 ∷ 0x00 ∷ 0x00 ∷ 0x00 ∷ 0x00 ∷ 0x00 ∷ 0x4d ∷ 0x00 ∷ 0x00 ∷ 0x00 ∷ 0x00 ∷ 0x00 ∷ 0x00 ∷ 0x00 ∷ 0x00 ∷ []

pub worked : AreWorked
unfolding packet_bytes be_bytes row_of
worked = record { write = refl; acknowledged = refl; denied = refl; not_ready = refl; found = refl; last_read = refl; invalidate = refl; read = refl; swap = refl }

-- the same WRITE, with a byte changed or left out
pub record AreRefused : Type 0 where
  pub none : refusal_of write_bytes ≡ None
  pub short : refusal_of (take 11 write_bytes) ≡ Some TooShort
  pub version : refusal_of (0x0a ∷ 0x31 ∷ drop 2 write_bytes) ≡ Some Version
  pub opcode : refusal_of (0x15 ∷ drop 1 write_bytes) ≡ Some Opcode
  pub headers : refusal_of (take 27 write_bytes) ≡ Some TooShort
  pub length : refusal_of (take 31 write_bytes) ≡ Some Length
  pub pad : refusal_of (take 28 write_bytes) ≡ Some Pad

pub refused : AreRefused
unfolding refusal_of row_of
refused = record { none = refl; short = refl; version = refl; opcode = refl; headers = refl; length = refl; pad = refl }
