-- The packet that a requester's turn sends. Contracts cite it.
use Rattle.std.specs.Prelude.{◌≡◌, ℕ, ◌≤◌, ◌<◌, ◌^◌, true, false, List, ◌++◌, Option, Some, None, Result, Ok, Err, is_some, length, map, take}
use Rattle.std.specs.List.{flat_map}
use Rattle.ca_keys.specs.declared.access.Ask.{Ask}
use Rattle.ca_keys.specs.declared.key.Key.{Key}
use Rattle.ca_keys.specs.declared.memory.Memory.{Memory}
use Rattle.ca_base.specs.declared.limits.TheConstants.{MAX_PAYLOAD_BYTES}
use Rattle.ca_base.specs.Sight.{Sight, bytes_in, first_denied}
use Rattle.ca_base.specs.objects.QueuePair.{QueuePair}
use Rattle.ca_wire.specs.declared.reth.Reth.{Reth}
use Rattle.ca_wire.specs.Packet.{Fields, IsWellFormed}
use Rattle.ca_model.specs.Marks.{MarkList}
use Rattle.ca_model.specs.declared.marks.TheConstants.{SPARE_MARKS}
use Rattle.ca_model.specs.Requests.{is_local, request_packet}
use Rattle.ca_model.specs.machine.Numbering.{Numbered}
use Rattle.ca_model.specs.machine.Requester.{index_of_packet, local_reads, peer_number, psn_bits, spelt_packet}
use Rattle.ca_qp_rows.specs.Made.{IsSpelt}
use Rattle.ca_requester_sends.specs.Numbering.{IsSound}
use Rattle.ca_requester_sends.specs.declared.packet.Head.{Head}
use Rattle.ca_requester_sends.specs.declared.sending.Reading.{Reading}
use Rattle.ca_requester_sends.specs.declared.sending.Reading.TheVariants as readings

-- the next thing is a packet of this request
pub record IsPacket (q : QueuePair) (n : Numbered) : Type 0 where
  pub sound : IsSound q n
  pub sent : is_local n.request.op ≡ false
  pub index : index_of_packet q n < n.count

-- the fields of that packet, with a payload
abbrev pub packet_fields : QueuePair → Numbered → List ℕ → Option Fields
packet_fields q n payload = request_packet q.responder.mtu n.request (index_of_packet q n) (peer_number q) (psn_bits q.requester.cursor) payload

-- what fits a packet: it has an index below the count, and numbers and a payload that a packet has room for
pub record IsHead (h : Head) : Type 0 where
  pub index : h.index < h.count
  pub queue : h.queue < 2 ^ 24
  pub psn : h.psn < 2 ^ 24
  pub payload : length h.payload.now ≤ MAX_PAYLOAD_BYTES

-- what that packet has of its queue pair and of its request, and its payload
pub record IsHeadOf (q : QueuePair) (n : Numbered) (payload : List ℕ) (h : Head) : Type 0 where
  pub fits : IsHead h
  pub index : h.index ≡ index_of_packet q n
  pub count : h.count ≡ n.count
  pub solicited : h.solicited ≡ n.request.solicited
  pub queue : h.queue ≡ peer_number q
  pub psn : h.psn ≡ psn_bits q.requester.cursor
  pub carries : h.payload.now ≡ payload

-- a well-formed packet with these fields
pub record IsBuilt (fields : Option Fields) (p : Fields) : Type 0 where
  pub is : fields ≡ Some p
  pub well_formed : IsWellFormed p

-- what a WRITE reaches
abbrev pub reth_of : ℕ → Key → ℕ → Reth
reth_of address key count = record { address = address; key = key; length = count }

-- none of the asks is denied: each was read, and has its mark, and the packet is spelt with their bytes
pub record HasSpelt (s : Sight) (q : QueuePair) (n : Numbered) (asks : List Ask) (before after : MarkList) (out_before out_after : List ℕ) : Type 0 where
  pub granted : first_denied s asks ≡ None
  pub marks : after.marks ≡ before.marks ++ local_reads asks (map (bytes_in s) asks)
  pub room : SPARE_MARKS ≤ after.room
  pub out : IsSpelt (spelt_packet q n (flat_map (λ b. b) (map (bytes_in s) asks))) out_before out_after

-- the marks that there were stand in front, and no packet is spelt
pub record HasFront (before after : MarkList) (out_before out_after : List ℕ) : Type 0 where
  pub marks : take (length before.marks) after.marks ≡ before.marks
  pub out : out_after ≡ out_before

-- what came of reading the bytes of a packet and spelling it; where it is not spelt, some marks may stand behind those
-- that there were
abbrev pub IsSpelling : Sight → QueuePair → Numbered → List Ask → Result Reading Memory → MarkList → MarkList → List ℕ → List ℕ → Type 0
IsSpelling s q n asks (Ok readings.Spelt) before after out_before out_after = HasSpelt s q n asks before after out_before out_after
IsSpelling s q n asks (Ok readings.Denied) before after out_before out_after =
    (is_some (first_denied s asks) ≡ true) × HasFront before after out_before out_after
IsSpelling s q n asks (Err memory) before after out_before out_after = HasFront before after out_before out_after

-- the same, where nothing changes unless it is spelt
abbrev pub IsSpellingOrNone : Sight → QueuePair → Numbered → List Ask → Result Reading Memory → MarkList → MarkList → List ℕ → List ℕ → Type 0
IsSpellingOrNone s q n asks (Ok readings.Spelt) before after out_before out_after = HasSpelt s q n asks before after out_before out_after
IsSpellingOrNone s q n asks (Ok readings.Denied) before after out_before out_after =
    (is_some (first_denied s asks) ≡ true) × ((after.marks ≡ before.marks) × (out_after ≡ out_before))
IsSpellingOrNone s q n asks (Err memory) before after out_before out_after = (after.marks ≡ before.marks) × (out_after ≡ out_before)
