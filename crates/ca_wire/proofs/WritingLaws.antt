-- What is written in parts is the canonical spelling.
use Rattle.ca_base.specs.declared.limits.TheConstants.{MAX_PAYLOAD_BYTES}
use Rattle.ca_wire.specs.declared.bth.TheConstants.{BTH_BYTES}
use Rattle.ca_wire.specs.declared.packet.TheConstants.{MAX_PACKET_BYTES}
use Rattle.ca_wire.specs.Packet.{spelling_size, be_bytes, bth_bytes, reth_bytes, atomic_bytes, aeth_bytes, pad_count, Fields, IsWellFormed, Spells, bth_of, header_bytes, packet_bytes, headers_size, FitsBits, canonical, most_of_response, most_spelt, spelling}
use Rattle.ca_wire.specs.Decoding.{if_there, flags_size}
use Rattle.ca_wire.specs.Table.{row_of, headers_of, allows_payload, request_shape, shape_of}
use Rattle.std.proofs.Common.{◌≡◌, ℕ, ◌+◌, ◌<◌, ◌≤◌, Bool, true, false, cond, List, [], ◌∷◌, ◌++◌, length, take, refl, ap, ◌∙◌, append_assoc, arith, None, Some, zero, suc}
use Rattle.std.proofs.lemmas.List.{length-replicate, length-append}
use Rattle.std.specs.Int.{w32, w64}
use Rattle.std.specs.List.{flat_map}
use Rattle.std.specs.Option.{option_map_or}
use Rattle.std.specs.Prelude.{is_some, replicate}
use Rattle.ca_wire.proofs.AllHeaders.{shown, all_headers, in_table_order, some_row, with_row, those_of, shown_length}
use Rattle.ca_wire.proofs.BthLaws.{bth_length}
use Rattle.ca_wire.proofs.PacketLaws.{one_packet_at_most}
use Rattle.ca_wire.proofs.TableRows.{row_answer, row_orderly}

-- the headers that the opcode has are as long as those that are there
pub size_is : (f : Fields) → IsWellFormed f → headers_size f.opcode ≡ if_there (is_some f.reth) 16 + if_there (is_some f.atomic) 28 + if_there (is_some f.aeth) 4 + if_there (is_some f.«result») 8 + if_there (is_some f.imm) 4 + if_there (is_some f.ieth) 4
size_is f good =
    let r = some_row (row_of f.opcode) good.known in
    let w = with_row f.opcode r.0 r.1 in
    let row = row_orderly f.opcode r.0 r.1 in
    let those = those_of f r.0 r.1 good in
    rw (those.reth, those.atomic, those.aeth, those.«result», those.imm, those.ieth, w.0) row.0.size

in_parts : (old h a b c d e f payload pad : List ℕ) → old ++ (h ++ ((a ++ (b ++ (c ++ (d ++ (e ++ (f ++ [])))))) ++ (payload ++ pad))) ≡ ((((((((old ++ h) ++ a) ++ b) ++ c) ++ d) ++ e) ++ f) ++ payload) ++ pad
in_parts old h a b c d e f payload pad = simp append_assoc

pub spelling_is : (f : Fields) (old : List ℕ) → IsWellFormed f → old ++ spelling f ≡ (((((((((old ++ bth_bytes (canonical 0) (bth_of f)) ++ option_map_or reth_bytes f.reth []) ++ option_map_or atomic_bytes f.atomic []) ++ option_map_or aeth_bytes f.aeth []) ++ option_map_or (be_bytes w64) f.«result» []) ++ option_map_or (be_bytes w32) f.imm []) ++ option_map_or (be_bytes w32) f.ieth []) ++ f.payload) ++ replicate (pad_count (length f.payload)) 0)
unfolding packet_bytes
spelling_is f old good =
    let r = some_row (row_of f.opcode) good.known in
    let w = with_row f.opcode r.0 r.1 in
    let row = row_orderly f.opcode r.0 r.1 in
    let those = those_of f r.0 r.1 good in
    let same_headers : flat_map (header_bytes f) (headers_of f.opcode) ≡ shown (all_headers f) = rw w.0 (in_table_order f r.0 row.0 those) in
    ap (λ (t : List ℕ). old ++ (bth_bytes (canonical 0) (bth_of f) ++ (t ++ (f.payload ++ replicate (pad_count (length f.payload)) 0)))) same_headers
    ∙ in_parts old _ _ _ _ _ _ _ _ _

pub zeros : (n : ℕ) → n < 4 → take {A = ℕ} n (0 ∷ 0 ∷ 0 ∷ []) ≡ replicate n 0
zeros zero h = refl
zeros (suc zero) h = refl
zeros (suc (suc zero)) h = refl
zeros (suc (suc (suc zero))) h = refl
zeros (suc (suc (suc (suc n)))) h = absurd (omega arith)

pub spelling_spells : (f : Fields) → IsWellFormed f → FitsBits f → Spells (spelling f) f
spelling_spells f good fits =
    let pad = pad_count (length f.payload) in
    record { well_formed = good; fits = fits; ignored = canonical pad; before_queue = omega arith; before_psn = omega arith; pad = length-replicate pad 0; whole = refl }

pub spelling_only : (f g : Fields) → IsWellFormed f → FitsBits f → Spells (spelling f) g → g ≡ f
spelling_only f g good fits s = one_packet_at_most (spelling f) g f s (spelling_spells f good fits)

-- a canonical spelling is as long as its parts
pub spelling_length : (f : Fields) → IsWellFormed f → length (spelling f) ≡ spelling_size f
unfolding packet_bytes
spelling_length f good =
    let r = some_row (row_of f.opcode) good.known in
    let w = with_row f.opcode r.0 r.1 in
    let row = row_orderly f.opcode r.0 r.1 in
    let those = those_of f r.0 r.1 good in
    let pad : List ℕ = replicate (pad_count (length f.payload)) 0 in
    let headers : List ℕ = flat_map (header_bytes f) (headers_of f.opcode) in
    let same_headers : headers ≡ shown (all_headers f) = rw w.0 (in_table_order f r.0 row.0 those) in
    let size : headers_size f.opcode ≡ flags_size r.0.headers = rw w.0 row.0.size in
    let long : length headers ≡ headers_size f.opcode = ap length same_headers ∙ omega (arith, shown_length r.0.headers (all_headers f) [] those, length-append (shown (all_headers f)) [], size) in
    omega (arith, long, length-append (bth_bytes (canonical 0) (bth_of f)) (headers ++ (f.payload ++ pad)), bth_length (canonical 0) (bth_of f), length-append headers (f.payload ++ pad), length-append f.payload pad, length-replicate {A = ℕ} (pad_count (length f.payload)) 0)

no_payload : (f : Fields) → IsWellFormed f → (b : Bool) → allows_payload f.opcode ≡ b → length f.payload ≤ cond b MAX_PAYLOAD_BYTES 0
no_payload f good true e = good.most
no_payload f good false e = let none : f.payload ≡ [] = good.empty e in rw none (omega arith)

at_most : (b : Bool) (headers payload : ℕ) → headers ≤ cond b 20 28 → payload ≤ cond b MAX_PAYLOAD_BYTES 0 → BTH_BYTES + headers + payload + pad_count payload ≤ MAX_PACKET_BYTES
at_most true headers payload few most = omega arith
at_most false headers payload few most = omega arith

pub spelling_most : (f : Fields) → IsWellFormed f → length (spelling f) ≤ MAX_PACKET_BYTES
spelling_most f good =
    let r = some_row (row_of f.opcode) good.known in
    let w = with_row f.opcode r.0 r.1 in
    let row = row_orderly f.opcode r.0 r.1 in
    let few : headers_size f.opcode ≤ cond r.0.payload 20 28 = rw w.0 row.0.most in
    rw (spelling_length f good) (at_most r.0.payload (headers_size f.opcode) (length f.payload) few (no_payload f good r.0.payload w.1))

by-payload : (b : Bool) (headers payload : ℕ) → headers ≤ cond b 20 28 → payload ≤ cond b MAX_PAYLOAD_BYTES 0
    → BTH_BYTES + headers + payload + pad_count payload ≤ most_spelt payload
by-payload true headers payload few most = omega (arith, few)
by-payload false headers payload few most = omega (arith, few, most)

-- by the bytes of its payload
pub spelling_by_payload : (f : Fields) → IsWellFormed f → length (spelling f) ≤ most_spelt (length f.payload)
spelling_by_payload f good =
    let r = some_row (row_of f.opcode) good.known in
    let w = with_row f.opcode r.0 r.1 in
    let row = row_orderly f.opcode r.0 r.1 in
    let few : headers_size f.opcode ≤ cond r.0.payload 20 28 = rw w.0 row.0.most in
    rw (spelling_length f good) (by-payload r.0.payload (headers_size f.opcode) (length f.payload) few (no_payload f good r.0.payload w.1))

of-response : (b : Bool) (headers payload : ℕ) → headers ≤ cond b 4 12 → payload ≤ cond b MAX_PAYLOAD_BYTES 0
    → BTH_BYTES + headers + payload + pad_count payload ≤ most_of_response payload
of-response true headers payload few most = omega (arith, few)
of-response false headers payload few most = omega (arith, few, most)

-- and that of a response
pub response_most : (f : Fields) → IsWellFormed f → shape_of f.opcode ≡ None → length (spelling f) ≤ most_of_response (length f.payload)
response_most f good none =
    let r = some_row (row_of f.opcode) good.known in
    let w = with_row f.opcode r.0 r.1 in
    let answer : request_shape (Some r.0.operation) ≡ None = rw r.1 at none in
    let few : headers_size f.opcode ≤ cond r.0.payload 4 12 = rw w.0 (row_answer f.opcode r.0 r.1 answer) in
    rw (spelling_length f good) (of-response r.0.payload (headers_size f.opcode) (length f.payload) few (no_payload f good r.0.payload w.1))
