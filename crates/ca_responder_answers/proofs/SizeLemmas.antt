-- How many bytes spell an answer.
use Rattle.std.proofs.Common.{◌≡◌, ℕ, ◌+◌, ◌≤◌, arith, refl, List, length, None}
use Rattle.ca_wire.specs.Packet.{Fields, most_of_response}
use Rattle.ca_wire.specs.Table.{row_of, shape_of}
use Rattle.ca_wire.specs.declared.shape.Position.{Position}
use Rattle.ca_wire.specs.declared.shape.Position.TheVariants.{First, Middle, Last, Only}
use Rattle.ca_wire.specs.Builders.{acknowledge, atomic_acknowledge, read_response, read_response_opcode}
use Rattle.ca_wire.specs.Segment.{position_of}
use Rattle.ca_wire.specs.declared.segment.Segment.{Segment}
use Rattle.ca_wire.specs.declared.syndrome.Syndrome.{Syndrome}

-- an Acknowledge packet is no request
pub shape_acknowledge : (p : Fields) (syndrome : Syndrome) (queue psn msn : ℕ) → p ≡ acknowledge syndrome queue psn msn → shape_of p.opcode ≡ None
unfolding row_of
shape_acknowledge p syndrome queue psn msn e = rw e refl

-- an ATOMIC Acknowledge is none
pub shape_atomic : (p : Fields) (found queue psn msn : ℕ) → p ≡ atomic_acknowledge found queue psn msn → shape_of p.opcode ≡ None
unfolding row_of
shape_atomic p found queue psn msn e = rw e refl

-- at each place of a READ response in its message, its opcode is that of no request
shape-place : (place : Position) → shape_of (read_response_opcode place) ≡ None
unfolding row_of
shape-place First = refl
shape-place Middle = refl
shape-place Last = refl
shape-place Only = refl

-- and a READ response is none
pub shape_read : (p : Fields) (segment : Segment) (queue psn msn : ℕ) (payload : List ℕ) → p ≡ read_response segment queue psn msn payload
    → shape_of p.opcode ≡ None
shape_read p segment queue psn msn payload e = rw e (shape-place (position_of segment))

-- a response with some bytes is spelt in no more than one with all of them
pub few_response : (new old some all : ℕ) → some ≤ all → new ≤ old + most_of_response some → new ≤ old + most_of_response all
few_response new old some all le few = omega (arith, le, few)

-- a packet that is no request, with a payload of no more than so many bytes, is spelt in no more than a response with as many
pub spelt_response : (p : Fields) (new old count : ℕ) → shape_of p.opcode ≡ None → length p.payload ≤ count
    → (shape_of p.opcode ≡ None → new ≤ old + most_of_response (length p.payload)) → new ≤ old + most_of_response count
spelt_response p new old count none le few = few_response new old (length p.payload) count le (few none)
