-- The packets that the engines send, each by its fields. Contracts cite it.
use Rattle.std.specs.Prelude.{ℕ, Bool, true, ◌&&◌, if◌then◌else◌, List, Option, Some, None, is_some}
use Rattle.ca_base.specs.ca_keys.declared.key.Key.{Key}
use Rattle.ca_wire.specs.declared.aeth.Aeth.{Aeth}
use Rattle.ca_wire.specs.declared.atomic_eth.AtomicEth.{AtomicEth}
use Rattle.ca_wire.specs.declared.opcode.TheConstants.{SEND_FIRST, SEND_MIDDLE, SEND_LAST, SEND_LAST_WITH_IMMEDIATE, SEND_ONLY, SEND_ONLY_WITH_IMMEDIATE, RDMA_WRITE_FIRST, RDMA_WRITE_MIDDLE, RDMA_WRITE_LAST, RDMA_WRITE_LAST_WITH_IMMEDIATE, RDMA_WRITE_ONLY, RDMA_WRITE_ONLY_WITH_IMMEDIATE, RDMA_READ_REQUEST, RDMA_READ_RESPONSE_FIRST, RDMA_READ_RESPONSE_MIDDLE, RDMA_READ_RESPONSE_LAST, RDMA_READ_RESPONSE_ONLY, ACKNOWLEDGE, ATOMIC_ACKNOWLEDGE, CMP_SWAP, FETCH_ADD, SEND_LAST_WITH_INVALIDATE, SEND_ONLY_WITH_INVALIDATE}
use Rattle.ca_wire.specs.declared.requests.SendKind.{SendKind}
use Rattle.ca_wire.specs.declared.requests.SendKind.TheVariants.{Plain, WithImmediate, WithInvalidate}
use Rattle.ca_wire.specs.declared.reth.Reth.{Reth}
use Rattle.ca_wire.specs.declared.shape.Position.{Position}
use Rattle.ca_wire.specs.declared.shape.Position.TheVariants.{First, Middle, Last, Only}
use Rattle.ca_wire.specs.declared.segment.Segment.{Segment}
use Rattle.ca_wire.specs.declared.syndrome.NakCode.{NakCode}
use Rattle.ca_wire.specs.declared.syndrome.Syndrome.{Syndrome}
use Rattle.ca_wire.specs.declared.syndrome.Syndrome.TheVariants.{Ack, RnrNak, Nak}
use Rattle.ca_wire.specs.declared.syndrome.TheConstants.{UNLIMITED_CREDITS}
use Rattle.ca_wire.specs.Packet.{Fields, plain}
use Rattle.ca_wire.specs.Shapes.{begins, ends}
use Rattle.ca_wire.specs.Segment.{position_of, asks_acknowledgement}
use Rattle.ca_wire.specs.Syndrome.{syndrome_byte}

-- the AETH that says this, with this MSN
abbrev pub aeth_of : Syndrome → ℕ → Aeth
aeth_of syndrome msn = record { syndrome = syndrome_byte syndrome; msn = msn }

-- the AETH of an answer that refuses nothing
abbrev pub fine_aeth : ℕ → Aeth
fine_aeth msn = aeth_of (Ack UNLIMITED_CREDITS) msn

-- an Acknowledge packet that says this, for this queue pair, at this PSN, with this MSN
abbrev pub acknowledge : Syndrome → ℕ → ℕ → ℕ → Fields
acknowledge syndrome queue psn msn = record (plain ACKNOWLEDGE queue psn) { aeth = Some (aeth_of syndrome msn) }

-- an acknowledgement: all up to this PSN is accepted
abbrev pub acknowledgement : ℕ → ℕ → ℕ → Fields
acknowledgement queue psn msn = acknowledge (Ack UNLIMITED_CREDITS) queue psn msn

-- an RNR NAK, with this timer code
abbrev pub rnr_nak : ℕ → ℕ → ℕ → ℕ → Fields
rnr_nak timer queue psn msn = acknowledge (RnrNak timer) queue psn msn

-- a NAK, with this code
abbrev pub nak : NakCode → ℕ → ℕ → ℕ → Fields
nak code queue psn msn = acknowledge (Nak code) queue psn msn

-- the answer to an atomic, which found this number
abbrev pub atomic_acknowledge : ℕ → ℕ → ℕ → ℕ → Fields
atomic_acknowledge found queue psn msn = record (plain ATOMIC_ACKNOWLEDGE queue psn) {
  aeth = Some (fine_aeth msn);
  «result» = Some found;
}

-- the opcode of a READ response, by its place in the message
abbrev pub read_response_opcode : Position → ℕ
read_response_opcode First = RDMA_READ_RESPONSE_FIRST
read_response_opcode Middle = RDMA_READ_RESPONSE_MIDDLE
read_response_opcode Last = RDMA_READ_RESPONSE_LAST
read_response_opcode Only = RDMA_READ_RESPONSE_ONLY

-- all READ responses but those in the middle have an AETH
abbrev pub read_response_aeth : ℕ → Position → Option Aeth
read_response_aeth msn Middle = None
read_response_aeth msn p = Some (fine_aeth msn)

-- this segment of the answer to a READ
abbrev pub read_response : Segment → ℕ → ℕ → ℕ → List ℕ → Fields
read_response segment queue psn msn payload =
    let p = position_of segment in
    record (plain (read_response_opcode p) queue psn) { aeth = read_response_aeth msn p; payload = payload }

-- the opcode of a packet of a SEND, by its place in the message
abbrev pub send_opcode : SendKind → Position → ℕ
send_opcode kind First = SEND_FIRST
send_opcode kind Middle = SEND_MIDDLE
send_opcode Plain Last = SEND_LAST
send_opcode Plain Only = SEND_ONLY
send_opcode (WithImmediate imm) Last = SEND_LAST_WITH_IMMEDIATE
send_opcode (WithImmediate imm) Only = SEND_ONLY_WITH_IMMEDIATE
send_opcode (WithInvalidate key) Last = SEND_LAST_WITH_INVALIDATE
send_opcode (WithInvalidate key) Only = SEND_ONLY_WITH_INVALIDATE

-- the immediate data that a SEND brings
abbrev pub immediate_of : SendKind → Option ℕ
immediate_of Plain = None
immediate_of (WithImmediate imm) = Some imm
immediate_of (WithInvalidate key) = None

-- the R_Key that a SEND invalidates
abbrev pub invalidated_by : SendKind → Option ℕ
invalidated_by Plain = None
invalidated_by (WithImmediate imm) = None
invalidated_by (WithInvalidate key) = Some key.0

-- what stands at the end of a message only
abbrev pub at_end : Position → Option ℕ → Option ℕ
at_end p value = if ends p then value else None

-- this segment of a SEND, with these bytes; the flag is the request's, for a solicited event
abbrev pub send_packet : SendKind → Segment → Bool → ℕ → ℕ → List ℕ → Fields
send_packet kind segment solicited queue psn payload =
    let p = position_of segment in
    record (plain (send_opcode kind p) queue psn) {
      solicited = ends p && solicited;
      ack = asks_acknowledgement segment;
      imm = at_end p (immediate_of kind);
      ieth = at_end p (invalidated_by kind);
      payload = payload;
    }

-- the opcode of a packet of a WRITE, by its place in the message
abbrev pub write_opcode : Option ℕ → Position → ℕ
write_opcode imm First = RDMA_WRITE_FIRST
write_opcode imm Middle = RDMA_WRITE_MIDDLE
write_opcode None Last = RDMA_WRITE_LAST
write_opcode None Only = RDMA_WRITE_ONLY
write_opcode (Some imm) Last = RDMA_WRITE_LAST_WITH_IMMEDIATE
write_opcode (Some imm) Only = RDMA_WRITE_ONLY_WITH_IMMEDIATE

-- this segment of a WRITE, with these bytes: the first has the RETH, which speaks of the whole message, and the last the
-- immediate data; the flag is the request's, for a solicited event, and only immediate data can make one
abbrev pub write_packet : Segment → Reth → Option ℕ → Bool → ℕ → ℕ → List ℕ → Fields
write_packet segment reth imm solicited queue psn payload =
    let p = position_of segment in
    record (plain (write_opcode imm p) queue psn) {
      solicited = ends p && (is_some imm && solicited);
      ack = asks_acknowledgement segment;
      reth = if begins p then Some reth else None;
      imm = at_end p imm;
      payload = payload;
    }

-- a READ of what the RETH names
abbrev pub read_request : Reth → ℕ → ℕ → Fields
read_request reth queue psn = record (plain RDMA_READ_REQUEST queue psn) { ack = true; reth = Some reth }

-- a CmpSwap
abbrev pub cmp_swap : AtomicEth → ℕ → ℕ → Fields
cmp_swap atomic queue psn = record (plain CMP_SWAP queue psn) { ack = true; atomic = Some atomic }

-- a FetchAdd of this number to the eight bytes at this address, under this key; it sends 0 as the number to compare with
abbrev pub fetch_add : ℕ → Key → ℕ → ℕ → ℕ → Fields
fetch_add address key add queue psn = record (plain FETCH_ADD queue psn) {
  ack = true;
  atomic = Some (record { address = address; key = key; swap = add; compare = 0 });
}
