-- What a posted request asks for, and the packets that it is sent as. Contracts cite it.
use Rattle.std.specs.Prelude.{ℕ, ◌+◌, ◌-◌, ◌*◌, ◌/◌, ◌%◌, ◌^◌, min, max, Bool, true, false, List, [], sum_by, Option, None, Some}
use Rattle.ca_base.specs.declared.completion.WcOp.{WcOp}
use Rattle.ca_base.specs.declared.completion.WcOp.TheVariants as operations
use Rattle.ca_keys.specs.declared.key.Key.{Key}
use Rattle.ca_base.specs.declared.request.Piece.{Piece}
use Rattle.ca_base.specs.declared.request.SendOp.{SendOp}
use Rattle.ca_base.specs.declared.request.SendOp.TheVariants as ops
use Rattle.ca_base.specs.declared.request.SendRequest.{SendRequest}
use Rattle.ca_wire.specs.declared.requests.SendKind.{SendKind}
use Rattle.ca_wire.specs.declared.requests.SendKind.TheVariants.{Plain, WithImmediate, WithInvalidate}
use Rattle.ca_wire.specs.declared.reth.Reth.{Reth}
use Rattle.ca_wire.specs.declared.segment.Segment.{Segment}
use Rattle.ca_wire.specs.Builders.{send_packet, write_packet, read_request, cmp_swap, fetch_add}
use Rattle.ca_wire.specs.Packet.{Fields}

-- the operation that a completion of the request names
abbrev pub operation_of : SendOp → WcOp
operation_of (ops.Send list) = operations.Send
operation_of (ops.SendImm imm list) = operations.Send
operation_of (ops.SendInv key list) = operations.Send
operation_of (ops.Write address key list) = operations.Write
operation_of (ops.WriteImm address key imm list) = operations.Write
operation_of (ops.Read address key list) = operations.Read
operation_of (ops.CmpSwap address key compare swap list) = operations.CmpSwap
operation_of (ops.FetchAdd address key add list) = operations.FetchAdd
operation_of (ops.Bind1 window region address length rights) = operations.Bind
operation_of (ops.Bind2 window region low address length rights) = operations.Bind
operation_of (ops.FastReg region low buffer address length rights pages) = operations.FastReg
operation_of (ops.LocalInv key) = operations.LocalInv

-- the scatter or gather list
abbrev pub list_of : SendOp → List Piece
list_of (ops.Send list) = list.items
list_of (ops.SendImm imm list) = list.items
list_of (ops.SendInv key list) = list.items
list_of (ops.Write address key list) = list.items
list_of (ops.WriteImm address key imm list) = list.items
list_of (ops.Read address key list) = list.items
list_of (ops.CmpSwap address key compare swap list) = list.items
list_of (ops.FetchAdd address key add list) = list.items
list_of (ops.Bind1 window region address length rights) = []
list_of (ops.Bind2 window region low address length rights) = []
list_of (ops.FastReg region low buffer address length rights pages) = []
list_of (ops.LocalInv key) = []

-- a local operation, which has no packets: a bind, a fast registration or a Local Invalidate
abbrev pub is_local : SendOp → Bool
is_local (ops.Bind1 window region address length rights) = true
is_local (ops.Bind2 window region low address length rights) = true
is_local (ops.FastReg region low buffer address length rights pages) = true
is_local (ops.LocalInv key) = true
is_local op = false

-- the bytes of a list
abbrev pub list_length : List Piece → ℕ
list_length list = sum_by (λ piece. piece.length) list

-- the packets of a message of this many bytes, at least one
abbrev pub segments : ℕ → ℕ → ℕ
segments mtu count = max 1 ((count + mtu - 1) / mtu)

-- the bytes of this segment of a message
abbrev pub segment_bytes : ℕ → ℕ → ℕ → ℕ
segment_bytes mtu count index = min mtu (count - index * mtu)

-- how many PSNs a request takes: one a packet, of a READ one a response packet, and none for a local operation
abbrev pub psns_of : ℕ → SendOp → ℕ
psns_of mtu (ops.CmpSwap address key compare swap list) = 1
psns_of mtu (ops.FetchAdd address key add list) = 1
psns_of mtu (ops.Bind1 window region address length rights) = 0
psns_of mtu (ops.Bind2 window region low address length rights) = 0
psns_of mtu (ops.FastReg region low buffer address length rights pages) = 0
psns_of mtu (ops.LocalInv key) = 0
psns_of mtu op = segments mtu (list_length (list_of op))

-- how many bytes of the list the packet at this index carries; a READ and an atomic carry none
abbrev pub carried_bytes : ℕ → SendOp → ℕ → ℕ
carried_bytes mtu (ops.Read address key list) index = 0
carried_bytes mtu (ops.CmpSwap address key compare swap list) index = 0
carried_bytes mtu (ops.FetchAdd address key add list) index = 0
carried_bytes mtu op index = segment_bytes mtu (list_length (list_of op)) index

-- the segment at this index of a message of this many bytes
abbrev pub segment : ℕ → ℕ → ℕ → Segment
segment mtu count index = record { index = index; count = segments mtu count }

-- what a READ reaches, without so many bytes at its front; addresses count modulo 2^64
abbrev pub reth_behind : ℕ → ℕ → Key → ℕ → Reth
reth_behind skip address key count = record { address = (address + skip) % 2 ^ 64; key = key; length = count - skip }

-- the packet at this index of a request, for this queue pair, at this PSN, with this payload; a READ that goes on asks
-- for the rest
abbrev pub request_packet : ℕ → SendRequest → ℕ → ℕ → ℕ → List ℕ → Option Fields
request_packet mtu request index queue psn payload = by request.op
  where
    send : SendKind → ℕ → Option Fields
    send kind count = Some (send_packet kind (segment mtu count index) request.solicited queue psn payload)

    write : ℕ → Key → Option ℕ → ℕ → Option Fields
    write address key imm count =
        Some (write_packet (segment mtu count index) (record { address = address; key = key; length = count }) imm request.solicited queue psn payload)

    by : SendOp → Option Fields
    by (ops.Send list) = send Plain (list_length list.items)
    by (ops.SendImm imm list) = send (WithImmediate imm) (list_length list.items)
    by (ops.SendInv key list) = send (WithInvalidate key) (list_length list.items)
    by (ops.Write address key list) = write address key None (list_length list.items)
    by (ops.WriteImm address key imm list) = write address key (Some imm) (list_length list.items)
    by (ops.Read address key list) =
        Some (read_request (reth_behind (index * mtu) address key (list_length list.items)) queue psn)
    by (ops.CmpSwap address key compare swap list) =
        Some (cmp_swap (record { address = address; key = key; swap = swap; compare = compare }) queue psn)
    by (ops.FetchAdd address key add list) = Some (fetch_add address key add queue psn)
    by op = None
