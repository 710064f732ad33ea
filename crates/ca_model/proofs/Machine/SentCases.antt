-- The packet that a requester's turn sends, by its opcode: each operation at each place of its message; and the answers of
-- a responder's turn. For proofs only.
use Rattle.std.proofs.Common.{◌≡◌, ℕ, Bool, List, [], ◌∷◌, map, true, false, Option, None, Some, refl}
use Rattle.std.specs.Prelude.{min, slice_index}
use Rattle.arrayvec.specs.ArrayVec.{ArrayVec}
use Rattle.ca_base.specs.declared.lot.Lot.{Lot}
use Rattle.ca_base.specs.declared.lot.Lot.TheVariants as lots
use Rattle.ca_base.specs.declared.queue_numbers.Queued.{Queued}
use Rattle.ca_base.specs.declared.queue_numbers.Queued.TheVariants as queued
use Rattle.ca_base.specs.declared.request.Piece.{Piece}
use Rattle.ca_base.specs.declared.request.SendOp.{SendOp}
use Rattle.ca_base.specs.declared.request.SendOp.TheVariants as ops
use Rattle.ca_base.specs.objects.QueuePair.{QueuePair}
use Rattle.ca_wire.specs.Packet.{be_bytes, packet_bytes}
use Rattle.ca_wire.specs.Table.{row_of}
use Rattle.ca_model.specs.declared.event.Event.TheVariants as events
use Rattle.ca_model.specs.declared.mark.Mark.{Mark}
use Rattle.ca_model.specs.declared.mark.Mark.TheVariants as marks
use Rattle.ca_model.specs.machine.Plan.{◌:=◌, Outcome, NotReady, Did, put_all}
use Rattle.ca_model.specs.machine.Step.{step}
use Rattle.ca_model.specs.machine.World.{World, Mailbox_of}
use Rattle.ca_model.proofs.Literals.{q, k, list, piece}
use Rattle.ca_model.proofs.Machine.Furnished.{pair, at, with_queue, ready, signalled, with_posted, with_begun, with_answers, mailbox_for, send_of, write_of, read_of, add_of}

-- the opcode of the packet that is sent, of an event
abbrev sent_in : List Mark → Option ℕ
sent_in [] = None
sent_in (marks.Sent source target index request bytes ∷ ms) = Some (slice_index bytes 0)
sent_in (m ∷ ms) = sent_in ms

abbrev opcode_of : Outcome → Option ℕ
opcode_of (NotReady reason) = None
opcode_of (Did w ms) = sent_in ms

-- an operation, how many of its PSNs were sent, and the opcode of the next packet
record Case : Type 0 where
  op : SendOp
  sent : ℕ
  opcode : ℕ

abbrev case : SendOp → ℕ → ℕ → Case
case op sent opcode = record { op = op; sent = sent; opcode = opcode }

-- a requester that sent so many of them; with the first its request begins
abbrev going_on : Case → QueuePair
going_on c = with_begun (min 1 c.sent) c.sent (with_posted (signalled c.op) ready)

-- a list of so many bytes
abbrev some_bytes : ℕ → ArrayVec Piece
some_bytes count = list (piece 1 0x100000000 count ∷ [])

-- the path MTU is 256
abbrev packets : List Case
packets =
    case (send_of 600) 0 0
    ∷ case (send_of 600) 1 1
    ∷ case (send_of 600) 2 2
    ∷ case (send_of 0) 0 4
    ∷ case (send_of 256) 0 4
    ∷ case (ops.SendImm 6 (some_bytes 257)) 0 0
    ∷ case (ops.SendImm 6 (some_bytes 257)) 1 3
    ∷ case (ops.SendImm 6 (some_bytes 256)) 0 5
    ∷ case (ops.SendInv (k 1) (some_bytes 257)) 1 22
    ∷ case (ops.SendInv (k 1) (some_bytes 256)) 0 23
    ∷ case (write_of 600) 0 6
    ∷ case (write_of 600) 1 7
    ∷ case (write_of 600) 2 8
    ∷ case (write_of 256) 0 10
    ∷ case (ops.WriteImm 0 (k 1) 6 (some_bytes 257)) 1 9
    ∷ case (ops.WriteImm 0 (k 1) 6 (some_bytes 256)) 0 11
    ∷ case (read_of 600) 0 12
    ∷ case (read_of 600) 1 12
    ∷ case (ops.CmpSwap 0x100000000 (k 1) 0 1 (some_bytes 8)) 0 19
    ∷ case (add_of 8) 0 20
    ∷ []

sent_packets : map (λ c. opcode_of (step pair (with_queue (going_on c)) (events.Request (q 0 256) lots.Pass))) packets ≡ map (λ c. Some c.opcode) packets
unfolding be_bytes packet_bytes row_of
sent_packets = refl

-- a local operation sends none
local_operation : opcode_of (step pair (with_queue (with_posted (signalled (ops.LocalInv (k 1))) ready)) (events.Request (q 0 256) lots.Pass)) ≡ None
local_operation = refl

-- an answer at the front of the response queue, and the opcode and the syndrome of the packet, where it has one
record Answered : Type 0 where
  answer : Queued
  opcode : ℕ
  syndrome : ℕ

abbrev answered : Queued → ℕ → ℕ → Answered
answered answer opcode syndrome = record { answer = answer; opcode = opcode; syndrome = syndrome }

abbrev syndrome_in : List Mark → Option (ℕ × ℕ)
syndrome_in [] = None
syndrome_in (marks.Sent source target index request bytes ∷ ms) = Some (slice_index bytes 0, slice_index bytes 12)
syndrome_in (m ∷ ms) = syndrome_in ms

abbrev answer_of : Outcome → Option (ℕ × ℕ)
answer_of (NotReady reason) = None
answer_of (Did w ms) = syndrome_in ms

-- a READ with so many bytes left
abbrev read_left : ℕ → Bool → Queued
read_left left first = queued.Read (at 0) (k 1) 0x100000000 left first None false

-- a READ response in the middle has no syndrome: its payload begins there
abbrev answers : List Answered
answers =
    answered (queued.Ack (at 0)) 17 0x1f
    ∷ answered (queued.Rnr (at 0)) 17 0x20
    ∷ answered (queued.Nak (at 0) 0) 17 0x60
    ∷ answered (queued.Nak (at 0) 1) 17 0x61
    ∷ answered (queued.Nak (at 0) 2) 17 0x62
    ∷ answered (queued.Nak (at 0) 3) 17 0x63
    ∷ answered (read_left 257 true) 13 0x1f
    ∷ answered (read_left 257 false) 14 0
    ∷ answered (read_left 256 false) 15 0x1f
    ∷ answered (read_left 256 true) 16 0x1f
    ∷ answered (read_left 0 true) 16 0x1f
    ∷ answered (queued.Atomic (at 0) 44 false) 18 0x1f
    ∷ []

sent_answers : map (λ x. answer_of (step pair (with_queue (with_answers (x.answer ∷ []) ready)) (events.Respond (q 0 256) lots.Pass))) answers ≡ map (λ x. Some (x.opcode, x.syndrome)) answers
unfolding be_bytes packet_bytes row_of
sent_answers = refl

-- what the weather and the path make of a packet: the marks behind those of the list, in order
abbrev send_marks : List Mark → List (Option ℕ)
send_marks [] = []
send_marks (marks.Sent source target index request bytes ∷ ms) = index ∷ send_marks ms
send_marks (marks.Lost target index ∷ ms) = index ∷ send_marks ms
send_marks (m ∷ ms) = send_marks ms

abbrev indices_of : Outcome → List (Option ℕ)
indices_of (NotReady reason) = []
indices_of (Did w ms) = send_marks ms

-- a world with or without a path to the peer, of whose mailbox the next index is 3
abbrev peer_accepts : ℕ → World
peer_accepts adapter = put_all ((Mailbox_of (q 1 256) := mailbox_for adapter 3 []) ∷ []) (with_queue (with_posted (signalled (send_of 8)) ready))

abbrev indices : ℕ → Lot → List (Option ℕ)
indices adapter lot = indices_of (step pair (peer_accepts adapter) (events.Request (q 0 256) lot))

under_way : indices 0 lots.Pass ≡ Some 3 ∷ []
unfolding be_bytes packet_bytes row_of
under_way = refl

lost_by_its_lot : indices 0 lots.Lose ≡ Some 3 ∷ Some 3 ∷ []
unfolding be_bytes packet_bytes row_of
lost_by_its_lot = refl

lost_without_a_path : indices 1 lots.Pass ≡ None ∷ None ∷ []
unfolding be_bytes packet_bytes row_of
lost_without_a_path = refl
