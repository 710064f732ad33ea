-- The responder's expected packet: what is invalid, what waits for a receive, what is denied, what it does, and how it
-- ends. Contracts cite it.
use Rattle.std.specs.Prelude.{ℕ, suc, ◌+◌, ◌-◌, ◌%◌, ◌^◌, ◌==◌, ◌&&◌, ◌||◌, nat_le, nat_lt, Bool, true, false, not, if◌then◌else◌, List, [], ◌∷◌, ◌++◌, length, Option, None, Some, is_some, is_none}
use Rattle.std.specs.List.{flat_map}
use Rattle.std.specs.Option.{option_map, option_map_or}
use Rattle.ca_keys.specs.declared.access.Ask.{Ask}
use Rattle.ca_keys.specs.declared.access.Kind.{Kind}
use Rattle.ca_keys.specs.declared.access.Kind.TheVariants as kinds
use Rattle.ca_base.specs.declared.completion.WcOp.TheVariants as operations
use Rattle.ca_base.specs.declared.completion.WcStatus.{WcStatus}
use Rattle.ca_base.specs.declared.completion.WcStatus.TheVariants.{Success, LocalLength, LocalProtection, MemoryManagement}
use Rattle.ca_base.specs.declared.limits.TheConstants.{ATOMIC_BYTES, MAX_MESSAGE_BYTES, MAX_READS}
use Rattle.ca_base.specs.declared.queue_numbers.Message.{Message}
use Rattle.ca_base.specs.declared.queue_numbers.Message.TheVariants as messages
use Rattle.ca_base.specs.declared.queue_numbers.Queued.TheVariants as queued
use Rattle.ca_base.specs.declared.refusals.OpRefusal.{OpRefusal}
use Rattle.ca_keys.specs.declared.verdict.Verdict.TheVariants as verdicts
use Rattle.ca_keys.specs.Memory.{little_endian, little_endian_bytes}
use Rattle.ca_base.specs.Sight.{Invalidation}
use Rattle.ca_base.specs.objects.Answers.{fresh_count, with_ack_at_end}
use Rattle.ca_base.specs.objects.QueuePair.{QueuePair}
use Rattle.ca_base.specs.objects.Saved.{after_save}
use Rattle.ca_base.specs.declared.request.PlacedReceive.{PlacedReceive}
use Rattle.ca_base.specs.objects.SharedReceives.{SharedReceives}
use Rattle.ca_keys.specs.Numbers.{is_window_key}
use Rattle.ca_wire.specs.declared.atomic_eth.AtomicEth.{AtomicEth}
use Rattle.ca_wire.specs.declared.reth.Reth.{Reth}
use Rattle.ca_wire.specs.declared.shape.Position.{Position}
use Rattle.ca_wire.specs.declared.shape.Position.TheVariants.{First, Middle, Last, Only}
use Rattle.ca_wire.specs.declared.syndrome.NakCode.{NakCode}
use Rattle.ca_wire.specs.declared.syndrome.NakCode.TheVariants.{InvalidRequest, RemoteAccessError, RemoteOperationalError}
use Rattle.ca_wire.specs.Packet.{Fields}
use Rattle.ca_wire.specs.Shapes.{begins, ends}
use Rattle.ca_model.specs.declared.mark.Mark.{Mark}
use Rattle.ca_model.specs.declared.mark.Mark.TheVariants as marks
use Rattle.ca_model.specs.declared.receiving.Receiving.{Receiving}
use Rattle.ca_model.specs.declared.write_reach.WriteReach.{WriteReach}
use Rattle.ca_model.specs.Packets.{number_put}
use Rattle.ca_model.specs.Requests.{list_length, segments}
use Rattle.ca_model.specs.machine.Arrivals.{has_shared, next_receive, packet_ask, refusal_effects, remote_mark, with_answer, with_flag, with_message, with_receive_taken, with_responder}
use Rattle.ca_model.specs.machine.Completions.{receive_failure, receive_mark}
use Rattle.ca_model.specs.machine.Numbering.{list_asks}
use Rattle.ca_model.specs.machine.Requester.{local_denial}
use Rattle.ca_model.specs.machine.Responses.{local_writes, writes_by}
use Rattle.ca_model.specs.machine.Row as rows
use Rattle.ca_model.specs.machine.Row.{Effects, queue_and_marks, Row, Does}
use Rattle.ca_wire.specs.declared.shape.Shape.{Shape}
use Rattle.ca_wire.specs.declared.shape.Shape.TheVariants as shapes

abbrev pub reach_of_reth : Reth → WriteReach
reach_of_reth h = record { key = h.key; address = h.address; left = h.length; whole = h.length }

-- a packet that begins a WRITE has it in its RETH, one that goes on in the message in progress
abbrev pub write_reach : QueuePair → Fields → Option WriteReach
write_reach q p = by p.reth q.responder.message
  where
    by : Option Reth → Option Message → Option WriteReach
    by (Some h) message = Some (reach_of_reth h)
    by None (Some (messages.Write key address left count)) =
        Some (record { key = key; address = address; left = left; whole = count })
    by None message = None

-- the packet goes on with the message in progress, or begins one where none is
abbrev pub continues : Option Message → Shape → Bool
continues None (shapes.Send position) = begins position
continues None (shapes.Write position) = begins position
continues None shape = true
continues (Some (messages.Send at receive count)) (shapes.Send position) = not (begins position)
continues (Some (messages.Write key address left count)) (shapes.Write position) = not (begins position)
continues message shape = false

-- the payload of a SEND or a WRITE fits its position: exactly the path MTU, 1 to it at the end, 0 to it alone
abbrev pub fits_position : ℕ → Position → ℕ → Bool
fits_position mtu First count = count == mtu
fits_position mtu Middle count = count == mtu
fits_position mtu Last count = nat_lt 0 count && nat_le count mtu
fits_position mtu Only count = nat_le count mtu

-- the payload fits its position in the message
abbrev pub fits_payload : QueuePair → Fields → Shape → Bool
fits_payload q p (shapes.Send position) = fits_position q.responder.mtu position (length p.payload)
fits_payload q p (shapes.Write position) = fits_position q.responder.mtu position (length p.payload)
fits_payload q p shape = true

-- a WRITE leaves bytes before its last packet, and ends exactly with it
abbrev pub fits_left : ℕ → Position → WriteReach → Bool
fits_left count position r = if ends position then count == r.left else nat_lt count r.left

abbrev pub fits_write : QueuePair → Fields → Shape → Bool
fits_write q p (shapes.Write position) = option_map_or (fits_left (length p.payload) position) (write_reach q p) true
fits_write q p shape = true

-- an atomic's address is no multiple of eight
abbrev pub is_misaligned : Fields → Bool
is_misaligned p = option_map_or (λ a. not (a.address % ATOMIC_BYTES == 0)) p.atomic false

-- a READ or an atomic where as many are queued as may be
abbrev pub has_no_place : QueuePair → Shape → Bool
has_no_place q shapes.Read = nat_le MAX_READS (fresh_count q.responder.answers)
has_no_place q (shapes.Atomic kind) = nat_le MAX_READS (fresh_count q.responder.answers)
has_no_place q shape = false

-- the packet is an invalid request
abbrev pub is_invalid : QueuePair → Fields → Shape → Bool
is_invalid q p shape =
    not (continues q.responder.message shape)
    || not (fits_payload q p shape)
    || not (fits_write q p shape)
    || option_map_or (λ h. nat_lt MAX_MESSAGE_BYTES h.length) p.reth false
    || is_misaligned p
    || has_no_place q shape

-- the packet takes a receive: a SEND as it begins, a WRITE with its immediate data
abbrev pub takes_receive : Fields → Shape → Bool
takes_receive p (shapes.Send position) = begins position
takes_receive p (shapes.Write position) = is_some p.imm
takes_receive p shape = false

-- an RNR NAK is queued, and nothing else changes
abbrev pub rnr_effects : QueuePair → Effects
rnr_effects q = queue_and_marks (with_flag true (with_answer (queued.Rnr q.responder.expected) q)) []

-- the packet is accepted: the expected PSN goes past it, the MSN rises at a message's end, and an ACK is queued where it
-- is asked for
abbrev pub queue_after_packet : Fields → ℕ → Bool → Bool → QueuePair → QueuePair
queue_after_packet p count at_end asks_ack q = with_responder (record q.responder {
  expected = q.responder.expected + count;
  msn = if at_end then suc q.responder.msn % 2 ^ 24 else q.responder.msn;
  answers = if asks_ack && p.ack then with_ack_at_end q.responder.expected q.responder.answers else q.responder.answers;
}) q

-- effects that take a receive of a shared receive queue, where the queue pair has one
abbrev pub with_shared_receive : QueuePair → Effects → Effects
with_shared_receive q e = record e { takes_shared = has_shared q }

-- marks before those of effects
abbrev pub behind_marks : List Mark → Effects → Effects
behind_marks ms e = record e { marks = ms ++ e.marks }

-- the receive fails, and the packet is refused
abbrev pub receive_failure_effects : QueuePair → PlacedReceive → WcStatus → Option OpRefusal → NakCode → Effects
receive_failure_effects q r status cause code =
    behind_marks (receive_failure q.queue r.place r.receive status cause ∷ []) (refusal_effects code (with_message None q))

-- the receive of a SEND packet: the next one where the message begins, and else that of the message in progress
abbrev pub receiving_of : QueuePair → Option PlacedReceive → Option Message → Option Receiving
receiving_of q next (Some (messages.Send posting receive count)) =
    Some (record { receive = record { place = posting; receive = receive }; before = count; taken = false })
receiving_of q next message = option_map (λ r. record { receive = r; before = 0; taken = true }) next

-- the key that the packet ends
abbrev pub invalidation_of : QueuePair → Fields → Option Invalidation
invalidation_of q p =
    option_map (λ key. record { queue = q.queue; domain = q.domain; key = record { 0 = key } }) p.ieth

-- the mark of the key that is gone
abbrev pub revoked_marks : QueuePair → Option Invalidation → List Mark
revoked_marks q i = option_map_or (λ i. marks.Revoked q.queue.adapter i.key ∷ []) i []

-- one type 2 window fewer is bound to the queue pair, where a window's key is gone
abbrev pub with_window_gone : Option Invalidation → QueuePair → QueuePair
with_window_gone i q =
    record q { windows = if option_map_or (λ i. is_window_key i.key) i false then q.windows - 1 else q.windows }

-- the completion of a SEND's receive, or the message in progress
abbrev pub after_send_packet : QueuePair → Fields → Position → Receiving → Effects
after_send_packet q p position r =
    if ends position
    then queue_and_marks (with_message None (queue_after_packet p 1 true true q))
    (receive_mark q.queue r.receive.place r.receive.receive Success operations.Recv (r.before + length p.payload) p.imm
    (option_map (λ key. record { 0 = key }) p.ieth) ∷ [])
    else queue_and_marks (with_message (Some (messages.Send r.receive.place r.receive.receive (r.before + length p.payload)))
    (queue_after_packet p 1 false true q)) []

-- where the bytes of a SEND packet go
abbrev pub receive_asks : QueuePair → Fields → Receiving → List Ask
receive_asks q p r = list_asks q.queue q.domain kinds.Write r.before (length p.payload) r.receive.receive.list.items

-- a SEND packet, with its receive: it is too long for it, its list is denied, its invalidation is refused, or it is placed
abbrev pub send_row : QueuePair → Fields → Position → Receiving → Row
send_row before p position r =
    if nat_lt (list_length r.receive.receive.list.items) (r.before + length p.payload)
    then rows.plain_row (Does (took (receive_failure_effects q r.receive LocalLength None InvalidRequest)))
    else record {
      asks = asks;
      invalidation = invalidation_of q p;
      denied = λ d. Does (took (behind_marks (local_denial d ∷ []) (receive_failure_effects q r.receive LocalProtection None RemoteOperationalError)));
      allowed = λ bytes refusal. Does (took (record (behind_marks (local_writes writes) (by refusal)) { writes = writes }));
    }
  where
    q : QueuePair
    q = if r.taken then with_receive_taken before else before

    asks : List Ask
    asks = receive_asks q p r

    writes : List (Ask × List ℕ)
    writes = writes_by asks p.payload

    took : Effects → Effects
    took e = if r.taken then with_shared_receive q e else e

    by : Option OpRefusal → Effects
    by (Some cause) = receive_failure_effects q r.receive MemoryManagement (Some cause) RemoteOperationalError
    by None = behind_marks (revoked_marks q (invalidation_of q p))
        (after_send_packet (with_window_gone (invalidation_of q p) q) p position r)

-- what is left of a WRITE after a packet of so many bytes; addresses count modulo 2^64
abbrev pub message_left : WriteReach → ℕ → Message
message_left r count = messages.Write r.key ((r.address + count) % 2 ^ 64) (r.left - count) r.whole

-- a WRITE packet took effect: at its end immediate data complete a receive
abbrev pub after_write_packet : QueuePair → Fields → Position → WriteReach → Option PlacedReceive → Effects
after_write_packet q p position r next =
    if ends position then by p.imm next else queue_and_marks (with_message (Some (message_left r (length p.payload))) (queue_after_packet p 1 false true q)) []
  where
    done : QueuePair → QueuePair
    done q = with_message None (queue_after_packet p 1 true true q)

    by : Option ℕ → Option PlacedReceive → Effects
    by (Some imm) (Some receive) = with_shared_receive q (queue_and_marks (done (with_receive_taken q))
        (receive_mark q.queue receive.place receive.receive Success operations.RecvImm r.whole (Some imm) None ∷ []))
    by imm next = queue_and_marks (done q) []

-- a WRITE packet: judged for all bytes that are left, of which it touches its payload; one of no bytes meets no key, and
-- has its mark too
abbrev pub write_row : QueuePair → Fields → Option ℕ → Position → Option PlacedReceive → WriteReach → Row
write_row q p envelope position next r = record {
  asks = if r.left == 0 then [] else ask ∷ [];
  invalidation = None;
  denied = λ d. Does (behind_marks (remote_mark d.ask envelope (verdicts.Denied d.denial) ∷ []) (refusal_effects RemoteAccessError q));
  allowed = λ bytes refusal. Does wrote;
}
  where
    ask : Ask
    ask = packet_ask q r.key kinds.Write r.address r.left (length p.payload)

    wrote : Effects
    wrote = record (behind_marks (remote_mark ask envelope (verdicts.Wrote p.payload) ∷ []) (after_write_packet q p position r next)) {
      writes = if r.left == 0 then [] else (ask, p.payload) ∷ [];
    }

-- a READ Request is queued
abbrev pub read_queued : QueuePair → Fields → Option ℕ → Reth → Effects
read_queued q p envelope h =
    queue_and_marks (queue_after_packet p (segments q.responder.mtu h.length) true false
    (with_answer (queued.Read q.responder.expected h.key h.address h.length true envelope false) q)) []

-- an atomic: judged for its eight bytes; what it found is saved and queued
abbrev pub atomic_row : QueuePair → Fields → Option ℕ → Kind → AtomicEth → Row
atomic_row q p envelope kind a = record {
  asks = ask ∷ [];
  invalidation = None;
  denied = λ d. Does (behind_marks (remote_mark d.ask envelope (verdicts.Denied d.denial) ∷ []) (refusal_effects RemoteAccessError q));
  allowed = λ bytes refusal. Does (acted (little_endian (flat_map (λ b. b) bytes)));
}
  where
    ask : Ask
    ask = packet_ask q a.key kind a.address ATOMIC_BYTES ATOMIC_BYTES

    saved : ℕ → QueuePair
    saved found =
        record (with_answer (queued.Atomic q.responder.expected found false) q) { saved = after_save q.responder.expected found q.saved }

    put : ℕ → ℕ
    put found = option_map_or (λ n. n) (number_put kind a found) 0

    acted : ℕ → Effects
    acted found = record (queue_and_marks (queue_after_packet p 1 true false (saved found))
        (remote_mark ask envelope (verdicts.Swapped found (put found)) ∷ [])) {
          writes = (ask, little_endian_bytes (put found)) ∷ [];
        }

-- what the packet asks for, once it is valid and has its receive
abbrev pub valid_row : QueuePair → Fields → Option ℕ → Option PlacedReceive → Shape → Row
valid_row q p envelope next (shapes.Send position) = by (receiving_of q next q.responder.message)
  where
    by : Option Receiving → Row
    by (Some r) = send_row q p position r
    by None = rows.plain_row (Does (refusal_effects InvalidRequest q))
valid_row q p envelope next (shapes.Write position) = by (write_reach q p)
  where
    by : Option WriteReach → Row
    by (Some r) = write_row q p envelope position next r
    by None = rows.plain_row (Does (refusal_effects InvalidRequest q))
valid_row q p envelope next shapes.Read = by p.reth
  where
    by : Option Reth → Row
    by (Some h) = rows.plain_row (Does (read_queued q p envelope h))
    by None = rows.plain_row (Does (refusal_effects InvalidRequest q))
valid_row q p envelope next (shapes.Atomic kind) = by p.atomic
  where
    by : Option AtomicEth → Row
    by (Some a) = atomic_row q p envelope kind a
    by None = rows.plain_row (Does (refusal_effects InvalidRequest q))

-- the packet with the expected PSN: the flag is cleared; it is invalid; it has no receive to take; or what it asks for
abbrev pub expected_row : QueuePair → Option SharedReceives → Fields → Option ℕ → Shape → Row
expected_row before shared p envelope shape =
    if is_invalid q p shape then rows.plain_row (Does (refusal_effects InvalidRequest q))
    else if takes_receive p shape && is_none (next_receive q shared) then rows.plain_row (Does (rnr_effects q))
    else valid_row q p envelope (next_receive q shared) shape
  where
    q : QueuePair
    q = with_flag false before
