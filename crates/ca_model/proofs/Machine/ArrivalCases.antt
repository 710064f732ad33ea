-- Packets that arrive at a responder, and its answers: each drop, packets ahead and duplicates, each way to be invalid,
-- receives, denials, and what is accepted. For proofs only.
use Rattle.std.proofs.Common.{◌≡◌, ℕ, ◌^◌, ◌-◌, Bool, List, [], ◌∷◌, ◌++◌, map, replicate, true, false, Option, None, Some, refl}
use Rattle.std.specs.List.{count_by}
use Rattle.ca_keys.specs.declared.access.Denial.{Denial}
use Rattle.ca_keys.specs.declared.access.Denial.TheVariants as denials
use Rattle.ca_base.specs.declared.change.State.TheVariants as states
use Rattle.ca_base.specs.declared.completion.WcStatus.{WcStatus}
use Rattle.ca_base.specs.declared.completion.WcStatus.TheVariants as statuses
use Rattle.ca_base.specs.declared.lot.Lot.TheVariants as lots
use Rattle.ca_base.specs.declared.queue_numbers.Message.TheVariants as messages
use Rattle.ca_base.specs.declared.queue_numbers.Queued.{Queued}
use Rattle.ca_base.specs.declared.queue_numbers.Queued.TheVariants as queued
use Rattle.ca_keys.specs.declared.rights.Rights.{Rights}
use Rattle.ca_base.specs.objects.QueuePair.{QueuePair, QueueSlot, NoQueue, Present}
use Rattle.ca_base.specs.objects.Window.{vacant_window, after_binding, after_window_allocation}
use Rattle.ca_wire.specs.declared.requests.SendKind.TheVariants.{Plain}
use Rattle.ca_wire.specs.declared.wire_error.WireError.TheVariants as wire
use Rattle.ca_wire.specs.Builders.{send_packet, write_packet, read_request, cmp_swap, fetch_add}
use Rattle.ca_wire.specs.Decoding.{packet_in, front_at, bth_at, number_at, reth_from, atomic_from, aeth_from, number_from, payload_at, payload_behind, body_in}
use Rattle.ca_wire.specs.Packet.{Fields, be_bytes, packet_bytes, spelling}
use Rattle.ca_wire.specs.Table.{row_of}
use Rattle.ca_model.specs.declared.event.Event.TheVariants as events
use Rattle.ca_model.specs.declared.mark.Drop1.{Drop1}
use Rattle.ca_model.specs.declared.mark.Drop1.TheVariants as drops
use Rattle.ca_model.specs.declared.mark.Mark.{Mark}
use Rattle.ca_model.specs.declared.mark.Mark.TheVariants as marks
use Rattle.ca_model.specs.declared.verb.Verb.TheVariants as verbs
use Rattle.ca_model.specs.machine.Plan.{Update, ◌:=◌, Outcome, NotReady, Did, put_all}
use Rattle.ca_model.specs.machine.Step.{step}
use Rattle.ca_model.specs.machine.World.{Queue_of, Window_of}
use Rattle.ca_model.proofs.Literals.{s, q, k, r, list, piece, receive}
use Rattle.ca_model.proofs.Machine.MarksSeen.{drop_in, denial_in, statuses_in}
use Rattle.ca_model.proofs.Machine.Furnished.{at, region_with, pair, furnished, in_state, ready, all_rights, receive_of, with_received, with_answers}

-- what is seen of an event: a drop, the first denial, the statuses of completions, and the response queue after it
record Seen : Type 0 where
  drop : Option Drop1
  denial : Option Denial
  statuses : List WcStatus
  answers : List Queued

abbrev answers_in : QueueSlot → List Queued
answers_in (NoQueue incarnation timers) = []
answers_in (Present p) = p.responder.answers

abbrev seen : Outcome → Seen
seen (NotReady reason) = record { drop = None; denial = None; statuses = []; answers = [] }
seen (Did w ms) = record { drop = drop_in ms; denial = denial_in ms; statuses = statuses_in ms; answers = answers_in (w.queue (q 0 256)) }

-- what is seen where a packet is dropped, answered, or completes receives
abbrev drops_for : Drop1 → Seen
drops_for cause = record { drop = Some cause; denial = None; statuses = []; answers = [] }

abbrev queues : List Queued → Seen
queues answers = record { drop = None; denial = None; statuses = []; answers = answers }

abbrev completes : WcStatus → List Queued → Seen
completes status answers = record { drop = None; denial = None; statuses = status ∷ []; answers = answers }

abbrev denies : Denial → List WcStatus → List Queued → Seen
denies denial statuses answers = record { drop = None; denial = Some denial; statuses = statuses; answers = answers }

-- bytes arrive at the queue pair 256, in the furnished world with these changes
abbrev arrived : List Update → QueuePair → List ℕ → Seen
arrived changes p bytes =
    seen (step pair (put_all (changes ++ (Queue_of (q 0 256) := Present p) ∷ []) furnished) (events.Verb 0 (verbs.Inject (q 0 256) bytes)))

-- a base transport header at PSN 0, with the last bytes of its partition key and of its destination
abbrev header : ℕ → ℕ → ℕ → ℕ → List ℕ
header opcode flags pkey queue = opcode ∷ flags ∷ pkey ∷ 255 ∷ 0 ∷ 0 ∷ 1 ∷ queue ∷ 0 ∷ 0 ∷ 0 ∷ 0 ∷ []

-- bytes that arrive, and why they are dropped
record Faulty : Type 0 where
  queue : QueuePair
  octets : List ℕ
  cause : Drop1

abbrev faulty : QueuePair → List ℕ → Drop1 → Faulty
faulty queue octets cause = record { queue = queue; octets = octets; cause = cause }

-- the flags hold the pad count, times 16, and the header version
abbrev dropped_bytes : List Faulty
dropped_bytes =
    faulty ready [] (drops.Wire wire.TooShort)
    ∷ faulty ready (21 ∷ 1 ∷ 0 ∷ []) (drops.Wire wire.TooShort)
    ∷ faulty ready (header 21 1 0 1) (drops.Wire wire.Version)
    ∷ faulty ready (header 21 0 0 1) (drops.Wire wire.Opcode)
    ∷ faulty ready (header 10 0 0 1) (drops.Wire wire.TooShort)
    ∷ faulty ready (header 4 0 0 1 ++ 0 ∷ []) (drops.Wire wire.Length)
    ∷ faulty ready (header 17 0 0 1 ++ replicate 8 0) (drops.Wire wire.Length)
    ∷ faulty ready (header 4 0 0 1 ++ replicate 4100 0) (drops.Wire wire.Length)
    ∷ faulty ready (header 4 16 0 1) (drops.Wire wire.Pad)
    ∷ faulty (in_state states.Reset) (header 4 0 0 1) drops.Partition
    ∷ faulty (in_state states.Reset) (header 4 0 255 1) drops.Queue
    ∷ faulty (in_state states.Reset) (header 4 0 255 0) drops.State
    ∷ faulty (in_state states.Init) (header 4 0 255 0) drops.State
    ∷ faulty (in_state states.Error) (header 4 0 255 0) drops.State
    -- a response in Rtr, and one of which no PSN is outstanding
    ∷ faulty (in_state states.Rtr) (header 17 0 255 0 ++ replicate 4 0) drops.State
    ∷ faulty ready (header 17 0 255 0 ++ replicate 4 0) drops.Stale
    ∷ []

dropped : map (λ b. arrived [] b.queue b.octets) dropped_bytes ≡ map (λ b. drops_for b.cause) dropped_bytes
unfolding row_of be_bytes packet_bytes number_at bth_at front_at reth_from atomic_from aeth_from number_from payload_at payload_behind body_in packet_in
dropped = refl

-- a packet that arrives, and what is seen
record Case : Type 0 where
  changes : List Update
  queue : QueuePair
  packet : Fields
  seen : Seen

abbrev case : QueuePair → Fields → Seen → Case
case queue packet seen = record { changes = []; queue = queue; packet = packet; seen = seen }

abbrev case_with : List Update → QueuePair → Fields → Seen → Case
case_with changes queue packet seen = record { changes = changes; queue = queue; packet = packet; seen = seen }

abbrev Arrives : List Case → Type 0
Arrives cases = map (λ c. arrived c.changes c.queue (spelling c.packet)) cases ≡ map (λ c. c.seen) cases

-- a packet of a SEND or a WRITE by its index and the count of the message's packets, with so many bytes
abbrev send : ℕ → ℕ → ℕ → ℕ → Fields
send index count psn payload = send_packet Plain (record { index = index; count = count }) false 256 psn (replicate payload 1)

abbrev write : ℕ → ℕ → ℕ → ℕ → ℕ → Option ℕ → ℕ → Fields
write index count key address whole imm payload =
    write_packet (record { index = index; count = count }) (record { address = address; key = k key; length = whole }) imm false 256 0 (replicate payload 1)

abbrev read : ℕ → ℕ → Fields
read psn count = read_request (record { address = 0x100000000; key = k 1; length = count }) 256 psn

abbrev add : ℕ → ℕ → ℕ → Fields
add psn key address = fetch_add address (k key) 5 256 psn

-- a receiver with a receive of eight bytes
abbrev receiver : QueuePair
receiver = with_received (receive_of 8) ready

-- the receiver expects this PSN
abbrev expecting : ℕ → QueuePair → QueuePair
expecting psn p = record p { responder = record p.responder { expected = at psn } }

abbrev told_nak : QueuePair → QueuePair
told_nak p = record p { responder = record p.responder { nak_sent = true } }

-- ahead: one NAK asks for what is missing. Half of all PSNs lie before the expected one.
ahead : Arrives (
    case receiver (send 0 1 1 8) (queues (queued.Nak (at 0) 0 ∷ []))
    ∷ case receiver (send 0 1 (2 ^ 23 - 1) 8) (queues (queued.Nak (at 0) 0 ∷ []))
    ∷ case (told_nak receiver) (send 0 1 1 8) (drops_for drops.Stale)
    ∷ case receiver (send 0 1 (2 ^ 23) 8) (queues (queued.Ack (at 0 - 1) ∷ []))
    ∷ [])
unfolding row_of be_bytes packet_bytes number_at bth_at front_at reth_from atomic_from aeth_from number_from payload_at payload_behind body_in packet_in
ahead = refl

-- a READ that waits to be answered, for the first time or once more
abbrev queued_read : ℕ → ℕ → Bool → Queued
queued_read psn count duplicate = queued.Read (at psn) (k 1) 0x100000000 count true None duplicate

abbrev keeps : Drop1 → List Queued → Seen
keeps cause answers = record { drop = Some cause; denial = None; statuses = []; answers = answers }

abbrev with_saved : QueuePair → QueuePair
with_saved p = record p { saved = record { psn = at 1; found = 44 } ∷ [] }

-- duplicates, where PSN 3 is expected
duplicates : Arrives (
    case (expecting 3 receiver) (send 0 1 2 8) (queues (queued.Ack (at 2) ∷ []))
    ∷ case (expecting 3 (with_answers (queued.Ack (at 2) ∷ []) receiver)) (send 0 1 2 8) (keeps drops.Unsaved (queued.Ack (at 2) ∷ []))
    ∷ case (expecting 3 receiver) (read 1 512) (queues (queued_read 1 512 true ∷ []))
    ∷ case (expecting 3 receiver) (read 1 513) (drops_for drops.Unsaved)
    ∷ case (expecting 3 (with_saved receiver)) (add 1 1 0x100000000) (queues (queued.Atomic (at 1) 44 true ∷ []))
    ∷ case (expecting 3 (with_saved receiver)) (add 2 1 0x100000000) (drops_for drops.Unsaved)
    -- answers at its PSN or later are removed
    ∷ case (expecting 3 (with_answers (queued_read 0 8 false ∷ queued_read 1 8 false ∷ queued.Ack (at 2) ∷ []) receiver)) (read 1 512)
    (queues (queued_read 0 8 false ∷ queued_read 1 512 true ∷ []))
    -- 15 duplicates are queued, and 16
    ∷ case (expecting 3 (with_answers (replicate 15 (queued_read 0 8 true)) receiver)) (read 1 8) (queues (replicate 15 (queued_read 0 8 true) ++ queued_read 1 8 true ∷ []))
    ∷ case (expecting 3 (with_answers (replicate 16 (queued_read 0 8 true)) receiver)) (read 1 8) (keeps drops.Unsaved (replicate 16 (queued_read 0 8 true)))
    ∷ [])
unfolding row_of be_bytes packet_bytes number_at bth_at front_at reth_from atomic_from aeth_from number_from payload_at payload_behind body_in packet_in
duplicates = refl

-- the remote accesses where a packet arrives
abbrev is_remote : Mark → Bool
is_remote (marks.Remote queue domain envelope key kind address count verdict) = true
is_remote m = false

abbrev remote_accesses : Outcome → ℕ
remote_accesses (NotReady reason) = 0
remote_accesses (Did w ms) = count_by is_remote ms

abbrev accessed : QueuePair → Fields → ℕ
accessed p packet =
    remote_accesses (step pair (put_all ((Queue_of (q 0 256) := Present p) ∷ []) furnished) (events.Verb 0 (verbs.Inject (q 0 256) (spelling packet))))

-- a WRITE accesses memory where it is expected, and not where it comes again
once_accessed : map (λ p. accessed p (write 0 1 1 0x100000000 8 None 8)) (receiver ∷ expecting 3 receiver ∷ []) ≡ 1 ∷ 0 ∷ []
unfolding row_of be_bytes packet_bytes number_at bth_at front_at reth_from atomic_from aeth_from number_from payload_at payload_behind body_in packet_in
once_accessed = refl

-- an invalid request: a NAK 1, and the posted receive is flushed
abbrev invalid : List Queued → Seen
invalid before = record { drop = None; denial = None; statuses = statuses.Flushed ∷ []; answers = before ++ queued.Nak (at 0) 1 ∷ [] }

abbrev in_write_under : ℕ → QueuePair → QueuePair
in_write_under key p = record p { responder = record p.responder { message = Some (messages.Write (k key) 0x100000000 300 600) } }

abbrev in_write : QueuePair → QueuePair
in_write = in_write_under 1

invalid_requests : Arrives (
    -- nothing is in progress; a WRITE is
    case receiver (send 1 3 0 256) (invalid [])
    ∷ case receiver (send 1 2 0 8) (invalid [])
    ∷ case receiver (write 1 3 1 0x100000000 600 None 256) (invalid [])
    ∷ case (in_write receiver) (send 0 1 0 8) (invalid [])
    ∷ case (in_write receiver) (send 1 3 0 256) (invalid [])
    ∷ case (in_write receiver) (write 0 1 1 0x100000000 8 None 8) (invalid [])
    ∷ case (in_write receiver) (read 0 8) (invalid [])
    ∷ case (in_write receiver) (add 0 1 0x100000000) (invalid [])
    -- the payload of a First, a Middle, a Last, an Only, with a path MTU of 256
    ∷ case receiver (send 0 2 0 255) (invalid [])
    ∷ case receiver (send 0 2 0 257) (invalid [])
    ∷ case (in_write receiver) (write 1 3 1 0 0 None 255) (invalid [])
    ∷ case (in_write receiver) (write 1 2 1 0 0 None 0) (invalid [])
    ∷ case receiver (send 0 1 0 257) (invalid [])
    -- a First that leaves nothing, a Last that does not end the message, an Only that does not
    ∷ case receiver (write 0 2 1 0x100000000 256 None 256) (invalid [])
    ∷ case (in_write receiver) (write 1 2 1 0 0 None 256) (invalid [])
    ∷ case receiver (write 0 1 1 0x100000000 9 None 8) (invalid [])
    -- longer than a message may be
    ∷ case receiver (read 0 1048577) (invalid [])
    ∷ case receiver (read 0 1048576) (queues (queued_read 0 1048576 false ∷ []))
    ∷ case receiver (add 0 1 0x100000001) (invalid [])
    -- 16 READs and atomics are queued, and 15; duplicates do not count
    ∷ case (with_answers (replicate 16 (queued_read 0 8 false)) receiver) (read 0 8) (invalid (replicate 16 (queued_read 0 8 false)))
    ∷ case (with_answers (replicate 16 (queued_read 0 8 false)) receiver) (add 0 1 0x100000000) (invalid (replicate 16 (queued_read 0 8 false)))
    ∷ case (with_answers (replicate 15 (queued_read 0 8 false)) receiver) (read 0 8) (queues (replicate 15 (queued_read 0 8 false) ++ queued_read 0 8 false ∷ []))
    ∷ case (with_answers (replicate 16 (queued_read 0 8 true)) receiver) (read 0 8) (queues (replicate 16 (queued_read 0 8 true) ++ queued_read 0 8 false ∷ []))
    ∷ [])
unfolding row_of be_bytes packet_bytes number_at bth_at front_at reth_from atomic_from aeth_from number_from payload_at payload_behind body_in packet_in
invalid_requests = refl

-- no receive is posted: a SEND and an immediate with a WRITE are told to wait, and a WRITE without one takes none
no_receive : Arrives (
    case ready (send 0 1 0 8) (queues (queued.Rnr (at 0) ∷ []))
    ∷ case ready (write 0 1 9 0 8 (Some 6) 8) (queues (queued.Rnr (at 0) ∷ []))
    ∷ case ready (write 0 1 1 0x100000000 8 None 8) (queues (queued.Ack (at 0) ∷ []))
    ∷ [])
unfolding row_of be_bytes packet_bytes number_at bth_at front_at reth_from atomic_from aeth_from number_from payload_at payload_behind body_in packet_in
no_receive = refl

-- a receive with this list
abbrev receiving : ℕ → ℕ → ℕ → QueuePair
receiving key address count = with_received (receive 9 (list (piece key address count ∷ []))) ready

abbrev remote_read_alone : Rights
remote_read_alone = r false true false false false

-- a SEND that is too long for its receive, or whose receive's list is denied, or is placed
receives : Arrives (
    case receiver (send 0 1 0 8) (completes statuses.Success (queued.Ack (at 0) ∷ []))
    ∷ case receiver (send 0 1 0 0) (completes statuses.Success (queued.Ack (at 0) ∷ []))
    ∷ case (receiving 9 0 8) (send 0 1 0 9) (completes statuses.LocalLength (queued.Nak (at 0) 1 ∷ []))
    ∷ case (receiving 2 0 8) (send 0 1 0 8) (denies denials.NoGrant (statuses.LocalProtection ∷ []) (queued.Nak (at 0) 3 ∷ []))
    ∷ case_with (region_with remote_read_alone) (receiving 1 0 8) (send 0 1 0 8) (denies denials.NoRight (statuses.LocalProtection ∷ []) (queued.Nak (at 0) 3 ∷ []))
    ∷ case (receiving 1 0x100000ff9 8) (send 0 1 0 8) (denies denials.OutOfRange (statuses.LocalProtection ∷ []) (queued.Nak (at 0) 3 ∷ []))
    -- what the packet does not touch is not judged
    ∷ case (receiving 1 0x100000ff9 8) (send 0 1 0 7) (completes statuses.Success (queued.Ack (at 0) ∷ []))
    ∷ [])
unfolding row_of be_bytes packet_bytes number_at bth_at front_at reth_from atomic_from aeth_from number_from payload_at payload_behind body_in packet_in
receives = refl

-- the window 1 of type 2, bound through another queue pair over the region 0, with the key 0x800105
abbrev window_of_another : List Update
window_of_another =
    (Window_of (s 0 0 1) := after_binding 5 (Some (q 0 258)) 0 0x100000000 8 all_rights (after_window_allocation 2 (vacant_window (s 0 0 1)))) ∷ []

-- a denied access is a NAK 2, and the posted receive is flushed
abbrev refuses : Denial → Seen
refuses denial = denies denial (statuses.Flushed ∷ []) (queued.Nak (at 0) 2 ∷ [])

-- a WRITE is judged for all bytes that are left, and one of no bytes is not
writes : Arrives (
    case receiver (write 0 1 1 0x100000ff8 8 None 8) (queues (queued.Ack (at 0) ∷ []))
    ∷ case receiver (write 0 1 9 0 0 None 0) (queues (queued.Ack (at 0) ∷ []))
    ∷ case receiver (write 0 1 2 0 8 None 8) (refuses denials.NoGrant)
    ∷ case_with window_of_another receiver (write 0 1 0x800105 0 8 None 8) (refuses denials.WrongQueue)
    ∷ case_with (region_with remote_read_alone) receiver (write 0 1 1 0 8 None 8) (refuses denials.NoRight)
    ∷ case receiver (write 0 1 1 0x100000ff9 8 None 8) (refuses denials.OutOfRange)
    ∷ case receiver (write 0 17 1 0x100000000 4097 None 256) (refuses denials.OutOfRange)
    -- each packet of a message is judged, and not its first alone
    ∷ case (in_write_under 9 receiver) (write 1 3 9 0 0 None 256) (refuses denials.NoGrant)
    ∷ [])
unfolding row_of be_bytes packet_bytes number_at bth_at front_at reth_from atomic_from aeth_from number_from payload_at payload_behind body_in packet_in
writes = refl

-- an atomic is judged for its eight bytes
atomics : Arrives (
    case receiver (add 0 1 0x100000ff8) (queues (queued.Atomic (at 0) 0 false ∷ []))
    ∷ case receiver (cmp_swap (record { address = 0x100000000; key = k 1; swap = 3; compare = 0 }) 256 0) (queues (queued.Atomic (at 0) 0 false ∷ []))
    ∷ case receiver (add 0 2 0) (refuses denials.NoGrant)
    ∷ case_with window_of_another receiver (add 0 0x800105 0) (refuses denials.WrongQueue)
    ∷ case_with (region_with remote_read_alone) receiver (add 0 1 0) (refuses denials.NoRight)
    ∷ case receiver (add 0 1 0x101000000) (refuses denials.OutOfRange)
    ∷ [])
unfolding row_of be_bytes packet_bytes number_at bth_at front_at reth_from atomic_from aeth_from number_from payload_at payload_behind body_in packet_in
atomics = refl

-- an ACK takes the place of one at the end of the response queue, and of no other answer
acks : Arrives (
    case (expecting 1 (with_answers (queued.Ack (at 0) ∷ []) receiver)) (send 0 1 1 8) (completes statuses.Success (queued.Ack (at 1) ∷ []))
    ∷ case (expecting 1 (with_answers (queued_read 0 8 false ∷ []) receiver)) (send 0 1 1 8) (completes statuses.Success (queued_read 0 8 false ∷ queued.Ack (at 1) ∷ []))
    ∷ [])
unfolding row_of be_bytes packet_bytes number_at bth_at front_at reth_from atomic_from aeth_from number_from payload_at payload_behind body_in packet_in
acks = refl

-- a READ at the front of the response queue, and what is seen of the responder's turn
record Answered : Type 0 where
  changes : List Update
  answer : Queued
  seen : Seen

abbrev answered : List Update → ℕ → ℕ → ℕ → Seen → Answered
answered changes key address left seen =
    record { changes = changes; answer = queued.Read (at 0) (k key) address left true None false; seen = seen }

abbrev responded : List Update → Queued → Seen
responded changes answer =
    seen (step pair (put_all (changes ++ (Queue_of (q 0 256) := Present (with_answers (answer ∷ []) receiver)) ∷ []) furnished) (events.Respond (q 0 256) lots.Pass))

-- a denied READ empties the response queue, and the posted receive is flushed
abbrev denies_read : Denial → Seen
denies_read denial = denies denial (statuses.Flushed ∷ []) []

-- a READ is judged for all bytes that are left, and one of no bytes is not
abbrev reads : List Answered
reads =
    answered [] 1 0x100000ff8 8 (queues [])
    ∷ answered [] 9 0 0 (queues [])
    ∷ answered [] 1 0x100000000 300 (queues (queued.Read (at 1) (k 1) 0x100000100 44 false None false ∷ []))
    ∷ answered [] 2 0 8 (denies_read denials.NoGrant)
    ∷ answered window_of_another 0x800105 0 8 (denies_read denials.WrongQueue)
    ∷ answered (region_with (r true false true true true)) 1 0 8 (denies_read denials.NoRight)
    ∷ answered [] 1 0x100000ff9 8 (denies_read denials.OutOfRange)
    ∷ answered [] 1 0x100000000 4097 (denies_read denials.OutOfRange)
    ∷ []

read_answers : map (λ x. responded x.changes x.answer) reads ≡ map (λ x. x.seen) reads
unfolding row_of be_bytes packet_bytes
read_answers = refl
