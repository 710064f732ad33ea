-- Responses that arrive at a requester, timers and wakes: what each makes of the numbers and which completions it brings,
-- with implied NAKs and with retries that are used up. For proofs only.
use Rattle.std.proofs.Common.{◌≡◌, ℕ, Bool, List, [], ◌∷◌, ◌++◌, map, replicate, true, false, Option, None, Some, refl}
use Rattle.ca_keys.specs.declared.access.Denial.{Denial}
use Rattle.ca_keys.specs.declared.access.Denial.TheVariants as denials
use Rattle.ca_base.specs.declared.change.State.TheVariants as states
use Rattle.ca_base.specs.declared.completion.WcStatus.{WcStatus}
use Rattle.ca_base.specs.declared.completion.WcStatus.TheVariants as statuses
use Rattle.ca_base.specs.declared.request.SendOp.{SendOp}
use Rattle.ca_base.specs.declared.request.SendOp.TheVariants as ops
use Rattle.ca_base.specs.objects.QueuePair.{QueuePair, QueueSlot, NoQueue, Present}
use Rattle.ca_wire.specs.declared.syndrome.NakCode.TheVariants.{PsnSequenceError, InvalidRequest, RemoteAccessError, RemoteOperationalError}
use Rattle.ca_wire.specs.Builders.{acknowledgement, atomic_acknowledge, nak, read_response, rnr_nak}
use Rattle.ca_wire.specs.Decoding.{packet_in, front_at, bth_at, number_at, reth_from, atomic_from, aeth_from, number_from, payload_at, payload_behind, body_in}
use Rattle.ca_wire.specs.Packet.{Fields, be_bytes, packet_bytes, spelling}
use Rattle.ca_wire.specs.Table.{row_of}
use Rattle.ca_model.specs.declared.event.Event.TheVariants as events
use Rattle.ca_model.specs.declared.mark.Drop1.{Drop1}
use Rattle.ca_model.specs.declared.mark.Drop1.TheVariants as drops
use Rattle.ca_model.specs.declared.mark.Mark.{Mark}
use Rattle.ca_model.specs.declared.verb.Verb.TheVariants as verbs
use Rattle.ca_model.specs.machine.Plan.{Update, ◌:=◌, Outcome, NotReady, Did, put_all}
use Rattle.ca_model.specs.machine.Step.{step}
use Rattle.ca_model.specs.machine.World.{Queue_of}
use Rattle.ca_model.proofs.Literals.{q, k, r, list, piece}
use Rattle.ca_model.proofs.Machine.MarksSeen.{drop_in, denial_in, statuses_in}
use Rattle.ca_model.proofs.Machine.Furnished.{at, region_with, pair, furnished, in_state, send_of, read_of, add_of, signalled, with_posted, with_begun}

-- what is seen of an event: the first PSN that is not acknowledged and the next to send, from the first on; retries and
-- RNR NAKs since the last progress; whether it waits for a wake; a drop; a denial; the statuses of completions
record Seen : Type 0 where
  una : ℕ
  cursor : ℕ
  retries : ℕ
  rnrs : ℕ
  waiting : Bool
  drop : Option Drop1
  denial : Option Denial
  statuses : List WcStatus

abbrev seen_of : QueueSlot → List Mark → Option Seen
seen_of (NoQueue incarnation timers) ms = None
seen_of (Present p) ms = Some (record {
  una = p.requester.una;
  cursor = p.requester.cursor;
  retries = p.requester.retries;
  rnrs = p.requester.rnrs;
  waiting = p.requester.waiting;
  drop = drop_in ms;
  denial = denial_in ms;
  statuses = statuses_in ms;
})

abbrev seen : Outcome → Option Seen
seen (NotReady reason) = None
seen (Did w ms) = seen_of (w.queue (q 0 256)) ms

-- the numbers, and the completions
abbrev goes_on : ℕ → ℕ → List WcStatus → Seen
goes_on una cursor statuses = record {
  una = at una;
  cursor = at cursor;
  retries = 0;
  rnrs = 0;
  waiting = false;
  drop = None;
  denial = None;
  statuses = statuses;
}

-- the same, with one retry
abbrev goes_back : ℕ → ℕ → List WcStatus → Seen
goes_back una cursor statuses = record (goes_on una cursor statuses) { retries = 1 }

abbrev drops_for : Drop1 → Seen → Seen
drops_for cause x = record x { drop = Some cause }

-- a requester that may retry so often, and has sent its requests, which take so many PSNs
abbrev sender : ℕ → ℕ → ℕ → ℕ → List SendOp → QueuePair
sender retry rnr_retry count psns posted = by posted (in_state states.Rts)
  where
    sent : QueuePair → QueuePair
    sent p = record (with_begun count psns p) {
      requester = record (with_begun count psns p).requester { retry = retry; rnr_retry = rnr_retry };
    }

    by : List SendOp → QueuePair → QueuePair
    by [] p = sent p
    by (op ∷ posted) p = by posted (with_posted (signalled op) p)

-- two SENDs; a READ and a SEND; a SEND, a READ and a SEND
abbrev sends : QueuePair
sends = sender 1 1 2 2 (send_of 8 ∷ send_of 8 ∷ [])

abbrev read_then_send : QueuePair
read_then_send = sender 1 1 2 2 (read_of 8 ∷ send_of 8 ∷ [])

abbrev send_read_send : QueuePair
send_read_send = sender 1 1 3 3 (send_of 8 ∷ read_of 8 ∷ send_of 8 ∷ [])

abbrev atomic_then_send : QueuePair
atomic_then_send = sender 1 1 2 2 (add_of 8 ∷ send_of 8 ∷ [])

-- a packet that arrives, in the furnished world with these changes
record Case : Type 0 where
  changes : List Update
  queue : QueuePair
  packet : Fields
  seen : Seen

abbrev case : QueuePair → Fields → Seen → Case
case queue packet seen = record { changes = []; queue = queue; packet = packet; seen = seen }

abbrev case_with : List Update → QueuePair → Fields → Seen → Case
case_with changes queue packet seen = record { changes = changes; queue = queue; packet = packet; seen = seen }

abbrev arrived : Case → Option Seen
arrived c = seen (step pair (put_all (c.changes ++ (Queue_of (q 0 256) := Present c.queue) ∷ []) furnished)
    (events.Verb 0 (verbs.Inject (q 0 256) (spelling c.packet))))

abbrev Arrives : List Case → Type 0
Arrives cases = map arrived cases ≡ map (λ c. Some c.seen) cases

abbrev success : WcStatus
success = statuses.Success

-- a response at a PSN
abbrev ack : ℕ → Fields
ack psn = acknowledgement 256 psn 0

abbrev rnr : ℕ → Fields
rnr psn = rnr_nak 0 256 psn 0

-- an acknowledgement with another syndrome
abbrev other : ℕ → ℕ → Fields
other syndrome psn = record (ack psn) { aeth = Some (record { syndrome = syndrome; msn = 0 }) }

-- the part of a READ's answer by its index and the count of its packets, with so many bytes
abbrev answer : ℕ → ℕ → ℕ → ℕ → Fields
answer index count psn payload = read_response (record { index = index; count = count }) 256 psn 0 (replicate payload 1)

abbrev found : ℕ → Fields
found psn = atomic_acknowledge 44 256 psn 0

acknowledgements : Arrives (
    case sends (ack 0) (goes_on 1 2 (success ∷ []))
    ∷ case sends (ack 1) (goes_on 2 2 (success ∷ success ∷ []))
    -- the credit code is not looked at
    ∷ case sends (other 0 1) (goes_on 2 2 (success ∷ success ∷ []))
    ∷ case sends (ack 2) (drops_for drops.Stale (goes_on 0 2 []))
    ∷ case sends (ack 16777215) (drops_for drops.Stale (goes_on 0 2 []))
    ∷ case sends (other 0x40 1) (drops_for drops.Stale (goes_on 0 2 []))
    ∷ case sends (other 0x64 1) (drops_for drops.Stale (goes_on 0 2 []))
    ∷ [])
unfolding row_of be_bytes packet_bytes number_at bth_at front_at reth_from atomic_from aeth_from number_from payload_at payload_behind body_in packet_in
acknowledgements = refl

-- all before the PSN is acknowledged; NAK 0 goes back there, the others fail the request and flush what is behind it
naks : Arrives (
    case sends (nak PsnSequenceError 256 1 0) (goes_back 1 1 (success ∷ []))
    ∷ case sends (nak PsnSequenceError 256 0 0) (goes_back 0 0 [])
    ∷ case sends (nak InvalidRequest 256 1 0) (goes_on 1 2 (success ∷ statuses.RemoteInvalidRequest ∷ []))
    ∷ case sends (nak RemoteAccessError 256 1 0) (goes_on 1 2 (success ∷ statuses.RemoteAccess ∷ []))
    ∷ case sends (nak RemoteOperationalError 256 0 0) (goes_on 0 2 (statuses.RemoteOperation ∷ statuses.Flushed ∷ []))
    ∷ [])
unfolding row_of be_bytes packet_bytes number_at bth_at front_at reth_from atomic_from aeth_from number_from payload_at payload_behind body_in packet_in
naks = refl

-- a requester that counted one retry and one RNR NAK before
abbrev tried : ℕ → ℕ → QueuePair
tried retry rnr_retry = record (sender retry rnr_retry 2 2 (send_of 8 ∷ send_of 8 ∷ [])) {
  requester = record (sender retry rnr_retry 2 2 (send_of 8 ∷ send_of 8 ∷ [])).requester { retries = 1; rnrs = 1 };
}

-- the counts begin anew with progress; without it one more retry, or one more RNR NAK, is one too many
retries : Arrives (
    case (tried 1 1) (nak PsnSequenceError 256 1 0) (goes_back 1 1 (success ∷ []))
    ∷ case (tried 2 1) (nak PsnSequenceError 256 0 0) (record (goes_on 0 0 []) { retries = 2; rnrs = 1 })
    ∷ case (tried 1 1) (nak PsnSequenceError 256 0 0) (record (goes_on 0 2 (statuses.RetryExceeded ∷ statuses.Flushed ∷ [])) { retries = 2; rnrs = 1 })
    ∷ case (tried 1 1) (rnr 1) (record (goes_on 1 1 (success ∷ [])) { rnrs = 1; waiting = true })
    ∷ case (tried 1 2) (rnr 0) (record (goes_on 0 0 []) { retries = 1; rnrs = 2; waiting = true })
    ∷ case (tried 1 1) (rnr 0) (record (goes_on 0 2 (statuses.RnrRetryExceeded ∷ statuses.Flushed ∷ [])) { retries = 1; rnrs = 2 })
    -- 7 is without end
    ∷ case (record (tried 1 7) { requester = record (tried 1 7).requester { rnrs = 9 } }) (rnr 0) (record (goes_on 0 0 []) { retries = 1; rnrs = 10; waiting = true })
    ∷ [])
unfolding row_of be_bytes packet_bytes number_at bth_at front_at reth_from atomic_from aeth_from number_from payload_at payload_behind body_in packet_in
retries = refl

-- a READ or an atomic before it was not answered: each response goes back to it
implied_naks : Arrives (
    case read_then_send (ack 1) (goes_back 0 0 [])
    ∷ case read_then_send (ack 0) (goes_back 0 0 [])
    ∷ case read_then_send (nak PsnSequenceError 256 1 0) (goes_back 0 0 [])
    ∷ case read_then_send (nak InvalidRequest 256 1 0) (goes_back 0 0 [])
    ∷ case read_then_send (nak RemoteAccessError 256 1 0) (goes_back 0 0 [])
    ∷ case read_then_send (nak RemoteOperationalError 256 1 0) (goes_back 0 0 [])
    ∷ case read_then_send (rnr 1) (goes_back 0 0 [])
    ∷ case read_then_send (answer 0 1 1 8) (goes_back 0 0 [])
    ∷ case read_then_send (found 1) (goes_back 0 0 [])
    ∷ case atomic_then_send (ack 1) (goes_back 0 0 [])
    -- what is before it completes, and the count begins anew
    ∷ case send_read_send (ack 2) (goes_back 1 1 (success ∷ []))
    ∷ case (sender 0 0 2 2 (read_of 8 ∷ send_of 8 ∷ [])) (ack 1) (record (goes_on 0 2 (statuses.RetryExceeded ∷ statuses.Flushed ∷ [])) { retries = 1 })
    -- a NAK at the READ itself is none
    ∷ case read_then_send (nak RemoteAccessError 256 0 0) (goes_on 0 2 (statuses.RemoteAccess ∷ statuses.Flushed ∷ []))
    ∷ [])
unfolding row_of be_bytes packet_bytes number_at bth_at front_at reth_from atomic_from aeth_from number_from payload_at payload_behind body_in packet_in
implied_naks = refl

-- a READ of three packets, with a path MTU of 256
abbrev long_read : QueuePair
long_read = sender 1 1 1 3 (read_of 600 ∷ [])

abbrev bad : ℕ → List WcStatus → Seen
bad una before = goes_on una 3 (before ++ statuses.BadResponse ∷ [])

-- answers to READs and atomics, and those that do not fit
answers : Arrives (
    case long_read (answer 0 3 0 256) (goes_on 1 3 [])
    ∷ case (record long_read { requester = record long_read.requester { una = at 1 } }) (answer 1 3 1 256) (goes_on 2 3 [])
    ∷ case (record long_read { requester = record long_read.requester { una = at 2 } }) (answer 2 3 2 88) (goes_on 3 3 (success ∷ []))
    ∷ case read_then_send (answer 0 1 0 8) (goes_on 1 2 (success ∷ []))
    ∷ case atomic_then_send (found 0) (goes_on 1 2 (success ∷ []))
    -- another length, the last too early, the first in place of the last, the other kind, no such request
    ∷ case long_read (answer 0 3 0 255) (bad 0 [])
    ∷ case long_read (answer 0 1 0 256) (bad 0 [])
    ∷ case (record long_read { requester = record long_read.requester { una = at 2 } }) (answer 0 3 2 88) (bad 2 [])
    ∷ case long_read (found 0) (bad 0 [])
    ∷ case atomic_then_send (answer 0 1 0 8) (goes_on 0 2 (statuses.BadResponse ∷ statuses.Flushed ∷ []))
    ∷ case sends (answer 0 1 0 8) (goes_on 0 2 (statuses.BadResponse ∷ statuses.Flushed ∷ []))
    ∷ case sends (found 1) (goes_on 1 2 (success ∷ statuses.BadResponse ∷ []))
    ∷ [])
unfolding row_of be_bytes packet_bytes number_at bth_at front_at reth_from atomic_from aeth_from number_from payload_at payload_behind body_in packet_in
answers = refl

-- a READ into this list
abbrev read_into : ℕ → ℕ → QueuePair
read_into key address = sender 1 1 1 1 (ops.Read 0x100000000 (k 1) (list (piece key address 8 ∷ [])) ∷ [])

abbrev denied : Denial → Seen
denied denial = record (goes_on 0 1 (statuses.LocalProtection ∷ [])) { denial = Some denial }

-- the list of a READ is judged when its answer comes
lists : Arrives (
    case (read_into 1 0x100000ff8) (answer 0 1 0 8) (goes_on 1 1 (success ∷ []))
    ∷ case (read_into 2 0) (answer 0 1 0 8) (denied denials.NoGrant)
    ∷ case (read_into 0x800001 0) (answer 0 1 0 8) (denied denials.NoGrant)
    ∷ case_with (region_with (r false true false false false)) (read_into 1 0) (answer 0 1 0 8) (denied denials.NoRight)
    ∷ case (read_into 1 0x100000ff9) (answer 0 1 0 8) (denied denials.OutOfRange)
    ∷ [])
unfolding row_of be_bytes packet_bytes number_at bth_at front_at reth_from atomic_from aeth_from number_from payload_at payload_behind body_in packet_in
lists = refl

-- a timer: one retry back to the first PSN that is not acknowledged, or one too many
abbrev timed : QueuePair → Option Seen
timed p = seen (step pair (put_all ((Queue_of (q 0 256) := Present p) ∷ []) furnished) (events.Timeout (q 0 256) false))

timer : timed sends ≡ Some (goes_back 0 0 [])
timer = refl

timer_too_often : timed (tried 1 1) ≡ Some (record (goes_on 0 2 (statuses.RetryExceeded ∷ statuses.Flushed ∷ [])) { retries = 2; rnrs = 1 })
timer_too_often = refl

-- a wake ends the waiting alone
abbrev woken : QueuePair → Option Seen
woken p = seen (step pair (put_all ((Queue_of (q 0 256) := Present p) ∷ []) furnished) (events.RnrWake (q 0 256)))

wake : woken (record sends { requester = record sends.requester { waiting = true } }) ≡ Some (goes_on 0 2 [])
wake = refl
