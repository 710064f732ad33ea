-- The turns of an engine: where each is possible, and each reason why it is not, in its order; and which envelope is due.
-- For proofs only.
use Rattle.std.proofs.Common.{◌≡◌, ℕ, Bool, List, [], ◌∷◌, ◌++◌, map, replicate, true, false, Option, None, Some, refl}
use Rattle.ca_base.specs.declared.change.State.TheVariants as states
use Rattle.ca_base.specs.declared.lot.Lot.TheVariants as lots
use Rattle.ca_keys.specs.declared.names.QueueId.{QueueId}
use Rattle.ca_base.specs.declared.queue_numbers.Queued.TheVariants as queued
use Rattle.ca_base.specs.declared.request.SendOp.{SendOp}
use Rattle.ca_base.specs.declared.request.SendOp.TheVariants as ops
use Rattle.ca_base.specs.declared.step.Reason.{Reason}
use Rattle.ca_base.specs.declared.step.Reason.TheVariants as reasons
use Rattle.ca_base.specs.declared.mail_envelope.MailEnvelope.{MailEnvelope}
use Rattle.ca_base.specs.objects.Mailbox.{Mailbox, due, empty_mailbox}
use Rattle.ca_base.specs.objects.QueuePair.{QueuePair, QueueSlot, Present, psn_base, vacant_queue}
use Rattle.ca_wire.specs.Decoding.{packet_in, front_at, bth_at, number_at}
use Rattle.ca_wire.specs.Packet.{be_bytes, packet_bytes}
use Rattle.ca_wire.specs.Table.{row_of}
use Rattle.ca_model.specs.declared.event.Event.{Event}
use Rattle.ca_model.specs.declared.event.Event.TheVariants as events
use Rattle.ca_model.specs.machine.Plan.{◌:=◌, Outcome, NotReady, Did, put_all}
use Rattle.ca_model.specs.machine.Step.{step}
use Rattle.ca_model.specs.machine.World.{World, Mailbox_of, Queue_of}
use Rattle.ca_model.proofs.Literals.{q, k, list, piece}
use Rattle.ca_model.proofs.Machine.Furnished.{pair, with_queue, furnished, in_state, ready, send_of, write_of, read_of, add_of, signalled, fenced, receive_of, with_posted, with_begun, gone_back, with_received, with_answers, envelope, mailbox_for, new_queue}

-- why an event is not possible
abbrev reason_of : Outcome → Option Reason
reason_of (NotReady reason) = Some reason
reason_of (Did w ms) = None

-- the event is possible
abbrev possible : Option Reason
possible = None

-- a queue pair with the reason why its turn is not possible
record Case : Type 0 where
  queue : QueuePair
  reason : Option Reason

infix 10 ◌⟶◌
abbrev ◌⟶◌ : QueuePair → Option Reason → Case
queue ⟶ reason = record { queue = queue; reason = reason }

abbrev reasons_in : (QueuePair → World) → Event → List Case → List (Option Reason)
reasons_in world event cases = map (λ c. reason_of (step pair (world c.queue) event)) cases

abbrev wanted : List Case → List (Option Reason)
wanted cases = map (λ c. c.reason) cases

-- the peer's mailbox accepts the queue pair, and has these envelopes
abbrev with_path : List MailEnvelope → QueuePair → World
with_path envelopes p = put_all ((Mailbox_of (q 1 256) := mailbox_for 0 0 envelopes) ∷ []) (with_queue p)

abbrev waiting : QueuePair → QueuePair
waiting p = record p { requester = record p.requester { waiting = true } }

abbrev no_retry_limit : QueuePair → QueuePair
no_retry_limit p = record p { requester = record p.requester { rnr_retry = 7 } }

abbrev one_send : QueuePair → QueuePair
one_send p = with_posted (signalled (send_of 8)) p

-- a SEND whose list no key allows
abbrev denied_send : SendOp
denied_send = ops.Send (list (piece 9 0x100000000 8 ∷ []))

-- a SEND of 64 packets
abbrev long_send : SendOp
long_send = ops.Send (list (piece 1 0x100000000 4096 ∷ piece 1 0x100000000 4096 ∷ piece 1 0x100000000 4096 ∷ piece 1 0x100000000 4096 ∷ []))

abbrev then_posts : SendOp → QueuePair → QueuePair
then_posts op p = with_posted (signalled op) p

abbrev request : Event
request = events.Request (q 0 256) lots.Pass

-- no such queue pair: a number outside the slices, and a vacant slot
request_of_none : reason_of (step pair furnished (events.Request (q 0 260) lots.Pass)) ≡ Some reasons.State
request_of_none = refl

request_of_vacant : reason_of (step pair furnished (events.Request (q 0 259) lots.Pass)) ≡ Some reasons.State
request_of_vacant = refl

abbrev requests : List Case
requests =
    (waiting (one_send (in_state states.Reset)) ⟶ Some reasons.State)
    ∷ (waiting (one_send (in_state states.Init)) ⟶ Some reasons.State)
    ∷ (waiting (one_send (in_state states.Rtr)) ⟶ Some reasons.State)
    ∷ (waiting (one_send (in_state states.Error)) ⟶ Some reasons.State)
    -- in Sqd none is begun, but one that has begun is sent again
    ∷ (waiting (one_send (in_state states.Sqd)) ⟶ Some reasons.State)
    ∷ (gone_back (with_begun 1 1 (one_send (in_state states.Sqd))) ⟶ possible)
    ∷ (in_state states.Sqd ⟶ Some reasons.Empty)
    ∷ (waiting ready ⟶ Some reasons.RnrWait)
    ∷ (waiting (one_send ready) ⟶ Some reasons.RnrWait)
    ∷ (ready ⟶ Some reasons.Empty)
    ∷ (with_begun 1 1 (one_send ready) ⟶ Some reasons.Empty)
    ∷ (one_send ready ⟶ possible)
    -- a local operation waits for all, a fence for READs and atomics
    ∷ (then_posts (ops.LocalInv (k 9)) (with_begun 1 1 (one_send ready)) ⟶ Some reasons.Fence)
    ∷ (then_posts (ops.LocalInv (k 9)) ready ⟶ possible)
    ∷ (with_posted (fenced (send_of 8)) (with_begun 1 1 (then_posts (read_of 8) ready)) ⟶ Some reasons.Fence)
    ∷ (with_posted (fenced (send_of 8)) (with_begun 1 1 (then_posts (add_of 8) ready)) ⟶ Some reasons.Fence)
    ∷ (with_posted (fenced (send_of 8)) (with_begun 1 1 (then_posts (write_of 8) ready)) ⟶ possible)
    -- 8192 PSNs, 64 request packets, as many READs and atomics as the bound
    ∷ (one_send (with_begun 2 8192 (then_posts (read_of 1048576) (then_posts (read_of 1048576) ready))) ⟶ Some reasons.Outstanding)
    ∷ (one_send (with_begun 2 8191 (then_posts (read_of 1048320) (then_posts (read_of 1048576) ready))) ⟶ possible)
    ∷ (one_send (with_begun 1 64 (then_posts long_send ready)) ⟶ Some reasons.Outstanding)
    ∷ (with_begun 1 63 (then_posts long_send ready) ⟶ possible)
    ∷ (then_posts (add_of 8) (with_begun 2 2 (then_posts (read_of 8) (then_posts (add_of 8) ready))) ⟶ Some reasons.Outstanding)
    ∷ (then_posts (add_of 8) (with_begun 1 1 (then_posts (add_of 8) ready)) ⟶ possible)
    -- a denied list waits while something is outstanding, and fails the request where nothing is
    ∷ (then_posts denied_send (with_begun 1 1 (one_send ready)) ⟶ Some reasons.Outstanding)
    ∷ (then_posts denied_send ready ⟶ possible)
    ∷ []

request_reasons : reasons_in (with_path []) request requests ≡ wanted requests
unfolding be_bytes packet_bytes row_of
request_reasons = refl

-- the peer's mailbox has no room
abbrev requests_without_room : List Case
requests_without_room =
    (ready ⟶ Some reasons.Empty)
    ∷ (one_send ready ⟶ Some reasons.NoRoom)
    ∷ (then_posts denied_send ready ⟶ Some reasons.NoRoom)
    ∷ (then_posts denied_send (with_begun 1 1 (one_send ready)) ⟶ Some reasons.Outstanding)
    ∷ (then_posts (ops.LocalInv (k 9)) ready ⟶ possible)
    ∷ []

abbrev undelivered_128 : List MailEnvelope
undelivered_128 = replicate 128 (envelope lots.Pass)

request_reasons_without_room : reasons_in (with_path undelivered_128) request requests_without_room ≡ wanted requests_without_room
request_reasons_without_room = refl

-- room at its edges: 127 are undelivered; the envelope that would no longer be kept is undelivered, or just not yet
room_for_one : reason_of (step pair (with_path (replicate 127 (envelope lots.Pass)) (one_send ready)) request) ≡ possible
room_for_one = refl

no_room_behind_an_old_one :
    reason_of (step pair (with_path (replicate 255 (envelope lots.Lose) ++ (envelope lots.Pass ∷ [])) (one_send ready)) request)
    ≡ Some reasons.NoRoom
no_room_behind_an_old_one = refl

room_behind_a_newer_one :
    reason_of (step pair (with_path (replicate 254 (envelope lots.Lose) ++ (envelope lots.Pass ∷ [])) (one_send ready)) request)
    ≡ possible
room_behind_a_newer_one = refl

-- where no path leads to the peer, its room is not asked for
room_without_a_path :
    reason_of (step pair (put_all ((Mailbox_of (q 1 256) := mailbox_for 9 0 undelivered_128) ∷ []) (with_queue (one_send ready))) request)
    ≡ possible
room_without_a_path = refl

abbrev respond : Event
respond = events.Respond (q 0 256) lots.Pass

respond_of_none : reason_of (step pair furnished (events.Respond (q 0 260) lots.Pass)) ≡ Some reasons.State
respond_of_none = refl

respond_of_vacant : reason_of (step pair furnished (events.Respond (q 0 259) lots.Pass)) ≡ Some reasons.State
respond_of_vacant = refl

abbrev owes_ack : QueuePair → QueuePair
owes_ack p = with_answers (queued.Ack psn_base ∷ []) p

abbrev responds : List Case
responds =
    (owes_ack (in_state states.Reset) ⟶ Some reasons.State)
    ∷ (owes_ack (in_state states.Init) ⟶ Some reasons.State)
    ∷ (ready ⟶ Some reasons.Empty)
    ∷ (in_state states.Error ⟶ Some reasons.Empty)
    ∷ (owes_ack (in_state states.Rtr) ⟶ possible)
    ∷ (owes_ack ready ⟶ possible)
    ∷ (owes_ack (in_state states.Sqd) ⟶ possible)
    ∷ (owes_ack (in_state states.Error) ⟶ possible)
    ∷ []

respond_reasons : reasons_in (with_path []) respond responds ≡ wanted responds
respond_reasons = refl

abbrev responds_without_room : List Case
responds_without_room = (ready ⟶ Some reasons.Empty) ∷ (owes_ack ready ⟶ Some reasons.NoRoom) ∷ []

respond_reasons_without_room : reasons_in (with_path undelivered_128) respond responds_without_room ≡ wanted responds_without_room
respond_reasons_without_room = refl

-- an index, of the envelopes that were sent to a queue pair, and why it is not delivered
abbrev delivery : QueueId → Mailbox → ℕ → Option Reason
delivery queue m index = reason_of (step pair (put_all ((Mailbox_of queue := m) ∷ []) furnished) (events.Deliver queue index))

abbrev one_mail : Mailbox
one_mail = mailbox_for 1 1 (envelope lots.Pass ∷ [])

deliver_to_none : delivery (q 0 260) one_mail 0 ≡ Some reasons.NotKept
deliver_to_none = refl

deliver_to_vacant : delivery (q 0 259) one_mail 0 ≡ Some reasons.NotKept
deliver_to_vacant = refl

deliver_not_sent : delivery (q 0 256) one_mail 1 ≡ Some reasons.NotKept
deliver_not_sent = refl

deliver_lost : delivery (q 0 256) (mailbox_for 1 1 (envelope lots.Lose ∷ [])) 0 ≡ Some reasons.NotKept
deliver_lost = refl

-- the last 256 are kept
deliver_too_old : delivery (q 0 256) (mailbox_for 1 257 (replicate 256 (envelope lots.Pass))) 0 ≡ Some reasons.NotKept
deliver_too_old = refl

deliver_oldest : delivery (q 0 256) (mailbox_for 1 257 (replicate 256 (envelope lots.Pass))) 1 ≡ possible
unfolding packet_in front_at bth_at number_at
deliver_oldest = refl

-- one that is held may be delivered at any time, and one that was delivered once more
deliver_held : delivery (q 0 256) (mailbox_for 1 1 (envelope (lots.Hold 3) ∷ [])) 0 ≡ possible
unfolding packet_in front_at bth_at number_at
deliver_held = refl

deliver_again : delivery (q 0 256) (mailbox_for 1 1 (record (envelope lots.Pass) { delivered = 1 } ∷ [])) 0 ≡ possible
unfolding packet_in front_at bth_at number_at
deliver_again = refl

-- a timer, of a world with the own mailbox, the peer and the peer's mailbox
abbrev timer_world : List MailEnvelope → QueueSlot → List MailEnvelope → QueuePair → World
timer_world own peer envelopes p =
    put_all ((Mailbox_of (q 0 256) := mailbox_for 1 0 own) ∷ (Queue_of (q 1 256) := peer) ∷ []) (with_path envelopes p)

abbrev timer : Bool → Event
timer hasten = events.Timeout (q 0 256) hasten

abbrev sent_one : QueuePair → QueuePair
sent_one p = with_begun 1 1 (one_send p)

timer_of_none : reason_of (step pair furnished (events.Timeout (q 0 260) true)) ≡ Some reasons.State
timer_of_none = refl

timer_of_vacant : reason_of (step pair furnished (events.Timeout (q 0 259) true)) ≡ Some reasons.State
timer_of_vacant = refl

abbrev timers : List Case
timers =
    (sent_one (in_state states.Reset) ⟶ Some reasons.State)
    ∷ (sent_one (in_state states.Init) ⟶ Some reasons.State)
    ∷ (sent_one (in_state states.Rtr) ⟶ Some reasons.State)
    ∷ (sent_one (in_state states.Error) ⟶ Some reasons.State)
    ∷ (ready ⟶ Some reasons.Empty)
    ∷ (in_state states.Sqd ⟶ Some reasons.Empty)
    ∷ (sent_one ready ⟶ possible)
    ∷ (sent_one (in_state states.Sqd) ⟶ possible)
    ∷ []

silent_timers : reasons_in (timer_world [] vacant_queue []) (timer false) timers ≡ wanted timers
silent_timers = refl

hastened_timers : reasons_in (timer_world [] vacant_queue []) (timer true) timers ≡ wanted timers
hastened_timers = refl

-- it is not silent where something is under way to the queue pair or to the peer, or the peer owes an answer
abbrev owing_peer : QueueSlot
owing_peer = Present (owes_ack (new_queue 256))

timer_with_mail : reasons_in (timer_world (envelope lots.Pass ∷ []) vacant_queue []) (timer false) ((sent_one ready ⟶ None) ∷ []) ≡ Some reasons.NotDue ∷ []
timer_with_mail = refl

timer_with_mail_of_the_peer : reasons_in (timer_world [] vacant_queue (envelope lots.Pass ∷ [])) (timer false) ((sent_one ready ⟶ None) ∷ []) ≡ Some reasons.NotDue ∷ []
timer_with_mail_of_the_peer = refl

timer_with_an_answer_owed : reasons_in (timer_world [] owing_peer []) (timer false) ((sent_one ready ⟶ None) ∷ []) ≡ Some reasons.NotDue ∷ []
timer_with_an_answer_owed = refl

timer_hastened : reasons_in (timer_world (envelope lots.Pass ∷ []) owing_peer (envelope lots.Pass ∷ [])) (timer true) ((sent_one ready ⟶ None) ∷ []) ≡ possible ∷ []
timer_hastened = refl

-- nothing comes before Empty
timer_with_mail_and_nothing_sent : reasons_in (timer_world (envelope lots.Pass ∷ []) vacant_queue []) (timer false) ((ready ⟶ None) ∷ []) ≡ Some reasons.Empty ∷ []
timer_with_mail_and_nothing_sent = refl

-- a wake, of a world with this peer; without a receive of the peer it waits where the limit is 7 and the path exists
abbrev wake_world : QueueSlot → QueuePair → World
wake_world peer p = timer_world [] peer [] p

abbrev wake : Event
wake = events.RnrWake (q 0 256)

wake_of_none : reason_of (step pair furnished (events.RnrWake (q 0 260))) ≡ Some reasons.State
wake_of_none = refl

wake_of_vacant : reason_of (step pair furnished (events.RnrWake (q 0 259))) ≡ Some reasons.State
wake_of_vacant = refl

abbrev wakes : List Case
wakes =
    (waiting (in_state states.Reset) ⟶ Some reasons.State)
    ∷ (waiting (in_state states.Init) ⟶ Some reasons.State)
    ∷ (waiting (in_state states.Rtr) ⟶ Some reasons.State)
    ∷ (waiting (in_state states.Error) ⟶ Some reasons.State)
    ∷ (ready ⟶ Some reasons.Empty)
    ∷ (no_retry_limit ready ⟶ Some reasons.Empty)
    ∷ (waiting (no_retry_limit ready) ⟶ Some reasons.RnrWait)
    ∷ (waiting ready ⟶ possible)
    ∷ (waiting (in_state states.Sqd) ⟶ possible)
    ∷ []

wake_reasons : reasons_in (wake_world (Present (new_queue 256))) wake wakes ≡ wanted wakes
wake_reasons = refl

wake_with_a_receive : reasons_in (wake_world (Present (with_received (receive_of 8) (new_queue 256)))) wake ((waiting (no_retry_limit ready) ⟶ None) ∷ []) ≡ possible ∷ []
wake_with_a_receive = refl

wake_without_a_path : reasons_in with_queue wake ((waiting (no_retry_limit ready) ⟶ None) ∷ []) ≡ possible ∷ []
wake_without_a_path = refl

-- which envelope is due, of those with the indices from 0 on, the newest first
abbrev due_of : List MailEnvelope → ℕ → Option ℕ
due_of envelopes next = due (mailbox_for 1 next envelopes)

abbrev delivered : ℕ → MailEnvelope → MailEnvelope
delivered times e = record e { delivered = times }

due_of_none : due empty_mailbox ≡ None
due_of_none = refl

due_lowest : due_of (envelope lots.Pass ∷ envelope lots.Pass ∷ []) 2 ≡ Some 0
due_lowest = refl

due_lost : due_of (envelope lots.Lose ∷ []) 1 ≡ None
due_lost = refl

due_once_more : due_of (delivered 1 (envelope (lots.Repeat 1)) ∷ []) 1 ≡ Some 0
due_once_more = refl

due_no_more : due_of (delivered 2 (envelope (lots.Repeat 1)) ∷ []) 1 ≡ None
due_no_more = refl

-- a held one waits until as many later ones were delivered, or all that are undelivered are held
due_past_a_hold : due_of (envelope lots.Pass ∷ envelope (lots.Hold 1) ∷ []) 2 ≡ Some 1
due_past_a_hold = refl

due_hold_with_enough : due_of (envelope lots.Pass ∷ delivered 1 (envelope lots.Pass) ∷ envelope (lots.Hold 1) ∷ []) 3 ≡ Some 0
due_hold_with_enough = refl

due_hold_with_too_few : due_of (envelope lots.Pass ∷ delivered 1 (envelope lots.Pass) ∷ envelope (lots.Hold 2) ∷ []) 3 ≡ Some 2
due_hold_with_too_few = refl

due_holds_alone : due_of (envelope (lots.Hold 3) ∷ envelope (lots.Hold 3) ∷ []) 2 ≡ Some 0
due_holds_alone = refl
