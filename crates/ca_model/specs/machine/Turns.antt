-- The turns of a queue pair's engine: request, respond, timeout and wake. Contracts cite it.
use Rattle.std.specs.Prelude.{ℕ, ◌==◌, ◌&&◌, ◌||◌, Bool, true, false, not, if◌then◌else◌, List, [], ◌∷◌, ◌++◌, length, Option, None, Some, is_none}
use Rattle.std.specs.Option.{option_map_or}
use Rattle.ca_base.specs.declared.lot.Lot.{Lot}
use Rattle.ca_keys.specs.declared.names.QueueId.{QueueId}
use Rattle.ca_base.specs.declared.step.Reason.TheVariants as reasons
use Rattle.ca_base.specs.declared.step.Sent.{Sent}
use Rattle.ca_base.specs.declared.step.Sent.TheVariants.{Silent, Spelt}
use Rattle.ca_base.specs.Configuration.{Configuration}
use Rattle.ca_base.specs.declared.correspondent.Correspondent.{Correspondent}
use Rattle.ca_base.specs.objects.Mailbox.{Mailbox, after_send, has_room, is_lost, passes, undelivered_count}
use Rattle.ca_base.specs.objects.QueuePair.{QueuePair, QueueSlot, Present, correspondent_of, queue_in, srq_of}
use Rattle.ca_model.specs.declared.mark.Mark.{Mark}
use Rattle.ca_model.specs.declared.mark.Mark.TheVariants as marks
use Rattle.ca_model.specs.machine.Arrivals.{next_receive}
use Rattle.ca_model.specs.machine.Around.{Around, With_around, With_queue, updates_of}
use Rattle.ca_model.specs.machine.LocalOperations.{Perform_plan}
use Rattle.ca_model.specs.machine.Plan.{Plan, Stuck, Look, Finish, Update, ◌:=◌, Write, unless_refused}
use Rattle.ca_model.specs.machine.Requester.{RequestTurn, Waits, Performs, Sends, turn_of, packet_row}
use Rattle.ca_model.specs.machine.Respond.{respond_refusals, respond_row}
use Rattle.ca_model.specs.machine.Row.{Effects, Row_plan}
use Rattle.ca_model.specs.machine.Timers.{after_timeout, after_wake, timeout_refusals, wake_refusals}
use Rattle.ca_model.specs.machine.World.{Mailbox_of, Queue_of, Srq_of}

-- the path exists: the peer's mailbox accepts the queue pair
abbrev pub reaches_peer : QueuePair → Correspondent → Mailbox → Bool
reaches_peer q peer m = passes (correspondent_of q) peer.incarnation m

-- there is room for a packet, or it is lost anyway
abbrev pub has_room_for : QueuePair → Correspondent → Mailbox → Bool
has_room_for q peer m = not (reaches_peer q peer m) || has_room m

-- what is sent: a packet of a request, or a response
pub record Packet : Type 0 where
  pub request : Option ℕ
  pub bytes : List ℕ

abbrev pub packet_sent : Effects → Option Packet
packet_sent e = by e.sent
  where
    by : Sent → Option Packet
    by Silent = None
    by (Spelt request) = Some (record { request = request; bytes = e.spelt })

-- the marks of a packet: it is under way, or lost by the weather, or lost since no path leads to the peer
abbrev pub sent_marks : QueuePair → Correspondent → Mailbox → Lot → Packet → List Mark
sent_marks q peer m lot p =
    if reaches_peer q peer m
    then marks.Sent q.queue peer.queue (Some m.next) p.request p.bytes
    ∷ (if is_lost lot then marks.Lost peer.queue (Some m.next) ∷ [] else [])
    else marks.Sent q.queue peer.queue None p.request p.bytes ∷ marks.Lost peer.queue None ∷ []

-- the peer's mailbox has the packet, where a path leads there
abbrev pub sent_updates : QueuePair → Correspondent → Mailbox → Lot → Packet → List Update
sent_updates q peer m lot p = if reaches_peer q peer m then (Mailbox_of peer.queue := after_send lot p.bytes m) ∷ [] else []

-- a turn is done: what its effects change, and the packet that it sends
abbrev pub Leave_plan : QueuePair → Around → Correspondent → Mailbox → Lot → Effects → List Update → List Write → Plan
Leave_plan q a peer m lot e changes writes = Finish
    (updates_of q a e ++ (changes ++ option_map_or (sent_updates q peer m lot) (packet_sent e) []))
    writes
    (e.marks ++ option_map_or (sent_marks q peer m lot) (packet_sent e) [])

-- what a requester's turn does, with what stands around the queue pair
abbrev pub Request_around : Configuration → Lot → QueuePair → Around → Option Correspondent → RequestTurn → Plan
Request_around c lot q a peer (Waits reason) = Stuck reason
Request_around c lot q a peer (Performs n) =
    Perform_plan c q n (λ e changes writes. Finish (updates_of q a e ++ changes) writes e.marks)
Request_around c lot q a None (Sends n) = Stuck reasons.State
Request_around c lot q a (Some peer) (Sends n) = Look (Mailbox_of peer.queue) (λ m.
    Row_plan c (packet_row q (has_room_for q peer m) n) (Leave_plan q a peer m lot))

-- the requester's turn
abbrev pub request_plan : Configuration → QueueId → Lot → Plan
request_plan c q lot = With_queue c q reasons.State (λ queue. With_around queue (λ a.
    Request_around c lot queue a queue.peer (turn_of queue)))

-- what a responder's turn does
abbrev pub Respond_around : Configuration → Lot → QueuePair → Around → Option Correspondent → Plan
Respond_around c lot q a None = unless_refused (respond_refusals true q) Stuck (Stuck reasons.Empty)
Respond_around c lot q a (Some peer) = Look (Mailbox_of peer.queue) (λ m.
    Row_plan c (respond_row (has_room_for q peer m) q) (Leave_plan q a peer m lot))

-- the responder's turn
abbrev pub respond_plan : Configuration → QueueId → Lot → Plan
respond_plan c q lot = With_queue c q reasons.State (λ queue. With_around queue (λ a.
    Respond_around c lot queue a queue.peer))

-- nothing is under way to the queue pair, and, where a path leads to the peer, nothing to it, and it owes no answer
abbrev pub is_silent : QueuePair → Mailbox → Correspondent → QueueSlot → Mailbox → Bool
is_silent q own peer slot m =
    (undelivered_count own.envelopes == 0)
    && (not (reaches_peer q peer m)
    || ((undelivered_count m.envelopes == 0) && option_map_or (λ p. length p.responder.answers == 0) (queue_in slot) true))

-- a timer fires, or not
abbrev pub Fire : Bool → QueuePair → Around → Bool → Plan
Fire hasten q a silent = unless_refused (timeout_refusals silent hasten q) Stuck
    (Finish (updates_of q a (after_timeout silent q)) [] (after_timeout silent q).marks)

-- what a timer's turn does
abbrev pub Timeout_around : Bool → QueuePair → Mailbox → Around → Option Correspondent → Plan
Timeout_around hasten q own a None = unless_refused (timeout_refusals false hasten q) Stuck (Stuck reasons.Empty)
Timeout_around hasten q own a (Some peer) = Look (Queue_of peer.queue) (λ slot. Look (Mailbox_of peer.queue) (λ m.
    Fire hasten q a (is_silent q own peer slot m)))

-- a timer's turn
abbrev pub timeout_plan : Configuration → QueueId → Bool → Plan
timeout_plan c q hasten = With_queue c q reasons.State (λ queue. Look (Mailbox_of q) (λ own. With_around queue (λ a.
    Timeout_around hasten queue own a queue.peer)))

-- looks at whether a queue pair has no receive to take
abbrev pub With_receives : QueueSlot → (Bool → Plan) → Plan
With_receives slot k = by (queue_in slot)
  where
    source : QueuePair → Option ℕ → Plan
    source p None = k (is_none (next_receive p None))
    source p (Some srq) = Look (Srq_of (srq_of p srq)) (λ s. k (is_none (next_receive p s.srq)))

    by : Option QueuePair → Plan
    by None = k true
    by (Some p) = source p p.srq

-- the wake after an RNR NAK
abbrev pub wake_plan : Configuration → QueueId → Plan
wake_plan c q = With_queue c q reasons.State (λ queue. by queue queue.peer)
  where
    wakes : QueuePair → Bool → Plan
    wakes queue peer_empty = unless_refused (wake_refusals peer_empty queue) Stuck
        (Finish ((Queue_of queue.queue := Present (after_wake queue).queue) ∷ []) [] (after_wake queue).marks)

    by : QueuePair → Option Correspondent → Plan
    by queue None = unless_refused (wake_refusals false queue) Stuck (Stuck reasons.Empty)
    by queue (Some peer) = Look (Queue_of peer.queue) (λ slot. Look (Mailbox_of peer.queue) (λ m.
        With_receives slot (λ empty. wakes queue (reaches_peer queue peer m && empty))))
