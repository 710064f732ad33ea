-- The marks of every event keep to the bounds. For proofs only.
use Rattle.std.proofs.Common.{ℕ, ◌&&◌, Bool, true, false, if◌then◌else◌, List, [], ◌∷◌, ◌++◌, Option, None, Some, rules}
use Rattle.std.specs.Option.{option_map_or}
use Rattle.ca_law_endings.specs.Runs.{Comes, Leads}
use Rattle.ca_law_endings.proofs.LeadsLemmas.{comes, leads-around, leads-queue, leads-row, leads-unless}
use Rattle.ca_law_keys.proofs.Keys.PlainLemmas.{timeout-plain}
use Rattle.ca_base.specs.Configuration.{Configuration}
use Rattle.ca_base.specs.declared.correspondent.Correspondent.{Correspondent}
use Rattle.ca_base.specs.declared.lot.Lot.{Lot}
use Rattle.ca_base.specs.declared.step.Reason.TheVariants as reasons
use Rattle.ca_base.specs.objects.Mailbox.{Mailbox, after_delivery, bytes_lent, is_lost}
use Rattle.ca_base.specs.objects.QueuePair.{QueuePair, QueueSlot, NoQueue, Present}
use Rattle.ca_keys.specs.declared.names.QueueId.{QueueId}
use Rattle.ca_law_world.proofs.Sound.WorldLemmas.{RowDoes, around_in, shared_of}
use Rattle.ca_law_isolation.proofs.BoundedOperations.{leads-perform}
use Rattle.ca_law_isolation.proofs.BoundedRows.{IsIn, bounded-append, packet-in, plain-bounded, respond-in}
use Rattle.ca_law_isolation.proofs.BoundedVerbs.{Within, in-arrive, in-verb}
use Rattle.ca_law_isolation.specs.Bounds.{AreBounded}
use Rattle.ca_model.specs.declared.event.Event.{Event}
use Rattle.ca_model.specs.declared.event.Event.TheVariants as events
use Rattle.ca_model.specs.declared.mark.Mark.TheVariants as marks
use Rattle.ca_model.specs.machine.Around.{Around, With_around, updates_of}
use Rattle.ca_model.specs.machine.Delivery.{Arrive, deliver_plan}
use Rattle.ca_model.specs.machine.Plan.{Plan, Stuck, Look, Finish, ◌:=◌, unless_refused}
use Rattle.ca_model.specs.machine.Requester.{Performs, RequestTurn, Sends, Waits, packet_row, turn_of}
use Rattle.ca_model.specs.machine.Respond.{respond_refusals, respond_row}
use Rattle.ca_model.specs.machine.Row.{Row, Row_plan}
use Rattle.ca_model.specs.machine.Sound.{IsSoundWorld}
use Rattle.ca_model.specs.machine.Step.{plan, step}
use Rattle.ca_model.specs.machine.Timers.{after_timeout, after_wake, timeout_refusals, wake_refusals}
use Rattle.ca_model.specs.machine.Turns.{Fire, Leave_plan, Packet, Request_around, Respond_around, Timeout_around, With_receives, has_room_for, packet_sent, reaches_peer, request_plan, respond_plan, sent_marks, timeout_plan, wake_plan}
use Rattle.ca_model.specs.machine.World.{Mailbox_of, Queue_of, World}

sent-in : (c : Configuration) (q : QueuePair) (peer : Correspondent) (m : Mailbox) (lot : Lot) (o : Option Packet) → AreBounded c (option_map_or (sent_marks q peer m lot) o [])
sent-in c q peer m lot None = record {}
sent-in c q peer m lot (Some x) = by (reaches_peer q peer m) (is_lost lot)
  where
    by : (b z : Bool) → AreBounded c (if b
        then marks.Sent q.queue peer.queue (Some m.next) x.request x.bytes ∷ (if z then marks.Lost peer.queue (Some m.next) ∷ [] else [])
        else marks.Sent q.queue peer.queue None x.request x.bytes ∷ marks.Lost peer.queue None ∷ [])
    by true true = (record {}, (record {}, record {}))
    by true false = (record {}, record {})
    by false z = (record {}, (record {}, record {}))

-- a turn's row, and what it sends
in-left : (c : Configuration) (w : World) (q : QueuePair) (a : Around) (peer : Correspondent) (m : Mailbox) (lot : Lot) (row : Row) → RowDoes (IsIn c) row → Leads w (Within c) (Row_plan c row (Leave_plan q a peer m lot))
in-left c w q a peer m lot row does = leads-row c w (Within c) (IsIn c) row (Leave_plan q a peer m lot) does
    (λ e cs ws bounded aside. bounded-append c e.marks (option_map_or (sent_marks q peer m lot) (packet_sent e) []) bounded (sent-in c q peer m lot (packet_sent e)))

in-request : (c : Configuration) (w : World) (name : QueueId) (lot : Lot) → IsSoundWorld c w → Leads w (Within c) (request_plan c name lot)
in-request c w name lot sound = leads-queue c w (Within c) name reasons.State (λ q. With_around q (λ a. Request_around c lot q a q.peer (turn_of q)))
    (λ q is. leads-around w (Within c) q (λ a. Request_around c lot q a q.peer (turn_of q)) (by q (around_in w q (shared_of w q)) q.peer (turn_of q)))
  where
    by : (q : QueuePair) (a : Around) (peer : Option Correspondent) (turn : RequestTurn) → Leads w (Within c) (Request_around c lot q a peer turn)
    by q a peer (Waits reason) = record {}
    by q a peer (Performs n) = leads-perform c w (Within c) q n (λ e changes writes. Finish (updates_of q a e ++ changes) writes e.marks) n.request.op sound (λ e cs ws bounded. bounded)
    by q a None (Sends n) = record {}
    by q a (Some peer) (Sends n) = in-left c w q a peer (w.mailbox peer.queue) lot (packet_row q (has_room_for q peer (w.mailbox peer.queue)) n) (packet-in c q (has_room_for q peer (w.mailbox peer.queue)) n)

in-respond : (c : Configuration) (w : World) (name : QueueId) (lot : Lot) → Leads w (Within c) (respond_plan c name lot)
in-respond c w name lot = leads-queue c w (Within c) name reasons.State (λ q. With_around q (λ a. Respond_around c lot q a q.peer))
    (λ q is. leads-around w (Within c) q (λ a. Respond_around c lot q a q.peer) (by q (around_in w q (shared_of w q)) q.peer))
  where
    by : (q : QueuePair) (a : Around) (peer : Option Correspondent) → Leads w (Within c) (Respond_around c lot q a peer)
    by q a None = leads-unless w (Within c) (respond_refusals true q) Stuck (Stuck reasons.Empty) (λ r. record {}) (record {})
    by q a (Some peer) = in-left c w q a peer (w.mailbox peer.queue) lot (respond_row (has_room_for q peer (w.mailbox peer.queue)) q) (respond-in c (has_room_for q peer (w.mailbox peer.queue)) q)

in-timeout : (c : Configuration) (w : World) (name : QueueId) (hasten : Bool) → Leads w (Within c) (timeout_plan c name hasten)
in-timeout c w name hasten =
    leads-queue c w (Within c) name reasons.State (λ q. Look (Mailbox_of name) (λ own. With_around q (λ a. Timeout_around hasten q own a q.peer)))
    (λ q is. leads-around w (Within c) q (λ a. Timeout_around hasten q (w.mailbox name) a q.peer) (by q q.peer))
  where
    fire : (q : QueuePair) (silent : Bool) → Leads w (Within c) (Fire hasten q (around_in w q (shared_of w q)) silent)
    fire q silent = leads-unless w (Within c) (timeout_refusals silent hasten q) Stuck
        (Finish (updates_of q (around_in w q (shared_of w q)) (after_timeout silent q)) [] (after_timeout silent q).marks) (λ r. record {})
        (plain-bounded c (after_timeout silent q).marks (timeout-plain q silent).marks)

    by : (q : QueuePair) (peer : Option Correspondent) → Leads w (Within c) (Timeout_around hasten q (w.mailbox name) (around_in w q (shared_of w q)) peer)
    by q None = leads-unless w (Within c) (timeout_refusals false hasten q) Stuck (Stuck reasons.Empty) (λ r. record {}) (record {})
    by q (Some peer) = fire q _

in-deliver : (c : Configuration) (w : World) (name : QueueId) (index : ℕ) → Leads w (Within c) (deliver_plan c name index)
in-deliver c w name index = (λ has. lent (bytes_lent index m), λ none. record {})
  where
    m : Mailbox
    m = w.mailbox name

    at : List ℕ → QueueSlot → Plan
    at bytes (NoQueue incarnation timers) = Stuck reasons.NotKept
    at bytes (Present q) = Arrive c q bytes (Some index) ((Mailbox_of name := after_delivery index m) ∷ []) []

    under_way : Option (List ℕ) → Plan
    under_way None = Stuck reasons.NotKept
    under_way (Some bytes) = Look (Queue_of name) (at bytes)

    there : (bytes : List ℕ) (s : QueueSlot) → Leads w (Within c) (at bytes s)
    there bytes (NoQueue incarnation timers) = record {}
    there bytes (Present q) = in-arrive c w q bytes (Some index) ((Mailbox_of name := after_delivery index m) ∷ []) [] (λ ns bounded. (record {}, bounded))

    lent : (o : Option (List ℕ)) → Leads w (Within c) (under_way o)
    lent None = record {}
    lent (Some bytes) = there bytes (w.queue name)

in-wake : (c : Configuration) (w : World) (name : QueueId) → Leads w (Within c) (wake_plan c name)
in-wake c w name = leads-queue c w (Within c) name reasons.State (λ q. waking q q.peer) (λ q is. by q q.peer)
  where
    wakes : QueuePair → Bool → Plan
    wakes q empty = unless_refused (wake_refusals empty q) Stuck (Finish ((Queue_of q.queue := Present (after_wake q).queue) ∷ []) [] (after_wake q).marks)

    waking : QueuePair → Option Correspondent → Plan
    waking q None = unless_refused (wake_refusals false q) Stuck (Stuck reasons.Empty)
    waking q (Some peer) = Look (Queue_of peer.queue) (λ slot. Look (Mailbox_of peer.queue) (λ m.
        With_receives slot (λ empty. wakes q (reaches_peer q peer m && empty))))

    wake : (q : QueuePair) (empty : Bool) → Leads w (Within c) (wakes q empty)
    wake q empty = leads-unless w (Within c) (wake_refusals empty q) Stuck (Finish ((Queue_of q.queue := Present (after_wake q).queue) ∷ []) [] (after_wake q).marks) (λ r. record {}) (record {})

    receives : (slot : QueueSlot) (k : Bool → Plan) → ((b : Bool) → Leads w (Within c) (k b)) → Leads w (Within c) (With_receives slot k)
    receives slot k more = search rules

    by : (q : QueuePair) (peer : Option Correspondent) → Leads w (Within c) (waking q peer)
    by q None = leads-unless w (Within c) (wake_refusals false q) Stuck (Stuck reasons.Empty) (λ r. record {}) (record {})
    by q (Some peer) = receives (w.queue peer.queue) (λ empty. wakes q (reaches_peer q peer (w.mailbox peer.queue) && empty)) (λ empty. wake q _)

bounded : (c : Configuration) (w : World) (event : Event) → IsSoundWorld c w → Leads w (Within c) (plan c event)
bounded c w (events.Verb by verb) sound = (λ named. in-verb c w (record { by = by; verb = verb }) verb, λ none. (record {}, record {}))
bounded c w (events.Request queue lot) sound = in-request c w queue lot sound
bounded c w (events.Deliver queue index) sound = in-deliver c w queue index
bounded c w (events.Respond queue lot) sound = in-respond c w queue lot
bounded c w (events.Timeout queue hasten) sound = in-timeout c w queue hasten
bounded c w (events.RnrWake queue) sound = in-wake c w queue

pub event-bounded : (c : Configuration) (event : Event) (w : World) → IsSoundWorld c w → Comes (λ v ms. AreBounded c ms) (step c w event)
event-bounded c event w sound = comes w (Within c) (plan c event) (bounded c w event sound)
