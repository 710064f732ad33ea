-- The marks of every event fit it, and what the machine runs is a history. For proofs only.
use Rattle.std.proofs.Common.{ℕ, ◌&&◌, Bool, true, false, if◌then◌else◌, List, [], ◌∷◌, ◌++◌, Option, None, Some, rules}
use Rattle.std.specs.Option.{option_map_or}
use Rattle.ca_law_endings.specs.Runs.{Leads}
use Rattle.ca_law_endings.proofs.InnerLemmas.{AreOwn, own-inner, AreInner, IsInner, IsInnerMark, arrival-inner, packet-inner, respond-inner, timeout-inner}
use Rattle.ca_law_endings.proofs.LeadsLemmas.{leads-around, leads-queue, leads-row, leads-unless}
use Rattle.ca_law_endings.proofs.PerformLemmas.{leads-perform}
use Rattle.ca_base.specs.Configuration.{Configuration}
use Rattle.ca_base.specs.declared.correspondent.Correspondent.{Correspondent}
use Rattle.ca_base.specs.declared.lot.Lot.{Lot}
use Rattle.ca_base.specs.declared.step.Reason.TheVariants as reasons
use Rattle.ca_base.specs.declared.step.Sent.{Sent}
use Rattle.ca_base.specs.declared.step.Sent.TheVariants.{Silent, Spelt}
use Rattle.ca_base.specs.objects.Mailbox.{Mailbox, after_delivery, bytes_lent, is_lost}
use Rattle.ca_base.specs.objects.QueuePair.{QueuePair, QueueSlot, NoQueue, Present}
use Rattle.ca_keys.specs.declared.names.QueueId.{QueueId}
use Rattle.ca_model.specs.History.{ArePlain, IsPlain}
use Rattle.ca_model.specs.declared.mark.Mark.{Mark}
use Rattle.ca_model.specs.declared.mark.Mark.TheVariants as marks
use Rattle.ca_model.specs.machine.Around.{Around, With_around, shared_in, updates_of}
use Rattle.ca_model.specs.machine.Delivery.{Arrive, arrival_row, deliver_plan}
use Rattle.ca_model.specs.machine.Plan.{Plan, Stuck, Look, Finish, Update, ◌:=◌, Write, unless_refused}
use Rattle.ca_model.specs.machine.Requester.{Performs, RequestTurn, Sends, Waits, packet_row, turn_of}
use Rattle.ca_model.specs.machine.Respond.{respond_refusals, respond_row}
use Rattle.ca_model.specs.machine.Row.{Effects, Row, Row_plan}
use Rattle.ca_model.specs.machine.Timers.{after_timeout, after_wake, timeout_refusals, wake_refusals}
use Rattle.ca_model.specs.machine.Turns.{Fire, Leave_plan, Packet, Request_around, Respond_around, Timeout_around, With_receives, has_room_for, packet_sent, reaches_peer, request_plan, respond_plan, sent_marks, timeout_plan, wake_plan}
use Rattle.ca_model.specs.machine.World.{Mailbox_of, Queue_of, World}
use Rattle.ca_law_world.proofs.Sound.WorldLemmas.{RowDoes, around_in, shared_of}

-- what holds of a turn's marks, whatever the world
abbrev pub Turns : World → List Mark → Type 0
Turns v ms = ArePlain ms

-- the same of a turn that sends nothing
abbrev pub Silent_turns : World → List Mark → Type 0
Silent_turns v ms = AreInner ms

-- and no packet arrives
abbrev pub Own_turns : World → List Mark → Type 0
Own_turns v ms = AreOwn ms

plain-mark : (m : Mark) → IsInnerMark m → IsPlain m
plain-mark (marks.Verb by verb answer) inner = inner
plain-mark (marks.Granted g) inner = inner
plain-mark (marks.Revoked adapter key) inner = inner
plain-mark (marks.Remote queue domain envelope key kind address count verdict) inner = inner
plain-mark (marks.Local queue domain key kind address count verdict) inner = inner
plain-mark (marks.Stored place bytes) inner = inner
plain-mark (marks.Sent source target index request bytes) inner = record {}
plain-mark (marks.Lost target index) inner = record {}
plain-mark (marks.Arrived target index) inner = inner
plain-mark (marks.Dropped target cause) inner = inner
plain-mark (marks.Timer queue silent) inner = inner
plain-mark (marks.Done queue x cause) inner = inner

-- the marks of rows are plain
pub plain : (ms : List Mark) → AreInner ms → ArePlain ms
plain [] inner = record {}
plain (m ∷ ms) inner = (plain-mark m inner.0, plain ms inner.1)

pub plain-append : (ms ns : List Mark) → ArePlain ms → ArePlain ns → ArePlain (ms ++ ns)
plain-append [] ns one other = other
plain-append (m ∷ ms) ns one other = (one.0, plain-append ms ns one.1 other)

-- the marks of a packet that is sent, if one is
sent-plain : (q : QueuePair) (peer : Correspondent) (m : Mailbox) (lot : Lot) (e : Effects) → ArePlain (option_map_or (sent_marks q peer m lot) (packet_sent e) [])
sent-plain q peer m lot e = by e.sent
  where
    packet : Sent → Option Packet
    packet Silent = None
    packet (Spelt request) = Some (record { request = request; bytes = e.spelt })

    lost : (b : Bool) → ArePlain (if b then marks.Lost peer.queue (Some m.next) ∷ [] else [])
    lost true = (record {}, record {})
    lost false = record {}

    reach : (p : Packet) (b : Bool) → ArePlain (
        if b then marks.Sent q.queue peer.queue (Some m.next) p.request p.bytes ∷ (if is_lost lot then marks.Lost peer.queue (Some m.next) ∷ [] else [])
        else marks.Sent q.queue peer.queue None p.request p.bytes ∷ marks.Lost peer.queue None ∷ [])
    reach p true = (record {}, lost (is_lost lot))
    reach p false = (record {}, (record {}, record {}))

    by : (s : Sent) → ArePlain (option_map_or (sent_marks q peer m lot) (packet s) [])
    by Silent = record {}
    by (Spelt request) = reach (record { request = request; bytes = e.spelt }) (reaches_peer q peer m)

-- a turn's row, and what it sends
fits-left : (c : Configuration) (w : World) (q : QueuePair) (peer : Correspondent) (lot : Lot) (row : Row) → RowDoes (IsInner q) row
    → Leads w Turns (Row_plan c row (Leave_plan q (around_in w q (shared_of w q)) peer (w.mailbox peer.queue) lot))
fits-left c w q peer lot row does =
    leads-row c w Turns (IsInner q) row (Leave_plan q (around_in w q (shared_of w q)) peer (w.mailbox peer.queue) lot) does
    (λ e cs ws inner aside. plain-append e.marks (option_map_or (sent_marks q peer (w.mailbox peer.queue) lot) (packet_sent e) []) (plain e.marks (own-inner e.marks inner.marks))
    (sent-plain q peer (w.mailbox peer.queue) lot e))

pub fits-request : (c : Configuration) (w : World) (name : QueueId) (lot : Lot) → Leads w Turns (request_plan c name lot)
fits-request c w name lot = leads-queue c w Turns name reasons.State (λ q. With_around q (λ a. Request_around c lot q a q.peer (turn_of q)))
    (λ q is. leads-around w Turns q (λ a. Request_around c lot q a q.peer (turn_of q)) (by q q.peer (turn_of q)))
  where
    by : (q : QueuePair) (peer : Option Correspondent) (turn : RequestTurn) → Leads w Turns (Request_around c lot q (around_in w q (shared_of w q)) peer turn)
    by q peer (Waits reason) = record {}
    by q peer (Performs n) = leads-perform c w Turns q n (λ e changes writes. Finish (updates_of q (around_in w q (shared_of w q)) e ++ changes) writes e.marks) n.request.op
        (λ e cs ws inner aside. plain e.marks (own-inner e.marks inner.marks))
    by q None (Sends n) = record {}
    by q (Some peer) (Sends n) = fits-left c w q peer lot (packet_row q (has_room_for q peer (w.mailbox peer.queue)) n) (packet-inner q (has_room_for q peer (w.mailbox peer.queue)) n)

pub fits-respond : (c : Configuration) (w : World) (name : QueueId) (lot : Lot) → Leads w Turns (respond_plan c name lot)
fits-respond c w name lot = leads-queue c w Turns name reasons.State (λ q. With_around q (λ a. Respond_around c lot q a q.peer))
    (λ q is. leads-around w Turns q (λ a. Respond_around c lot q a q.peer) (by q q.peer))
  where
    by : (q : QueuePair) (peer : Option Correspondent) → Leads w Turns (Respond_around c lot q (around_in w q (shared_of w q)) peer)
    by q None = leads-unless w Turns (respond_refusals true q) Stuck (Stuck reasons.Empty) (λ r. record {}) (record {})
    by q (Some peer) = fits-left c w q peer lot (respond_row (has_room_for q peer (w.mailbox peer.queue)) q) (respond-inner (has_room_for q peer (w.mailbox peer.queue)) q)

pub fits-timeout : (c : Configuration) (w : World) (name : QueueId) (hasten : Bool) → Leads w Own_turns (timeout_plan c name hasten)
fits-timeout c w name hasten =
    leads-queue c w Own_turns name reasons.State (λ q. Look (Mailbox_of name) (λ own. With_around q (λ a. Timeout_around hasten q own a q.peer)))
    (λ q is. leads-around w Own_turns q (λ a. Timeout_around hasten q (w.mailbox name) a q.peer) (by q q.peer))
  where
    fire : (q : QueuePair) (silent : Bool) → Leads w Own_turns (Fire hasten q (around_in w q (shared_of w q)) silent)
    fire q silent = leads-unless w Own_turns (timeout_refusals silent hasten q) Stuck
        (Finish (updates_of q (around_in w q (shared_of w q)) (after_timeout silent q)) [] (after_timeout silent q).marks) (λ r. record {})
        (timeout-inner q silent).marks

    by : (q : QueuePair) (peer : Option Correspondent) → Leads w Own_turns (Timeout_around hasten q (w.mailbox name) (around_in w q (shared_of w q)) peer)
    by q None = leads-unless w Own_turns (timeout_refusals false hasten q) Stuck (Stuck reasons.Empty) (λ r. record {}) (record {})
    by q (Some peer) = fire q _

-- a packet that arrives, behind marks that come first
pub fits-arrive : (c : Configuration) (w : World) (P : World → List Mark → Type 0) (q : QueuePair) (bytes : List ℕ) (envelope : Option ℕ) (pre : List Update) (ms : List Mark)
    → ((v : World) (ns : List Mark) → AreOwn ns → P v (ms ++ marks.Arrived q.queue envelope ∷ ns)) → Leads w P (Arrive c q bytes envelope pre ms)
fits-arrive c w P q bytes envelope pre ms more =
    leads-around w P q (λ a. Row_plan c (arrival_row bytes envelope (shared_in a) q) (finish a))
    (leads-row c w P (IsInner q) (arrival_row bytes envelope (shared_in a) q) (finish a) (arrival-inner bytes envelope (shared_in a) q)
    (λ e cs ws inner aside. more _ e.marks inner.marks))
  where
    a : Around
    a = around_in w q (shared_of w q)

    finish : Around → Effects → List Update → List Write → Plan
    finish a e more writes = Finish (pre ++ (updates_of q a e ++ more)) writes (ms ++ marks.Arrived q.queue envelope ∷ e.marks)

pub fits-deliver : (c : Configuration) (w : World) (name : QueueId) (index : ℕ) → Leads w Silent_turns (deliver_plan c name index)
fits-deliver c w name index = (λ has. lent (bytes_lent index (w.mailbox name)), λ none. record {})
  where
    m : Mailbox
    m = w.mailbox name

    at : List ℕ → QueueSlot → Plan
    at bytes (NoQueue incarnation timers) = Stuck reasons.NotKept
    at bytes (Present q) = Arrive c q bytes (Some index) ((Mailbox_of name := after_delivery index m) ∷ []) []

    under_way : Option (List ℕ) → Plan
    under_way None = Stuck reasons.NotKept
    under_way (Some bytes) = Look (Queue_of name) (at bytes)

    there : (bytes : List ℕ) (s : QueueSlot) → Leads w Silent_turns (at bytes s)
    there bytes (NoQueue incarnation timers) = record {}
    there bytes (Present q) = fits-arrive c w Silent_turns q bytes (Some index) ((Mailbox_of name := after_delivery index m) ∷ []) [] (λ v ns own. (record {}, own-inner ns own))

    lent : (o : Option (List ℕ)) → Leads w Silent_turns (under_way o)
    lent None = record {}
    lent (Some bytes) = there bytes (w.queue name)

pub fits-wake : (c : Configuration) (w : World) (name : QueueId) → Leads w Own_turns (wake_plan c name)
fits-wake c w name = leads-queue c w Own_turns name reasons.State (λ q. waking q q.peer) (λ q is. by q q.peer)
  where
    wakes : QueuePair → Bool → Plan
    wakes q empty = unless_refused (wake_refusals empty q) Stuck (Finish ((Queue_of q.queue := Present (after_wake q).queue) ∷ []) [] (after_wake q).marks)

    waking : QueuePair → Option Correspondent → Plan
    waking q None = unless_refused (wake_refusals false q) Stuck (Stuck reasons.Empty)
    waking q (Some peer) = Look (Queue_of peer.queue) (λ slot. Look (Mailbox_of peer.queue) (λ m.
        With_receives slot (λ empty. wakes q (reaches_peer q peer m && empty))))

    wake : (q : QueuePair) (empty : Bool) → Leads w Own_turns (wakes q empty)
    wake q empty = leads-unless w Own_turns (wake_refusals empty q) Stuck (Finish ((Queue_of q.queue := Present (after_wake q).queue) ∷ []) [] (after_wake q).marks)
        (λ r. record {}) (record {})

    receives : (slot : QueueSlot) (k : Bool → Plan) → ((b : Bool) → Leads w Own_turns (k b)) → Leads w Own_turns (With_receives slot k)
    receives slot k more = search rules

    by : (q : QueuePair) (peer : Option Correspondent) → Leads w Own_turns (waking q peer)
    by q None = leads-unless w Own_turns (wake_refusals false q) Stuck (Stuck reasons.Empty) (λ r. record {}) (record {})
    by q (Some peer) = receives (w.queue peer.queue) (λ empty. wakes q (reaches_peer q peer (w.mailbox peer.queue) && empty)) (λ empty. wake q _)
