-- Turns and packets complete sends in order, and keep the agreement on those that completed. For proofs only.
use Rattle.std.proofs.Common.{◌≡◌, ℕ, suc, ◌<◌, ◌&&◌, Bool, true, false, if◌then◌else◌, List, [], ◌∷◌, ◌++◌, Option, None, Some, refl, sym, ap, subst, ◌∙◌, arith, rules}
use Rattle.std.specs.Option.{option_map, option_map_or}
use Rattle.ca_law_endings.proofs.LeadsLemmas.{AreAside, IsAsideName, leads-around, leads-queue, leads-row, leads-unless}
use Rattle.ca_law_endings.proofs.PathLemmas.{puts-append}
use Rattle.ca_law_endings.specs.Runs.{Leads}
use Rattle.ca_law_keys.proofs.Keys.KeyTurnLemmas.{found}
use Rattle.ca_law_keys.proofs.Posts.PlaceLemmas.{IsPerformed, IsPostedAt, item-posted, performs}
use Rattle.ca_law_keys.proofs.Posts.PostTurnLemmas.{AreDrawn, IsDrawn, any-such, leads-perform}
use Rattle.ca_law_keys.proofs.Posts.PostMade.{IsPosted}
use Rattle.ca_law_keys.specs.Posts.{AgreeInSlot, AgreeOnSends, life}
use Rattle.ca_law_order.proofs.Sends.CompleteLemmas.{Complete, complete-append, turned}
use Rattle.ca_law_order.proofs.Sends.RowLemmas.{TellOfNone, arrival-completes, none-told, respond-completes, sent-completes, timeout-completes, wake-completes}
use Rattle.ca_law_order.proofs.Sends.SendLemmas.{CompletesOf, IsReadyQueue, IsRequestAt, failure-completes, success-complete}
use Rattle.ca_law_order.specs.Completed.{AgreeOnCompleted, CompletedAgree, CompletedInSlot, StandBefore}
use Rattle.ca_law_order.specs.InOrder.{completes_in_order}
use Rattle.ca_base.specs.Configuration.{Configuration}
use Rattle.ca_base.specs.declared.completion.WcStatus.TheVariants.{MemoryManagement}
use Rattle.ca_base.specs.declared.correspondent.Correspondent.{Correspondent}
use Rattle.ca_base.specs.declared.lot.Lot.{Lot}
use Rattle.ca_base.specs.declared.refusals.OpRefusal.{OpRefusal}
use Rattle.ca_base.specs.declared.request.PostedSend.{PostedSend}
use Rattle.ca_base.specs.declared.step.Reason.TheVariants as reasons
use Rattle.ca_base.specs.objects.LocalRequest.{LocalMarks}
use Rattle.ca_base.specs.objects.Mailbox.{Mailbox, after_delivery, after_send, bytes_lent, is_lost}
use Rattle.ca_base.specs.objects.QueuePair.{QueuePair, QueueSlot, NoQueue, Present, srq_of}
use Rattle.ca_base.specs.objects.SharedReceives.{SharedReceives, SrqSlot, after_receive_take}
use Rattle.ca_base.specs.objects.WorkQueue.{item_at}
use Rattle.ca_keys.specs.Equal.{queue_eq}
use Rattle.ca_keys.specs.Memory.{memory_after}
use Rattle.ca_keys.specs.declared.grant.Grant.{Grant}
use Rattle.ca_keys.specs.declared.key.Key.{Key}
use Rattle.ca_keys.specs.declared.names.QueueId.{QueueId}
use Rattle.ca_law_world.proofs.Sound.WorldLemmas.{IsThere, RowDoes, around_in, shared_of}
use Rattle.ca_law_world.proofs.Steady.TurnLemmas.{there-kept}
use Rattle.ca_model.specs.Past.{Past, Posted, after_marks, at_begin, each_mark, present_incarnation, with_at}
use Rattle.ca_model.specs.declared.event.Event.{Event}
use Rattle.ca_model.specs.declared.event.Event.TheVariants as events
use Rattle.ca_model.specs.declared.mark.Mark.{Mark}
use Rattle.ca_model.specs.declared.mark.Mark.TheVariants as marks
use Rattle.ca_model.specs.machine.Around.{Around, With_around, cq_updates, shared_in, srq_updates, updates_of}
use Rattle.ca_model.specs.machine.Completions.{success_marks}
use Rattle.ca_model.specs.machine.Delivery.{Arrive, arrival_row, deliver_plan}
use Rattle.ca_model.specs.machine.LocalOperations.{local_marks, operation_effects}
use Rattle.ca_model.specs.machine.Numbering.{Numbered}
use Rattle.ca_model.specs.machine.Plan.{Plan, Stuck, Look, Finish, Update, ◌:=◌, Write, put_all, unless_refused, write_all}
use Rattle.ca_model.specs.machine.Requester.{Performs, RequestTurn, Sends, Waits, packet_row, turn_of}
use Rattle.ca_model.specs.machine.Respond.{respond_refusals, respond_row}
use Rattle.ca_model.specs.machine.Row.{Effects, Row, Row_plan}
use Rattle.ca_model.specs.machine.Timers.{after_timeout, after_wake, timeout_refusals, wake_refusals}
use Rattle.ca_model.specs.machine.Turns.{Fire, Leave_plan, Packet, Request_around, Respond_around, Timeout_around, With_receives, has_room_for, packet_sent, reaches_peer, request_plan, respond_plan, sent_marks, sent_updates, timeout_plan, wake_plan}
use Rattle.ca_model.specs.machine.World.{Byte_at, Cq_of, Domain_of, Mailbox_of, Name, Queue_of, Region_of, Srq_of, Thing, Window_of, World, put}

-- a world that comes up, and a past that agrees with it on posted requests and on the sends that completed
pub record IsMet (c : Configuration) (past : Past) (w : World) : Type 0 where
  pub posted : IsPosted c past w
  pub agree : CompletedAgree past w

-- marks that pass from a past on, and leave one that agrees with a world
abbrev pub Passes : Past → World → List Mark → Type 0
Passes r v ms = (each_mark completes_in_order r ms ≡ true) × CompletedAgree (after_marks ms r) v

-- what an event that ends so leaves of the test and of the agreement
abbrev pub Ordering : Past → Event → World → List Mark → Type 0
Ordering past event v ms = Passes (at_begin event past) v ms

-- ---- changes of no queue pair

abbrev pub IsAway : Name → Type 0
IsAway (Queue_of q) = ⊥
IsAway n = Unit {0}

abbrev pub AreAway : List Update → Type 0
AreAway [] = Unit {0}
AreAway (u ∷ us) = IsAway u.name × AreAway us

puts-away : (us : List Update) (v : World) → AreAway us → (put_all us v).queue ≡ v.queue
puts-away [] v away = refl
puts-away (u ∷ us) v away = puts-away us (put v u.name u.thing) away.1 ∙ by u.name u.thing away.0
  where
    by : (n : Name) (x : Thing n) → IsAway n → (put v n x).queue ≡ v.queue
    by (Queue_of q) x is = absurd is
    by (Window_of s) x is = refl
    by (Mailbox_of q) x is = refl
    by (Domain_of d) x is = refl
    by (Region_of s) x is = refl
    by (Cq_of s) x is = refl
    by (Srq_of s) x is = refl
    by (Byte_at p) x is = refl

writes-away : (ws : List Write) (v : World) → (write_all ws v).queue ≡ v.queue
writes-away [] v = refl
writes-away (x ∷ xs) v = writes-away xs (record v { byte = memory_after v.byte x.runs x.bytes })

pub away-append : (us vs : List Update) → AreAway us → AreAway vs → AreAway (us ++ vs)
away-append [] vs one other = other
away-append (u ∷ us) vs one other = (one.0, away-append us vs one.1 other)

aside-away : (us : List Update) → AreAside us → AreAway us
aside-away [] aside = record {}
aside-away (u ∷ us) aside = (by u.name aside.0, aside-away us aside.1)
  where
    by : (n : Name) → IsAsideName n → IsAway n
    by (Region_of s) is = record {}
    by (Window_of s) is = record {}
    by (Queue_of q) is = absurd is
    by (Mailbox_of q) is = absurd is
    by (Domain_of d) is = absurd is
    by (Cq_of s) is = absurd is
    by (Srq_of s) is = absurd is
    by (Byte_at p) is = absurd is

drawn-away : (w : World) (us : List Update) → AreDrawn w us → AreAway us
drawn-away w [] drawn = record {}
drawn-away w (u ∷ us) drawn = (by u.name u.thing drawn.0, drawn-away w us drawn.1)
  where
    by : (n : Name) (x : Thing n) → IsDrawn w n x → IsAway n
    by (Queue_of q) x is = absurd is
    by (Window_of s) x is = record {}
    by (Mailbox_of q) x is = record {}
    by (Domain_of d) x is = record {}
    by (Region_of s) x is = record {}
    by (Cq_of s) x is = record {}
    by (Srq_of s) x is = record {}
    by (Byte_at p) x is = record {}

pub srq-away : (q : QueuePair) (a : Around) (f : SharedReceives → SharedReceives) → AreAway (srq_updates q a f)
srq-away q a f = by q.srq a.shared
  where
    updates : Option ℕ → Option SrqSlot → List Update
    updates (Some srq) (Some slot) = (Srq_of (srq_of q srq) := record slot { srq = option_map f slot.srq }) ∷ []
    updates srq slot = []

    by : (o : Option ℕ) (t : Option SrqSlot) → AreAway (updates o t)
    by None t = record {}
    by (Some srq) None = record {}
    by (Some srq) (Some slot) = (record {}, record {})

-- what a turn changes beside its queue pair
turn-away : (q : QueuePair) (a : Around) (e : Effects) → AreAway (cq_updates q a e.marks ++ (if e.takes_shared then srq_updates q a after_receive_take else []))
turn-away q a e = (record {}, (record {}, shared e.takes_shared))
  where
    shared : (b : Bool) → AreAway (if b then srq_updates q a after_receive_take else [])
    shared true = srq-away q a after_receive_take
    shared false = record {}

sent-away : (q : QueuePair) (peer : Correspondent) (m : Mailbox) (lot : Lot) (o : Option Packet) → AreAway (option_map_or (sent_updates q peer m lot) o [])
sent-away q peer m lot None = record {}
sent-away q peer m lot (Some x) = by (reaches_peer q peer m)
  where
    by : (b : Bool) → AreAway (if b then (Mailbox_of peer.queue := after_send lot x.bytes m) ∷ [] else [])
    by true = (record {}, record {})
    by false = record {}

-- ---- a queue pair whose sends complete

-- the queue pairs behind the change of one
pub queues-left : (w : World) (name : QueueId) (s : QueueSlot) (pre us : List Update) (ws : List Write) → AreAway pre → AreAway us
    → (write_all ws (put_all (pre ++ (Queue_of name := s) ∷ us) w)).queue ≡ with_at queue_eq w.queue name s
queues-left w name s pre us ws before behind = writes-away ws _ ∙ ap (λ (v : World). v.queue) (puts-append pre ((Queue_of name := s) ∷ us) w)
    ∙ puts-away us (put (put_all pre w) (Queue_of name) s) behind ∙ ap (λ f. with_at queue_eq f name s) (puts-away pre w before)

-- a queue pair stands in a slot whose sends complete by these marks, and the others are as they were
pub order-left : (r : Past) (w : World) (name : QueueId) (from : ℕ) (p : QueuePair) (pre us : List Update) (ws : List Write) (ms : List Mark)
    → ((n : QueueId) → queue_eq name n ≡ false → CompletedInSlot (r.posted (life n (r.incarnation n))) (r.last_send (life n (r.incarnation n))) (w.queue n))
    → ((n : QueueId) (i : ℕ) → r.incarnation n < i → r.last_send (life n i) ≡ None)
    → StandBefore (r.posted (present_incarnation r name)) (r.last_send (present_incarnation r name)) from
    → Complete name (r.posted (present_incarnation r name)) from ms p.requester.oldest → AreAway pre → AreAway us
    → Passes r (write_all ws (put_all (pre ++ (Queue_of name := Present p) ∷ us) w)) ms
order-left r w name from p pre us ws ms others later own all before behind = (
  done.0,
  subst (AgreeOnCompleted (after_marks ms r).incarnation (after_marks ms r).posted (after_marks ms r).last_send) (sym (queues-left w name (Present p) pre us ws before behind)) done.1,
)
  where
    done : (each_mark completes_in_order r ms ≡ true)
        × AgreeOnCompleted (after_marks ms r).incarnation (after_marks ms r).posted (after_marks ms r).last_send (with_at queue_eq w.queue name (Present p))
    done = turned r w.queue name from p ms others later own all

-- the same of a queue pair in place of another
pub order-turn : (r : Past) (w : World) (q p : QueuePair) (pre us : List Update) (ws : List Write) (ms : List Mark) → CompletedAgree r w → w.queue q.queue ≡ Present q
    → Complete q.queue (r.posted (present_incarnation r q.queue)) q.requester.oldest ms p.requester.oldest → AreAway pre → AreAway us
    → Passes r (write_all ws (put_all (pre ++ (Queue_of q.queue := Present p) ∷ us) w)) ms
order-turn r w q p pre us ws ms agree is all before behind = order-left r w q.queue q.requester.oldest p pre us ws ms (λ n other. agree.sends n) agree.later
    (subst (CompletedInSlot (r.posted (present_incarnation r q.queue)) (r.last_send (present_incarnation r q.queue))) is (agree.sends q.queue)) all before behind

-- what was posted to a queue pair that is there
abbrev pub Sends_of : Past → QueuePair → List Posted
Sends_of past q = past.posted (present_incarnation past q.queue)

pub ready-there : (c : Configuration) (past : Past) (w : World) (q : QueuePair) → IsPosted c past w → IsThere w q → IsReadyQueue (Sends_of past q) q
ready-there c past w q up there = record {
  at = λ place x is. request-at place x (item-posted (Sends_of past q) _ q place x own is);
  first = there.sound.requester.finished;
  last = omega (arith, there.sound.requester.begun, there.sound.requester.waiting);
}
  where
    own : AgreeOnSends (Sends_of past q) (past.performed (present_incarnation past q.queue)) q
    own = subst (AgreeInSlot (Sends_of past q) (past.performed (present_incarnation past q.queue))) there.present (up.agree.sends q.queue)

    request-at : (place : ℕ) (x : PostedSend) → IsPostedAt (Sends_of past q) place x → IsRequestAt (Sends_of past q) place x.request
    request-at place x at = record { posted = at.posted; is = at.is; same = ap (λ (y : PostedSend). y.request) at.same }

-- ---- the responder's turn, timers and arrivals

sent-told : (name : QueueId) (ps : List Posted) (q : QueuePair) (peer : Correspondent) (m : Mailbox) (lot : Lot) (o : Option Packet) → TellOfNone name ps (option_map_or (sent_marks q peer m lot) o [])
sent-told name ps q peer m lot None = none-told name ps
sent-told name ps q peer m lot (Some x) = by (reaches_peer q peer m) (is_lost lot)
  where
    by : (b z : Bool) → TellOfNone name ps (if b
        then marks.Sent q.queue peer.queue (Some m.next) x.request x.bytes ∷ (if z then marks.Lost peer.queue (Some m.next) ∷ [] else [])
        else marks.Sent q.queue peer.queue None x.request x.bytes ∷ marks.Lost peer.queue None ∷ [])
    by true true = none-told name ps
    by true false = none-told name ps
    by false z = none-told name ps

-- a turn leaves by a row
order-leave : (c : Configuration) (past : Past) (event : Event) (w : World) (q : QueuePair) (peer : Correspondent) (lot : Lot) (row : Row) → IsMet c past w → IsThere w q → RowDoes (CompletesOf (Sends_of past q) q) row
    → Leads w (Ordering past event) (Row_plan c row (Leave_plan q (around_in w q (shared_of w q)) peer (w.mailbox peer.queue) lot))
order-leave c past event w q peer lot row met there does = leads-row c w (Ordering past event) (CompletesOf (Sends_of past q) q) row (Leave_plan q a peer m lot) does
    (λ e cs ws done aside. order-turn (at_begin event past) w q e.queue [] ((cq_updates q a e.marks ++ (if e.takes_shared then srq_updates q a after_receive_take else [])) ++ (cs ++ option_map_or (sent_updates q peer m lot) (packet_sent e) [])) ws
    (e.marks ++ option_map_or (sent_marks q peer m lot) (packet_sent e) []) met.agree there.present
    (complete-append q.queue (Sends_of past q) q.requester.oldest e.marks e.queue.requester.oldest (option_map_or (sent_marks q peer m lot) (packet_sent e) []) e.queue.requester.oldest done.marks
    (sent-told q.queue (Sends_of past q) q peer m lot (packet_sent e) e.queue.requester.oldest))
    (record {}) (away-append (cq_updates q a e.marks ++ (if e.takes_shared then srq_updates q a after_receive_take else [])) (cs ++ option_map_or (sent_updates q peer m lot) (packet_sent e) []) (turn-away q a e)
    (away-append cs (option_map_or (sent_updates q peer m lot) (packet_sent e) []) (aside-away cs aside) (sent-away q peer m lot (packet_sent e)))))
  where
    a : Around
    a = around_in w q (shared_of w q)

    m : Mailbox
    m = w.mailbox peer.queue

pub order-respond : (c : Configuration) (past : Past) (w : World) (name : QueueId) (lot : Lot) → IsMet c past w → Leads w (Ordering past (events.Respond name lot)) (respond_plan c name lot)
order-respond c past w name lot met = leads-queue c w P name reasons.State (λ q. With_around q (λ a. Respond_around c lot q a q.peer))
    (λ q is. leads-around w P q (λ a. Respond_around c lot q a q.peer) (by q (found c w name q met.posted.sound is) q.peer))
  where
    P : World → List Mark → Type 0
    P = Ordering past (events.Respond name lot)

    by : (q : QueuePair) → IsThere w q → (peer : Option Correspondent) → Leads w P (Respond_around c lot q (around_in w q (shared_of w q)) peer)
    by q there None = leads-unless w P (respond_refusals true q) Stuck (Stuck reasons.Empty) (λ r. record {}) (record {})
    by q there (Some peer) = order-leave c past (events.Respond name lot) w q peer lot (respond_row (has_room_for q peer (w.mailbox peer.queue)) q) met there
        (respond-completes (Sends_of past q) (has_room_for q peer (w.mailbox peer.queue)) q (ready-there c past w q met.posted there))

pub order-timeout : (c : Configuration) (past : Past) (w : World) (name : QueueId) (hasten : Bool) → IsMet c past w → Leads w (Ordering past (events.Timeout name hasten)) (timeout_plan c name hasten)
order-timeout c past w name hasten met =
    leads-queue c w P name reasons.State (λ q. Look (Mailbox_of name) (λ own. With_around q (λ a. Timeout_around hasten q own a q.peer)))
    (λ q is. leads-around w P q (λ a. Timeout_around hasten q (w.mailbox name) a q.peer) (by q (found c w name q met.posted.sound is) q.peer))
  where
    P : World → List Mark → Type 0
    P = Ordering past (events.Timeout name hasten)

    fire : (q : QueuePair) → IsThere w q → (silent : Bool) → Leads w P (Fire hasten q (around_in w q (shared_of w q)) silent)
    fire q there silent = leads-unless w P (timeout_refusals silent hasten q) Stuck (Finish (updates_of q a e) [] e.marks) (λ r. record {})
        (order-turn (at_begin (events.Timeout name hasten) past) w q e.queue [] (cq_updates q a e.marks ++ (if e.takes_shared then srq_updates q a after_receive_take else [])) [] e.marks met.agree there.present
        (timeout-completes (Sends_of past q) silent q (ready-there c past w q met.posted there)).marks (record {}) (turn-away q a e))
      where
        a : Around
        a = around_in w q (shared_of w q)

        e : Effects
        e = after_timeout silent q

    by : (q : QueuePair) → IsThere w q → (peer : Option Correspondent) → Leads w P (Timeout_around hasten q (w.mailbox name) (around_in w q (shared_of w q)) peer)
    by q there None = leads-unless w P (timeout_refusals false hasten q) Stuck (Stuck reasons.Empty) (λ r. record {}) (record {})
    by q there (Some peer) = fire q there _

-- a packet that arrives, behind changes and marks that come first
pub order-arrive : (c : Configuration) (past : Past) (w : World) (P : World → List Mark → Type 0) (q : QueuePair) (bytes : List ℕ) (envelope : Option ℕ) (pre : List Update) (ms : List Mark) → IsMet c past w → IsThere w q
    → ((p : QueuePair) (us : List Update) (ws : List Write) (ns : List Mark) → Complete q.queue (Sends_of past q) q.requester.oldest ns p.requester.oldest → AreAway us
    → P (write_all ws (put_all (pre ++ (Queue_of q.queue := Present p) ∷ us) w)) (ms ++ ns)) → Leads w P (Arrive c q bytes envelope pre ms)
order-arrive c past w P q bytes envelope pre ms met there more =
    leads-around w P q (λ a. Row_plan c (arrival_row bytes envelope (shared_in a) q) (finish a))
    (leads-row c w P (CompletesOf (Sends_of past q) q) (arrival_row bytes envelope (shared_in a) q) (finish a)
    (arrival-completes (Sends_of past q) bytes envelope (shared_in a) q (ready-there c past w q met.posted there))
    (λ e cs ws done aside. more e.queue ((cq_updates q a e.marks ++ (if e.takes_shared then srq_updates q a after_receive_take else [])) ++ cs) ws (marks.Arrived q.queue envelope ∷ e.marks) done.marks
    (away-append (cq_updates q a e.marks ++ (if e.takes_shared then srq_updates q a after_receive_take else [])) cs (turn-away q a e) (aside-away cs aside))))
  where
    a : Around
    a = around_in w q (shared_of w q)

    finish : Around → Effects → List Update → List Write → Plan
    finish a e more writes = Finish (pre ++ (updates_of q a e ++ more)) writes (ms ++ marks.Arrived q.queue envelope ∷ e.marks)

pub order-deliver : (c : Configuration) (past : Past) (w : World) (name : QueueId) (index : ℕ) → IsMet c past w → Leads w (Ordering past (events.Deliver name index)) (deliver_plan c name index)
order-deliver c past w name index met = (λ has. lent (bytes_lent index (w.mailbox name)), λ none. record {})
  where
    P : World → List Mark → Type 0
    P = Ordering past (events.Deliver name index)

    m : Mailbox
    m = w.mailbox name

    at : List ℕ → QueueSlot → Plan
    at bytes (NoQueue incarnation timers) = Stuck reasons.NotKept
    at bytes (Present q) = Arrive c q bytes (Some index) ((Mailbox_of name := after_delivery index m) ∷ []) []

    under_way : Option (List ℕ) → Plan
    under_way None = Stuck reasons.NotKept
    under_way (Some bytes) = Look (Queue_of name) (at bytes)

    there : (bytes : List ℕ) (s : QueueSlot) → w.queue name ≡ s → Leads w P (at bytes s)
    there bytes (NoQueue incarnation timers) is = record {}
    there bytes (Present q) is = order-arrive c past w P q bytes (Some index) ((Mailbox_of name := after_delivery index m) ∷ []) [] met (found c w name q met.posted.sound is)
        (λ p us ws ns all away. order-turn (at_begin (events.Deliver name index) past) w q p ((Mailbox_of name := after_delivery index m) ∷ []) us ws ns met.agree (found c w name q met.posted.sound is).present all (record {}, record {}) away)

    lent : (o : Option (List ℕ)) → Leads w P (under_way o)
    lent None = record {}
    lent (Some bytes) = there bytes (w.queue name) refl

pub order-wake : (c : Configuration) (past : Past) (w : World) (name : QueueId) → IsMet c past w → Leads w (Ordering past (events.RnrWake name)) (wake_plan c name)
order-wake c past w name met = leads-queue c w P name reasons.State (λ q. waking q q.peer) (λ q is. by q (found c w name q met.posted.sound is) q.peer)
  where
    P : World → List Mark → Type 0
    P = Ordering past (events.RnrWake name)

    wakes : QueuePair → Bool → Plan
    wakes q empty = unless_refused (wake_refusals empty q) Stuck (Finish ((Queue_of q.queue := Present (after_wake q).queue) ∷ []) [] (after_wake q).marks)

    waking : QueuePair → Option Correspondent → Plan
    waking q None = unless_refused (wake_refusals false q) Stuck (Stuck reasons.Empty)
    waking q (Some peer) = Look (Queue_of peer.queue) (λ slot. Look (Mailbox_of peer.queue) (λ m.
        With_receives slot (λ empty. wakes q (reaches_peer q peer m && empty))))

    wake : (q : QueuePair) → IsThere w q → (empty : Bool) → Leads w P (wakes q empty)
    wake q there empty = leads-unless w P (wake_refusals empty q) Stuck (Finish ((Queue_of q.queue := Present (after_wake q).queue) ∷ []) [] (after_wake q).marks)
        (λ r. record {}) (order-turn (at_begin (events.RnrWake name) past) w q (after_wake q).queue [] [] [] [] met.agree there.present
        (wake-completes (Sends_of past q) q (ready-there c past w q met.posted there)).marks (record {}) (record {}))

    receives : (slot : QueueSlot) (k : Bool → Plan) → ((b : Bool) → Leads w P (k b)) → Leads w P (With_receives slot k)
    receives slot k more = search rules

    by : (q : QueuePair) → IsThere w q → (peer : Option Correspondent) → Leads w P (waking q peer)
    by q there None = leads-unless w P (wake_refusals false q) Stuck (Stuck reasons.Empty) (λ r. record {}) (record {})
    by q there (Some peer) = receives (w.queue peer.queue) (λ empty. wakes q (reaches_peer q peer (w.mailbox peer.queue) && empty)) (λ empty. wake q there _)

-- ---- the requester's turn

local-told : (name : QueueId) (ps : List Posted) (q : QueuePair) (m : LocalMarks) → TellOfNone name ps (local_marks q m)
local-told name ps q m = by m.revoked m.granted
  where
    by : (k : Option Key) (g : Option Grant) → TellOfNone name ps (option_map_or (λ key. marks.Revoked q.queue.adapter key ∷ []) k [] ++ option_map_or (λ g. marks.Granted g ∷ []) g [])
    by None None = none-told name ps
    by None (Some g) = none-told name ps
    by (Some k) None = none-told name ps
    by (Some k) (Some g) = none-told name ps

-- a local operation is the oldest request that is unfinished: it completes, or fails
operation-completes : (ps : List Posted) (q : QueuePair) (n : Numbered) (after : QueuePair) (m : LocalMarks) (refusal : Option OpRefusal) → IsPerformed q n → IsReadyQueue ps q
    → Complete q.queue ps q.requester.oldest (operation_effects q n after m refusal).marks (operation_effects q n after m refusal).queue.requester.oldest
operation-completes ps q n after m None does ready = complete-append q.queue ps q.requester.oldest (local_marks q m) q.requester.oldest (success_marks q.queue n.place n.request) (suc n.place) (local-told q.queue ps q m q.requester.oldest)
    (subst (λ k. Complete q.queue ps k (success_marks q.queue n.place n.request) (suc n.place)) (does.item.place ∙ does.alone)
    (success-complete ps q.queue n (ready.at n.place _ (subst (λ k. item_at k q.sends ≡ Some (record { request = n.request; drawn = n.drawn })) (sym does.item.place) does.item.item))))
operation-completes ps q n after m (Some cause) does ready = (failure-completes ps MemoryManagement (Some cause) q refl ready).marks

pub order-request : (c : Configuration) (past : Past) (w : World) (name : QueueId) (lot : Lot) → IsMet c past w → Leads w (Ordering past (events.Request name lot)) (request_plan c name lot)
order-request c past w name lot met = leads-queue c w P name reasons.State (λ q. With_around q (λ a. Request_around c lot q a q.peer (turn_of q)))
    (λ q is. leads-around w P q (λ a. Request_around c lot q a q.peer (turn_of q)) (by q (found c w name q met.posted.sound is) q.peer (turn_of q) refl))
  where
    P : World → List Mark → Type 0
    P = Ordering past (events.Request name lot)

    performed : (q : QueuePair) → IsThere w q → (n : Numbered) → IsPerformed q n → (after : QueuePair) (m : LocalMarks) (refusal : Option OpRefusal) (cs : List Update) → AreDrawn w cs
        → P (put_all (updates_of q (around_in w q (shared_of w q)) (operation_effects q n after m refusal) ++ cs) w) (operation_effects q n after m refusal).marks
    performed q there n does after m refusal cs drawn = order-turn (at_begin (events.Request name lot) past) w q e.queue []
        ((cq_updates q a e.marks ++ (if e.takes_shared then srq_updates q a after_receive_take else [])) ++ cs) [] e.marks met.agree there.present
        (operation-completes (Sends_of past q) q n after m refusal does (ready-there c past w q met.posted there)) (record {})
        (away-append (cq_updates q a e.marks ++ (if e.takes_shared then srq_updates q a after_receive_take else [])) cs (turn-away q a e) (drawn-away w cs drawn))
      where
        a : Around
        a = around_in w q (shared_of w q)

        e : Effects
        e = operation_effects q n after m refusal

    by : (q : QueuePair) → IsThere w q → (peer : Option Correspondent) (turn : RequestTurn) → turn_of q ≡ turn → Leads w P (Request_around c lot q (around_in w q (shared_of w q)) peer turn)
    by q there peer (Waits reason) is = record {}
    by q there peer (Performs n) is = leads-perform (λ key. Unit {0}) c w P q n (λ e changes writes. Finish (updates_of q (around_in w q (shared_of w q)) e ++ changes) writes e.marks) n.request.op does.local (any-such c w q n.request.op)
        (λ after m refusal cs like revokes gone drawn. performed q there n does after m refusal cs drawn)
      where
        does : IsPerformed q n
        does = performs q n (there-kept w q met.posted.steady there) there.sound.requester.begun is
    by q there None (Sends n) is = record {}
    by q there (Some peer) (Sends n) is = order-leave c past (events.Request name lot) w q peer lot (packet_row q (has_room_for q peer (w.mailbox peer.queue)) n) met there
        (sent-completes (Sends_of past q) q (has_room_for q peer (w.mailbox peer.queue)) n (ready-there c past w q met.posted there))
