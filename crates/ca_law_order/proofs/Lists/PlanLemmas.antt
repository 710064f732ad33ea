-- Turns, timers and packets that arrive keep the agreement on lists. For proofs only.
use Rattle.std.proofs.Common.{◌≡◌, ℕ, ◌+◌, ◌<◌, ◌&&◌, ◌||◌, nat_lt, ◌==◌, find, Bool, true, false, if◌then◌else◌, List, [], ◌∷◌, ◌++◌, length, Option, None, Some, IfSome, is_some, refl, sym, ap, subst, rules, ◌∙◌, arith, true≢false}
use Rattle.std.proofs.lemmas.Bool.{not-false}
use Rattle.std.proofs.lemmas.Bool.Decides.{nat_tests}
use Rattle.std.proofs.lemmas.Option.{same_Some}
use Rattle.std.specs.Result.{result_ok}
use Rattle.ca_law_endings.specs.Agreement.{PathsAgree, WereSent}
use Rattle.ca_law_order.proofs.Lists.HeldLemmas.{Held, IsNoSend, drops_in, gone, grows, held, keeps, kept, operation-held, packet-held, puts_in, respond-held, timeout-held}
use Rattle.ca_law_order.proofs.Lists.RequestLemmas.{arrival-held}
use Rattle.ca_law_order.proofs.Lists.TurnLemmas.{AreStill, Hands, KeepsShared, Leaves, Lists, lost-holds, moved-agree, as-told, next-known, own-hands, own-still, placed-arrived, placed_by, receiver-after, still-append, still-ends, still-leaves, taken-keeps}
use Rattle.ca_law_order.specs.Lists.{AgreeInSlot, AgreeOnReceiver, AgreeOnShared, HoldsOwn, ListsAgree, life_of, receive_by}
use Rattle.ca_law_order.proofs.Polls.TurnLemmas.{AreBeside, HasMoved, SameParts, aside-beside, behind-same, leads-tests, moved, puts-same, same-parts, takes_of, with_taken}
use Rattle.ca_base.specs.declared.queue_numbers.Message.{Message}
use Rattle.ca_base.specs.declared.queue_numbers.Message.TheVariants as messages
use Rattle.ca_base.specs.declared.request.PlacedReceive.{PlacedReceive}
use Rattle.ca_base.specs.declared.request.RecvRequest.{RecvRequest}
use Rattle.ca_keys.specs.Equal.{queue_eq}
use Rattle.ca_law_world.proofs.Sound.SettledLemmas.{queue-refl}
use Rattle.ca_law_world.proofs.Sound.WorldLemmas.{EndingDoes}
use Rattle.ca_model.specs.Packets.{begins_send, is_send, packet_of}
use Rattle.ca_model.specs.Past.{Past, after_mark, after_marks, at_begin, at_end, bytes_before, envelope_sent, injected_bytes, packet_at, placed_at_end}
use Rattle.ca_model.specs.declared.event.Event.{Event}
use Rattle.ca_model.specs.declared.event.Event.TheVariants as events
use Rattle.ca_model.specs.declared.receiving.Receiving.{Receiving}
use Rattle.ca_model.specs.machine.Arrivals.{next_receive}
use Rattle.ca_model.specs.machine.Expected.{receiving_of}
use Rattle.ca_model.specs.machine.Row.{Ending, Does, NotPossible}
use Rattle.ca_wire.specs.Decoding.{packet_in}
use Rattle.ca_wire.specs.Packet.{Fields}
use Rattle.std.specs.Option.{option_and_then, option_map, option_map_or}
use Rattle.ca_law_endings.proofs.InnerLemmas.{arrival-inner, packet-inner, respond-inner, timeout-inner}
use Rattle.ca_law_endings.proofs.LeadsLemmas.{AreAside, leads-around, leads-queue, leads-row}
use Rattle.ca_law_endings.proofs.PathLemmas.{puts-append}
use Rattle.ca_law_endings.specs.Runs.{Leads}
use Rattle.ca_law_order.proofs.Polls.FlushedLemmas.{arrival-ends, packet-row-ends, respond-ends, sending-well, timeout-ends}
use Rattle.ca_law_order.proofs.Polls.OperationLemmas.{leads-operation, nothing-step, operation-step}
use Rattle.ca_law_order.proofs.Polls.StepLemmas.{IsStep, step-row, takes-none}
use Rattle.ca_base.specs.Configuration.{Configuration}
use Rattle.ca_base.specs.declared.correspondent.Correspondent.{Correspondent}
use Rattle.ca_base.specs.declared.lot.Lot.{Lot}
use Rattle.ca_base.specs.declared.step.Reason.{Reason}
use Rattle.ca_base.specs.declared.step.Reason.TheVariants as reasons
use Rattle.ca_base.specs.objects.Mailbox.{Mailbox, after_delivery, after_send, bytes_lent, is_lost}
use Rattle.ca_base.specs.objects.QueuePair.{QueuePair, QueueSlot, NoQueue, Present}
use Rattle.ca_base.specs.objects.SharedReceives.{SrqSlot}
use Rattle.ca_keys.specs.Refusals.{first_of}
use Rattle.ca_keys.specs.declared.names.QueueId.{QueueId}
use Rattle.ca_keys.specs.declared.names.Slot.{Slot}
use Rattle.ca_law_world.proofs.Sound.RespondLemmas.{arrival-good, respond-good}
use Rattle.ca_law_world.proofs.Sound.TakenLemmas.{arrival-takes, none-takes, packet-takes, respond-takes, timeout-takes}
use Rattle.ca_law_world.proofs.Sound.TurnLemmas.{packet-good, sending-parts, sends-parts, timeout-good}
use Rattle.ca_law_world.proofs.Sound.WorldLemmas.{IsSoundShared, IsThere, RowDoes, around_in, is-there, row-does, shared_of, sound-shared}
use Rattle.ca_model.specs.Past.{with_at}
use Rattle.ca_model.specs.declared.mark.Mark.{Mark}
use Rattle.ca_model.specs.declared.mark.Mark.TheVariants as marks
use Rattle.ca_model.specs.machine.Around.{Around, With_around, With_queue, shared_in, updates_of}
use Rattle.ca_model.specs.machine.Delivery.{Arrive, arrival_row, deliver_plan}
use Rattle.ca_model.specs.machine.Invariants.{IsSharedReceives, is_sending}
use Rattle.ca_model.specs.machine.Plan.{Plan, Stuck, Look, Finish, Update, ◌:=◌, Write, put_all, unless_refused, write_all}
use Rattle.ca_model.specs.machine.Requester.{Performs, RequestTurn, Sends, Waits, next_request, packet_row, turn_of, turn_refusals}
use Rattle.ca_model.specs.machine.Respond.{respond_refusals, respond_row}
use Rattle.ca_model.specs.machine.Row.{Effects, Row, Row_plan}
use Rattle.ca_model.specs.machine.Sound.{IsQueueOf, IsSoundWorld}
use Rattle.ca_model.specs.machine.Timers.{after_timeout, after_wake, timeout_refusals, wake_refusals}
use Rattle.ca_model.specs.machine.Turns.{Fire, Leave_plan, Packet, Request_around, Respond_around, Timeout_around, With_receives, has_room_for, packet_sent, reaches_peer, request_plan, respond_plan, sent_marks, sent_updates, timeout_plan, wake_plan}
use Rattle.ca_model.specs.machine.World.{World, Queue_of, Mailbox_of, put}
use Rattle.ca_law_endings.proofs.MailSentLemmas.{lent-sent}

-- what is known of a queue pair that takes a step, and what it leaves of the message in progress
abbrev pub IsHeldStep : World → Option Fields → QueuePair → Effects → Type 0
IsHeldStep w o q e = IsStep (shared_in (around_in w q (shared_of w q))) q e × Held o (next_receive q (shared_in (around_in w q (shared_of w q)))) q e

row-both : (E F : Effects → Type 0) (row : Row) → RowDoes E row → RowDoes F row → RowDoes (λ e. E e × F e) row
row-both E F row one other = record { denied = λ d. ending (row.denied d) (one.denied d) (other.denied d); allowed = λ bytes refusal. ending (row.allowed bytes refusal) (one.allowed bytes refusal) (other.allowed bytes refusal) }
  where
    ending : (x : Ending) → EndingDoes E x → EndingDoes F x → EndingDoes (λ e. E e × F e) x
    ending (NotPossible reason) one other = record {}
    ending (Does e) one other = (one, other)

moved-on : (w : World) (q : QueuePair) (e : Effects) (v x : World) → HasMoved w q e v → SameParts v x → HasMoved w q e x
moved-on w q e v x moved same = record {
  queue = same.queue ∙ moved.queue;
  cq = λ s. ap (λ f. f s) same.cq ∙ moved.cq s;
  srq = λ t. ap (λ f. f t) same.srq ∙ moved.srq t;
}

moved-shared : (w v : World) (q : QueuePair) (e : Effects) → HasMoved w q e v → KeepsShared w.srq v.srq
moved-shared w v q e moved t posted was = subst (AgreeOnShared posted) (sym (moved.srq t)) (by (takes_of q e t))
  where
    by : (b : Bool) → AgreeOnShared posted (if b then with_taken (w.srq t) else w.srq t)
    by true = taken-keeps (w.srq t) posted was
    by false = was

pub was-there : (past : Past) (w : World) (q : QueuePair) → ListsAgree past w → IsThere w q → AgreeOnReceiver (past.receives (life_of q.queue (past.incarnation q.queue))) (past.srq q.queue) past.shared (past.placed q.queue) q
was-there past w q agree there = subst (AgreeInSlot (past.receives (life_of q.queue (past.incarnation q.queue))) (past.srq q.queue) past.shared (past.placed q.queue)) there.present (agree.queues q.queue)

-- ---- turns

-- no packet arrived
none-sent : IsNoSend None
none-sent p is = absurd (true≢false (sym (ap is_some is)))

turn-lists : (past : Past) (event : Event) (w v : World) (q : QueuePair) (e : Effects) (ms : List Mark) → ListsAgree past w → IsThere w q → IsHeldStep w None q e → AreStill ms → HasMoved w q e v → Lists past event v ms
turn-lists past event w v q e ms agree there step still moved = still-ends (at_begin event past) (after_marks ms (at_begin event past)) v (still-leaves ms still (at_begin event past)) refl
    (moved-agree past w v q e.queue past.placed agree moved.queue (moved-shared w v q e moved) (λ n e. refl)
    (receiver-after own srq past.shared placed placed q (shared_in (around_in w q (shared_of w q))) e was step.0 (message step.1)))
  where
    own : List RecvRequest
    own = past.receives (life_of q.queue (past.incarnation q.queue))

    srq : Option Slot
    srq = past.srq q.queue

    placed : ℕ
    placed = past.placed q.queue

    was : AgreeOnReceiver own srq past.shared placed q
    was = was-there past w q agree there

    message : Held None (next_receive q (shared_in (around_in w q (shared_of w q)))) q e → HoldsOwn (receive_by own srq past.shared) placed e.queue.responder.message
    message (gone none) = lost-holds (receive_by own srq past.shared) placed e.queue.responder.message none
    message (kept same puts) = subst (HoldsOwn (receive_by own srq past.shared) placed) (sym same) was.message
    message (grows p r is sends receiving starts put some stays goes) = absurd (true≢false (sym (ap is_some is)))

leads-there : (c : Configuration) (w : World) (P : World → List Mark → Type 0) (name : QueueId) (r : Reason) (k : QueuePair → Plan) → IsSoundWorld c w
    → ((q : QueuePair) → IsThere w q → Leads w P (k q)) → Leads w P (With_queue c name r k)
leads-there c w P name r k sound more = leads-queue c w P name r k (λ q is. more q (is-there w name q is (subst (IsQueueOf name) is (sound.things (Queue_of name)))))

sent-beside : (q : QueuePair) (peer : Correspondent) (m : Mailbox) (lot : Lot) (o : Option Packet) → AreBeside (option_map_or (sent_updates q peer m lot) o [])
sent-beside q peer m lot None = record {}
sent-beside q peer m lot (Some x) = by (reaches_peer q peer m)
  where
    by : (b : Bool) → AreBeside (if b then (Mailbox_of peer.queue := after_send lot x.bytes m) ∷ [] else [])
    by true = (record {}, record {})
    by false = record {}

beside-append : (us vs : List Update) → AreBeside us → AreBeside vs → AreBeside (us ++ vs)
beside-append [] vs one other = other
beside-append (u ∷ us) vs one other = (one.0, beside-append us vs one.1 other)

sent-still : (q : QueuePair) (peer : Correspondent) (m : Mailbox) (lot : Lot) (o : Option Packet) → AreStill (option_map_or (sent_marks q peer m lot) o [])
sent-still q peer m lot None = record {}
sent-still q peer m lot (Some x) = by (reaches_peer q peer m) (is_lost lot)
  where
    by : (b z : Bool) → AreStill (if b
        then marks.Sent q.queue peer.queue (Some m.next) x.request x.bytes ∷ (if z then marks.Lost peer.queue (Some m.next) ∷ [] else [])
        else marks.Sent q.queue peer.queue None x.request x.bytes ∷ marks.Lost peer.queue None ∷ [])
    by true true = (record {}, (record {}, record {}))
    by true false = (record {}, record {})
    by false z = (record {}, (record {}, record {}))

leads-left : (c : Configuration) (past : Past) (event : Event) (w : World) (q : QueuePair) (peer : Correspondent) (lot : Lot) (row : Row) → ListsAgree past w → IsThere w q → RowDoes (IsHeldStep w None q) row
    → Leads w (Lists past event) (Row_plan c row (Leave_plan q (around_in w q (shared_of w q)) peer (w.mailbox peer.queue) lot))
leads-left c past event w q peer lot row agree there does = leads-row c w (Lists past event) (IsHeldStep w None q) row (Leave_plan q a peer m lot) does (λ e cs ws step aside.
    turn-lists past event w (write_all ws (put_all (updates_of q a e ++ (cs ++ sends e)) w)) q e (e.marks ++ tells e) agree there step
    (still-append e.marks (tells e) (own-still e.marks step.0.inner.marks) (sent-still q peer m lot (packet_sent e)))
    (moved-on w q e (put_all (updates_of q a e) w) (write_all ws (put_all (updates_of q a e ++ (cs ++ sends e)) w)) (moved w w q e (same-parts w))
    (behind-same (updates_of q a e) (cs ++ sends e) ws w (beside-append cs (sends e) (aside-beside cs aside) (sent-beside q peer m lot (packet_sent e))))))
  where
    a : Around
    a = around_in w q (shared_of w q)

    m : Mailbox
    m = w.mailbox peer.queue

    sends : Effects → List Update
    sends e = option_map_or (sent_updates q peer m lot) (packet_sent e) []

    tells : Effects → List Mark
    tells e = option_map_or (sent_marks q peer m lot) (packet_sent e) []

-- the next receive of a queue pair
abbrev next_of : World → QueuePair → Option PlacedReceive
next_of w q = next_receive q (shared_in (around_in w q (shared_of w q)))

pub lists-request : (c : Configuration) (past : Past) (w : World) (name : QueueId) (lot : Lot) → IsSoundWorld c w → ListsAgree past w → Leads w (Lists past (events.Request name lot)) (request_plan c name lot)
lists-request c past w name lot sound agree = leads-there c w P name reasons.State (λ q. With_around q (λ a. Request_around c lot q a q.peer (turn_of q))) sound
    (λ q there. leads-around w P q (λ a. Request_around c lot q a q.peer (turn_of q)) (by q there q.peer (turn_of q) refl))
  where
    P : World → List Mark → Type 0
    P = Lists past (events.Request name lot)

    by : (q : QueuePair) → IsThere w q → (peer : Option Correspondent) (turn : RequestTurn) → turn_of q ≡ turn → Leads w P (Request_around c lot q (around_in w q (shared_of w q)) peer turn)
    by q there peer (Waits reason) is = record {}
    by q there peer (Performs n) is = leads-operation c w P (IsHeldStep w None q) q n (λ e changes writes. Finish (updates_of q a e ++ changes) writes e.marks) n.request.op
        (nothing-step (shared_in a) q there.sound, held None (next_of w q) none-sent q _ (keeps refl))
        (λ windows m refusal. (operation-step (shared_in a) q n there.sound is windows m refusal, operation-held None (next_of w q) none-sent q n windows m refusal)) (λ e cs ws step aside.
        turn-lists past (events.Request name lot) w (write_all ws (put_all (updates_of q a e ++ cs) w)) q e e.marks agree there step (own-still e.marks step.0.inner.marks)
        (moved-on w q e (put_all (updates_of q a e) w) (write_all ws (put_all (updates_of q a e ++ cs) w)) (moved w w q e (same-parts w)) (behind-same (updates_of q a e) cs ws w (aside-beside cs aside))))
      where
        a : Around
        a = around_in w q (shared_of w q)
    by q there None (Sends n) is = record {}
    by q there (Some peer) (Sends n) is = leads-left c past (events.Request name lot) w q peer lot (packet_row q room n) agree there (row-both _ _ (packet_row q room n) (step-row (shared_in (around_in w q (shared_of w q))) q (packet_row q room n)
        (row-does q (packet_row q room n) (packet-good q room n there.sound is)) (packet-inner q room n) (takes-none (shared_in (around_in w q (shared_of w q))) q (packet_row q room n) (packet-takes q room n))
        (λ f. packet-row-ends q room n (sending-well q.state (sending-parts q (sends-parts (first_of (turn_refusals q)) (next_request q) n is).0).0)))
        (packet-held None (next_of w q) none-sent q room n))
      where
        room : Bool
        room = has_room_for q peer (w.mailbox peer.queue)

pub lists-respond : (c : Configuration) (past : Past) (w : World) (name : QueueId) (lot : Lot) → IsSoundWorld c w → ListsAgree past w → Leads w (Lists past (events.Respond name lot)) (respond_plan c name lot)
lists-respond c past w name lot sound agree = leads-there c w P name reasons.State (λ q. With_around q (λ a. Respond_around c lot q a q.peer)) sound
    (λ q there. leads-around w P q (λ a. Respond_around c lot q a q.peer) (by q there q.peer))
  where
    P : World → List Mark → Type 0
    P = Lists past (events.Respond name lot)

    by : (q : QueuePair) → IsThere w q → (peer : Option Correspondent) → Leads w P (Respond_around c lot q (around_in w q (shared_of w q)) peer)
    by q there None = leads-tests w P (respond_refusals true q) Stuck (Stuck reasons.Empty) (λ r. record {}) (λ fails. record {})
    by q there (Some peer) = leads-left c past (events.Respond name lot) w q peer lot (respond_row room q) agree there (row-both _ _ (respond_row room q) (step-row (shared_in (around_in w q (shared_of w q))) q (respond_row room q)
        (row-does q (respond_row room q) (respond-good room q there.sound)) (respond-inner room q) (takes-none (shared_in (around_in w q (shared_of w q))) q (respond_row room q) (respond-takes room q))
        (λ f. respond-ends room q f)) (respond-held None (next_of w q) none-sent room q))
      where
        room : Bool
        room = has_room_for q peer (w.mailbox peer.queue)

pub lists-timeout : (c : Configuration) (past : Past) (w : World) (name : QueueId) (hasten : Bool) → IsSoundWorld c w → ListsAgree past w → Leads w (Lists past (events.Timeout name hasten)) (timeout_plan c name hasten)
lists-timeout c past w name hasten sound agree = leads-there c w P name reasons.State (λ q. Look (Mailbox_of name) (λ own. With_around q (λ a. Timeout_around hasten q own a q.peer))) sound
    (λ q there. leads-around w P q (λ a. Timeout_around hasten q (w.mailbox name) a q.peer) (by q there q.peer))
  where
    P : World → List Mark → Type 0
    P = Lists past (events.Timeout name hasten)

    step : (q : QueuePair) (silent : Bool) → IsThere w q → is_sending q.state ≡ true → IsHeldStep w None q (after_timeout silent q)
    step q silent there sends = (
      record {
        good = timeout-good q silent there.sound sends;
        inner = timeout-inner q silent;
        takes = none-takes (shared_in (around_in w q (shared_of w q))) q (after_timeout silent q) (timeout-takes silent q);
        flushed = λ f. (timeout-ends silent q (sending-well q.state sends)).flushed;
      },
      timeout-held None (next_of w q) none-sent q silent,
    )

    fire : (q : QueuePair) → IsThere w q → (silent : Bool) → Leads w P (Fire hasten q (around_in w q (shared_of w q)) silent)
    fire q there silent = leads-tests w P (timeout_refusals silent hasten q) Stuck
        (Finish (updates_of q (around_in w q (shared_of w q)) (after_timeout silent q)) [] (after_timeout silent q).marks) (λ r. record {})
        (λ fails. turn-lists past (events.Timeout name hasten) w (put_all (updates_of q (around_in w q (shared_of w q)) (after_timeout silent q)) w) q (after_timeout silent q) (after_timeout silent q).marks agree there
        (step q silent there (not-false (is_sending q.state) fails.0)) (own-still (after_timeout silent q).marks (timeout-inner q silent).marks) (moved w w q (after_timeout silent q) (same-parts w)))

    by : (q : QueuePair) → IsThere w q → (peer : Option Correspondent) → Leads w P (Timeout_around hasten q (w.mailbox name) (around_in w q (shared_of w q)) peer)
    by q there None = leads-tests w P (timeout_refusals false hasten q) Stuck (Stuck reasons.Empty) (λ r. record {}) (λ fails. record {})
    by q there (Some peer) = fire q there _

pub lists-wake : (c : Configuration) (past : Past) (w : World) (name : QueueId) → IsSoundWorld c w → ListsAgree past w → Leads w (Lists past (events.RnrWake name)) (wake_plan c name)
lists-wake c past w name sound agree = leads-there c w P name reasons.State (λ q. waking q q.peer) sound (λ q there. by q there q.peer)
  where
    P : World → List Mark → Type 0
    P = Lists past (events.RnrWake name)

    wakes : QueuePair → Bool → Plan
    wakes q empty = unless_refused (wake_refusals empty q) Stuck (Finish ((Queue_of q.queue := Present (after_wake q).queue) ∷ []) [] (after_wake q).marks)

    waking : QueuePair → Option Correspondent → Plan
    waking q None = unless_refused (wake_refusals false q) Stuck (Stuck reasons.Empty)
    waking q (Some peer) = Look (Queue_of peer.queue) (λ slot. Look (Mailbox_of peer.queue) (λ m.
        With_receives slot (λ empty. wakes q (reaches_peer q peer m && empty))))

    awake : (q : QueuePair) → IsThere w q → P (put w (Queue_of q.queue) (Present (after_wake q).queue)) []
    awake q there = still-ends (at_begin (events.RnrWake name) past) (at_begin (events.RnrWake name) past) (put w (Queue_of q.queue) (Present (after_wake q).queue)) (still-leaves [] (record {}) (at_begin (events.RnrWake name) past)) refl
        (moved-agree past w (put w (Queue_of q.queue) (Present (after_wake q).queue)) q (after_wake q).queue past.placed agree refl (λ t posted was. was) (λ n e. refl)
        (record { source = was.source; posted = was.posted; message = was.message }))
      where
        was : AgreeOnReceiver (past.receives (life_of q.queue (past.incarnation q.queue))) (past.srq q.queue) past.shared (past.placed q.queue) q
        was = was-there past w q agree there

    wake : (q : QueuePair) → IsThere w q → (empty : Bool) → Leads w P (wakes q empty)
    wake q there empty = leads-tests w P (wake_refusals empty q) Stuck (Finish ((Queue_of q.queue := Present (after_wake q).queue) ∷ []) [] (after_wake q).marks) (λ r. record {}) (λ fails. awake q there)

    receives : (slot : QueueSlot) (k : Bool → Plan) → ((b : Bool) → Leads w P (k b)) → Leads w P (With_receives slot k)
    receives slot k more = search rules

    by : (q : QueuePair) → IsThere w q → (peer : Option Correspondent) → Leads w P (waking q peer)
    by q there None = leads-tests w P (wake_refusals false q) Stuck (Stuck reasons.Empty) (λ r. record {}) (λ fails. record {})
    by q there (Some peer) = receives (w.queue peer.queue) (λ empty. wakes q (reaches_peer q peer (w.mailbox peer.queue) && empty)) (λ empty. wake q there _)

-- ---- packets that arrive

same-packet : (p r : Past) (q : QueueId) (index : Option ℕ) → r.at_hand.event ≡ p.at_hand.event → r.envelopes ≡ p.envelopes → packet_at r q index ≡ packet_at p q index
same-packet p r q None event envelopes = ap (λ e. option_and_then packet_of (injected_bytes e)) event
same-packet p r q (Some index) event envelopes = ap (λ f. option_and_then packet_of (option_map (λ e. e.bytes) (find (λ e. e.index == index) (f q)))) envelopes

-- a past in which a packet arrived at a queue pair, or none that spells one
pub record IsArrival (past r : Past) (q : QueueId) (index : Option ℕ) (o : Option Fields) : Type 0 where
  pub incarnation : r.incarnation ≡ past.incarnation
  pub receives : r.receives ≡ past.receives
  pub srq : r.srq ≡ past.srq
  pub shared : r.shared ≡ past.shared
  pub placed : r.placed ≡ past.placed
  pub arrival : r.at_hand.arrival ≡ Some (record { target = q; index = index })
  pub dropped : r.at_hand.dropped ≡ false
  pub put : r.at_hand.put_locally ≡ []
  pub packet : packet_at r q index ≡ o

-- The receive of a SEND packet that arrives at a queue pair is the one at its place, and so many bytes of its message were
-- placed before as the machine counts.
pub receiving-known : (past r : Past) (w : World) (q : QueuePair) (f : Fields) (x : Receiving) → ListsAgree past w → IsThere w q → r.placed q.queue ≡ past.placed q.queue → receiving_of q (next_of w q) q.responder.message ≡ Some x → begins_send f.opcode ≡ x.taken
    → (receive_by (past.receives (life_of q.queue (past.incarnation q.queue))) (past.srq q.queue) past.shared x.receive.place ≡ Some x.receive.receive) × (bytes_before r q.queue f ≡ x.before)
receiving-known past r w q f x agree there placed same starts = by q.responder.message refl same
  where
    At : ℕ → Option RecvRequest
    At = receive_by (past.receives (life_of q.queue (past.incarnation q.queue))) (past.srq q.queue) past.shared

    was : AgreeOnReceiver (past.receives (life_of q.queue (past.incarnation q.queue))) (past.srq q.queue) past.shared (past.placed q.queue) q
    was = was-there past w q agree there

    Known : Type 0
    Known = (At x.receive.place ≡ Some x.receive.receive) × (bytes_before r q.queue f ≡ x.before)

    -- a receive of which the packet puts so many bytes behind those that were placed
    from : (y : Receiving) → y ≡ x → At y.receive.place ≡ Some y.receive.receive → (if y.taken then 0 else r.placed q.queue) ≡ y.before → Known
    from y is at before = (
      subst (λ (z : Receiving). At z.receive.place ≡ Some z.receive.receive) is at,
      ap (λ b. if b then 0 else r.placed q.queue) (starts ∙ ap (λ (z : Receiving). z.taken) (sym is)) ∙ before ∙ ap (λ (z : Receiving). z.before) is,
    )

    begun : (n : Option PlacedReceive) → next_of w q ≡ n → option_map (λ z. record { receive = z; before = 0; taken = true }) n ≡ Some x → Known
    begun None found same = absurd (true≢false (sym (ap is_some same)))
    begun (Some z) found same = from (record { receive = z; before = 0; taken = true }) (same_Some _ x same) (next-known w q _ (past.srq q.queue) past.shared (past.placed q.queue) z was agree.waiting found) refl

    by : (m : Option Message) → q.responder.message ≡ m → receiving_of q (next_of w q) m ≡ Some x → Known
    by None is same = begun (next_of w q) refl same
    by (Some (messages.Write key address left count)) is same = begun (next_of w q) refl same
    by (Some (messages.Send place receive count)) is same = from (record { receive = record { place = place; receive = receive }; before = count; taken = false }) (same_Some _ x same) at.0 (placed ∙ at.1)
      where
        at : (At place ≡ Some receive) × (past.placed q.queue ≡ count)
        at = subst (HoldsOwn At (past.placed q.queue)) is was.message

pub arrived-lists : (past p : Past) (w v : World) (q : QueuePair) (index : Option ℕ) (o : Option Fields) (e : Effects) → ListsAgree past w → IsThere w q → IsHeldStep w o q e → IsArrival past p q.queue index o → HasMoved w q e v
    → ListsAgree (at_end (after_marks e.marks p)) v
arrived-lists past p w v q index o e agree there step met moved = as-told past r (placed_at_end r) v (leaves.incarnation ∙ met.incarnation) (leaves.receives ∙ met.receives) (leaves.srq ∙ met.srq) (leaves.shared ∙ met.shared)
    (moved-agree past w v q e.queue (placed_at_end r) agree moved.queue (moved-shared w v q e moved) others
    (receiver-after own srq past.shared (past.placed q.queue) (placed_at_end r q.queue) q (shared_in (around_in w q (shared_of w q))) e was step.0 (message step.1)))
  where
    r : Past
    r = after_marks e.marks p

    leaves : Leaves p r
    leaves = still-leaves e.marks (own-still e.marks step.0.inner.marks) p

    hands : Hands e.marks p r
    hands = own-hands e.marks step.0.inner.marks p

    own : List RecvRequest
    own = past.receives (life_of q.queue (past.incarnation q.queue))

    srq : Option Slot
    srq = past.srq q.queue

    was : AgreeOnReceiver own srq past.shared (past.placed q.queue) q
    was = was-there past w q agree there

    now : Bool → Option Fields → QueueId → ℕ
    now d x = option_map_or (placed_by r q.queue) (if d then None else x) r.placed

    ends : placed_at_end r ≡ now r.at_hand.dropped o
    ends = placed-arrived r q.queue index (leaves.arrival ∙ met.arrival) ∙ ap (now r.at_hand.dropped) (same-packet p r q.queue index hands.event hands.envelopes ∙ met.packet)

    before : (n : QueueId) → r.placed n ≡ past.placed n
    before n = ap (λ f. f n) (leaves.placed ∙ met.placed)

    put : r.at_hand.put_locally ≡ puts_in e.marks
    put = hands.put ∙ ap (λ xs. xs ++ puts_in e.marks) met.put

    others : (n : QueueId) → queue_eq q.queue n ≡ false → placed_at_end r n ≡ past.placed n
    others n other = ap (λ f. f n) ends ∙ by r.at_hand.dropped o ∙ before n
      where
        at : (b : Bool) (x : ℕ) → (if b then with_at queue_eq r.placed q.queue x else r.placed) n ≡ r.placed n
        at true x = ap (λ b. if b then x else r.placed n) other
        at false x = refl

        by : (d : Bool) (x : Option Fields) → now d x n ≡ r.placed n
        by true x = refl
        by false None = refl
        by false (Some f) = at (is_send f.opcode && nat_lt 0 (length r.at_hand.put_locally)) (bytes_before r q.queue f + length r.at_hand.put_locally)

    quiet : ((f : Fields) → o ≡ Some f → is_send f.opcode ≡ true → puts_in e.marks ≡ []) → placed_at_end r q.queue ≡ past.placed q.queue
    quiet puts = ap (λ f. f q.queue) ends ∙ by r.at_hand.dropped o refl ∙ before q.queue
      where
        sent : (f : Fields) → o ≡ Some f → (b : Bool) → is_send f.opcode ≡ b → (if b && nat_lt 0 (length r.at_hand.put_locally) then with_at queue_eq r.placed q.queue (bytes_before r q.queue f + length r.at_hand.put_locally) else r.placed) q.queue ≡ r.placed q.queue
        sent f is true sends = ap (λ (xs : List ℕ). (if nat_lt 0 (length xs) then with_at queue_eq r.placed q.queue (bytes_before r q.queue f + length r.at_hand.put_locally) else r.placed) q.queue) (put ∙ puts f is sends)
        sent f is false sends = refl

        by : (d : Bool) (x : Option Fields) → o ≡ x → now d x q.queue ≡ r.placed q.queue
        by true x is = refl
        by false None is = refl
        by false (Some f) is = sent f is (is_send f.opcode) refl

    -- a SEND that puts all its bytes
    grown : (f : Fields) → o ≡ Some f → is_send f.opcode ≡ true → length (puts_in e.marks) ≡ length f.payload → 0 < length f.payload → drops_in e.marks ≡ false → placed_at_end r q.queue ≡ bytes_before r q.queue f + length f.payload
    grown f is sends size some stays = ap (λ g. g q.queue) ends ∙ ap (λ d. now d o q.queue) (hands.dropped ∙ ap (λ b. b || drops_in e.marks) met.dropped ∙ stays) ∙ ap (λ x. now false x q.queue) is
        ∙ ap (λ b. (if b && nat_lt 0 (length r.at_hand.put_locally) then with_at queue_eq r.placed q.queue (bytes_before r q.queue f + length r.at_hand.put_locally) else r.placed) q.queue) sends
        ∙ ap (λ b. (if b then with_at queue_eq r.placed q.queue (bytes_before r q.queue f + length r.at_hand.put_locally) else r.placed) q.queue) (less (length r.at_hand.put_locally) (subst (λ n. 0 < n) (sym whole) some))
        ∙ ap (λ b. if b then bytes_before r q.queue f + length r.at_hand.put_locally else r.placed q.queue) (queue-refl q.queue) ∙ ap (λ n. bytes_before r q.queue f + n) whole
      where
        whole : length r.at_hand.put_locally ≡ length f.payload
        whole = ap length put ∙ size

        less : (n : ℕ) → 0 < n → nat_lt 0 n ≡ true
        less n some = grind (arith, nat_tests, some)

    At : ℕ → Option RecvRequest
    At = receive_by own srq past.shared

    known : (f : Fields) (x : Receiving) → receiving_of q (next_of w q) q.responder.message ≡ Some x → begins_send f.opcode ≡ x.taken → (At x.receive.place ≡ Some x.receive.receive) × (bytes_before r q.queue f ≡ x.before)
    known f x same starts = receiving-known past r w q f x agree there (before q.queue) same starts

    message : Held o (next_of w q) q e → HoldsOwn At (placed_at_end r q.queue) e.queue.responder.message
    message (gone none) = lost-holds At (placed_at_end r q.queue) e.queue.responder.message none
    message (kept same puts) = subst (λ n. HoldsOwn At n e.queue.responder.message) (sym (quiet puts)) (subst (HoldsOwn At (past.placed q.queue)) (sym same) was.message)
    message (grows f x is sends receives starts size some stays goes) = subst (HoldsOwn At (placed_at_end r q.queue)) (sym goes)
        ((known f x receives starts).0, grown f is sends size some stays ∙ ap (λ n. n + length f.payload) (known f x receives starts).1)

-- a packet that arrives, behind changes of nothing that counts here
pub lists-arrive : (c : Configuration) (past p : Past) (w : World) (P : World → List Mark → Type 0) (q : QueuePair) (bytes : List ℕ) (envelope : Option ℕ) (pre : List Update) (ms : List Mark) → IsSoundWorld c w → ListsAgree past w → IsThere w q → AreBeside pre
    → IsArrival past p q.queue envelope (result_ok (packet_in bytes)) → ((v : World) (ns : List Mark) → ListsAgree (at_end (after_marks ns p)) v → P v (ms ++ marks.Arrived q.queue envelope ∷ ns)) → Leads w P (Arrive c q bytes envelope pre ms)
lists-arrive c past p w P q bytes envelope pre ms sound agree there beside met more = leads-around w P q (λ a. Row_plan c (arrival_row bytes envelope (shared_in a) q) (finish a))
    (leads-row c w P (IsHeldStep w (result_ok (packet_in bytes)) q) (arrival_row bytes envelope (shared_in a) q) (finish a) does (λ e cs ws step aside.
    more (write_all ws (put_all (pre ++ (updates_of q a e ++ cs)) w)) e.marks (arrived-lists past p w (write_all ws (put_all (pre ++ (updates_of q a e ++ cs)) w)) q envelope (result_ok (packet_in bytes)) e agree there step met
    (moved-on w q e (put_all (updates_of q a e) u) (write_all ws (put_all (pre ++ (updates_of q a e ++ cs)) w)) (moved w u q e (puts-same pre w beside)) (later e cs ws aside)))))
  where
    a : Around
    a = around_in w q (shared_of w q)

    u : World
    u = put_all pre w

    finish : Around → Effects → List Update → List Write → Plan
    finish a e more writes = Finish (pre ++ (updates_of q a e ++ more)) writes (ms ++ marks.Arrived q.queue envelope ∷ e.marks)

    shares : (o : Option SrqSlot) → IsSoundShared o → IfSome (option_and_then (λ s. s.srq) o) IsSharedReceives
    shares None sound = record {}
    shares (Some slot) sound = sound

    does : RowDoes (IsHeldStep w (result_ok (packet_in bytes)) q) (arrival_row bytes envelope (shared_in a) q)
    does = row-both _ _ (arrival_row bytes envelope (shared_in a) q) (step-row (shared_in a) q (arrival_row bytes envelope (shared_in a) q)
        (row-does q (arrival_row bytes envelope (shared_in a) q) (arrival-good bytes envelope (shared_in a) q there.sound (shares a.shared (sound-shared c w q sound))))
        (arrival-inner bytes envelope (shared_in a) q) (arrival-takes bytes envelope (shared_in a) q there.sound) (λ f. arrival-ends bytes envelope (shared_in a) q f))
        (arrival-held bytes envelope (shared_in a) q there.sound)

    later : (e : Effects) (cs : List Update) (ws : List Write) → AreAside cs → SameParts (put_all (updates_of q a e) u) (write_all ws (put_all (pre ++ (updates_of q a e ++ cs)) w))
    later e cs ws aside = subst (λ x. SameParts (put_all (updates_of q a e) u) (write_all ws x)) (sym (puts-append pre (updates_of q a e ++ cs) w))
        (behind-same (updates_of q a e) cs ws u (aside-beside cs aside))

pub lists-deliver : (c : Configuration) (past : Past) (w : World) (name : QueueId) (index : ℕ) → IsSoundWorld c w → PathsAgree past w → ListsAgree past w → Leads w (Lists past (events.Deliver name index)) (deliver_plan c name index)
lists-deliver c past w name index sound paths agree = (λ has. lent (bytes_lent index (w.mailbox name)) refl, λ none. record {})
  where
    P : World → List Mark → Type 0
    P = Lists past (events.Deliver name index)

    m : Mailbox
    m = w.mailbox name

    at : List ℕ → QueueSlot → Plan
    at bytes (NoQueue incarnation timers) = Stuck reasons.NotKept
    at bytes (Present q) = Arrive c q bytes (Some index) ((Mailbox_of name := after_delivery index m) ∷ []) []

    under_way : Option (List ℕ) → Plan
    under_way None = Stuck reasons.NotKept
    under_way (Some bytes) = Look (Queue_of name) (at bytes)

    there : (bytes : List ℕ) → WereSent past name index bytes → (s : QueueSlot) → w.queue name ≡ s → IsQueueOf name s → Leads w P (at bytes s)
    there bytes sent (NoQueue incarnation timers) is one = record {}
    there bytes sent (Present q) is one = lists-arrive c past (after_mark (marks.Arrived q.queue (Some index)) (at_begin (events.Deliver name index) past)) w P q bytes (Some index) ((Mailbox_of name := after_delivery index m) ∷ []) [] sound agree
        (is-there w name q is one) (record {}, record {}) (record {
          incarnation = refl;
          receives = refl;
          srq = refl;
          shared = refl;
          placed = refl;
          arrival = refl;
          dropped = refl;
          put = refl;
          packet = ap (option_and_then packet_of) (ap (λ n. option_map (λ e. e.bytes) (envelope_sent past n index)) one.0 ∙ ap (option_map (λ e. e.bytes)) sent.sent ∙ ap Some sent.bytes);
        }) (λ v ns agrees. agrees)

    lent : (o : Option (List ℕ)) → bytes_lent index m ≡ o → Leads w P (under_way o)
    lent None is = record {}
    lent (Some bytes) is = there bytes (lent-sent c past w name index bytes sound paths is) (w.queue name) refl (sound.things (Queue_of name))
