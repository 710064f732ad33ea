-- Turns, timers and packets: what completes has its cause, and queue pairs in Error have their faults. For proofs only.
use Rattle.std.proofs.Common.{◌≡◌, ℕ, suc, ◌&&◌, Bool, true, false, if◌then◌else◌, List, [], ◌∷◌, ◌++◌, Option, None, Some, IfSome, Result, Ok, Err, refl, sym, ap, subst, ◌∙◌, rules}
use Rattle.std.proofs.lemmas.Bool.{ltb-false, not-false}
use Rattle.std.specs.Result.{result_ok}
use Rattle.ca_law_endings.proofs.LeadsLemmas.{AreAside, IsAsideName, leads-around, leads-queue, leads-unless}
use Rattle.ca_law_endings.proofs.MailSentLemmas.{lent-sent}
use Rattle.ca_law_endings.specs.Agreement.{PathsAgree, WereSent}
use Rattle.ca_law_endings.proofs.Leading.{leads-unless-all}
use Rattle.ca_law_keys.proofs.Posts.GrantLemmas.{both-true}
use Rattle.ca_law_order.proofs.Sends.SendLemmas.{IsReadyQueue}
use Rattle.ca_law_order.proofs.Sends.TurnLemmas.{AreAway, IsAway, Sends_of, away-append, ready-there, srq-away}
use Rattle.ca_law_caused.proofs.Caused.EndLemmas.{AreSent, Passes, followed-on, followed-tied, known_of, leaves-sent, left-agrees}
use Rattle.ca_law_caused.proofs.Caused.KnownLemmas.{Fires, IsListed, IsOn, Known, Occasion, Turns, first_at}
use Rattle.ca_law_caused.proofs.Caused.OldestLemmas.{sum-take}
use Rattle.ca_law_caused.proofs.Caused.AskLemmas.{is_by_list}
use Rattle.ca_law_caused.proofs.Caused.OldestLemmas.{IsSentTurn, IsTheFirst, IsUp, performed-first, sends-next, sent-first}
use Rattle.ca_law_caused.proofs.Caused.PassLemmas.{IsOccasion, story-leaves}
use Rattle.ca_law_caused.proofs.Caused.RequestStoryLemmas.{arrival-story, occasion_of, respond-story, sent-story, timeout-story, wake-story}
use Rattle.ca_law_caused.proofs.Caused.ResponseStoryLemmas.{OnwardOf, RowStory, StoryOf, denied-by, failed}
use Rattle.ca_law_caused.proofs.Caused.StoryLemmas.{AreCalm, calm-append, goes, on}
use Rattle.ca_law_caused.proofs.Caused.SuchLemmas.{leads-such}
use Rattle.ca_law_caused.specs.Explained.{CausesAgree, ExplainedInSlot, IsExplained, queue_past}
use Rattle.ca_keys.specs.Refusals.{AllFail}
use Rattle.ca_law_world.proofs.Sound.SettledLemmas.{queue-refl}
use Rattle.ca_model.specs.Packets.{packet_of}
use Rattle.ca_model.specs.Past.{Arrival, envelope_sent, packet_at, packet_bytes_at, after_mark}
use Rattle.ca_base.specs.declared.completion.WcStatus.TheVariants.{LocalProtection}
use Rattle.ca_base.specs.declared.denied_ask.DeniedAsk.{DeniedAsk}
use Rattle.ca_base.specs.declared.request.SendRequest.{SendRequest}
use Rattle.ca_model.specs.Requests.{is_local, list_of}
use Rattle.ca_model.specs.machine.Requester.{denied_list_effects, next_request}
use Rattle.ca_model.specs.machine.Sound.{IsQueueOf}
use Rattle.std.specs.Option.{option_and_then}
use Rattle.ca_model.specs.machine.Invariants.{IsQueue, is_sending}
use Rattle.ca_model.specs.machine.Acknowledgements.{one_retry, with_requester}
use Rattle.ca_model.specs.machine.Requester.{is_outstanding}
use Rattle.ca_wire.specs.Decoding.{packet_in}
use Rattle.ca_wire.specs.Packet.{Fields}
use Rattle.ca_wire.specs.declared.wire_error.WireError.{WireError}
use Rattle.std.specs.Option.{option_map, option_map_or}
use Rattle.ca_law_endings.specs.Runs.{Leads}
use Rattle.ca_law_keys.proofs.Keys.KeyTurnLemmas.{found}
use Rattle.ca_law_keys.proofs.Posts.PlaceLemmas.{IsPerformed, performs}
use Rattle.ca_law_keys.proofs.Posts.PostTurnLemmas.{AreDrawn, IsDrawn}
use Rattle.ca_law_keys.proofs.Posts.PostMade.{IsPosted}
use Rattle.ca_base.specs.Configuration.{Configuration}
use Rattle.ca_base.specs.declared.completion.WcStatus.TheVariants.{MemoryManagement}
use Rattle.ca_base.specs.declared.correspondent.Correspondent.{Correspondent}
use Rattle.ca_base.specs.declared.lot.Lot.{Lot}
use Rattle.ca_base.specs.declared.refusals.OpRefusal.{OpRefusal}
use Rattle.ca_base.specs.declared.step.Reason.TheVariants as reasons
use Rattle.ca_base.specs.objects.LocalRequest.{LocalMarks}
use Rattle.ca_base.specs.objects.Mailbox.{Mailbox, after_delivery, after_send, bytes_lent, is_lost}
use Rattle.ca_base.specs.objects.QueuePair.{QueuePair, QueueSlot, NoQueue, Present}
use Rattle.ca_base.specs.objects.SharedReceives.{after_receive_take}
use Rattle.ca_keys.specs.Equal.{queue_eq}
use Rattle.ca_keys.specs.declared.grant.Grant.{Grant}
use Rattle.ca_keys.specs.declared.key.Key.{Key}
use Rattle.ca_keys.specs.declared.names.QueueId.{QueueId}
use Rattle.ca_law_world.proofs.Sound.WorldLemmas.{IsThere, around_in, shared_of}
use Rattle.ca_law_world.proofs.Steady.TurnLemmas.{there-kept}
use Rattle.ca_model.specs.Past.{Past, at_begin, present_incarnation}
use Rattle.ca_model.specs.declared.event.Event.{Event}
use Rattle.ca_model.specs.declared.event.Event.TheVariants as events
use Rattle.ca_model.specs.declared.mark.Mark.{Mark}
use Rattle.ca_model.specs.declared.mark.Mark.TheVariants as marks
use Rattle.ca_model.specs.machine.Around.{Around, With_around, cq_updates, shared_in, srq_updates, updates_of}
use Rattle.ca_model.specs.machine.Completions.{success_marks}
use Rattle.ca_model.specs.machine.Delivery.{Arrive, arrival_row, deliver_plan}
use Rattle.ca_model.specs.machine.LocalOperations.{local_marks, operation_effects}
use Rattle.ca_model.specs.machine.Numbering.{Numbered}
use Rattle.ca_model.specs.machine.Plan.{Plan, Stuck, Look, Finish, Update, ◌:=◌, Write, put_all, unless_refused, write_all}
use Rattle.ca_model.specs.machine.Requester.{Performs, RequestTurn, Sends, Waits, packet_row, turn_of}
use Rattle.ca_model.specs.machine.Respond.{respond_refusals, respond_row}
use Rattle.ca_model.specs.machine.Row.{Effects, Row, Row_plan}
use Rattle.ca_model.specs.machine.Timers.{after_timeout, after_wake, timeout_refusals, wake_refusals}
use Rattle.ca_model.specs.machine.Turns.{Fire, Leave_plan, Packet, Request_around, Respond_around, Timeout_around, With_receives, has_room_for, packet_sent, reaches_peer, request_plan, respond_plan, sent_marks, sent_updates, timeout_plan, wake_plan}
use Rattle.ca_model.specs.machine.World.{Byte_at, Cq_of, Domain_of, Mailbox_of, Name, Queue_of, Region_of, Srq_of, Thing, Window_of, World}
use Rattle.std.proofs.Common.{arith, true≢false, zero, ◌+◌, ◌-◌, ◌≤◌, ◌==◌, nat_lt, drop, map}
use Rattle.ca_law_endings.proofs.Operations.{LocalDone, done_by, former_of, leads-done, named_in}
use Rattle.ca_law_keys.specs.Posts.{AgreeInSlot, AgreeOnSends, as_posted}
use Rattle.ca_base.specs.Sight.{Invalidation}
use Rattle.ca_base.specs.declared.limits.TheConstants.{MAX_RETRY}
use Rattle.ca_base.specs.declared.request.SendOp.{SendOp}
use Rattle.ca_base.specs.declared.request.SendOp.TheVariants as ops
use Rattle.ca_base.specs.objects.Region.{after_region_invalidation, with_window_unbound}
use Rattle.ca_base.specs.objects.Slices.{names_region, names_window, slot_of_key}
use Rattle.ca_base.specs.objects.Window.{Binding, Window, without_binding}
use Rattle.ca_keys.specs.declared.names.Slot.{Slot}
use Rattle.ca_law_world.proofs.Sound.RequesterLemmas.{sending-not-fresh}
use Rattle.ca_model.specs.Progress.{Progress}
use Rattle.ca_model.specs.Requests.{psns_of}
use Rattle.ca_model.specs.Past.{arrived_at_hand}
use Rattle.ca_model.specs.machine.LocalOperations.{PlacedRegion, former_updates, named_updates, window_slot}
use Rattle.ca_model.specs.machine.Row.{region_under, unless_none}
use Rattle.ca_model.specs.machine.Seen.{ending_changes}

-- a world that comes up, and a past that agrees with it on posted requests, on paths and on faults
pub record IsMet (c : Configuration) (past : Past) (w : World) : Type 0 where
  pub posted : IsPosted c past w
  pub paths : PathsAgree past w
  pub agree : CausesAgree past w

-- what an event that ends so leaves of the test and of the agreement
abbrev pub Causing : Past → Event → World → List Mark → Type 0
Causing past event v ms = Passes (at_begin event past) v ms

-- ---- changes of no queue pair

aside-away : (us : List Update) → AreAside us → AreAway us
aside-away [] aside = record {}
aside-away (u ∷ us) aside = (by u.name aside.0, aside-away us aside.1)
  where
    by : (n : Name) → IsAsideName n → IsAway n
    by (Region_of s) is = record {}
    by (Window_of s) is = record {}
    by (Queue_of q) is = absurd is
    by (Mailbox_of q) is = absurd is
    by (Domain_of d) is = absurd is
    by (Cq_of s) is = absurd is
    by (Srq_of s) is = absurd is
    by (Byte_at p) is = absurd is

drawn-away : (w : World) (us : List Update) → AreDrawn w us → AreAway us
drawn-away w [] drawn = record {}
drawn-away w (u ∷ us) drawn = (by u.name u.thing drawn.0, drawn-away w us drawn.1)
  where
    by : (n : Name) (x : Thing n) → IsDrawn w n x → IsAway n
    by (Queue_of q) x is = absurd is
    by (Window_of s) x is = record {}
    by (Mailbox_of q) x is = record {}
    by (Domain_of d) x is = record {}
    by (Region_of s) x is = record {}
    by (Cq_of s) x is = record {}
    by (Srq_of s) x is = record {}
    by (Byte_at p) x is = record {}

-- what a turn changes beside its queue pair
turn-away : (q : QueuePair) (a : Around) (e : Effects) → AreAway (cq_updates q a e.marks ++ (if e.takes_shared then srq_updates q a after_receive_take else []))
turn-away q a e = (record {}, (record {}, shared e.takes_shared))
  where
    shared : (b : Bool) → AreAway (if b then srq_updates q a after_receive_take else [])
    shared true = srq-away q a after_receive_take
    shared false = record {}

sent-away : (q : QueuePair) (peer : Correspondent) (m : Mailbox) (lot : Lot) (o : Option Packet) → AreAway (option_map_or (sent_updates q peer m lot) o [])
sent-away q peer m lot None = record {}
sent-away q peer m lot (Some x) = by (reaches_peer q peer m)
  where
    by : (b : Bool) → AreAway (if b then (Mailbox_of peer.queue := after_send lot x.bytes m) ∷ [] else [])
    by true = (record {}, record {})
    by false = record {}

-- ---- the queue pair of an event

-- what is known of it
abbrev pub Known_of : Past → QueuePair → Known
Known_of past q = known_of (queue_past past q.queue) q

pub was-there : (past : Past) (w : World) (q : QueuePair) → CausesAgree past w → IsThere w q → IsExplained (queue_past past q.queue) q
was-there past w q agree there = subst (ExplainedInSlot (queue_past past q.queue)) there.present (agree.slots q.queue)

-- it is up where it sends
up-there : (c : Configuration) (past : Past) (w : World) (q : QueuePair) → IsMet c past w → IsThere w q → is_sending q.state ≡ true → IsUp (Known_of past q) (queue_past past q.queue).progress q
up-there c past w q met there sending = record {
  ready = ready-there c past w q met.posted there;
  sound = there.sound;
  steady = (there-kept w q met.posted.steady there).is;
  sending = sending;
  known = sending;
  on = followed-on (queue_past past q.queue) q ((was-there past w q met.agree there).sends sending);
}

on-there : (past : Past) (w : World) (q : QueuePair) → CausesAgree past w → IsThere w q → is_sending q.state ≡ true → IsOn (Known_of past q) (queue_past past q.queue).progress q
on-there past w q agree there sending = followed-on (queue_past past q.queue) q ((was-there past w q agree there).sends sending)

drop-map : {A B : Type 0} (f : A → B) (i : ℕ) (xs : List A) → drop i (map f xs) ≡ map f (drop i xs)
drop-map f zero xs = refl
drop-map f (suc i) [] = refl
drop-map f (suc i) (x ∷ xs) = drop-map f i xs

drop-drop : {A : Type 0} (i j n : ℕ) (xs : List A) → j + i ≡ n → drop i (drop j xs) ≡ drop n xs
drop-drop i zero n xs e = ap (λ k. drop k xs) {x = i} {y = n} (omega (arith, e))
drop-drop zero (suc j) zero [] e = refl
drop-drop (suc i) (suc j) zero [] e = refl
drop-drop zero (suc j) (suc n) [] e = refl
drop-drop (suc i) (suc j) (suc n) [] e = refl
drop-drop i (suc j) zero (x ∷ xs) e = absurd (omega (arith, e))
drop-drop i (suc j) (suc n) (x ∷ xs) e = drop-drop i j n xs (omega (arith, e))

-- what is unfinished was posted last
listed-there : (c : Configuration) (past : Past) (w : World) (q : QueuePair) → IsMet c past w → IsThere w q → IsListed (Known_of past q) q
listed-there c past w q met there = ap (drop (q.requester.oldest - q.sends.first)) own.items ∙ drop-map as_posted (q.requester.oldest - q.sends.first) (drop q.sends.first (Sends_of past q))
    ∙ ap (map as_posted) (drop-drop (q.requester.oldest - q.sends.first) q.sends.first q.requester.oldest (Sends_of past q) (omega (arith, there.sound.requester.finished)))
  where
    own : AgreeOnSends (Sends_of past q) (past.performed (present_incarnation past q.queue)) q
    own = subst (AgreeInSlot (Sends_of past q) (past.performed (present_incarnation past q.queue))) there.present (met.posted.agree.sends q.queue)

-- a timer more is counted
timed-queue : (q : QueuePair) → IsQueue q → IsQueue (with_requester (record q.requester { timers = suc q.requester.timers }) q)
timed-queue q s = record {
  sends = s.sends;
  receives = s.receives;
  source = s.source;
  requester = record {
    finished = s.requester.finished;
    begun = s.requester.begun;
    waiting = s.requester.waiting;
    base = s.requester.base;
    outstanding = s.requester.outstanding;
    retry = s.requester.retry;
    rnr_retry = s.requester.rnr_retry;
    reads = s.requester.reads;
    retried = s.requester.retried;
    retries = s.requester.retries;
    fresh = s.requester.fresh;
  };
  begun = s.begun;
  responder = s.responder;
  taken = s.taken;
  peer = s.peer;
  connected = s.connected;
  saved = s.saved;
}

-- an effect's story, behind a head that leaves what is told of queue pairs
story-agrees : (r : Past) (w : World) (q : QueuePair) (o : Occasion) (e : Effects) (pre us : List Update) (ws : List Write) → CausesAgree r w → IsThere w q → IsOccasion r q.queue o
    → IfSome r.at_hand.fired (λ n. n ≡ q.queue) → IfSome r.at_hand.arrival (λ a. a.target ≡ q.queue) → StoryOf (Known_of r q) o q e → AreAway pre → AreAway us
    → Passes r (write_all ws (put_all (pre ++ (Queue_of q.queue := Present e.queue) ∷ us) w)) e.marks
story-agrees r w q o e pre us ws agree there occurs fires arrives story before behind = left-agrees r w q e.queue pre us ws e.marks (λ n other. agree.slots n) was fires arrives
    (story-leaves (Known_of r q) o q e.queue e.marks r (record { posted = refl; occasion = occurs; sends = followed-tied r q was }) refl was.error story) before behind
  where
    was : IsExplained (queue_past r q.queue) q
    was = was-there r w q agree there

-- ---- the responder's turn, timers and arrivals

sent-sent : (q : QueuePair) (peer : Correspondent) (m : Mailbox) (lot : Lot) (o : Option Packet) → AreSent (option_map_or (sent_marks q peer m lot) o [])
sent-sent q peer m lot None = record {}
sent-sent q peer m lot (Some x) = by (reaches_peer q peer m) (is_lost lot)
  where
    by : (b z : Bool) → AreSent (if b
        then marks.Sent q.queue peer.queue (Some m.next) x.request x.bytes ∷ (if z then marks.Lost peer.queue (Some m.next) ∷ [] else [])
        else marks.Sent q.queue peer.queue None x.request x.bytes ∷ marks.Lost peer.queue None ∷ [])
    by true true = record {}
    by true false = record {}
    by false z = record {}

-- a turn leaves by a row
cause-leave : (c : Configuration) (past : Past) (event : Event) (w : World) (q : QueuePair) (peer : Correspondent) (lot : Lot) (row : Row) → IsMet c past w → IsThere w q → RowStory (Known_of past q) Turns q row
    → Leads w (Causing past event) (Row_plan c row (Leave_plan q (around_in w q (shared_of w q)) peer (w.mailbox peer.queue) lot))
cause-leave c past event w q peer lot row met there does = leads-such c w (Causing past event) (StoryOf (Known_of past q) Turns q) row (Leave_plan q a peer m lot) does
    (λ e cs ws done aside. left-agrees (at_begin event past) w q e.queue [] ((cq_updates q a e.marks ++ (if e.takes_shared then srq_updates q a after_receive_take else [])) ++ (cs ++ option_map_or (sent_updates q peer m lot) (packet_sent e) [])) ws
    (e.marks ++ option_map_or (sent_marks q peer m lot) (packet_sent e) []) (λ n other. met.agree.slots n) was (record {}) (record {})
    (leaves-sent (Known_of past q) q e.queue (at_begin event past) e.marks (option_map_or (sent_marks q peer m lot) (packet_sent e) []) refl
    (story-leaves (Known_of past q) Turns q e.queue e.marks (at_begin event past) (record { posted = refl; occasion = record { arrived = refl; fired = refl }; sends = followed-tied (at_begin event past) q was }) refl was.error done)
    (sent-sent q peer m lot (packet_sent e)))
    (record {}) (away-append (cq_updates q a e.marks ++ (if e.takes_shared then srq_updates q a after_receive_take else [])) (cs ++ option_map_or (sent_updates q peer m lot) (packet_sent e) []) (turn-away q a e)
    (away-append cs (option_map_or (sent_updates q peer m lot) (packet_sent e) []) (aside-away cs aside) (sent-away q peer m lot (packet_sent e)))))
  where
    was : IsExplained (queue_past past q.queue) q
    was = was-there past w q met.agree there

    a : Around
    a = around_in w q (shared_of w q)

    m : Mailbox
    m = w.mailbox peer.queue

pub cause-respond : (c : Configuration) (past : Past) (w : World) (name : QueueId) (lot : Lot) → IsMet c past w → Leads w (Causing past (events.Respond name lot)) (respond_plan c name lot)
cause-respond c past w name lot met = leads-queue c w P name reasons.State (λ q. With_around q (λ a. Respond_around c lot q a q.peer))
    (λ q is. leads-around w P q (λ a. Respond_around c lot q a q.peer) (by q (found c w name q met.posted.sound is) q.peer))
  where
    P : World → List Mark → Type 0
    P = Causing past (events.Respond name lot)

    by : (q : QueuePair) → IsThere w q → (peer : Option Correspondent) → Leads w P (Respond_around c lot q (around_in w q (shared_of w q)) peer)
    by q there None = leads-unless w P (respond_refusals true q) Stuck (Stuck reasons.Empty) (λ r. record {}) (record {})
    by q there (Some peer) = cause-leave c past (events.Respond name lot) w q peer lot (respond_row (has_room_for q peer (w.mailbox peer.queue)) q) met there
        (respond-story (Known_of past q) (has_room_for q peer (w.mailbox peer.queue)) q (on-there past w q met.agree there))

pub cause-timeout : (c : Configuration) (past : Past) (w : World) (name : QueueId) (hasten : Bool) → IsMet c past w → Leads w (Causing past (events.Timeout name hasten)) (timeout_plan c name hasten)
cause-timeout c past w name hasten met =
    leads-queue c w P name reasons.State (λ q. Look (Mailbox_of name) (λ own. With_around q (λ a. Timeout_around hasten q own a q.peer)))
    (λ q is. leads-around w P q (λ a. Timeout_around hasten q (w.mailbox name) a q.peer) (by q (found c w name q met.posted.sound is) q.peer))
  where
    P : World → List Mark → Type 0
    P = Causing past (events.Timeout name hasten)

    fire : (q : QueuePair) → IsThere w q → (silent : Bool) → Leads w P (Fire hasten q (around_in w q (shared_of w q)) silent)
    fire q there silent = leads-unless-all w P (timeout_refusals silent hasten q) Stuck (Finish (updates_of q a e) [] e.marks) (λ r. record {}) (λ fails. on_fails fails)
      where
        a : Around
        a = around_in w q (shared_of w q)

        e : Effects
        e = after_timeout silent q

        counted : QueuePair
        counted = with_requester (record q.requester { timers = suc q.requester.timers }) q

        f : Effects
        f = one_retry q.requester.una counted

        start : Past
        start = at_begin (events.Timeout name hasten) past

        up : is_sending q.state ≡ true → IsUp (Known_of past q) (queue_past past q.queue).progress counted
        up sending = record { ready = record { at = was.ready.at; first = was.ready.first; last = was.ready.last }; sound = timed-queue q was.sound; known = sending; on = record { una = was.on.una; retries = was.on.retries; rnrs = was.on.rnrs; retry = was.on.retry; rnr_retry = was.on.rnr_retry; mtu = was.on.mtu; first = was.on.first; patience = was.on.patience }; steady = record { unfinished = was.steady.unfinished; oldest = was.steady.oldest; reads = was.steady.reads; ends = was.steady.ends; packets = was.steady.packets }; sending = sending }
          where
            was : IsUp (Known_of past q) (queue_past past q.queue).progress q
            was = up-there c past w q met there sending

        fired : Passes (after_mark (marks.Timer q.queue silent) start) (put_all (updates_of q a e) w) f.marks → P (put_all (updates_of q a e) w) e.marks
        fired passes = (both-true true _ refl passes.0, passes.1)

        on_fails : AllFail (timeout_refusals silent hasten q) → P (put_all (updates_of q a e) w) e.marks
        on_fails fails = fired (story-agrees (after_mark (marks.Timer q.queue silent) start) w q Fires f [] (cq_updates q a e.marks ++ (if e.takes_shared then srq_updates q a after_receive_take else [])) [] met.agree there refl refl (record {})
            (on (timeout-story (Known_of past q) q (up (not-false _ fails.0)) (not-false _ fails.1.0))) (record {}) (turn-away q a e))

    by : (q : QueuePair) → IsThere w q → (peer : Option Correspondent) → Leads w P (Timeout_around hasten q (w.mailbox name) (around_in w q (shared_of w q)) peer)
    by q there None = leads-unless w P (timeout_refusals false hasten q) Stuck (Stuck reasons.Empty) (λ r. record {}) (record {})
    by q there (Some peer) = fire q there _

-- the packet that arrived: its bytes are those that the mark names
pub arrival-met : (r : Past) (q : QueuePair) (index : Option ℕ) (bytes : List ℕ) → r.at_hand.arrival ≡ Some (record { target = q.queue; index = index }) → r.at_hand.dropped ≡ false
    → packet_bytes_at r q.queue index ≡ Some bytes → r.at_hand.used_remotely ≡ false → r.at_hand.used_list ≡ false → r.at_hand.completed ≡ [] → r.at_hand.fired ≡ None → IsOccasion r q.queue (occasion_of (packet_in bytes))
arrival-met r q index bytes arrival dropped sent remotely list completed fired = by (packet_in bytes) refl
  where
    at : (o : Option Arrival) (d : Bool) → Option Fields
    at o d = option_and_then (λ a. if d then None else if queue_eq a.target q.queue then packet_at r q.queue a.index else None) o

    arrived : (x : Result Fields WireError) → packet_in bytes ≡ x → arrived_at_hand r q.queue ≡ result_ok x
    arrived x is = ap (λ o. at o r.at_hand.dropped) arrival ∙ ap (at (Some (record { target = q.queue; index = index }))) dropped
        ∙ ap (λ b. if b then packet_at r q.queue index else None) (queue-refl q.queue) ∙ ap (option_and_then packet_of) sent ∙ ap result_ok is

    by : (x : Result Fields WireError) → packet_in bytes ≡ x → IsOccasion r q.queue (occasion_of x)
    by (Err error) is = record { arrived = arrived (Err error) is; fired = fired }
    by (Ok p) is = record { arrived = arrived (Ok p) is; remotely = remotely; list = list; completed = completed; fired = fired }

-- a packet that arrives, behind changes and marks that come first
pub cause-arrive : (c : Configuration) (past r : Past) (w : World) (P : World → List Mark → Type 0) (q : QueuePair) (bytes : List ℕ) (envelope : Option ℕ) (pre : List Update) (ms : List Mark) → IsMet c past w → IsThere w q
    → CausesAgree r w → Known_of r q ≡ Known_of past q → IsOccasion r q.queue (occasion_of (packet_in bytes)) → IfSome r.at_hand.fired (λ n. n ≡ q.queue) → IfSome r.at_hand.arrival (λ a. a.target ≡ q.queue) → AreAway pre
    → ((v : World) (ns : List Mark) → Passes r v ns → P v (ms ++ marks.Arrived q.queue envelope ∷ ns)) → Leads w P (Arrive c q bytes envelope pre ms)
cause-arrive c past r w P q bytes envelope pre ms met there agree known occurs fires arrives before more =
    leads-around w P q (λ a. Row_plan c (arrival_row bytes envelope (shared_in a) q) (finish a))
    (leads-such c w P (StoryOf (Known_of r q) (occasion_of (packet_in bytes)) q) (arrival_row bytes envelope (shared_in a) q) (finish a)
    (subst (λ k. RowStory k (occasion_of (packet_in bytes)) q (arrival_row bytes envelope (shared_in a) q)) (sym known)
    (arrival-story (Known_of past q) bytes envelope (shared_in a) q (λ sending. (up-there c past w q met there sending, listed-there c past w q met there))))
    (λ e cs ws done aside. more _ e.marks (story-agrees r w q (occasion_of (packet_in bytes)) e pre ((cq_updates q a e.marks ++ (if e.takes_shared then srq_updates q a after_receive_take else [])) ++ cs) ws agree there occurs fires arrives done before
    (away-append (cq_updates q a e.marks ++ (if e.takes_shared then srq_updates q a after_receive_take else [])) cs (turn-away q a e) (aside-away cs aside)))))
  where
    a : Around
    a = around_in w q (shared_of w q)

    finish : Around → Effects → List Update → List Write → Plan
    finish a e more writes = Finish (pre ++ (updates_of q a e ++ more)) writes (ms ++ marks.Arrived q.queue envelope ∷ e.marks)

pub cause-deliver : (c : Configuration) (past : Past) (w : World) (name : QueueId) (index : ℕ) → IsMet c past w → Leads w (Causing past (events.Deliver name index)) (deliver_plan c name index)
cause-deliver c past w name index met = (λ has. lent (bytes_lent index (w.mailbox name)) refl, λ none. record {})
  where
    P : World → List Mark → Type 0
    P = Causing past (events.Deliver name index)

    m : Mailbox
    m = w.mailbox name

    at : List ℕ → QueueSlot → Plan
    at bytes (NoQueue incarnation timers) = Stuck reasons.NotKept
    at bytes (Present q) = Arrive c q bytes (Some index) ((Mailbox_of name := after_delivery index m) ∷ []) []

    under_way : Option (List ℕ) → Plan
    under_way None = Stuck reasons.NotKept
    under_way (Some bytes) = Look (Queue_of name) (at bytes)

    there : (bytes : List ℕ) → WereSent past name index bytes → (s : QueueSlot) → w.queue name ≡ s → Leads w P (at bytes s)
    there bytes sent (NoQueue incarnation timers) is = record {}
    there bytes sent (Present q) is = cause-arrive c past r w P q bytes (Some index) ((Mailbox_of name := after_delivery index m) ∷ []) [] met (found c w name q met.posted.sound is) met.agree refl
        (arrival-met r q (Some index) bytes refl refl (ap (λ n. option_map (λ e. e.bytes) (envelope_sent past n index)) own ∙ ap (option_map (λ e. e.bytes)) sent.sent ∙ ap Some sent.bytes) refl refl refl refl) (record {}) refl (record {}, record {})
        (λ v ns passes. (both-true true _ refl passes.0, passes.1))
      where
        r : Past
        r = after_mark (marks.Arrived q.queue (Some index)) (at_begin (events.Deliver name index) past)

        own : q.queue ≡ name
        own = (subst (IsQueueOf name) is (met.posted.sound.things (Queue_of name))).0

    lent : (o : Option (List ℕ)) → bytes_lent index m ≡ o → Leads w P (under_way o)
    lent None is = record {}
    lent (Some bytes) is = there bytes (lent-sent c past w name index bytes met.posted.sound met.paths is) (w.queue name) refl

pub cause-wake : (c : Configuration) (past : Past) (w : World) (name : QueueId) → IsMet c past w → Leads w (Causing past (events.RnrWake name)) (wake_plan c name)
cause-wake c past w name met = leads-queue c w P name reasons.State (λ q. waking q q.peer) (λ q is. by q (found c w name q met.posted.sound is) q.peer)
  where
    P : World → List Mark → Type 0
    P = Causing past (events.RnrWake name)

    wakes : QueuePair → Bool → Plan
    wakes q empty = unless_refused (wake_refusals empty q) Stuck (Finish ((Queue_of q.queue := Present (after_wake q).queue) ∷ []) [] (after_wake q).marks)

    waking : QueuePair → Option Correspondent → Plan
    waking q None = unless_refused (wake_refusals false q) Stuck (Stuck reasons.Empty)
    waking q (Some peer) = Look (Queue_of peer.queue) (λ slot. Look (Mailbox_of peer.queue) (λ m.
        With_receives slot (λ empty. wakes q (reaches_peer q peer m && empty))))

    wake : (q : QueuePair) → IsThere w q → (empty : Bool) → Leads w P (wakes q empty)
    wake q there empty = leads-unless w P (wake_refusals empty q) Stuck (Finish ((Queue_of q.queue := Present (after_wake q).queue) ∷ []) [] (after_wake q).marks)
        (λ r. record {}) (story-agrees (at_begin (events.RnrWake name) past) w q Turns (after_wake q) [] [] [] met.agree there (record { arrived = refl; fired = refl }) (record {}) (record {}) (wake-story (Known_of past q) q (on-there past w q met.agree there)) (record {}) (record {}))

    receives : (slot : QueueSlot) (k : Bool → Plan) → ((b : Bool) → Leads w P (k b)) → Leads w P (With_receives slot k)
    receives slot k more = search rules

    by : (q : QueuePair) → IsThere w q → (peer : Option Correspondent) → Leads w P (waking q peer)
    by q there None = leads-unless w P (wake_refusals false q) Stuck (Stuck reasons.Empty) (λ r. record {}) (record {})
    by q there (Some peer) = receives (w.queue peer.queue) (λ empty. wakes q (reaches_peer q peer (w.mailbox peer.queue) && empty)) (λ empty. wake q there _)

-- ---- the requester's turn

local-calm : (name : QueueId) (q : QueuePair) (m : LocalMarks) → AreCalm name (local_marks q m)
local-calm name q m = by m.revoked m.granted
  where
    by : (k : Option Key) (g : Option Grant) → AreCalm name (option_map_or (λ key. marks.Revoked q.queue.adapter key ∷ []) k [] ++ option_map_or (λ g. marks.Granted g ∷ []) g [])
    by None None = record {}
    by None (Some g) = (record {}, record {})
    by (Some k) None = (record {}, record {})
    by (Some k) (Some g) = (record {}, (record {}, record {}))

success-calm : (name : QueueId) (n : Numbered) → AreCalm name (success_marks name n.place n.request)
success-calm name n = by n.request.signalled
  where
    by : (b : Bool) → AreCalm name (if b then success_marks name n.place (record n.request { signalled = true }) else [])
    by true = ((refl, refl), record {})
    by false = record {}

psns-local : (mtu : ℕ) (op : SendOp) → is_local op ≡ true → psns_of mtu op ≡ 0
psns-local mtu (ops.Bind1 window region address count rights) local = refl
psns-local mtu (ops.Bind2 window region low address count rights) local = refl
psns-local mtu (ops.FastReg region low buffer address count rights pages) local = refl
psns-local mtu (ops.LocalInv key) local = refl
psns-local mtu (ops.Send list) local = absurd (true≢false (sym local))
psns-local mtu (ops.SendImm imm list) local = absurd (true≢false (sym local))
psns-local mtu (ops.SendInv key list) local = absurd (true≢false (sym local))
psns-local mtu (ops.Write address key list) local = absurd (true≢false (sym local))
psns-local mtu (ops.WriteImm address key imm list) local = absurd (true≢false (sym local))
psns-local mtu (ops.Read address key list) local = absurd (true≢false (sym local))
psns-local mtu (ops.CmpSwap address key compare swap list) local = absurd (true≢false (sym local))
psns-local mtu (ops.FetchAdd address key add list) local = absurd (true≢false (sym local))

-- a queue pair with its windows counted anew
pub record IsWindowed (q after : QueuePair) : Type 0 where
  pub state : after.state ≡ q.state
  pub mtu : after.responder.mtu ≡ q.responder.mtu
  pub requester : after.requester ≡ q.requester

-- a local operation is the oldest request that is unfinished: it completes, or fails
operation-story : (k : Known) (q : QueuePair) (n : Numbered) (after : QueuePair) (m : LocalMarks) (refusal : Option OpRefusal) → IsWindowed q after → IsReadyQueue k.posted q → IsPerformed q n → IsOn k k.before q
    → OnwardOf k Turns q (operation_effects q n after m refusal)
operation-story k q n after m None like ready does was = goes (calm-append q.queue (local_marks q m) _ (local-calm q.queue q m) (success-calm q.queue n)) (record {
  state = like.state;
  mtu = like.mtu;
  fresh = λ fresh. absurd (sending-not-fresh q.state does.sending fresh);
  sends = λ sending. record {
    una = ap (λ r. r.una) like.requester ∙ was.una;
    retries = ap (λ r. r.retries) like.requester ∙ was.retries;
    rnrs = ap (λ r. r.rnrs) like.requester ∙ was.rnrs;
    retry = ap (λ r. r.retry) like.requester ∙ was.retry;
    rnr_retry = ap (λ r. r.rnr_retry) like.requester ∙ was.rnr_retry;
    mtu = like.mtu ∙ was.mtu;
    first = ap (λ i. first_at k (suc i)) (does.item.place ∙ does.alone) ∙ next ∙ ap (λ r. r.oldest_psn) (sym like.requester);
    patience = subst (λ r. nat_lt r.rnr_retry MAX_RETRY ≡ true → r.rnrs ≤ r.rnr_retry) (sym like.requester) was.patience;
  };
})
  where
    old : IsTheFirst k.posted q n
    old = performed-first k.posted q n ready does

    none : psns_of k.mtu old.first.posted.posted.request.op ≡ 0
    none = psns-local k.mtu old.first.posted.posted.request.op (ap (λ (r : SendRequest). is_local r.op) (old.first.posted.same ∙ sym old.same) ∙ does.local)

    next : first_at k (suc q.requester.oldest) ≡ q.requester.oldest_psn
    next = omega (arith, was.first, none, sum-take (λ p. psns_of k.mtu p.request.op) k.posted q.requester.oldest old.first.posted.posted old.first.posted.is)
operation-story k q n after m (Some cause) like ready does was = failed k Turns k.before q None MemoryManagement (Some cause) old.item old.first (refl, ap (λ (r : SendRequest). is_local r.op) (sym old.same) ∙ does.local)
  where
    old : IsTheFirst k.posted q n
    old = performed-first k.posted q n ready does

-- a list that is denied where nothing is outstanding is that of the oldest
denied-story : (k : Known) (g : Progress) (q : QueuePair) (n : Numbered) (d : DeniedAsk) → IsUp k g q → next_request q ≡ Some n → is_outstanding q ≡ false → is_by_list q.queue (list_of n.request.op) d.ask ≡ true → OnwardOf k Turns q (denied_list_effects q d)
denied-story k g q n d up next none listed = failed k Turns k.before q (Some d) LocalProtection None old.item old.first (denied-by q.queue old.item n d old.same listed)
  where
    old : IsTheFirst k.posted q n
    old = sent-first k g q n up (ltb-false q.requester.una q.requester.cursor none) next

-- what an operation leaves of a queue pair, and that it changes windows and regions alone
windowed : (c : Configuration) (w : World) (q : QueuePair) (n : Numbered) (op : SendOp) → IsWindowed q (done_by c w q n op).after
windowed c w q n (ops.Bind1 window key address count rights) = record { state = refl; mtu = refl; requester = refl }
windowed c w q n (ops.Bind2 window key low address count rights) = record { state = refl; mtu = refl; requester = refl }
windowed c w q n (ops.FastReg region low buffer address count rights pages) = record { state = refl; mtu = refl; requester = refl }
windowed c w q n (ops.LocalInv key) = record { state = refl; mtu = refl; requester = refl }
windowed c w q n (ops.Send list) = record { state = refl; mtu = refl; requester = refl }
windowed c w q n (ops.SendImm imm list) = record { state = refl; mtu = refl; requester = refl }
windowed c w q n (ops.SendInv key list) = record { state = refl; mtu = refl; requester = refl }
windowed c w q n (ops.Write address key list) = record { state = refl; mtu = refl; requester = refl }
windowed c w q n (ops.WriteImm address key imm list) = record { state = refl; mtu = refl; requester = refl }
windowed c w q n (ops.Read address key list) = record { state = refl; mtu = refl; requester = refl }
windowed c w q n (ops.CmpSwap address key compare swap list) = record { state = refl; mtu = refl; requester = refl }
windowed c w q n (ops.FetchAdd address key add list) = record { state = refl; mtu = refl; requester = refl }

former-away : (f : Option PlacedRegion) → AreAway (former_updates f)
former-away None = record {}
former-away (Some f) = (record {}, record {})

named-away : (f n : Option PlacedRegion) → AreAway (named_updates f n)
named-away f None = record {}
named-away f (Some n) = (record {}, record {})

ending-away : (c : Configuration) (w : World) (i : Invalidation) → AreAway (ending_changes c w i)
ending-away c w i = by (names_region c i.domain i.key) (names_window c i.domain i.key)
  where
    slot : Slot
    slot = slot_of_key i.domain i.key

    changes : Option Binding → List Update
    changes None = []
    changes (Some b) =
        (Window_of slot := without_binding (w.window slot))
        ∷ (Region_of (region_under (w.window slot) b) := with_window_unbound (w.region (region_under (w.window slot) b))) ∷ []

    window : (o : Option Binding) → AreAway (changes o)
    window None = record {}
    window (Some b) = (record {}, (record {}, record {}))

    by : (r y : Bool) → AreAway (if r then (Region_of slot := after_region_invalidation (w.region slot)) ∷ [] else if y then changes (w.window slot).binding else [])
    by true y = (record {}, record {})
    by false true = window (w.window slot).binding
    by false false = record {}

done-away : (c : Configuration) (w : World) (q : QueuePair) (n : Numbered) (op : SendOp) → is_local op ≡ true → AreAway (done_by c w q n op).changes
done-away c w q n (ops.Bind1 window key address count rights) local = (record {}, away-append (former_updates former) _ (former-away former) (some (count == 0)))
  where
    x : Window
    x = w.window (window_slot q window)

    former : Option PlacedRegion
    former = former_of w x x.binding

    some : (b : Bool) → AreAway (if b then [] else named_updates former (named_in c w q key))
    some true = record {}
    some false = named-away former (named_in c w q key)
done-away c w q n (ops.Bind2 window key low address count rights) local = (record {}, named-away None (named_in c w q key))
done-away c w q n (ops.FastReg region low buffer address count rights pages) local = (record {}, record {})
done-away c w q n (ops.LocalInv key) local = ending-away c w (record { queue = q.queue; domain = q.domain; key = key })
done-away c w q n (ops.Send list) local = record {}
done-away c w q n (ops.SendImm imm list) local = record {}
done-away c w q n (ops.SendInv key list) local = record {}
done-away c w q n (ops.Write address key list) local = record {}
done-away c w q n (ops.WriteImm address key imm list) local = record {}
done-away c w q n (ops.Read address key list) local = record {}
done-away c w q n (ops.CmpSwap address key compare swap list) local = record {}
done-away c w q n (ops.FetchAdd address key add list) local = record {}

unless-away : (o : Option OpRefusal) (cs : List Update) → AreAway cs → AreAway (unless_none o cs)
unless-away None cs away = away
unless-away (Some cause) cs away = record {}

pub cause-request : (c : Configuration) (past : Past) (w : World) (name : QueueId) (lot : Lot) → IsMet c past w → Leads w (Causing past (events.Request name lot)) (request_plan c name lot)
cause-request c past w name lot met = leads-queue c w P name reasons.State (λ q. With_around q (λ a. Request_around c lot q a q.peer (turn_of q)))
    (λ q is. leads-around w P q (λ a. Request_around c lot q a q.peer (turn_of q)) (by q (found c w name q met.posted.sound is) q.peer (turn_of q) refl))
  where
    P : World → List Mark → Type 0
    P = Causing past (events.Request name lot)

    performed : (q : QueuePair) → IsThere w q → (n : Numbered) → IsPerformed q n → (after : QueuePair) (m : LocalMarks) (refusal : Option OpRefusal) (cs : List Update) → IsWindowed q after → AreAway cs
        → P (put_all (updates_of q (around_in w q (shared_of w q)) (operation_effects q n after m refusal) ++ cs) w) (operation_effects q n after m refusal).marks
    performed q there n does after m refusal cs like away = story-agrees (at_begin (events.Request name lot) past) w q Turns e []
        ((cq_updates q a e.marks ++ (if e.takes_shared then srq_updates q a after_receive_take else [])) ++ cs) [] met.agree there (record { arrived = refl; fired = refl }) (record {}) (record {})
        (on (operation-story (Known_of past q) q n after m refusal like (ready-there c past w q met.posted there) does (on-there past w q met.agree there does.sending))) (record {})
        (away-append (cq_updates q a e.marks ++ (if e.takes_shared then srq_updates q a after_receive_take else [])) cs (turn-away q a e) away)
      where
        a : Around
        a = around_in w q (shared_of w q)

        e : Effects
        e = operation_effects q n after m refusal

    by : (q : QueuePair) → IsThere w q → (peer : Option Correspondent) (turn : RequestTurn) → turn_of q ≡ turn → Leads w P (Request_around c lot q (around_in w q (shared_of w q)) peer turn)
    by q there peer (Waits reason) is = record {}
    by q there peer (Performs n) is = leads-done c w P q n (λ e changes writes. Finish (updates_of q (around_in w q (shared_of w q)) e ++ changes) writes e.marks) n.request.op does.local
        (performed q there n does d.after d.marks d.refusal (unless_none d.refusal d.changes) (windowed c w q n n.request.op) (unless-away d.refusal d.changes (done-away c w q n n.request.op does.local)))
      where
        does : IsPerformed q n
        does = performs q n (there-kept w q met.posted.steady there) there.sound.requester.begun is

        d : LocalDone
        d = done_by c w q n n.request.op
    by q there None (Sends n) is = record {}
    by q there (Some peer) (Sends n) is = cause-leave c past (events.Request name lot) w q peer lot (packet_row q (has_room_for q peer (w.mailbox peer.queue)) n) met there
        (sent-story (Known_of past q) q (has_room_for q peer (w.mailbox peer.queue)) n (λ d none listed. denied-story (Known_of past q) (queue_past past q.queue).progress q n d (up-there c past w q met there sent.sending) sent.next none listed) (on-there past w q met.agree there sent.sending) sent.sending)
      where
        sent : IsSentTurn q n
        sent = sends-next q n is
