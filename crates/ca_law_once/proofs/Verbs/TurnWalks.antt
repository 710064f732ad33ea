-- Walks over the plans of turns: which queue pair goes on, and which mailbox gets a packet. For proofs only.
use Rattle.std.proofs.Common.{◌≡◌, ◌&&◌, Bool, true, false, List, [], ◌∷◌, ◌++◌, Option, None, Some, refl, sym, subst, rules}
use Rattle.std.proofs.lemmas.Bool.{not-false}
use Rattle.ca_law_endings.proofs.LeadsLemmas.{AreAside, leads-around, leads-queue, leads-unless}
use Rattle.ca_law_endings.specs.Runs.{Leads}
use Rattle.ca_law_order.proofs.Polls.TurnLemmas.{leads-tests}
use Rattle.ca_base.specs.Configuration.{Configuration}
use Rattle.ca_base.specs.declared.correspondent.Correspondent.{Correspondent}
use Rattle.ca_base.specs.declared.lot.Lot.{Lot}
use Rattle.ca_base.specs.declared.step.Reason.TheVariants as reasons
use Rattle.ca_base.specs.objects.QueuePair.{QueuePair, QueueSlot, Present}
use Rattle.ca_keys.specs.Equal.{queue_eq}
use Rattle.ca_keys.specs.declared.names.QueueId.{QueueId}
use Rattle.ca_law_world.proofs.Sound.WorldLemmas.{around_in, shared_of}
use Rattle.ca_model.specs.Past.{with_at}
use Rattle.ca_model.specs.declared.mark.Mark.{Mark}
use Rattle.ca_model.specs.machine.Around.{With_around, updates_of}
use Rattle.ca_model.specs.machine.Invariants.{is_sending}
use Rattle.ca_model.specs.machine.Numbering.{Numbered}
use Rattle.ca_model.specs.machine.Plan.{Finish, Look, Plan, Stuck, Update, ◌:=◌, Write, put_all, unless_refused, write_all}
use Rattle.ca_model.specs.machine.Requester.{Performs, RequestTurn, Sends, Waits, packet_row, turn_of}
use Rattle.ca_model.specs.machine.Respond.{respond_refusals, respond_row}
use Rattle.ca_model.specs.machine.Row.{Effects}
use Rattle.ca_model.specs.machine.Sound.{IsSoundWorld}
use Rattle.ca_model.specs.machine.Timers.{after_timeout, after_wake, timeout_refusals, wake_refusals}
use Rattle.ca_model.specs.machine.Turns.{Fire, Request_around, Respond_around, Timeout_around, With_receives, has_room_for, packet_sent, reaches_peer, request_plan, respond_plan, timeout_plan, wake_plan}
use Rattle.ca_model.specs.machine.World.{Mailbox_of, Queue_of, World, put}
use Rattle.ca_law_once.proofs.Ties.DeliverWalk.{Ends, Has, has-aside, has-turn, has-writes, puts-append}
use Rattle.ca_law_once.proofs.Ties.PerformTies.{leads-perform}
use Rattle.ca_law_once.proofs.Ties.QuietLemmas.{IsQuiet}
use Rattle.ca_law_once.proofs.Ties.SendLemmas.{boxes_after, leads-left}
use Rattle.ca_law_once.proofs.Ties.TimerLemmas.{IsFoundAt, found-at}
use Rattle.ca_law_once.proofs.Verbs.PairLemmas.{Replaces, replaces-turned}

-- a queue pair goes on, and perhaps sends a packet to its peer
abbrev pub Goes : World → QueuePair → Correspondent → Lot → Effects → World → Type 0
Goes w q p lot e v = Has (with_at queue_eq w.queue q.queue (Present e.queue)) (boxes_after w q p lot (packet_sent e)) v

pub leads-respond : (c : Configuration) (w : World) (P : World → List Mark → Type 0) (name : QueueId) (lot : Lot) → IsSoundWorld c w
    → ((q : QueuePair) (p : Correspondent) (room : Bool) (e : Effects) (v : World) (ms : List Mark) → IsFoundAt w name q → q.peer ≡ Some p → Ends (respond_row room q) e → Goes w q p lot e v → P v ms)
    → Leads w P (respond_plan c name lot)
leads-respond c w P name lot sound more = leads-queue c w P name reasons.State (λ q. With_around q (λ a. Respond_around c lot q a q.peer))
    (λ q is. leads-around w P q (λ a. Respond_around c lot q a q.peer) (by q (found-at c w name q sound is) q.peer refl))
  where
    by : (q : QueuePair) → IsFoundAt w name q → (peer : Option Correspondent) → q.peer ≡ peer → Leads w P (Respond_around c lot q (around_in w q (shared_of w q)) peer)
    by q there None is = leads-unless w P (respond_refusals true q) Stuck (Stuck reasons.Empty) (λ x. record {}) (record {})
    by q there (Some p) is = leads-left c w P q p lot (respond_row (has_room_for q p (w.mailbox p.queue)) q)
        (λ e v ms ends has told. more q p (has_room_for q p (w.mailbox p.queue)) e v ms there is ends has)

pub leads-request : (c : Configuration) (w : World) (P : World → List Mark → Type 0) (name : QueueId) (lot : Lot) → IsSoundWorld c w
    → ((q : QueuePair) (p : Correspondent) (room : Bool) (n : Numbered) (e : Effects) (v : World) (ms : List Mark) → IsFoundAt w name q → q.peer ≡ Some p → turn_of q ≡ Sends n → Ends (packet_row q room n) e → Goes w q p lot e v → P v ms)
    → ((q : QueuePair) (n : Numbered) (e : Effects) (v : World) → IsFoundAt w name q → turn_of q ≡ Performs n → IsQuiet q e → Replaces w name (Present e.queue) (w.mailbox name) v → P v e.marks)
    → Leads w P (request_plan c name lot)
leads-request c w P name lot sound sends performs = leads-queue c w P name reasons.State (λ q. With_around q (λ a. Request_around c lot q a q.peer (turn_of q)))
    (λ q is. leads-around w P q (λ a. Request_around c lot q a q.peer (turn_of q)) (by q (found-at c w name q sound is) q.peer refl (turn_of q) refl))
  where
    performed : (q : QueuePair) (n : Numbered) → IsFoundAt w name q → turn_of q ≡ Performs n → (e : Effects) (cs : List Update) (ws : List Write) → IsQuiet q e → AreAside cs
        → P (write_all ws (put_all (updates_of q (around_in w q (shared_of w q)) e ++ cs) w)) e.marks
    performed q n there turn e cs ws quiet aside = performs q n e (write_all ws (put_all us w)) there turn quiet (replaces-turned w (write_all ws (put_all us w)) name (Present e.queue)
        (has-writes (with_at queue_eq w.queue name (Present e.queue)) w.mailbox ws (put_all us w)
        (subst (λ n. Has (with_at queue_eq w.queue n (Present e.queue)) w.mailbox (put_all us w)) there.named
        (subst (Has (with_at queue_eq w.queue q.queue (Present e.queue)) w.mailbox) (sym (puts-append (updates_of q (around_in w q (shared_of w q)) e) cs w))
        (has-aside (with_at queue_eq w.queue q.queue (Present e.queue)) w.mailbox cs (put_all (updates_of q (around_in w q (shared_of w q)) e) w) aside (has-turn w q (around_in w q (shared_of w q)) e))))))
      where
        us : List Update
        us = updates_of q (around_in w q (shared_of w q)) e ++ cs

    by : (q : QueuePair) → IsFoundAt w name q → (peer : Option Correspondent) → q.peer ≡ peer → (turn : RequestTurn) → turn_of q ≡ turn → Leads w P (Request_around c lot q (around_in w q (shared_of w q)) peer turn)
    by q there peer is (Waits reason) turn = record {}
    by q there peer is (Performs n) turn = leads-perform c w P q n (λ e changes writes. Finish (updates_of q (around_in w q (shared_of w q)) e ++ changes) writes e.marks) n.request.op there.sound turn
        (λ e cs ws quiet aside. performed q n there turn e cs ws quiet aside)
    by q there None is (Sends n) turn = record {}
    by q there (Some p) is (Sends n) turn = leads-left c w P q p lot (packet_row q (has_room_for q p (w.mailbox p.queue)) n)
        (λ e v ms ends has told. sends q p (has_room_for q p (w.mailbox p.queue)) n e v ms there is turn ends has)

-- a timer fires at a queue pair that sends
pub leads-timeout : (c : Configuration) (w : World) (P : World → List Mark → Type 0) (name : QueueId) (hasten : Bool) → IsSoundWorld c w
    → ((q : QueuePair) (silent : Bool) (v : World) → IsFoundAt w name q → is_sending q.state ≡ true → Replaces w name (Present (after_timeout silent q).queue) (w.mailbox name) v → P v (after_timeout silent q).marks)
    → Leads w P (timeout_plan c name hasten)
leads-timeout c w P name hasten sound more = leads-queue c w P name reasons.State (λ q. Look (Mailbox_of name) (λ own. With_around q (λ a. Timeout_around hasten q own a q.peer)))
    (λ q is. leads-around w P q (λ a. Timeout_around hasten q (w.mailbox name) a q.peer) (by q (found-at c w name q sound is) q.peer))
  where
    fire : (q : QueuePair) → IsFoundAt w name q → (silent : Bool) → Leads w P (Fire hasten q (around_in w q (shared_of w q)) silent)
    fire q there silent = leads-tests w P (timeout_refusals silent hasten q) Stuck
        (Finish (updates_of q (around_in w q (shared_of w q)) (after_timeout silent q)) [] (after_timeout silent q).marks) (λ x. record {})
        (λ fails. more q silent v there (not-false (is_sending q.state) fails.0) (replaces-turned w v name (Present (after_timeout silent q).queue)
        (subst (λ n. Has (with_at queue_eq w.queue n (Present (after_timeout silent q).queue)) w.mailbox v) there.named (has-turn w q (around_in w q (shared_of w q)) (after_timeout silent q)))))
      where
        v : World
        v = put_all (updates_of q (around_in w q (shared_of w q)) (after_timeout silent q)) w

    by : (q : QueuePair) → IsFoundAt w name q → (peer : Option Correspondent) → Leads w P (Timeout_around hasten q (w.mailbox name) (around_in w q (shared_of w q)) peer)
    by q there None = leads-unless w P (timeout_refusals false hasten q) Stuck (Stuck reasons.Empty) (λ x. record {}) (record {})
    by q there (Some peer) = fire q there _

-- a wake, likewise
pub leads-wake : (c : Configuration) (w : World) (P : World → List Mark → Type 0) (name : QueueId) → IsSoundWorld c w
    → ((q : QueuePair) (v : World) → IsFoundAt w name q → is_sending q.state ≡ true → Replaces w name (Present (after_wake q).queue) (w.mailbox name) v → P v (after_wake q).marks) → Leads w P (wake_plan c name)
leads-wake c w P name sound more = leads-queue c w P name reasons.State (λ q. waking q q.peer) (λ q is. by q (found-at c w name q sound is) q.peer)
  where
    wakes : QueuePair → Bool → Plan
    wakes q empty = unless_refused (wake_refusals empty q) Stuck (Finish ((Queue_of q.queue := Present (after_wake q).queue) ∷ []) [] (after_wake q).marks)

    waking : QueuePair → Option Correspondent → Plan
    waking q None = unless_refused (wake_refusals false q) Stuck (Stuck reasons.Empty)
    waking q (Some peer) = Look (Queue_of peer.queue) (λ slot. Look (Mailbox_of peer.queue) (λ m.
        With_receives slot (λ empty. wakes q (reaches_peer q peer m && empty))))

    wake : (q : QueuePair) → IsFoundAt w name q → (empty : Bool) → Leads w P (wakes q empty)
    wake q there empty = leads-tests w P (wake_refusals empty q) Stuck (Finish ((Queue_of q.queue := Present (after_wake q).queue) ∷ []) [] (after_wake q).marks)
        (λ x. record {}) (λ fails. more q v there (not-false (is_sending q.state) fails.0) (replaces-turned w v name (Present (after_wake q).queue)
        (subst (λ n. Has (with_at queue_eq w.queue n (Present (after_wake q).queue)) w.mailbox v) there.named (record { queue = refl; mailbox = refl }))))
      where
        v : World
        v = put w (Queue_of q.queue) (Present (after_wake q).queue)

    receives : (slot : QueueSlot) (k : Bool → Plan) → ((b : Bool) → Leads w P (k b)) → Leads w P (With_receives slot k)
    receives slot k more = search rules

    by : (q : QueuePair) → IsFoundAt w name q → (peer : Option Correspondent) → Leads w P (waking q peer)
    by q there None = leads-unless w P (wake_refusals false q) Stuck (Stuck reasons.Empty) (λ x. record {}) (record {})
    by q there (Some peer) = receives (w.queue peer.queue) (λ empty. wakes q (reaches_peer q peer (w.mailbox peer.queue) && empty)) (λ empty. wake q there _)
