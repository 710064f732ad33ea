-- How queue pairs go on: what turns, timers and packets that arrive leave of them and around them. For proofs only.
use Rattle.std.proofs.Common.{◌≡◌, ℕ, ◌&&◌, Bool, true, false, if◌then◌else◌, List, [], ◌∷◌, ◌++◌, Option, None, Some, IfSome, refl, sym, ap, subst, rules, ◌∙◌}
use Rattle.std.proofs.lemmas.Bool.{not-false}
use Rattle.std.specs.Option.{option_and_then, option_map, option_map_or}
use Rattle.ca_law_endings.proofs.InnerLemmas.{arrival-inner, packet-inner, respond-inner, timeout-inner}
use Rattle.ca_law_endings.proofs.LeadsLemmas.{AreAside, IsAsideName, leads-around, leads-queue, leads-row}
use Rattle.ca_law_endings.proofs.PathLemmas.{puts-append}
use Rattle.ca_law_endings.specs.Runs.{Leads}
use Rattle.ca_law_order.proofs.Polls.FlushedLemmas.{arrival-ends, packet-row-ends, respond-ends, sending-well, timeout-ends}
use Rattle.ca_law_order.proofs.Polls.OperationLemmas.{leads-operation, nothing-step, operation-step}
use Rattle.ca_law_order.proofs.Polls.SideLemmas.{AreOf, done-behind, goes_to, of-append, own-of, puts-both, puts-none, sent-of}
use Rattle.ca_law_order.proofs.Polls.StepLemmas.{IsStep, step-row, takes-none}
use Rattle.ca_law_order.specs.Polls.{IsFlushedInError, sides_of}
use Rattle.ca_base.specs.Configuration.{Configuration}
use Rattle.ca_base.specs.declared.correspondent.Correspondent.{Correspondent}
use Rattle.ca_base.specs.declared.lot.Lot.{Lot}
use Rattle.ca_base.specs.declared.step.Reason.{Reason}
use Rattle.ca_base.specs.declared.step.Reason.TheVariants as reasons
use Rattle.ca_base.specs.objects.CompletionQueue.{after_puts}
use Rattle.ca_base.specs.objects.Mailbox.{Mailbox, after_delivery, after_send, bytes_lent}
use Rattle.ca_base.specs.objects.QueuePair.{QueuePair, QueueSlot, NoQueue, Present, recv_cq_of, send_cq_of, srq_of}
use Rattle.ca_base.specs.objects.SharedReceives.{SharedReceives, SrqSlot, after_receive_take}
use Rattle.ca_keys.specs.Equal.{queue_eq, slot_eq}
use Rattle.ca_keys.specs.Memory.{memory_after}
use Rattle.ca_keys.specs.Refusals.{AllFail, first_of}
use Rattle.ca_keys.specs.declared.names.QueueId.{QueueId}
use Rattle.ca_keys.specs.declared.names.Slot.{Slot}
use Rattle.ca_law_world.proofs.Sound.GoodLemmas.{IsLater}
use Rattle.ca_law_world.proofs.Sound.RespondLemmas.{arrival-good, respond-good}
use Rattle.ca_law_world.proofs.Sound.SettledLemmas.{slot-path}
use Rattle.ca_law_world.proofs.Sound.TakenLemmas.{arrival-takes, none-takes, packet-takes, respond-takes, timeout-takes, wake-takes}
use Rattle.ca_law_world.proofs.Sound.TurnLemmas.{packet-good, sending-parts, sends-parts, timeout-good, wake-good}
use Rattle.ca_law_world.proofs.Sound.WorldLemmas.{IsSoundShared, IsThere, RowDoes, around_in, is-there, row-does, shared_of, sound-shared}
use Rattle.ca_model.specs.Past.{with_at}
use Rattle.ca_model.specs.declared.mark.Mark.{Mark}
use Rattle.ca_model.specs.declared.mark.Mark.TheVariants as marks
use Rattle.ca_model.specs.machine.Around.{Around, With_around, With_queue, completions_to, cq_updates, shared_in, updates_of}
use Rattle.ca_model.specs.machine.Delivery.{Arrive, arrival_row, deliver_plan}
use Rattle.ca_model.specs.machine.Invariants.{IsSharedReceives, is_sending}
use Rattle.ca_model.specs.machine.Places.{IsInOrder, TakesInOrder, completions_in}
use Rattle.ca_model.specs.machine.Plan.{Plan, Stuck, Look, Finish, Update, ◌:=◌, Write, put_all, unless_refused, write_all}
use Rattle.ca_model.specs.machine.Requester.{Performs, RequestTurn, Sends, Waits, next_request, packet_row, turn_of, turn_refusals}
use Rattle.ca_model.specs.machine.Respond.{respond_refusals, respond_row}
use Rattle.ca_model.specs.machine.Row.{Effects, Row, Row_plan}
use Rattle.ca_model.specs.machine.Sound.{IsQueueOf, IsSoundWorld}
use Rattle.ca_model.specs.machine.Timers.{after_timeout, after_wake, timeout_refusals, wake_refusals}
use Rattle.ca_model.specs.machine.Turns.{Fire, Leave_plan, Packet, Request_around, Respond_around, Timeout_around, With_receives, has_room_for, packet_sent, reaches_peer, request_plan, respond_plan, sent_marks, sent_updates, timeout_plan, wake_plan}
use Rattle.ca_model.specs.machine.World.{World, Name, Domain_of, Region_of, Window_of, Cq_of, Srq_of, Queue_of, Mailbox_of, Byte_at, Thing, put}

-- ---- worlds with the same queue pairs, completion queues and shared receive queues

pub record SameParts (w v : World) : Type 0 where
  pub queue : v.queue ≡ w.queue
  pub cq : v.cq ≡ w.cq
  pub srq : v.srq ≡ w.srq

pub same-parts : (w : World) → SameParts w w
same-parts w = record { queue = refl; cq = refl; srq = refl }

same-on : (u v w : World) → SameParts u v → SameParts v w → SameParts u w
same-on u v w one other = record { queue = other.queue ∙ one.queue; cq = other.cq ∙ one.cq; srq = other.srq ∙ one.srq }

-- a change of none of them
abbrev pub IsBeside : Name → Type 0
IsBeside (Queue_of q) = ⊥
IsBeside (Cq_of s) = ⊥
IsBeside (Srq_of s) = ⊥
IsBeside n = Unit {0}

abbrev pub AreBeside : List Update → Type 0
AreBeside [] = Unit {0}
AreBeside (x ∷ xs) = IsBeside x.name × AreBeside xs

beside-append : (us vs : List Update) → AreBeside us → AreBeside vs → AreBeside (us ++ vs)
beside-append [] vs one other = other
beside-append (u ∷ us) vs one other = (one.0, beside-append us vs one.1 other)

put-same : (w : World) (n : Name) (x : Thing n) → IsBeside n → SameParts w (put w n x)
put-same w (Queue_of q) x beside = absurd beside
put-same w (Cq_of s) x beside = absurd beside
put-same w (Srq_of s) x beside = absurd beside
put-same w (Domain_of d) x beside = record { queue = refl; cq = refl; srq = refl }
put-same w (Region_of s) x beside = record { queue = refl; cq = refl; srq = refl }
put-same w (Window_of s) x beside = record { queue = refl; cq = refl; srq = refl }
put-same w (Mailbox_of q) x beside = record { queue = refl; cq = refl; srq = refl }
put-same w (Byte_at p) x beside = record { queue = refl; cq = refl; srq = refl }

pub puts-same : (us : List Update) (w : World) → AreBeside us → SameParts w (put_all us w)
puts-same [] w beside = same-parts w
puts-same (u ∷ us) w beside = same-on w (put w u.name u.thing) (put_all us (put w u.name u.thing)) (put-same w u.name u.thing beside.0) (puts-same us (put w u.name u.thing) beside.1)

pub writes-same : (ws : List Write) (w : World) → SameParts w (write_all ws w)
writes-same [] w = same-parts w
writes-same (x ∷ xs) w =
    let rest : SameParts (record w { byte = memory_after w.byte x.runs x.bytes }) (write_all xs (record w { byte = memory_after w.byte x.runs x.bytes })) =
    writes-same xs (record w { byte = memory_after w.byte x.runs x.bytes })
    in record { queue = rest.queue; cq = rest.cq; srq = rest.srq }

-- changes of none of them behind others, and writes
pub behind-same : (us vs : List Update) (ws : List Write) (w : World) → AreBeside vs → SameParts (put_all us w) (write_all ws (put_all (us ++ vs) w))
behind-same us vs ws w beside = subst (λ x. SameParts (put_all us w) (write_all ws x)) (sym (puts-append us vs w))
    (same-on (put_all us w) (put_all vs (put_all us w)) (write_all ws (put_all vs (put_all us w))) (puts-same vs (put_all us w) beside) (writes-same ws (put_all vs (put_all us w))))

aside-one : (n : Name) → IsAsideName n → IsBeside n
aside-one (Region_of s) aside = record {}
aside-one (Window_of s) aside = record {}
aside-one (Domain_of d) aside = record {}
aside-one (Byte_at p) aside = record {}
aside-one (Mailbox_of q) aside = record {}
aside-one (Queue_of q) aside = aside
aside-one (Cq_of s) aside = aside
aside-one (Srq_of s) aside = aside

pub aside-beside : (us : List Update) → AreAside us → AreBeside us
aside-beside [] aside = record {}
aside-beside (u ∷ us) aside = (aside-one u.name aside.0, aside-beside us aside.1)

sent-beside : (q : QueuePair) (peer : Correspondent) (m : Mailbox) (lot : Lot) (o : Option Packet) → AreBeside (option_map_or (sent_updates q peer m lot) o [])
sent-beside q peer m lot None = record {}
sent-beside q peer m lot (Some x) = by (reaches_peer q peer m)
  where
    by : (b : Bool) → AreBeside (if b then (Mailbox_of peer.queue := after_send lot x.bytes m) ∷ [] else [])
    by true = (record {}, record {})
    by false = record {}

-- ---- what effects leave

-- whether effects take a receive of the shared receive queue in a slot
abbrev pub takes_of : QueuePair → Effects → Slot → Bool
takes_of q e t = e.takes_shared && option_map_or (λ srq. slot_eq (srq_of q srq) t) q.srq false

-- a slot of a shared receive queue, of which a receive is taken
abbrev pub with_taken : SrqSlot → SrqSlot
with_taken slot = record slot { srq = option_map after_receive_take slot.srq }

-- the queue pair goes on, its completion queues have what completed, and of its shared receive queue one is taken or not
pub record HasMoved (w : World) (q : QueuePair) (e : Effects) (v : World) : Type 0 where
  pub queue : v.queue ≡ with_at queue_eq w.queue q.queue (Present e.queue)
  pub cq : (s : Slot) → v.cq s ≡ option_map (after_puts (goes_to (sides_of q) s (completions_in e.marks))) (w.cq s)
  pub srq : (t : Slot) → v.srq t ≡ (if takes_of q e t then with_taken (w.srq t) else w.srq t)

moved-on : (w : World) (q : QueuePair) (e : Effects) (v x : World) → HasMoved w q e v → SameParts v x → HasMoved w q e x
moved-on w q e v x moved same = record {
  queue = same.queue ∙ moved.queue;
  cq = λ s. ap (λ f. f s) same.cq ∙ moved.cq s;
  srq = λ t. ap (λ f. f t) same.srq ∙ moved.srq t;
}

pub moved : (w u : World) (q : QueuePair) (e : Effects) → SameParts w u → HasMoved w q e (put_all (updates_of q (around_in w q (shared_of w q)) e) u)
moved w u q e same = by e.takes_shared q.srq
  where
    a : Around
    a = around_in w q (shared_of w q)

    m : World
    m = put_all ((Queue_of q.queue := Present e.queue) ∷ cq_updates q a e.marks) u

    updates : Option ℕ → Option SrqSlot → List Update
    updates (Some srq) (Some slot) = (Srq_of (srq_of q srq) := record slot { srq = option_map after_receive_take slot.srq }) ∷ []
    updates srq slot = []

    taken : Bool → Option ℕ → List Update
    taken b o = if b then updates o (option_map (λ srq. w.srq (srq_of q srq)) o) else []

    queues : m.queue ≡ with_at queue_eq w.queue q.queue (Present e.queue)
    queues = ap (λ f. with_at queue_eq f q.queue (Present e.queue)) same.queue

    cqs : (s : Slot) → m.cq s ≡ option_map (after_puts (goes_to (sides_of q) s (completions_in e.marks))) (w.cq s)
    cqs s = ap (λ f. with_at slot_eq (with_at slot_eq f (send_cq_of q) (option_map (after_puts (completions_to q q.send_cq e.marks)) (w.cq (send_cq_of q))))
        (recv_cq_of q) (option_map (after_puts (completions_to q q.recv_cq e.marks)) (w.cq (recv_cq_of q))) s) same.cq
        ∙ puts-both w.cq q e.marks s

    Result : Bool → Option ℕ → World → Type 0
    Result b o v = (v.queue ≡ with_at queue_eq w.queue q.queue (Present e.queue))
        × ((s : Slot) → v.cq s ≡ option_map (after_puts (goes_to (sides_of q) s (completions_in e.marks))) (w.cq s))
        × ((t : Slot) → v.srq t ≡ (if b && option_map_or (λ srq. slot_eq (srq_of q srq) t) o false then with_taken (w.srq t) else w.srq t))

    one : (srq : ℕ) (t : Slot) (b : Bool) → slot_eq (srq_of q srq) t ≡ b → (if b then with_taken (w.srq (srq_of q srq)) else m.srq t) ≡ (if b then with_taken (w.srq t) else w.srq t)
    one srq t true is = ap (λ s. with_taken (w.srq s)) (slot-path (srq_of q srq) t is)
    one srq t false is = ap (λ f. f t) same.srq

    at : (b : Bool) (o : Option ℕ) → Result b o (put_all (taken b o) m)
    at false o = (queues, cqs, λ t. ap (λ f. f t) same.srq)
    at true None = (queues, cqs, λ t. ap (λ f. f t) same.srq)
    at true (Some srq) = (queues, cqs, λ t. one srq t (slot_eq (srq_of q srq) t) refl)

    by : (b : Bool) (o : Option ℕ) → HasMoved w q e (put_all (updates_of q a e) u)
    by b o = record { queue = (at e.takes_shared q.srq).0; cq = (at e.takes_shared q.srq).1; srq = (at e.takes_shared q.srq).2 }

-- ---- turns

-- a queue pair, perhaps with one request more: what it has taken and what it holds is as before
pub record IsSameReceiver (q p : QueuePair) : Type 0 where
  pub queue : p.queue ≡ q.queue
  pub srq : p.srq ≡ q.srq
  pub message : p.responder.message ≡ q.responder.message
  pub taken : option_map (λ r. r.next_taken) p.receives ≡ option_map (λ r. r.next_taken) q.receives

-- A queue pair of a world goes on, and leaves this world with these marks, of which some come first. What completes
-- stands in order, and is put where it goes; where the queue pair is in Error, it is flushed.
pub record IsTurn (w : World) (front : List Mark) (v : World) (ms : List Mark) : Type 0 where
  pub q : QueuePair
  pub p : QueuePair
  pub e : Effects
  pub rest : List Mark
  pub there : IsThere w q
  pub same : IsSameReceiver q p
  pub order : IsInOrder p e
  pub later : IsLater q e.queue
  pub incarnation : e.queue.incarnation ≡ q.incarnation
  pub takes : TakesInOrder (shared_in (around_in w q (shared_of w q))) p e
  pub flushed : IsFlushedInError q → IsFlushedInError e.queue
  pub marks : ms ≡ front ++ rest
  pub of : AreOf q.queue rest
  pub done : completions_in rest ≡ completions_in e.marks
  pub queue : v.queue ≡ with_at queue_eq w.queue q.queue (Present e.queue)
  pub cq : IsFlushedInError q → (s : Slot) → v.cq s ≡ option_map (after_puts (goes_to (sides_of q) s (completions_in e.marks))) (w.cq s)
  pub srq : (t : Slot) → v.srq t ≡ (if takes_of q e t then with_taken (w.srq t) else w.srq t)

turned : (w v : World) (front rest : List Mark) (q : QueuePair) (e : Effects) → IsThere w q → IsStep (shared_in (around_in w q (shared_of w q))) q e → AreOf q.queue rest
    → completions_in rest ≡ completions_in e.marks → HasMoved w q e v → IsTurn w front v (front ++ rest)
turned w v front rest q e there step of done moved = record {
  q = q;
  p = q;
  e = e;
  rest = rest;
  there = there;
  same = record { queue = refl; srq = refl; message = refl; taken = refl };
  order = step.good.order;
  later = step.good.later;
  incarnation = step.inner.incarnation;
  takes = step.takes;
  flushed = step.flushed;
  marks = refl;
  of = of;
  done = done;
  queue = moved.queue;
  cq = λ flushed. moved.cq;
  srq = moved.srq;
}

-- the marks of a step are of its queue pair
step-of : (shared : Option SharedReceives) (q : QueuePair) (e : Effects) → IsStep shared q e → AreOf q.queue e.marks
step-of shared q e step = own-of e.queue q.queue e.marks step.good.later.queue step.inner.marks step.good.settled

pub leads-tests : {R : Type 0} (w : World) (P : World → List Mark → Type 0) (tests : List (Bool × R)) (refuse : R → Plan) (p : Plan) → ((r : R) → Leads w P (refuse r))
    → (AllFail tests → Leads w P p) → Leads w P (unless_refused tests refuse p)
leads-tests w P [] refuse p refused more = more (record {})
leads-tests w P (t ∷ ts) refuse p refused more = (λ is. refused t.1, λ is. leads-tests w P ts refuse p refused (λ fails. more (is, fails)))

pub leads-there : (c : Configuration) (w : World) (P : World → List Mark → Type 0) (name : QueueId) (r : Reason) (k : QueuePair → Plan) → IsSoundWorld c w
    → ((q : QueuePair) → IsThere w q → Leads w P (k q)) → Leads w P (With_queue c name r k)
leads-there c w P name r k sound more = leads-queue c w P name r k (λ q is. more q (is-there w name q is (subst (IsQueueOf name) is (sound.things (Queue_of name)))))

-- a turn's row, and what it sends
leads-left : (c : Configuration) (w : World) (q : QueuePair) (peer : Correspondent) (lot : Lot) (row : Row) → IsThere w q → RowDoes (IsStep (shared_in (around_in w q (shared_of w q))) q) row
    → Leads w (IsTurn w []) (Row_plan c row (Leave_plan q (around_in w q (shared_of w q)) peer (w.mailbox peer.queue) lot))
leads-left c w q peer lot row there does = leads-row c w (IsTurn w []) (IsStep (shared_in a) q) row (Leave_plan q a peer m lot) does (λ e cs ws step aside.
    turned w (write_all ws (put_all (updates_of q a e ++ (cs ++ sends e)) w)) [] (e.marks ++ tells e) q e there step
    (of-append q.queue e.marks (tells e) (step-of (shared_in a) q e step) (sent-of q.queue q peer m lot (packet_sent e)).0)
    (done-behind e.marks (tells e) (sent-of q.queue q peer m lot (packet_sent e)).1)
    (moved-on w q e (put_all (updates_of q a e) w) (write_all ws (put_all (updates_of q a e ++ (cs ++ sends e)) w)) (moved w w q e (same-parts w))
    (behind-same (updates_of q a e) (cs ++ sends e) ws w (beside-append cs (sends e) (aside-beside cs aside) (sent-beside q peer m lot (packet_sent e))))))
  where
    a : Around
    a = around_in w q (shared_of w q)

    m : Mailbox
    m = w.mailbox peer.queue

    sends : Effects → List Update
    sends e = option_map_or (sent_updates q peer m lot) (packet_sent e) []

    tells : Effects → List Mark
    tells e = option_map_or (sent_marks q peer m lot) (packet_sent e) []

pub turns-request : (c : Configuration) (w : World) (name : QueueId) (lot : Lot) → IsSoundWorld c w → Leads w (IsTurn w []) (request_plan c name lot)
turns-request c w name lot sound = leads-there c w (IsTurn w []) name reasons.State (λ q. With_around q (λ a. Request_around c lot q a q.peer (turn_of q))) sound
    (λ q there. leads-around w (IsTurn w []) q (λ a. Request_around c lot q a q.peer (turn_of q)) (by q there q.peer (turn_of q) refl))
  where
    by : (q : QueuePair) → IsThere w q → (peer : Option Correspondent) (turn : RequestTurn) → turn_of q ≡ turn → Leads w (IsTurn w []) (Request_around c lot q (around_in w q (shared_of w q)) peer turn)
    by q there peer (Waits reason) is = record {}
    by q there peer (Performs n) is = leads-operation c w (IsTurn w []) (IsStep (shared_in a) q) q n (λ e changes writes. Finish (updates_of q a e ++ changes) writes e.marks) n.request.op
        (nothing-step (shared_in a) q there.sound) (operation-step (shared_in a) q n there.sound is) (λ e cs ws step aside.
        turned w (write_all ws (put_all (updates_of q a e ++ cs) w)) [] e.marks q e there step (step-of (shared_in a) q e step) refl
        (moved-on w q e (put_all (updates_of q a e) w) (write_all ws (put_all (updates_of q a e ++ cs) w)) (moved w w q e (same-parts w)) (behind-same (updates_of q a e) cs ws w (aside-beside cs aside))))
      where
        a : Around
        a = around_in w q (shared_of w q)
    by q there None (Sends n) is = record {}
    by q there (Some peer) (Sends n) is = leads-left c w q peer lot (packet_row q room n) there (step-row (shared_in (around_in w q (shared_of w q))) q (packet_row q room n)
        (row-does q (packet_row q room n) (packet-good q room n there.sound is)) (packet-inner q room n) (takes-none (shared_in (around_in w q (shared_of w q))) q (packet_row q room n) (packet-takes q room n))
        (λ f. packet-row-ends q room n (sending-well q.state (sending-parts q (sends-parts (first_of (turn_refusals q)) (next_request q) n is).0).0)))
      where
        room : Bool
        room = has_room_for q peer (w.mailbox peer.queue)

pub turns-respond : (c : Configuration) (w : World) (name : QueueId) (lot : Lot) → IsSoundWorld c w → Leads w (IsTurn w []) (respond_plan c name lot)
turns-respond c w name lot sound = leads-there c w (IsTurn w []) name reasons.State (λ q. With_around q (λ a. Respond_around c lot q a q.peer)) sound
    (λ q there. leads-around w (IsTurn w []) q (λ a. Respond_around c lot q a q.peer) (by q there q.peer))
  where
    by : (q : QueuePair) → IsThere w q → (peer : Option Correspondent) → Leads w (IsTurn w []) (Respond_around c lot q (around_in w q (shared_of w q)) peer)
    by q there None = leads-tests w (IsTurn w []) (respond_refusals true q) Stuck (Stuck reasons.Empty) (λ r. record {}) (λ fails. record {})
    by q there (Some peer) = leads-left c w q peer lot (respond_row room q) there (step-row (shared_in (around_in w q (shared_of w q))) q (respond_row room q)
        (row-does q (respond_row room q) (respond-good room q there.sound)) (respond-inner room q) (takes-none (shared_in (around_in w q (shared_of w q))) q (respond_row room q) (respond-takes room q))
        (λ f. respond-ends room q f))
      where
        room : Bool
        room = has_room_for q peer (w.mailbox peer.queue)

pub turns-timeout : (c : Configuration) (w : World) (name : QueueId) (hasten : Bool) → IsSoundWorld c w → Leads w (IsTurn w []) (timeout_plan c name hasten)
turns-timeout c w name hasten sound = leads-there c w (IsTurn w []) name reasons.State (λ q. Look (Mailbox_of name) (λ own. With_around q (λ a. Timeout_around hasten q own a q.peer))) sound
    (λ q there. leads-around w (IsTurn w []) q (λ a. Timeout_around hasten q (w.mailbox name) a q.peer) (by q there q.peer))
  where
    step : (q : QueuePair) (silent : Bool) → IsThere w q → is_sending q.state ≡ true → IsStep (shared_in (around_in w q (shared_of w q))) q (after_timeout silent q)
    step q silent there sends = record {
      good = timeout-good q silent there.sound sends;
      inner = timeout-inner q silent;
      takes = none-takes (shared_in (around_in w q (shared_of w q))) q (after_timeout silent q) (timeout-takes silent q);
      flushed = λ f. (timeout-ends silent q (sending-well q.state sends)).flushed;
    }

    fire : (q : QueuePair) → IsThere w q → (silent : Bool) → Leads w (IsTurn w []) (Fire hasten q (around_in w q (shared_of w q)) silent)
    fire q there silent = leads-tests w (IsTurn w []) (timeout_refusals silent hasten q) Stuck
        (Finish (updates_of q (around_in w q (shared_of w q)) (after_timeout silent q)) [] (after_timeout silent q).marks) (λ r. record {})
        (λ fails. turned w (put_all (updates_of q (around_in w q (shared_of w q)) (after_timeout silent q)) w) [] (after_timeout silent q).marks q (after_timeout silent q) there
        (step q silent there (not-false (is_sending q.state) fails.0))
        (step-of (shared_in (around_in w q (shared_of w q))) q (after_timeout silent q) (step q silent there (not-false (is_sending q.state) fails.0))) refl
        (moved w w q (after_timeout silent q) (same-parts w)))

    by : (q : QueuePair) → IsThere w q → (peer : Option Correspondent) → Leads w (IsTurn w []) (Timeout_around hasten q (w.mailbox name) (around_in w q (shared_of w q)) peer)
    by q there None = leads-tests w (IsTurn w []) (timeout_refusals false hasten q) Stuck (Stuck reasons.Empty) (λ r. record {}) (λ fails. record {})
    by q there (Some peer) = fire q there _

-- a packet that arrives, behind changes of nothing that counts here, and behind marks that come first
pub turns-arrive : (c : Configuration) (w : World) (q : QueuePair) (bytes : List ℕ) (envelope : Option ℕ) (pre : List Update) (ms : List Mark) → IsSoundWorld c w → IsThere w q → AreBeside pre
    → Leads w (IsTurn w ms) (Arrive c q bytes envelope pre ms)
turns-arrive c w q bytes envelope pre ms sound there beside = leads-around w (IsTurn w ms) q (λ a. Row_plan c (arrival_row bytes envelope (shared_in a) q) (finish a))
    (leads-row c w (IsTurn w ms) (IsStep (shared_in a) q) (arrival_row bytes envelope (shared_in a) q) (finish a) does (λ e cs ws step aside.
    turned w (write_all ws (put_all (pre ++ (updates_of q a e ++ cs)) w)) ms (marks.Arrived q.queue envelope ∷ e.marks) q e there step (record {}, step-of (shared_in a) q e step) refl
    (moved-on w q e (put_all (updates_of q a e) u) (write_all ws (put_all (pre ++ (updates_of q a e ++ cs)) w)) (moved w u q e (puts-same pre w beside)) (later e cs ws aside))))
  where
    a : Around
    a = around_in w q (shared_of w q)

    u : World
    u = put_all pre w

    finish : Around → Effects → List Update → List Write → Plan
    finish a e more writes = Finish (pre ++ (updates_of q a e ++ more)) writes (ms ++ marks.Arrived q.queue envelope ∷ e.marks)

    shares : (o : Option SrqSlot) → IsSoundShared o → IfSome (option_and_then (λ s. s.srq) o) IsSharedReceives
    shares None sound = record {}
    shares (Some slot) sound = sound

    does : RowDoes (IsStep (shared_in a) q) (arrival_row bytes envelope (shared_in a) q)
    does = step-row (shared_in a) q (arrival_row bytes envelope (shared_in a) q)
        (row-does q (arrival_row bytes envelope (shared_in a) q) (arrival-good bytes envelope (shared_in a) q there.sound (shares a.shared (sound-shared c w q sound))))
        (arrival-inner bytes envelope (shared_in a) q) (arrival-takes bytes envelope (shared_in a) q there.sound) (λ f. arrival-ends bytes envelope (shared_in a) q f)

    later : (e : Effects) (cs : List Update) (ws : List Write) → AreAside cs → SameParts (put_all (updates_of q a e) u) (write_all ws (put_all (pre ++ (updates_of q a e ++ cs)) w))
    later e cs ws aside = subst (λ x. SameParts (put_all (updates_of q a e) u) (write_all ws x)) (sym (puts-append pre (updates_of q a e ++ cs) w))
        (behind-same (updates_of q a e) cs ws u (aside-beside cs aside))

pub turns-deliver : (c : Configuration) (w : World) (name : QueueId) (index : ℕ) → IsSoundWorld c w → Leads w (IsTurn w []) (deliver_plan c name index)
turns-deliver c w name index sound = (λ has. lent (bytes_lent index (w.mailbox name)), λ none. record {})
  where
    m : Mailbox
    m = w.mailbox name

    at : List ℕ → QueueSlot → Plan
    at bytes (NoQueue incarnation timers) = Stuck reasons.NotKept
    at bytes (Present q) = Arrive c q bytes (Some index) ((Mailbox_of name := after_delivery index m) ∷ []) []

    under_way : Option (List ℕ) → Plan
    under_way None = Stuck reasons.NotKept
    under_way (Some bytes) = Look (Queue_of name) (at bytes)

    there : (bytes : List ℕ) (s : QueueSlot) → w.queue name ≡ s → IsQueueOf name s → Leads w (IsTurn w []) (at bytes s)
    there bytes (NoQueue incarnation timers) is one = record {}
    there bytes (Present q) is one = turns-arrive c w q bytes (Some index) ((Mailbox_of name := after_delivery index m) ∷ []) [] sound (is-there w name q is one) (record {}, record {})

    lent : (o : Option (List ℕ)) → Leads w (IsTurn w []) (under_way o)
    lent None = record {}
    lent (Some bytes) = there bytes (w.queue name) refl (sound.things (Queue_of name))

pub turns-wake : (c : Configuration) (w : World) (name : QueueId) → IsSoundWorld c w → Leads w (IsTurn w []) (wake_plan c name)
turns-wake c w name sound = leads-there c w (IsTurn w []) name reasons.State (λ q. waking q q.peer) sound (λ q there. by q there q.peer)
  where
    wakes : QueuePair → Bool → Plan
    wakes q empty = unless_refused (wake_refusals empty q) Stuck (Finish ((Queue_of q.queue := Present (after_wake q).queue) ∷ []) [] (after_wake q).marks)

    waking : QueuePair → Option Correspondent → Plan
    waking q None = unless_refused (wake_refusals false q) Stuck (Stuck reasons.Empty)
    waking q (Some peer) = Look (Queue_of peer.queue) (λ slot. Look (Mailbox_of peer.queue) (λ m.
        With_receives slot (λ empty. wakes q (reaches_peer q peer m && empty))))

    step : (q : QueuePair) → IsThere w q → IsStep (shared_in (around_in w q (shared_of w q))) q (after_wake q)
    step q there = record {
      good = wake-good q there.sound;
      inner = record { incarnation = refl; peer = refl; marks = record {} };
      takes = none-takes (shared_in (around_in w q (shared_of w q))) q (after_wake q) (wake-takes q);
      flushed = λ f. f;
    }

    wake : (q : QueuePair) → IsThere w q → (empty : Bool) → Leads w (IsTurn w []) (wakes q empty)
    wake q there empty = leads-tests w (IsTurn w []) (wake_refusals empty q) Stuck (Finish ((Queue_of q.queue := Present (after_wake q).queue) ∷ []) [] (after_wake q).marks) (λ r. record {})
        (λ fails. turned w (put w (Queue_of q.queue) (Present (after_wake q).queue)) [] [] q (after_wake q) there (step q there) (record {}) refl
        (record { queue = refl; cq = λ s. sym (puts-none (w.cq s)); srq = λ t. refl }))

    receives : (slot : QueueSlot) (k : Bool → Plan) → ((b : Bool) → Leads w (IsTurn w []) (k b)) → Leads w (IsTurn w []) (With_receives slot k)
    receives slot k more = search rules

    by : (q : QueuePair) → IsThere w q → (peer : Option Correspondent) → Leads w (IsTurn w []) (waking q peer)
    by q there None = leads-tests w (IsTurn w []) (wake_refusals false q) Stuck (Stuck reasons.Empty) (λ r. record {}) (λ fails. record {})
    by q there (Some peer) = receives (w.queue peer.queue) (λ empty. wakes q (reaches_peer q peer (w.mailbox peer.queue) && empty)) (λ empty. wake q there _)
