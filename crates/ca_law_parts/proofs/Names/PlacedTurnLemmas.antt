-- Turns of an engine, and packets that arrive, in a placed world.
use Rattle.std.proofs.Common.{◌≡◌, ℕ, Bool, true, false, List, [], ◌∷◌, ◌++◌, Option, None, Some, IfSome, subst, sym, ◌&&◌, is_none, if◌then◌else◌, refl, rules}
use Rattle.std.proofs.lemmas.List.{append-nil}
use Rattle.std.specs.List.{AllByRecursion}
use Rattle.std.specs.Option.{option_map, option_map_or}
use Rattle.ca_base.specs.declared.lot.Lot.{Lot}
use Rattle.ca_keys.specs.declared.names.QueueId.{QueueId}
use Rattle.ca_keys.specs.declared.names.Slot.{Slot}
use Rattle.ca_base.specs.declared.request.PostedSend.{PostedSend}
use Rattle.ca_base.specs.declared.step.Reason.{Reason}
use Rattle.ca_base.specs.declared.step.Reason.TheVariants as reasons
use Rattle.ca_base.specs.declared.step.Sent.{Sent}
use Rattle.ca_base.specs.declared.step.Sent.TheVariants.{Silent, Spelt}
use Rattle.ca_base.specs.Configuration.{Configuration}
use Rattle.ca_base.specs.declared.correspondent.Correspondent.{Correspondent}
use Rattle.ca_base.specs.objects.CompletionQueue.{CompletionQueue, after_puts}
use Rattle.ca_base.specs.objects.Mailbox.{Mailbox, after_delivery, after_send, bytes_lent}
use Rattle.ca_base.specs.objects.QueuePair.{QueuePair, QueueSlot, NoQueue, Present, recv_cq_of, send_cq_of, srq_of}
use Rattle.ca_base.specs.objects.SharedReceives.{SharedReceives, SrqSlot, after_receive_take}
use Rattle.ca_base.specs.objects.Slices.{has_queue}
use Rattle.ca_model.specs.declared.answer.Answer.TheVariants as answers
use Rattle.ca_model.specs.declared.answer.Refusal.TheVariants.{NoSuch}
use Rattle.ca_model.specs.declared.mark.Mark.{Mark}
use Rattle.ca_model.specs.declared.mark.Mark.TheVariants as marks
use Rattle.ca_model.specs.machine.Arrivals.{next_receive}
use Rattle.ca_model.specs.machine.Around.{Around, With_around, With_queue, completions_to, cq_updates, shared_in, srq_updates, updates_of}
use Rattle.ca_model.specs.machine.Delivery.{Arrive, arrival_row, deliver_plan}
use Rattle.ca_model.specs.machine.HostVerbs.{inject_plan}
use Rattle.ca_model.specs.machine.Plan.{Plan, Stuck, Look, Finish, Update, ◌:=◌, Write, unless_refused}
use Rattle.ca_model.specs.machine.Respond.{respond_row}
use Rattle.ca_model.specs.machine.Row.{Effects, Row, Row_plan}
use Rattle.ca_model.specs.machine.Step.{has_named_slot}
use Rattle.ca_model.specs.machine.Timers.{after_timeout, after_wake, timeout_refusals, wake_refusals}
use Rattle.ca_model.specs.machine.Turns.{Fire, Leave_plan, Packet, Respond_around, Timeout_around, With_receives, has_room_for, packet_sent, reaches_peer, respond_plan, sent_updates, timeout_plan, wake_plan}
use Rattle.ca_model.specs.machine.VerbAnswers.{Call, Refuse_plan, answer_mark}
use Rattle.ca_model.specs.machine.World.{World, Cq_of, Mailbox_of, Queue_of, Srq_of}
use Rattle.ca_law_world.proofs.Sound.WorldLemmas.{IsThere, around_in, is-there, shared_of}
use Rattle.ca_model.specs.machine.Sound.{IsQueueOf}
use Rattle.ca_keys.specs.Refusals.{AllFail}
use Rattle.ca_law_parts.specs.Placed.{IsConfigured, IsPlacedQueue, IsPlacedReservation, IsPlacedSlot, IsPlacedThing}
use Rattle.ca_law_parts.proofs.Names.KeptLemmas.{Keeps, Kept, RowKeeps, arrival-keeps, kept_of, respond-keeps, timeout-keeps}
use Rattle.ca_law_parts.proofs.Names.PlanLemmas.{ArePlaced, IsFit, IsPlacedPlan, placed-append, placed-row}

-- a queue pair that stands in a placed world
pub record IsPlacedHere (c : Configuration) (w : World) (q : QueuePair) : Type 0 where
  pub there : IsThere w q
  pub name : IsConfigured c (Queue_of q.queue)
  pub placed : IsPlacedQueue c q

pub placed-here : (c : Configuration) (w : World) (name : QueueId) (q : QueuePair) → IsFit c w → w.queue name ≡ Present q → IsConfigured c (Queue_of name) → IsPlacedHere c w q
placed-here c w name q fit is has = record { there = is-there w name q is named; name = subst (λ n. IsConfigured c (Queue_of n)) (sym named.0) has; placed = subst (IsPlacedSlot c) is (fit.placed.things (Queue_of name)) }
  where
    named : IsQueueOf name (Present q)
    named = subst (IsQueueOf name) is (fit.sound.things (Queue_of name))

-- a queue pair that keeps its names, its peer and its requests stays placed
pub kept-placed : (c : Configuration) (q p : QueuePair) → kept_of p ≡ kept_of q → IsPlacedQueue c q → IsPlacedQueue c p
kept-placed c q p same placed = record {
  send = subst (λ (k : Kept). IsConfigured c (Cq_of (record { domain = k.domain; slot = k.send_cq }))) (sym same) placed.send;
  recv = subst (λ (k : Kept). IsConfigured c (Cq_of (record { domain = k.domain; slot = k.recv_cq }))) (sym same) placed.recv;
  shared = subst (λ (k : Kept). IfSome k.srq (λ srq. IsConfigured c (Srq_of (record { domain = k.domain; slot = srq })))) (sym same) placed.shared;
  peer = subst (λ (k : Kept). IfSome k.peer (λ peer. IsConfigured c (Queue_of peer.queue))) (sym same) placed.peer;
  posted = subst (λ (k : Kept). AllByRecursion (λ (p : PostedSend). has_named_slot c k.domain p.request.op ≡ true) k.sends.items) (sym same) placed.posted;
}

-- a completion queue with other completions, and no more reservations
pub cq-placed : (c : Configuration) (s : Slot) (f : CompletionQueue → CompletionQueue) (v : Option CompletionQueue)
    → ((x : CompletionQueue) → AllByRecursion (IsPlacedReservation c s) x.reservations → AllByRecursion (IsPlacedReservation c s) (f x).reservations)
    → IsPlacedThing c (Cq_of s) v → IsPlacedThing c (Cq_of s) (option_map f v)
cq-placed c s f None keeps one = record {}
cq-placed c s f (Some x) keeps one = keeps x one

pub queue-placed : (c : Configuration) (w : World) (name : QueueId) (r : Reason) (k : QueuePair → Plan) → IsFit c w
    → ((q : QueuePair) → IsPlacedHere c w q → IsPlacedPlan c w (k q)) → IsPlacedPlan c w (With_queue c name r k)
queue-placed c w name r k fit more = (λ has. (has, by has (w.queue name) refl), λ none. record {})
  where
    plan : QueueSlot → Plan
    plan (NoQueue incarnation timers) = Stuck r
    plan (Present q) = k q

    by : has_queue c name ≡ true → (s : QueueSlot) → w.queue name ≡ s → IsPlacedPlan c w (plan s)
    by has (NoQueue incarnation timers) is = record {}
    by has (Present q) is = more q (placed-here c w name q fit is has)

pub around-placed : (c : Configuration) (w : World) (q : QueuePair) (k : Around → Plan) → IsPlacedHere c w q → IsPlacedPlan c w (k (around_in w q (shared_of w q)))
    → IsPlacedPlan c w (With_around q k)
around-placed c w q k here more = (here.placed.send, (here.placed.recv, by q.srq here.placed.shared more))
  where
    plan : Option CompletionQueue → Option CompletionQueue → Option ℕ → Plan
    plan send recv None = k (record { send = send; recv = recv; shared = None })
    plan send recv (Some srq) = Look (Srq_of (srq_of q srq)) (λ shared. k (record { send = send; recv = recv; shared = Some shared }))

    by : (o : Option ℕ) → IfSome o (λ srq. IsConfigured c (Srq_of (srq_of q srq)))
        → IsPlacedPlan c w (k (around_in w q (option_map (λ srq. w.srq (srq_of q srq)) o))) → IsPlacedPlan c w (plan (w.cq (send_cq_of q)) (w.cq (recv_cq_of q)) o)
    by None shared more = more
    by (Some srq) shared more = (shared, more)

pub srq-placed : (c : Configuration) (q : QueuePair) (a : Around) (f : SharedReceives → SharedReceives) → IsPlacedQueue c q → ArePlaced c (srq_updates q a f)
srq-placed c q a f placed = by q.srq a.shared placed.shared
  where
    updates : Option ℕ → Option SrqSlot → List Update
    updates (Some srq) (Some slot) = (Srq_of (srq_of q srq) := record slot { srq = option_map f slot.srq }) ∷ []
    updates srq slot = []

    by : (o : Option ℕ) (t : Option SrqSlot) → IfSome o (λ srq. IsConfigured c (Srq_of (srq_of q srq))) → ArePlaced c (updates o t)
    by None t one = record {}
    by (Some srq) None one = record {}
    by (Some srq) (Some slot) one = ((one, record {}), record {})

pub cqs-placed : (c : Configuration) (w : World) (q : QueuePair) (ms : List Mark) → IsFit c w → IsPlacedQueue c q → ArePlaced c (cq_updates q (around_in w q (shared_of w q)) ms)
cqs-placed c w q ms fit placed = (
  (placed.send, cq-placed c (send_cq_of q) (after_puts (completions_to q q.send_cq ms)) (w.cq (send_cq_of q)) (λ x all. all) (fit.placed.things (Cq_of (send_cq_of q)))),
  (
    (placed.recv, cq-placed c (recv_cq_of q) (after_puts (completions_to q q.recv_cq ms)) (w.cq (recv_cq_of q)) (λ x all. all) (fit.placed.things (Cq_of (recv_cq_of q)))),
    record {},
  ),
)

-- what a turn changes, with more placed changes behind
pub turn-placed : (c : Configuration) (w : World) (q : QueuePair) (e : Effects) (more : List Update) → IsFit c w → IsPlacedHere c w q → Keeps q e → ArePlaced c more
    → ArePlaced c (updates_of q (around_in w q (shared_of w q)) e ++ more)
turn-placed c w q e more fit here keeps placed = placed-append c (updates_of q a e) more (
  (here.name, kept-placed c q e.queue keeps here.placed),
  placed-append c (cq_updates q a e.marks) (if e.takes_shared then srq_updates q a after_receive_take else []) (cqs-placed c w q e.marks fit here.placed) (taken e.takes_shared),
)
    placed
  where
    a : Around
    a = around_in w q (shared_of w q)

    taken : (b : Bool) → ArePlaced c (if b then srq_updates q a after_receive_take else [])
    taken true = srq-placed c q a after_receive_take here.placed
    taken false = record {}

sent-placed : (c : Configuration) (q : QueuePair) (peer : Correspondent) (m : Mailbox) (lot : Lot) (e : Effects) → IsConfigured c (Queue_of peer.queue)
    → ArePlaced c (option_map_or (sent_updates q peer m lot) (packet_sent e) [])
sent-placed c q peer m lot e named = by e.sent
  where
    packet : Sent → Option Packet
    packet Silent = None
    packet (Spelt request) = Some (record { request = request; bytes = e.spelt })

    reach : (p : Packet) (b : Bool) → ArePlaced c (if b then (Mailbox_of peer.queue := after_send lot p.bytes m) ∷ [] else [])
    reach p true = ((named, record {}), record {})
    reach p false = record {}

    by : (s : Sent) → ArePlaced c (option_map_or (sent_updates q peer m lot) (packet s) [])
    by Silent = record {}
    by (Spelt request) = reach (record { request = request; bytes = e.spelt }) (reaches_peer q peer m)

pub left-placed : (c : Configuration) (w : World) (q : QueuePair) (peer : Correspondent) (lot : Lot) (row : Row) → IsFit c w → IsPlacedHere c w q
    → IsConfigured c (Queue_of peer.queue) → RowKeeps q row
    → IsPlacedPlan c w (Row_plan c row (Leave_plan q (around_in w q (shared_of w q)) peer (w.mailbox peer.queue) lot))
left-placed c w q peer lot row fit here named keeps = placed-row c w (Keeps q) row (Leave_plan q (around_in w q (shared_of w q)) peer (w.mailbox peer.queue) lot) fit keeps
    (λ e cs ws kept placed bytes. (
      turn-placed c w q e (cs ++ option_map_or (sent_updates q peer (w.mailbox peer.queue) lot) (packet_sent e) []) fit here kept
          (placed-append c cs (option_map_or (sent_updates q peer (w.mailbox peer.queue) lot) (packet_sent e) []) placed (sent-placed c q peer (w.mailbox peer.queue) lot e named)),
      bytes,
    ))

-- where a test refuses, nothing is touched
pub unless-refused : {R : Type 0} (c : Configuration) (w : World) (tests : List (Bool × R)) (refuse : R → Plan) (p : Plan) → ((r : R) → IsPlacedPlan c w (refuse r))
    → (AllFail tests → IsPlacedPlan c w p) → IsPlacedPlan c w (unless_refused tests refuse p)
unless-refused c w [] refuse p refused more = more (record {})
unless-refused c w (t ∷ ts) refuse p refused more = (λ is. refused t.1, λ is. unless-refused c w ts refuse p refused (λ fails. more (is, fails)))

pub respond-placed : (c : Configuration) (w : World) (name : QueueId) (lot : Lot) → IsFit c w → IsPlacedPlan c w (respond_plan c name lot)
respond-placed c w name lot fit = queue-placed c w name reasons.State (λ q. With_around q (λ a. Respond_around c lot q a q.peer)) fit
    (λ q here. around-placed c w q (λ a. Respond_around c lot q a q.peer) here (by q here q.peer here.placed.peer))
  where
    by : (q : QueuePair) → IsPlacedHere c w q → (peer : Option Correspondent) → IfSome peer (λ p. IsConfigured c (Queue_of p.queue))
        → IsPlacedPlan c w (Respond_around c lot q (around_in w q (shared_of w q)) peer)
    by q here None named = search rules
    by q here (Some peer) named = (
      named,
      left-placed c w q peer lot (respond_row (has_room_for q peer (w.mailbox peer.queue)) q) fit here named
          (respond-keeps (has_room_for q peer (w.mailbox peer.queue)) q),
    )

pub timeout-placed : (c : Configuration) (w : World) (name : QueueId) (hasten : Bool) → IsFit c w → IsPlacedPlan c w (timeout_plan c name hasten)
timeout-placed c w name hasten fit = (λ has. (has, by has (w.queue name) refl), λ none. record {})
  where
    at : QueuePair → Plan
    at q = Look (Mailbox_of name) (λ own. With_around q (λ a. Timeout_around hasten q own a q.peer))

    plan : QueueSlot → Plan
    plan (NoQueue incarnation timers) = Stuck reasons.State
    plan (Present q) = at q

    fire : (q : QueuePair) → IsPlacedHere c w q → (silent : Bool) → IsPlacedPlan c w (Fire hasten q (around_in w q (shared_of w q)) silent)
    fire q here silent = unless-refused c w (timeout_refusals silent hasten q) Stuck
        (Finish (updates_of q (around_in w q (shared_of w q)) (after_timeout silent q)) [] (after_timeout silent q).marks) (λ r. record {})
        (λ fails. (
          subst (ArePlaced c) (append-nil (updates_of q (around_in w q (shared_of w q)) (after_timeout silent q)))
              (turn-placed c w q (after_timeout silent q) [] fit here (timeout-keeps q silent) (record {})),
          record {},
        ))

    fires : (q : QueuePair) → IsPlacedHere c w q → (peer : Option Correspondent) → IfSome peer (λ p. IsConfigured c (Queue_of p.queue))
        → IsPlacedPlan c w (Timeout_around hasten q (w.mailbox name) (around_in w q (shared_of w q)) peer)
    fires q here None named = search rules
    fires q here (Some peer) named = (named, (named, fire q here _))

    by : has_queue c name ≡ true → (s : QueueSlot) → w.queue name ≡ s → IsPlacedPlan c w (plan s)
    by has (NoQueue incarnation timers) is = record {}
    by has (Present q) is = (has, around-placed c w q (λ a. Timeout_around hasten q (w.mailbox name) a q.peer) here (fires q here q.peer here.placed.peer))
      where
        here : IsPlacedHere c w q
        here = placed-here c w name q fit is has

-- a packet that arrives, behind placed changes
pub arrive-placed : (c : Configuration) (w : World) (q : QueuePair) (bytes : List ℕ) (envelope : Option ℕ) (pre : List Update) (ms : List Mark) → IsFit c w → IsPlacedHere c w q → ArePlaced c pre
    → IsPlacedPlan c w (Arrive c q bytes envelope pre ms)
arrive-placed c w q bytes envelope pre ms fit here placed =
    around-placed c w q (λ a. Row_plan c (arrival_row bytes envelope (shared_in a) q) (finish a)) here
    (placed-row c w (Keeps q) (arrival_row bytes envelope (shared_in a) q) (finish a) fit (arrival-keeps bytes envelope (shared_in a) q)
    (λ e cs ws kept more written. (placed-append c pre (updates_of q a e ++ cs) placed (turn-placed c w q e cs fit here kept more), written)))
  where
    a : Around
    a = around_in w q (shared_of w q)

    finish : Around → Effects → List Update → List Write → Plan
    finish a e more writes = Finish (pre ++ (updates_of q a e ++ more)) writes (ms ++ marks.Arrived q.queue envelope ∷ e.marks)

pub deliver-placed : (c : Configuration) (w : World) (name : QueueId) (index : ℕ) → IsFit c w → IsPlacedPlan c w (deliver_plan c name index)
deliver-placed c w name index fit = (λ has. (has, lent has (bytes_lent index (w.mailbox name))), λ none. record {})
  where
    m : Mailbox
    m = w.mailbox name

    at : List ℕ → QueueSlot → Plan
    at bytes (NoQueue incarnation timers) = Stuck reasons.NotKept
    at bytes (Present q) = Arrive c q bytes (Some index) ((Mailbox_of name := after_delivery index m) ∷ []) []

    plan : Option (List ℕ) → Plan
    plan None = Stuck reasons.NotKept
    plan (Some bytes) = Look (Queue_of name) (at bytes)

    there : has_queue c name ≡ true → (bytes : List ℕ) (s : QueueSlot) → w.queue name ≡ s → IsPlacedPlan c w (at bytes s)
    there has bytes (NoQueue incarnation timers) is = record {}
    there has bytes (Present q) is = arrive-placed c w q bytes (Some index) ((Mailbox_of name := after_delivery index m) ∷ []) [] fit (placed-here c w name q fit is has) ((has, record {}), record {})

    lent : has_queue c name ≡ true → (o : Option (List ℕ)) → IsPlacedPlan c w (plan o)
    lent has None = record {}
    lent has (Some bytes) = (has, there has bytes (w.queue name) refl)

pub inject-placed : (c : Configuration) (w : World) (call : Call) (name : QueueId) (bytes : List ℕ) → IsFit c w → has_queue c name ≡ true → IsPlacedPlan c w (inject_plan c call name bytes)
inject-placed c w call name bytes fit has = (has, by (w.queue name) refl)
  where
    plan : QueueSlot → Plan
    plan (NoQueue incarnation timers) = Refuse_plan call NoSuch
    plan (Present p) = Arrive c p bytes None [] (answer_mark call answers.Fine ∷ [])

    by : (s : QueueSlot) → w.queue name ≡ s → IsPlacedPlan c w (plan s)
    by (NoQueue incarnation timers) is = (record {}, record {})
    by (Present p) is = arrive-placed c w p bytes None [] (answer_mark call answers.Fine ∷ []) fit (placed-here c w name p fit is has) (record {})

pub wake-placed : (c : Configuration) (w : World) (name : QueueId) → IsFit c w → IsPlacedPlan c w (wake_plan c name)
wake-placed c w name fit = queue-placed c w name reasons.State (λ q. plan q q.peer) fit (λ q here. by q here q.peer here.placed.peer)
  where
    wakes : QueuePair → Bool → Plan
    wakes q empty = unless_refused (wake_refusals empty q) Stuck (Finish ((Queue_of q.queue := Present (after_wake q).queue) ∷ []) [] (after_wake q).marks)

    plan : QueuePair → Option Correspondent → Plan
    plan q None = unless_refused (wake_refusals false q) Stuck (Stuck reasons.Empty)
    plan q (Some peer) = Look (Queue_of peer.queue) (λ slot. Look (Mailbox_of peer.queue) (λ m.
        With_receives slot (λ empty. wakes q (reaches_peer q peer m && empty))))

    wake : (q : QueuePair) → IsPlacedHere c w q → (empty : Bool) → IsPlacedPlan c w (wakes q empty)
    wake q here empty = unless-refused c w (wake_refusals empty q) Stuck (Finish ((Queue_of q.queue := Present (after_wake q).queue) ∷ []) [] (after_wake q).marks)
        (λ r. record {}) (λ fails. (((here.name, kept-placed c q (after_wake q).queue refl here.placed), record {}), record {}))

    source : (Bool → Plan) → QueuePair → Option ℕ → Plan
    source k p None = k (is_none (next_receive p None))
    source k p (Some srq) = Look (Srq_of (srq_of p srq)) (λ s. k (is_none (next_receive p s.srq)))

    sources : (k : Bool → Plan) (p : QueuePair) (o : Option ℕ) → IfSome o (λ srq. IsConfigured c (Srq_of (srq_of p srq))) → ((b : Bool) → IsPlacedPlan c w (k b)) → IsPlacedPlan c w (source k p o)
    sources k p None one more = more _
    sources k p (Some srq) one more = (one, more _)

    receives : (slot : QueueSlot) (k : Bool → Plan) → IsPlacedSlot c slot → ((b : Bool) → IsPlacedPlan c w (k b)) → IsPlacedPlan c w (With_receives slot k)
    receives (NoQueue incarnation timers) k one more = more true
    receives (Present p) k one more = sources k p p.srq one.shared more

    by : (q : QueuePair) → IsPlacedHere c w q → (peer : Option Correspondent) → IfSome peer (λ p. IsConfigured c (Queue_of p.queue)) → IsPlacedPlan c w (plan q peer)
    by q here None named = search rules
    by q here (Some peer) named = (
      named,
      (
        named,
        receives (w.queue peer.queue) (λ empty. wakes q (reaches_peer q peer (w.mailbox peer.queue) && empty))
            (fit.placed.things (Queue_of peer.queue)) (λ empty. wake q here _),
      ),
    )
