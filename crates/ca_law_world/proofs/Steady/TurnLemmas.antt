-- Each turn of a queue pair, and each arrival, leaves queue pairs steady. For proofs only.
use Rattle.std.proofs.Common.{◌≡◌, ℕ, suc, ◌==◌, Bool, true, false, if◌then◌else◌, List, [], ◌∷◌, ◌++◌, Option, None, Some, refl, subst, rules}
use Rattle.std.proofs.lemmas.List.{append-nil}
use Rattle.std.specs.Option.{option_map_or}
use Rattle.ca_base.specs.Configuration.{Configuration}
use Rattle.ca_base.specs.declared.correspondent.Correspondent.{Correspondent}
use Rattle.ca_base.specs.declared.lot.Lot.{Lot}
use Rattle.ca_base.specs.declared.refusals.OpRefusal.{OpRefusal}
use Rattle.ca_base.specs.declared.request.SendOp.{SendOp}
use Rattle.ca_base.specs.declared.step.Reason.{Reason}
use Rattle.ca_base.specs.declared.step.Sent.{Sent}
use Rattle.ca_base.specs.declared.step.Sent.TheVariants.{Silent, Spelt}
use Rattle.ca_base.specs.objects.Mailbox.{Mailbox, after_delivery, after_send}
use Rattle.ca_base.specs.objects.QueuePair.{QueuePair}
use Rattle.ca_base.specs.objects.Region.{Region}
use Rattle.ca_base.specs.objects.SharedReceives.{SharedReceives, after_receive_take}
use Rattle.ca_base.specs.objects.Window.{Binding, Window}
use Rattle.ca_keys.specs.Refusals.{first_of}
use Rattle.ca_keys.specs.declared.key.Key.{Key}
use Rattle.ca_keys.specs.declared.names.DomainId.{DomainId}
use Rattle.ca_keys.specs.declared.names.QueueId.{QueueId}
use Rattle.ca_keys.specs.declared.rights.Rights.{Rights}
use Rattle.ca_base.specs.objects.Slices.{slot_of_key}
use Rattle.ca_law_world.proofs.Sound.PlanWalks.{walk-deliver, walk-inject, walk-perform, walk-request, walk-respond, walk-timeout, walk-wake}
use Rattle.ca_law_world.proofs.Sound.TurnLemmas.{sending-parts, turn_from}
use Rattle.ca_law_world.proofs.Sound.WorldLemmas.{AreQuiet, EndsIn, IsQuietName, IsThere, RowDoes, around_in, ends-around, ends-row, shared_of}
use Rattle.ca_model.specs.declared.answer.Answer.TheVariants as answers
use Rattle.ca_model.specs.declared.mark.Mark.{Mark}
use Rattle.ca_model.specs.declared.mark.Mark.TheVariants as marks
use Rattle.ca_model.specs.machine.Around.{Around, shared_in, srq_updates, updates_of}
use Rattle.ca_model.specs.machine.Delivery.{Arrive, arrival_row, deliver_plan}
use Rattle.ca_model.specs.machine.HostVerbs.{inject_plan}
use Rattle.ca_model.specs.machine.Invariants.{is_sending}
use Rattle.ca_model.specs.machine.LocalOperations.{Bind1_plan, Bind2_plan, Fast_plan, Finishing, Perform_op, PlacedRegion, With_former, With_named, bind1_changes, bind1_marks, bind1_refusal, bind2_changes, bind2_marks, bind2_refusal, drawn_by, fast_changes, fast_marks, fast_refusal, former_updates, invalidate_row, named_updates, operation_effects, region_slot, window_slot}
use Rattle.ca_model.specs.machine.Numbering.{Numbered}
use Rattle.ca_model.specs.machine.Plan.{Finish, Look, Plan, Update, Write, ◌:=◌}
use Rattle.ca_model.specs.machine.Requester.{Performs, next_request, packet_row, turn_refusals}
use Rattle.ca_model.specs.machine.Respond.{respond_row}
use Rattle.ca_model.specs.machine.Row.{Effects, Row, Row_plan, queue_and_marks, region_under, unless_none}
use Rattle.ca_model.specs.machine.Sound.{IsSoundWorld}
use Rattle.ca_model.specs.machine.Timers.{after_timeout}
use Rattle.ca_model.specs.machine.Turns.{Leave_plan, Packet, has_room_for, packet_sent, reaches_peer, request_plan, respond_plan, sent_updates, timeout_plan, wake_plan}
use Rattle.ca_model.specs.machine.VerbAnswers.{Call, answer_mark}
use Rattle.ca_model.specs.machine.World.{World, Name, Domain_of, Region_of, Window_of, Cq_of, Srq_of, Queue_of, Mailbox_of, Byte_at, Thing}
use Rattle.ca_law_world.proofs.Steady.RowLemmas.{IsKept, arrival-keeps, respond-keeps, timeout-keeps, wake-keeps}
use Rattle.ca_law_world.proofs.Steady.SendLemmas.{Steadies, invalidate-steadies, operation-steady, packet-steadies, row-steadies}
use Rattle.ca_law_world.specs.Steady.{IsSteadyQueue, IsSteadySlot, IsSteadyWorld}

-- a thing of a world in which queue pairs are steady
abbrev pub IsSteadyThing : (n : Name) → Thing n → Type 0
IsSteadyThing (Domain_of d) v = Unit {0}
IsSteadyThing (Region_of s) v = Unit {0}
IsSteadyThing (Window_of s) v = Unit {0}
IsSteadyThing (Cq_of s) v = Unit {0}
IsSteadyThing (Srq_of s) v = Unit {0}
IsSteadyThing (Queue_of q) v = IsSteadySlot v
IsSteadyThing (Mailbox_of q) v = Unit {0}
IsSteadyThing (Byte_at p) v = Unit {0}

-- changes that leave queue pairs steady
abbrev pub AllSteady : List Update → Type 0
AllSteady [] = Unit {0}
AllSteady (x ∷ xs) = IsSteadyThing x.name x.thing × AllSteady xs

pub steady-append : (xs ys : List Update) → AllSteady xs → AllSteady ys → AllSteady (xs ++ ys)
steady-append [] ys one other = other
steady-append (x ∷ xs) ys one other = (one.0, steady-append xs ys one.1 other)

pub steady-unless : (r : Option OpRefusal) (cs : List Update) → AllSteady cs → AllSteady (unless_none r cs)
steady-unless None cs steady = steady
steady-unless (Some r) cs steady = record {}

-- what is changed beside queue pairs
quiet-steady : (c : Configuration) (cs : List Update) → AreQuiet c cs → AllSteady cs
quiet-steady c [] quiet = record {}
quiet-steady c (x ∷ xs) quiet = (by x.name x.thing quiet.0.0, quiet-steady c xs quiet.1)
  where
    by : (n : Name) (v : Thing n) → IsQuietName n → IsSteadyThing n v
    by (Domain_of d) v quiet = record {}
    by (Region_of s) v quiet = record {}
    by (Window_of s) v quiet = record {}
    by (Cq_of s) v quiet = record {}
    by (Srq_of s) v quiet = record {}
    by (Queue_of q) v quiet = absurd quiet
    by (Mailbox_of q) v quiet = record {}
    by (Byte_at p) v quiet = record {}

-- the queue pair that stands in a world
pub there-kept : (w : World) (q : QueuePair) → IsSteadyWorld w → IsThere w q → IsKept q
there-kept w q steady there = record { is = subst IsSteadySlot there.present (steady q.queue); first = there.sound.requester.finished }

-- ---- turns

pub srq-steady : (q : QueuePair) (a : Around) (f : SharedReceives → SharedReceives) → AllSteady (srq_updates q a f)
srq-steady q a f = search rules

-- what a turn's effects change
turn-steady : (w : World) (q : QueuePair) (e : Effects) (more : List Update) → Steadies e → AllSteady more → AllSteady (updates_of q (around_in w q (shared_of w q)) e ++ more)
turn-steady w q e more effects rest = (effects, (record {}, (record {}, steady-append (taken e.takes_shared) more (taken-steady e.takes_shared) rest)))
  where
    a : Around
    a = around_in w q (shared_of w q)

    taken : Bool → List Update
    taken z = if z then srq_updates q a after_receive_take else []

    taken-steady : (z : Bool) → AllSteady (taken z)
    taken-steady true = srq-steady q a after_receive_take
    taken-steady false = record {}

sent-steady : (q : QueuePair) (peer : Correspondent) (m : Mailbox) (lot : Lot) (e : Effects) → AllSteady (option_map_or (sent_updates q peer m lot) (packet_sent e) [])
sent-steady q peer m lot e = by e.sent
  where
    packet : Sent → Option Packet
    packet Silent = None
    packet (Spelt request) = Some (record { request = request; bytes = e.spelt })

    reach : (p : Packet) (z : Bool) → AllSteady (if z then (Mailbox_of peer.queue := after_send lot p.bytes m) ∷ [] else [])
    reach p true = (record {}, record {})
    reach p false = record {}

    by : (s : Sent) → AllSteady (option_map_or (sent_updates q peer m lot) (packet s) [])
    by Silent = record {}
    by (Spelt request) = reach (record { request = request; bytes = e.spelt }) (reaches_peer q peer m)

left-steady : (c : Configuration) (w : World) (q : QueuePair) (peer : Correspondent) (lot : Lot) (row : Row) → IsSoundWorld c w → RowDoes Steadies row
    → EndsIn w AllSteady (Row_plan c row (Leave_plan q (around_in w q (shared_of w q)) peer (w.mailbox peer.queue) lot))
left-steady c w q peer lot row sound does =
    ends-row c w AllSteady Steadies row (Leave_plan q (around_in w q (shared_of w q)) peer (w.mailbox peer.queue) lot) sound does
    (λ e cs ws effects quiet. turn-steady w q e (cs ++ option_map_or (sent_updates q peer (w.mailbox peer.queue) lot) (packet_sent e) []) effects
    (steady-append cs (option_map_or (sent_updates q peer (w.mailbox peer.queue) lot) (packet_sent e) []) (quiet-steady c cs quiet) (sent-steady q peer (w.mailbox peer.queue) lot e)))

pub steady-respond : (c : Configuration) (w : World) (name : QueueId) (lot : Lot) → IsSoundWorld c w → IsSteadyWorld w → EndsIn w AllSteady (respond_plan c name lot)
steady-respond c w name lot sound steady = walk-respond c w AllSteady name lot sound (λ q peer there.
    left-steady c w q peer lot (respond_row (has_room_for q peer (w.mailbox peer.queue)) q) sound
    (row-steadies _ (respond-keeps (has_room_for q peer (w.mailbox peer.queue)) q (there-kept w q steady there))))

-- ---- local operations

named-steady : (c : Configuration) (w : World) (P : List Update → Type 0) (d : DomainId) (key : Key) (k : Option PlacedRegion → Plan) → ((r : Option PlacedRegion) → EndsIn w P (k r)) → EndsIn w P (With_named c d key k)
named-steady c w P d key k more = (λ named. more (Some (record { slot = slot_of_key d key; region = w.region (slot_of_key d key) })), λ none. more None)

former-steady : (w : World) (P : List Update → Type 0) (x : Window) (k : Option PlacedRegion → Plan) → ((r : Option PlacedRegion) → EndsIn w P (k r)) → EndsIn w P (With_former x k)
former-steady w P x k more = by x.binding
  where
    plan : Option Binding → Plan
    plan None = k None
    plan (Some b) = Look (Region_of (region_under x b)) (λ region. k (Some (record { slot = region_under x b; region = region })))

    by : (o : Option Binding) → EndsIn w P (plan o)
    by None = more None
    by (Some b) = more (Some (record { slot = region_under x b; region = w.region (region_under x b) }))

former-updates : (former : Option PlacedRegion) → AllSteady (former_updates former)
former-updates None = record {}
former-updates (Some f) = (record {}, record {})

named-updates : (former named : Option PlacedRegion) → AllSteady (named_updates former named)
named-updates former None = record {}
named-updates former (Some m) = (record {}, record {})

-- how an operation's plan may go on
abbrev GoesOn : World → Finishing → Type 0
GoesOn w finish = (e : Effects) (cs : List Update) (ws : List Write) → Steadies e → AllSteady cs → EndsIn w AllSteady (finish e cs ws)

steady-bind1 : (c : Configuration) (w : World) (q : QueuePair) (m : Numbered) (window : ℕ) (key : Key) (address count : ℕ) (rights : Rights) (finish : Finishing)
    → is_sending q.state ≡ true → IsSteadyQueue q → GoesOn w finish → EndsIn w AllSteady (Bind1_plan c q m window key address count rights finish)
steady-bind1 c w q m window key address count rights finish sends s more =
    named-steady c w AllSteady q.domain key (λ named. With_former x (ending named)) (λ named. former-steady w AllSteady x (ending named) (λ former.
    more (effects named) (unless_none (refusal named) (changed named former)) [] (operation-steady q m q.windows (bind1_marks q m window named address count rights x) (refusal named) sends s)
    (steady-unless (refusal named) (changed named former) (record {}, steady-append (former_updates former) (regions named former (count == 0)) (former-updates former) (regions-steady named former (count == 0))))))
  where
    x : Window
    x = w.window (window_slot q window)

    refusal : Option PlacedRegion → Option OpRefusal
    refusal named = bind1_refusal m key named address count rights x

    regions : Option PlacedRegion → Option PlacedRegion → Bool → List Update
    regions named former z = if z then [] else named_updates former named

    regions-steady : (named former : Option PlacedRegion) (z : Bool) → AllSteady (regions named former z)
    regions-steady named former true = record {}
    regions-steady named former false = named-updates former named

    changed : Option PlacedRegion → Option PlacedRegion → List Update
    changed named former = bind1_changes (window_slot q window) (drawn_by m) x former named address count rights

    effects : Option PlacedRegion → Effects
    effects named = operation_effects q m q (bind1_marks q m window named address count rights x) (refusal named)

    ending : Option PlacedRegion → Option PlacedRegion → Plan
    ending named former = finish (effects named) (unless_none (refusal named) (changed named former)) []

steady-bind2 : (c : Configuration) (w : World) (q : QueuePair) (m : Numbered) (window : ℕ) (key : Key) (low address count : ℕ) (rights : Rights) (finish : Finishing)
    → is_sending q.state ≡ true → IsSteadyQueue q → GoesOn w finish → EndsIn w AllSteady (Bind2_plan c q m window key low address count rights finish)
steady-bind2 c w q m window key low address count rights finish sends s more =
    named-steady c w AllSteady q.domain key (λ named. With_former x (λ former. ending named)) (λ named. former-steady w AllSteady x (λ former. ending named) (λ former.
    more (effects named) (unless_none (refusal named) (changed named)) [] (operation-steady q m (suc q.windows) (bind2_marks q window low named address count rights) (refusal named) sends s)
    (steady-unless (refusal named) (changed named) (record {}, named-updates None named))))
  where
    x : Window
    x = w.window (window_slot q window)

    refusal : Option PlacedRegion → Option OpRefusal
    refusal named = bind2_refusal key named address count rights x

    changed : Option PlacedRegion → List Update
    changed named = bind2_changes (window_slot q window) low q.queue x named address count rights

    effects : Option PlacedRegion → Effects
    effects named = operation_effects q m (record q { windows = suc q.windows }) (bind2_marks q window low named address count rights) (refusal named)

    ending : Option PlacedRegion → Plan
    ending named = finish (effects named) (unless_none (refusal named) (changed named)) []

steady-fast : (c : Configuration) (w : World) (q : QueuePair) (m : Numbered) (region low buffer address count : ℕ) (rights : Rights) (pages : List ℕ) (finish : Finishing)
    → is_sending q.state ≡ true → IsSteadyQueue q → GoesOn w finish → EndsIn w AllSteady (Fast_plan c q m region low buffer address count rights pages finish)
steady-fast c w q m region low buffer address count rights pages finish sends s more =
    more (operation_effects q m q (fast_marks q region low buffer address count rights pages) refusal) (unless_none refusal (fast_changes q region low buffer address count rights pages r)) []
    (operation-steady q m q.windows (fast_marks q region low buffer address count rights pages) refusal sends s)
    (steady-unless refusal (fast_changes q region low buffer address count rights pages r) (record {}, record {}))
  where
    r : Region
    r = w.region (region_slot q region)

    refusal : Option OpRefusal
    refusal = fast_refusal c q region buffer address count rights pages r

steady-perform : (c : Configuration) (w : World) (q : QueuePair) (m : Numbered) (finish : Finishing) → IsSoundWorld c w → is_sending q.state ≡ true → IsSteadyQueue q → GoesOn w finish
    → (op : SendOp) → EndsIn w AllSteady (Perform_op c q m finish op)
steady-perform c w q m finish sound sends s more op = walk-perform c w AllSteady q m finish op (more (queue_and_marks q []) [] [] s (record {}))
    (λ window key address count rights. steady-bind1 c w q m window key address count rights finish sends s more)
    (λ window key low address count rights. steady-bind2 c w q m window key low address count rights finish sends s more)
    (λ region low buffer address count rights pages. steady-fast c w q m region low buffer address count rights pages finish sends s more)
    (λ key. ends-row c w AllSteady Steadies (invalidate_row q m key) finish sound (invalidate-steadies q m key sends s)
    (λ e cs ws effects quiet. more e cs ws effects (quiet-steady c cs quiet)))

performs-none : (r : Option Reason) (o : Option Numbered) (m : Numbered) → turn_from r o ≡ Performs m → r ≡ None
performs-none (Some reason) o m turn = absurd cc
performs-none None o m turn = refl

pub steady-request : (c : Configuration) (w : World) (name : QueueId) (lot : Lot) → IsSoundWorld c w → IsSteadyWorld w → EndsIn w AllSteady (request_plan c name lot)
steady-request c w name lot sound steady = walk-request c w AllSteady name lot sound
    (λ q m there turn. steady-perform c w q m (λ e changes writes. Finish (updates_of q (around_in w q (shared_of w q)) e ++ changes) writes e.marks) sound
    (sending-parts q (performs-none (first_of (turn_refusals q)) (next_request q) m turn)).0 (there-kept w q steady there).is
    (λ e cs ws effects rest. turn-steady w q e cs effects rest) m.request.op)
    (λ q m peer there turn. left-steady c w q peer lot (packet_row q (has_room_for q peer (w.mailbox peer.queue)) m) sound
    (packet-steadies q (has_room_for q peer (w.mailbox peer.queue)) m there.sound (there-kept w q steady there).is turn))

-- ---- timers

pub steady-timeout : (c : Configuration) (w : World) (name : QueueId) (hasten : Bool) → IsSoundWorld c w → IsSteadyWorld w → EndsIn w AllSteady (timeout_plan c name hasten)
steady-timeout c w name hasten sound steady = walk-timeout c w AllSteady name hasten sound (λ q silent there fails.
    subst AllSteady (append-nil (updates_of q (around_in w q (shared_of w q)) (after_timeout silent q)))
    (turn-steady w q (after_timeout silent q) [] (timeout-keeps silent q (there-kept w q steady there)).is (record {})))

pub steady-wake : (c : Configuration) (w : World) (name : QueueId) → IsSoundWorld c w → IsSteadyWorld w → EndsIn w AllSteady (wake_plan c name)
steady-wake c w name sound steady = walk-wake c w AllSteady name sound (λ q there. ((wake-keeps q (there-kept w q steady there)).is, record {}))

-- ---- arrivals

arrive-steady : (c : Configuration) (w : World) (q : QueuePair) (bytes : List ℕ) (envelope : Option ℕ) (before : List Update) (ms : List Mark) → IsSoundWorld c w → IsSteadyWorld w → IsThere w q
    → AllSteady before → EndsIn w AllSteady (Arrive c q bytes envelope before ms)
arrive-steady c w q bytes envelope before ms sound steady there rest =
    ends-around w AllSteady q (λ a. Row_plan c (arrival_row bytes envelope (shared_in a) q) (finish a))
    (ends-row c w AllSteady Steadies (arrival_row bytes envelope (shared_in a) q) (finish a) sound
    (row-steadies _ (arrival-keeps bytes envelope (shared_in a) q (there-kept w q steady there)))
    (λ e more ws effects quiet. steady-append before (updates_of q a e ++ more) rest (turn-steady w q e more effects (quiet-steady c more quiet))))
  where
    a : Around
    a = around_in w q (shared_of w q)

    finish : Around → Effects → List Update → List Write → Plan
    finish a e more writes = Finish (before ++ (updates_of q a e ++ more)) writes (ms ++ marks.Arrived q.queue envelope ∷ e.marks)

pub steady-deliver : (c : Configuration) (w : World) (name : QueueId) (index : ℕ) → IsSoundWorld c w → IsSteadyWorld w → EndsIn w AllSteady (deliver_plan c name index)
steady-deliver c w name index sound steady = walk-deliver c w AllSteady name index sound (λ q bytes there.
    arrive-steady c w q bytes (Some index) ((Mailbox_of name := after_delivery index (w.mailbox name)) ∷ []) [] sound steady there (record {}, record {}))

pub steady-inject : (c : Configuration) (w : World) (call : Call) (q : QueueId) (bytes : List ℕ) → IsSoundWorld c w → IsSteadyWorld w → EndsIn w AllSteady (inject_plan c call q bytes)
steady-inject c w call q bytes sound steady = walk-inject c w AllSteady call q bytes sound (record {})
    (λ p there. arrive-steady c w p bytes None [] (answer_mark call answers.Fine ∷ []) sound steady there (record {}))
