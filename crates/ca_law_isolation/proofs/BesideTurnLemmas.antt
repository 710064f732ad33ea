-- Each turn of a queue pair, and each arrival, leaves windows bound beside their queue pairs. For proofs only.
use Rattle.std.proofs.Common.{◌≡◌, ℕ, suc, ◌==◌, Bool, true, false, if◌then◌else◌, List, [], ◌∷◌, ◌++◌, Option, None, Some, IfSome, subst, sym, rules}
use Rattle.std.proofs.lemmas.List.{append-nil}
use Rattle.std.specs.Option.{option_map_or}
use Rattle.ca_base.specs.Configuration.{Configuration}
use Rattle.ca_base.specs.Sight.{Invalidation}
use Rattle.ca_base.specs.declared.correspondent.Correspondent.{Correspondent}
use Rattle.ca_base.specs.declared.denied_ask.DeniedAsk.{DeniedAsk}
use Rattle.ca_base.specs.declared.lot.Lot.{Lot}
use Rattle.ca_base.specs.declared.refusals.OpRefusal.{OpRefusal}
use Rattle.ca_base.specs.declared.request.SendOp.{SendOp}
use Rattle.ca_base.specs.declared.step.Sent.{Sent}
use Rattle.ca_base.specs.declared.step.Sent.TheVariants.{Silent, Spelt}
use Rattle.ca_base.specs.objects.LocalRequest.{window_refusal}
use Rattle.ca_base.specs.objects.Mailbox.{Mailbox, after_delivery, after_send}
use Rattle.ca_base.specs.objects.QueuePair.{QueuePair}
use Rattle.ca_base.specs.objects.Region.{Region, with_window_unbound}
use Rattle.ca_base.specs.objects.SharedReceives.{SharedReceives, after_receive_take}
use Rattle.ca_base.specs.objects.Slices.{slot_of_key}
use Rattle.ca_base.specs.objects.Window.{Binding, Window, after_bind1, after_binding, without_binding}
use Rattle.ca_keys.specs.Numbers.{domain_of}
use Rattle.ca_keys.specs.declared.grant.Grant.{Grant}
use Rattle.ca_keys.specs.declared.key.Key.{Key}
use Rattle.ca_keys.specs.declared.names.DomainId.{DomainId}
use Rattle.ca_keys.specs.declared.names.QueueId.{QueueId}
use Rattle.ca_keys.specs.declared.names.Slot.{Slot}
use Rattle.ca_keys.specs.declared.rights.Rights.{Rights}
use Rattle.ca_law_world.proofs.Sound.PlanWalks.{walk-deliver, walk-inject, walk-perform, walk-request, walk-respond, walk-timeout, walk-wake}
use Rattle.ca_law_world.proofs.Sound.WorldLemmas.{EndsIn, around_in, ends-around, ends-bytes, ends-grants, ends-writes, shared_of}
use Rattle.ca_model.specs.declared.answer.Answer.TheVariants as answers
use Rattle.ca_model.specs.declared.mark.Mark.{Mark}
use Rattle.ca_model.specs.declared.mark.Mark.TheVariants as marks
use Rattle.ca_model.specs.machine.Around.{Around, shared_in, srq_updates, updates_of}
use Rattle.ca_model.specs.machine.Delivery.{Arrive, arrival_row, deliver_plan}
use Rattle.ca_model.specs.machine.HostVerbs.{inject_plan}
use Rattle.ca_model.specs.machine.LocalOperations.{Bind1_plan, Bind2_plan, Fast_plan, Finishing, Perform_op, PlacedRegion, With_former, With_named, bind1_changes, bind1_marks, bind1_refusal, bind2_changes, bind2_marks, bind2_refusal, drawn_by, fast_changes, fast_marks, fast_refusal, former_updates, invalidate_row, named_slot, named_updates, operation_effects, region_slot, window_slot}
use Rattle.ca_model.specs.machine.Numbering.{Numbered}
use Rattle.ca_model.specs.machine.Plan.{Finish, Look, Plan, Update, Write, ◌:=◌}
use Rattle.ca_model.specs.machine.Requester.{packet_row}
use Rattle.ca_model.specs.machine.Respond.{respond_row}
use Rattle.ca_model.specs.machine.Row.{Does, Effects, End_plan, Ending, NotPossible, Row, Row_plan, With_bytes, With_invalidation, first_denied_by, queue_and_marks, region_under, unless_none}
use Rattle.ca_model.specs.machine.Sound.{IsSoundWorld}
use Rattle.ca_model.specs.machine.Timers.{after_timeout}
use Rattle.ca_model.specs.machine.Turns.{Leave_plan, Packet, has_room_for, packet_sent, reaches_peer, request_plan, respond_plan, sent_updates, timeout_plan, wake_plan}
use Rattle.ca_model.specs.machine.VerbAnswers.{Call, answer_mark}
use Rattle.ca_model.specs.machine.World.{World, Name, Domain_of, Region_of, Window_of, Cq_of, Srq_of, Queue_of, Mailbox_of, Byte_at, Thing}

-- a window in a slot, bound through no queue pair of another domain
abbrev pub IsBeside : Slot → Window → Type 0
IsBeside s x = IfSome x.binding (λ b. IfSome b.queue (λ q. domain_of q ≡ s.domain))

-- a thing of a world in which windows are so
abbrev pub IsBesideThing : (n : Name) → Thing n → Type 0
IsBesideThing (Domain_of d) v = Unit {0}
IsBesideThing (Region_of s) v = Unit {0}
IsBesideThing (Window_of s) v = IsBeside s v
IsBesideThing (Cq_of s) v = Unit {0}
IsBesideThing (Srq_of s) v = Unit {0}
IsBesideThing (Queue_of q) v = Unit {0}
IsBesideThing (Mailbox_of q) v = Unit {0}
IsBesideThing (Byte_at p) v = Unit {0}

-- changes that leave windows so
abbrev pub AllBeside : List Update → Type 0
AllBeside [] = Unit {0}
AllBeside (x ∷ xs) = IsBesideThing x.name x.thing × AllBeside xs

pub beside-append : (xs ys : List Update) → AllBeside xs → AllBeside ys → AllBeside (xs ++ ys)
beside-append [] ys one other = other
beside-append (x ∷ xs) ys one other = (one.0, beside-append xs ys one.1 other)

beside-unless : (r : Option OpRefusal) (cs : List Update) → AllBeside cs → AllBeside (unless_none r cs)
beside-unless None cs all = all
beside-unless (Some r) cs all = record {}

-- ---- rows

invalidation-beside : (c : Configuration) (w : World) (i : Option Invalidation) (k : Option OpRefusal → List Update → Plan)
    → ((r : Option OpRefusal) (cs : List Update) → AllBeside cs → EndsIn w AllBeside (k r cs)) → EndsIn w AllBeside (With_invalidation c i k)
invalidation-beside c w None k more = more None [] (record {})
invalidation-beside c w (Some i) k more = (λ named. more _ _ (record {}, record {}), λ none. (λ named. by (w.window slot).binding, λ none. more _ [] (record {})))
  where
    slot : Slot
    slot = slot_of_key i.domain i.key

    plan : Option Binding → Plan
    plan None = k (window_refusal i.key i.queue (w.window slot)) []
    plan (Some b) = Look (Region_of (region_under (w.window slot) b)) (λ region.
        k (window_refusal i.key i.queue (w.window slot))
        ((Window_of slot := without_binding (w.window slot)) ∷ (Region_of (region_under (w.window slot) b) := with_window_unbound region) ∷ []))

    by : (o : Option Binding) → EndsIn w AllBeside (plan o)
    by None = more _ [] (record {})
    by (Some b) = more _ _ (record {}, (record {}, record {}))

-- a row's plan ends well where each of its endings does
row-beside : (c : Configuration) (w : World) (row : Row) (finish : Effects → List Update → List Write → Plan)
    → ((e : Effects) (cs : List Update) (ws : List Write) → AllBeside cs → EndsIn w AllBeside (finish e cs ws)) → EndsIn w AllBeside (Row_plan c row finish)
row-beside c w row finish more = ends-grants c w AllBeside row.asks _ (λ gs. by gs (first_denied_by row.asks gs))
  where
    ending : (cs : List Update) (e : Ending) → AllBeside cs → EndsIn w AllBeside (End_plan c finish cs e)
    ending cs (NotPossible reason) all = record {}
    ending cs (Does e) all = ends-writes c w AllBeside e.writes (λ writes. finish e cs writes) (λ ws. more e cs ws all)

    plan : List (Option Grant) → Option DeniedAsk → Plan
    plan gs (Some d) = End_plan c finish [] (row.denied d)
    plan gs None = With_bytes row.asks gs (λ bytes. With_invalidation c row.invalidation (λ refusal cs.
        End_plan c finish (unless_none refusal cs) (row.allowed bytes refusal)))

    by : (gs : List (Option Grant)) (d : Option DeniedAsk) → EndsIn w AllBeside (plan gs d)
    by gs (Some d) = ending [] (row.denied d) (record {})
    by gs None = ends-bytes w AllBeside row.asks gs (λ bytes. With_invalidation c row.invalidation (λ refusal cs. End_plan c finish (unless_none refusal cs) (row.allowed bytes refusal)))
        (λ bytes. invalidation-beside c w row.invalidation (λ refusal cs. End_plan c finish (unless_none refusal cs) (row.allowed bytes refusal))
        (λ refusal cs all. ending (unless_none refusal cs) (row.allowed bytes refusal) (beside-unless refusal cs all)))

-- ---- turns

pub srq-beside : (q : QueuePair) (a : Around) (f : SharedReceives → SharedReceives) → AllBeside (srq_updates q a f)
srq-beside q a f = search rules

-- what a turn's effects change
turn-beside : (w : World) (q : QueuePair) (e : Effects) (more : List Update) → AllBeside more → AllBeside (updates_of q (around_in w q (shared_of w q)) e ++ more)
turn-beside w q e more rest = (record {}, (record {}, (record {}, beside-append (taken e.takes_shared) more (taken-beside e.takes_shared) rest)))
  where
    a : Around
    a = around_in w q (shared_of w q)

    taken : Bool → List Update
    taken z = if z then srq_updates q a after_receive_take else []

    taken-beside : (z : Bool) → AllBeside (taken z)
    taken-beside true = srq-beside q a after_receive_take
    taken-beside false = record {}

sent-beside : (q : QueuePair) (peer : Correspondent) (m : Mailbox) (lot : Lot) (e : Effects) → AllBeside (option_map_or (sent_updates q peer m lot) (packet_sent e) [])
sent-beside q peer m lot e = by e.sent
  where
    packet : Sent → Option Packet
    packet Silent = None
    packet (Spelt request) = Some (record { request = request; bytes = e.spelt })

    reach : (p : Packet) (z : Bool) → AllBeside (if z then (Mailbox_of peer.queue := after_send lot p.bytes m) ∷ [] else [])
    reach p true = (record {}, record {})
    reach p false = record {}

    by : (s : Sent) → AllBeside (option_map_or (sent_updates q peer m lot) (packet s) [])
    by Silent = record {}
    by (Spelt request) = reach (record { request = request; bytes = e.spelt }) (reaches_peer q peer m)

left-beside : (c : Configuration) (w : World) (q : QueuePair) (peer : Correspondent) (lot : Lot) (row : Row)
    → EndsIn w AllBeside (Row_plan c row (Leave_plan q (around_in w q (shared_of w q)) peer (w.mailbox peer.queue) lot))
left-beside c w q peer lot row = row-beside c w row (Leave_plan q (around_in w q (shared_of w q)) peer (w.mailbox peer.queue) lot)
    (λ e cs ws all. turn-beside w q e (cs ++ option_map_or (sent_updates q peer (w.mailbox peer.queue) lot) (packet_sent e) [])
    (beside-append cs (option_map_or (sent_updates q peer (w.mailbox peer.queue) lot) (packet_sent e) []) all (sent-beside q peer (w.mailbox peer.queue) lot e)))

pub beside-respond : (c : Configuration) (w : World) (name : QueueId) (lot : Lot) → IsSoundWorld c w → EndsIn w AllBeside (respond_plan c name lot)
beside-respond c w name lot sound = walk-respond c w AllBeside name lot sound (λ q peer there. left-beside c w q peer lot (respond_row (has_room_for q peer (w.mailbox peer.queue)) q))

-- ---- local operations

named-beside : (c : Configuration) (w : World) (d : DomainId) (key : Key) (k : Option PlacedRegion → Plan) → ((r : Option PlacedRegion) → EndsIn w AllBeside (k r))
    → EndsIn w AllBeside (With_named c d key k)
named-beside c w d key k more = (λ named. more (Some (record { slot = slot_of_key d key; region = w.region (slot_of_key d key) })), λ none. more None)

former-beside : (w : World) (x : Window) (k : Option PlacedRegion → Plan) → ((r : Option PlacedRegion) → EndsIn w AllBeside (k r)) → EndsIn w AllBeside (With_former x k)
former-beside w x k more = by x.binding
  where
    plan : Option Binding → Plan
    plan None = k None
    plan (Some b) = Look (Region_of (region_under x b)) (λ region. k (Some (record { slot = region_under x b; region = region })))

    by : (o : Option Binding) → EndsIn w AllBeside (plan o)
    by None = more None
    by (Some b) = more (Some (record { slot = region_under x b; region = w.region (region_under x b) }))

former-updates : (former : Option PlacedRegion) → AllBeside (former_updates former)
former-updates None = record {}
former-updates (Some f) = (record {}, record {})

named-updates : (former named : Option PlacedRegion) → AllBeside (named_updates former named)
named-updates former None = record {}
named-updates former (Some m) = (record {}, record {})

-- a window of type 1 that is bound names no queue pair
bind1-beside : (s : Slot) (drawn region address count : ℕ) (rights : Rights) (x : Window) → IsBeside s (after_bind1 drawn region address count rights x)
bind1-beside s drawn region address count rights x = by (count == 0)
  where
    by : (b : Bool) → IsBeside s (if b then without_binding x else after_binding drawn None region address count rights x)
    by true = record {}
    by false = record {}

-- how an operation's plan may go on
abbrev GoesOn : World → Finishing → Type 0
GoesOn w finish = (e : Effects) (cs : List Update) (ws : List Write) → AllBeside cs → EndsIn w AllBeside (finish e cs ws)

bind1-ends : (c : Configuration) (w : World) (q : QueuePair) (m : Numbered) (window : ℕ) (key : Key) (address count : ℕ) (rights : Rights) (finish : Finishing) → GoesOn w finish
    → EndsIn w AllBeside (Bind1_plan c q m window key address count rights finish)
bind1-ends c w q m window key address count rights finish more =
    named-beside c w q.domain key (λ named. With_former x (ending named)) (λ named. former-beside w x (ending named) (λ former.
    more (effects named) (unless_none (refusal named) (changed named former)) []
    (beside-unless (refusal named) (changed named former) (
      bind1-beside (window_slot q window) (drawn_by m) (named_slot named) address count rights x,
      beside-append (former_updates former) (regions named former (count == 0)) (former-updates former) (regions-beside named former (count == 0)),
    ))))
  where
    x : Window
    x = w.window (window_slot q window)

    refusal : Option PlacedRegion → Option OpRefusal
    refusal named = bind1_refusal m key named address count rights x

    regions : Option PlacedRegion → Option PlacedRegion → Bool → List Update
    regions named former z = if z then [] else named_updates former named

    regions-beside : (named former : Option PlacedRegion) (z : Bool) → AllBeside (regions named former z)
    regions-beside named former true = record {}
    regions-beside named former false = named-updates former named

    changed : Option PlacedRegion → Option PlacedRegion → List Update
    changed named former = bind1_changes (window_slot q window) (drawn_by m) x former named address count rights

    effects : Option PlacedRegion → Effects
    effects named = operation_effects q m q (bind1_marks q m window named address count rights x) (refusal named)

    ending : Option PlacedRegion → Option PlacedRegion → Plan
    ending named former = finish (effects named) (unless_none (refusal named) (changed named former)) []

bind2-ends : (c : Configuration) (w : World) (q : QueuePair) (m : Numbered) (window : ℕ) (key : Key) (low address count : ℕ) (rights : Rights) (finish : Finishing)
    → domain_of q.queue ≡ q.domain → GoesOn w finish → EndsIn w AllBeside (Bind2_plan c q m window key low address count rights finish)
bind2-ends c w q m window key low address count rights finish own more =
    named-beside c w q.domain key (λ named. With_former x (λ former. ending named)) (λ named. former-beside w x (λ former. ending named) (λ former.
    more (effects named) (unless_none (refusal named) (changed named)) [] (beside-unless (refusal named) (changed named) (own, named-updates None named))))
  where
    x : Window
    x = w.window (window_slot q window)

    refusal : Option PlacedRegion → Option OpRefusal
    refusal named = bind2_refusal key named address count rights x

    changed : Option PlacedRegion → List Update
    changed named = bind2_changes (window_slot q window) low q.queue x named address count rights

    effects : Option PlacedRegion → Effects
    effects named = operation_effects q m (record q { windows = suc q.windows }) (bind2_marks q window low named address count rights) (refusal named)

    ending : Option PlacedRegion → Plan
    ending named = finish (effects named) (unless_none (refusal named) (changed named)) []

fast-ends : (c : Configuration) (w : World) (q : QueuePair) (m : Numbered) (region low buffer address count : ℕ) (rights : Rights) (pages : List ℕ) (finish : Finishing) → GoesOn w finish
    → EndsIn w AllBeside (Fast_plan c q m region low buffer address count rights pages finish)
fast-ends c w q m region low buffer address count rights pages finish more =
    more (operation_effects q m q (fast_marks q region low buffer address count rights pages) refusal) (unless_none refusal (fast_changes q region low buffer address count rights pages r)) []
    (beside-unless refusal (fast_changes q region low buffer address count rights pages r) (record {}, record {}))
  where
    r : Region
    r = w.region (region_slot q region)

    refusal : Option OpRefusal
    refusal = fast_refusal c q region buffer address count rights pages r

perform-beside : (c : Configuration) (w : World) (q : QueuePair) (m : Numbered) (finish : Finishing) → domain_of q.queue ≡ q.domain → GoesOn w finish
    → (op : SendOp) → EndsIn w AllBeside (Perform_op c q m finish op)
perform-beside c w q m finish own more op = walk-perform c w AllBeside q m finish op (more (queue_and_marks q []) [] [] (record {}))
    (λ window key address count rights. bind1-ends c w q m window key address count rights finish more)
    (λ window key low address count rights. bind2-ends c w q m window key low address count rights finish own more)
    (λ region low buffer address count rights pages. fast-ends c w q m region low buffer address count rights pages finish more)
    (λ key. row-beside c w (invalidate_row q m key) finish more)

pub beside-request : (c : Configuration) (w : World) (name : QueueId) (lot : Lot) → IsSoundWorld c w → EndsIn w AllBeside (request_plan c name lot)
beside-request c w name lot sound = walk-request c w AllBeside name lot sound
    (λ q m there turn. perform-beside c w q m (λ e changes writes. Finish (updates_of q (around_in w q (shared_of w q)) e ++ changes) writes e.marks) (sym there.domain)
    (λ e cs ws rest. turn-beside w q e cs rest) m.request.op)
    (λ q m peer there turn. left-beside c w q peer lot (packet_row q (has_room_for q peer (w.mailbox peer.queue)) m))

-- ---- timers

pub beside-timeout : (c : Configuration) (w : World) (name : QueueId) (hasten : Bool) → IsSoundWorld c w → EndsIn w AllBeside (timeout_plan c name hasten)
beside-timeout c w name hasten sound = walk-timeout c w AllBeside name hasten sound (λ q silent there fails.
    subst AllBeside (append-nil (updates_of q (around_in w q (shared_of w q)) (after_timeout silent q))) (turn-beside w q (after_timeout silent q) [] (record {})))

pub beside-wake : (c : Configuration) (w : World) (name : QueueId) → IsSoundWorld c w → EndsIn w AllBeside (wake_plan c name)
beside-wake c w name sound = walk-wake c w AllBeside name sound (λ q there. (record {}, record {}))

-- ---- arrivals

arrive-beside : (c : Configuration) (w : World) (q : QueuePair) (bytes : List ℕ) (envelope : Option ℕ) (before : List Update) (ms : List Mark)
    → AllBeside before → EndsIn w AllBeside (Arrive c q bytes envelope before ms)
arrive-beside c w q bytes envelope before ms rest =
    ends-around w AllBeside q (λ a. Row_plan c (arrival_row bytes envelope (shared_in a) q) (finish a))
    (row-beside c w (arrival_row bytes envelope (shared_in a) q) (finish a)
    (λ e more ws all. beside-append before (updates_of q a e ++ more) rest (turn-beside w q e more all)))
  where
    a : Around
    a = around_in w q (shared_of w q)

    finish : Around → Effects → List Update → List Write → Plan
    finish a e more writes = Finish (before ++ (updates_of q a e ++ more)) writes (ms ++ marks.Arrived q.queue envelope ∷ e.marks)

pub beside-deliver : (c : Configuration) (w : World) (name : QueueId) (index : ℕ) → IsSoundWorld c w → EndsIn w AllBeside (deliver_plan c name index)
beside-deliver c w name index sound = walk-deliver c w AllBeside name index sound (λ q bytes there.
    arrive-beside c w q bytes (Some index) ((Mailbox_of name := after_delivery index (w.mailbox name)) ∷ []) [] (record {}, record {}))

pub beside-inject : (c : Configuration) (w : World) (call : Call) (q : QueueId) (bytes : List ℕ) → IsSoundWorld c w → EndsIn w AllBeside (inject_plan c call q bytes)
beside-inject c w call q bytes sound = walk-inject c w AllBeside call q bytes sound (record {})
    (λ p there. arrive-beside c w p bytes None [] (answer_mark call answers.Fine ∷ []) (record {}))
