-- What the turns of a group's queue pairs change is of the group, whomever they look at. For proofs only.
use Rattle.std.proofs.Common.{◌≡◌, ℕ, suc, ◌==◌, ◌&&◌, Bool, true, false, if◌then◌else◌, List, [], ◌∷◌, ◌++◌, Option, None, Some, IfSome, refl, subst, sym, rules}
use Rattle.std.proofs.lemmas.List.{append-nil}
use Rattle.std.specs.Option.{option_map_or}
use Rattle.ca_base.specs.Configuration.{Configuration}
use Rattle.ca_base.specs.Sight.{Invalidation}
use Rattle.ca_base.specs.declared.correspondent.Correspondent.{Correspondent}
use Rattle.ca_base.specs.declared.denied_ask.DeniedAsk.{DeniedAsk}
use Rattle.ca_base.specs.declared.lot.Lot.{Lot}
use Rattle.ca_base.specs.declared.refusals.OpRefusal.{OpRefusal}
use Rattle.ca_base.specs.declared.request.SendOp.{SendOp}
use Rattle.ca_base.specs.declared.step.Reason.{Reason}
use Rattle.ca_base.specs.declared.step.Reason.TheVariants as reasons
use Rattle.ca_base.specs.declared.step.Sent.{Sent}
use Rattle.ca_base.specs.declared.step.Sent.TheVariants.{Silent, Spelt}
use Rattle.ca_base.specs.objects.LocalRequest.{window_refusal}
use Rattle.ca_base.specs.objects.Mailbox.{Mailbox, after_send}
use Rattle.ca_base.specs.objects.QueuePair.{NoQueue, Present, QueuePair, QueueSlot}
use Rattle.ca_base.specs.objects.Region.{Region, with_window_unbound}
use Rattle.ca_base.specs.objects.SharedReceives.{SharedReceives, after_receive_take}
use Rattle.ca_base.specs.objects.Slices.{slot_of_key}
use Rattle.ca_base.specs.objects.Window.{Binding, Window, without_binding}
use Rattle.ca_isolation.specs.Groups.{Group, domain_of_queue}
use Rattle.ca_keys.specs.Numbers.{domain_of}
use Rattle.ca_keys.specs.declared.grant.Grant.{Grant}
use Rattle.ca_keys.specs.declared.key.Key.{Key}
use Rattle.ca_keys.specs.declared.names.DomainId.{DomainId}
use Rattle.ca_keys.specs.declared.names.QueueId.{QueueId}
use Rattle.ca_keys.specs.declared.names.Slot.{Slot}
use Rattle.ca_keys.specs.declared.rights.Rights.{Rights}
use Rattle.ca_law_isolation.proofs.RowLemmas.{IsRowOf, packet-of, respond-of}
use Rattle.ca_law_isolation.proofs.TableLemmas.{Has, number-of, region-key, window-key}
use Rattle.ca_law_isolation.specs.Domains.{IsThingOf}
use Rattle.ca_law_world.proofs.Sound.EngineLemmas.{ends-unless}
use Rattle.ca_law_world.proofs.Sound.PlanWalks.{walk-perform}
use Rattle.ca_law_world.proofs.Sound.WorldLemmas.{EndsIn, IsThere, around_in, ends-around, ends-bytes, ends-grants, ends-writes, is-there, shared_of}
use Rattle.ca_model.specs.machine.Around.{Around, With_around, With_queue, srq_updates, updates_of}
use Rattle.ca_model.specs.machine.LocalOperations.{Bind1_plan, Bind2_plan, Fast_plan, Finishing, Perform_op, PlacedRegion, With_former, With_named, bind1_changes, bind1_marks, bind1_refusal, bind2_changes, bind2_marks, bind2_refusal, drawn_by, fast_changes, fast_marks, fast_refusal, former_updates, invalidate_row, named_updates, operation_effects, region_slot, window_slot}
use Rattle.ca_model.specs.machine.Numbering.{Numbered}
use Rattle.ca_model.specs.machine.Plan.{Finish, Look, Plan, Stuck, Update, Write, unless_refused, ◌:=◌}
use Rattle.ca_model.specs.machine.Requester.{Performs, RequestTurn, Sends, Waits, packet_row, turn_of}
use Rattle.ca_model.specs.machine.Respond.{respond_row}
use Rattle.ca_model.specs.machine.Row.{Does, Effects, End_plan, Ending, NotPossible, Row, Row_plan, With_bytes, With_invalidation, first_denied_by, queue_and_marks, region_under, unless_none}
use Rattle.ca_model.specs.machine.Sound.{IsQueueOf, IsSoundWorld}
use Rattle.ca_model.specs.machine.Timers.{after_timeout, after_wake, timeout_refusals, wake_refusals}
use Rattle.ca_model.specs.machine.Turns.{Fire, Leave_plan, Packet, Request_around, Respond_around, Timeout_around, With_receives, has_room_for, packet_sent, reaches_peer, request_plan, respond_plan, sent_updates, timeout_plan, wake_plan}
use Rattle.ca_model.specs.machine.World.{World, Region_of, Window_of, Queue_of, Mailbox_of}

-- changes of things of the group alone
abbrev pub AllOf : Group → List Update → Type 0
AllOf g [] = Unit {0}
AllOf g (x ∷ xs) = IsThingOf g x.name × AllOf g xs

of-append : (g : Group) (xs ys : List Update) → AllOf g xs → AllOf g ys → AllOf g (xs ++ ys)
of-append g [] ys one other = other
of-append g (x ∷ xs) ys one other = (one.0, of-append g xs ys one.1 other)

of-unless : (g : Group) (r : Option OpRefusal) (cs : List Update) → AllOf g cs → AllOf g (unless_none r cs)
of-unless g None cs all = all
of-unless g (Some r) cs all = record {}

-- the region under a window is of the window's domain
under-of : (c : Configuration) (g : Group) (w : World) (s : Slot) (b : Binding) → IsSoundWorld c w → Has g s.domain → Has g (region_under (w.window s) b).domain
under-of c g w s b sound has = subst (λ (x : Slot). Has g x.domain) (sym (sound.things (Window_of s)).0) has

-- ---- rows

invalidation-of : (c : Configuration) (g : Group) (w : World) (i : Option Invalidation) (k : Option OpRefusal → List Update → Plan) → IsSoundWorld c w → IfSome i (λ i. Has g i.domain)
    → ((r : Option OpRefusal) (cs : List Update) → AllOf g cs → EndsIn w (AllOf g) (k r cs)) → EndsIn w (AllOf g) (With_invalidation c i k)
invalidation-of c g w None k sound has more = more None [] (record {})
invalidation-of c g w (Some i) k sound has more = (
  λ named. more _ _ (region-key c g i.domain i.key has named, record {}),
  λ none. (λ named. by (w.window slot).binding (window-key c g i.domain i.key has named), λ none. more _ [] (record {})),
)
  where
    slot : Slot
    slot = slot_of_key i.domain i.key

    plan : Option Binding → Plan
    plan None = k (window_refusal i.key i.queue (w.window slot)) []
    plan (Some b) = Look (Region_of (region_under (w.window slot) b)) (λ region.
        k (window_refusal i.key i.queue (w.window slot))
        ((Window_of slot := without_binding (w.window slot)) ∷ (Region_of (region_under (w.window slot) b) := with_window_unbound region) ∷ []))

    by : (o : Option Binding) → Has g slot.domain → EndsIn w (AllOf g) (plan o)
    by None own = more _ [] (record {})
    by (Some b) own = more _ _ (own, (under-of c g w slot b sound own, record {}))

row-ends-of : (c : Configuration) (g : Group) (w : World) (d : DomainId) (row : Row) (finish : Effects → List Update → List Write → Plan) → IsSoundWorld c w → Has g d → IsRowOf d row
    → ((e : Effects) (cs : List Update) (ws : List Write) → AllOf g cs → EndsIn w (AllOf g) (finish e cs ws)) → EndsIn w (AllOf g) (Row_plan c row finish)
row-ends-of c g w d row finish sound has own more = ends-grants c w (AllOf g) row.asks _ (λ gs. by gs (first_denied_by row.asks gs))
  where
    ending : (cs : List Update) (e : Ending) → AllOf g cs → EndsIn w (AllOf g) (End_plan c finish cs e)
    ending cs (NotPossible reason) all = record {}
    ending cs (Does e) all = ends-writes c w (AllOf g) e.writes (λ writes. finish e cs writes) (λ ws. more e cs ws all)

    plan : List (Option Grant) → Option DeniedAsk → Plan
    plan gs (Some d) = End_plan c finish [] (row.denied d)
    plan gs None = With_bytes row.asks gs (λ bytes. With_invalidation c row.invalidation (λ refusal cs.
        End_plan c finish (unless_none refusal cs) (row.allowed bytes refusal)))

    ended : (o : Option Invalidation) → IfSome o (λ i. i.domain ≡ d) → IfSome o (λ i. Has g i.domain)
    ended None is = record {}
    ended (Some i) is = subst (Has g) (sym is) has

    by : (gs : List (Option Grant)) (d : Option DeniedAsk) → EndsIn w (AllOf g) (plan gs d)
    by gs (Some d) = ending [] (row.denied d) (record {})
    by gs None = ends-bytes w (AllOf g) row.asks gs (λ bytes. With_invalidation c row.invalidation (λ refusal cs. End_plan c finish (unless_none refusal cs) (row.allowed bytes refusal)))
        (λ bytes. invalidation-of c g w row.invalidation (λ refusal cs. End_plan c finish (unless_none refusal cs) (row.allowed bytes refusal)) sound (ended row.invalidation own.ended)
        (λ refusal cs all. ending (unless_none refusal cs) (row.allowed bytes refusal) (of-unless g refusal cs all)))

-- ---- turns

-- a queue pair of the group that stands in a world
pub record IsTurnOf (g : Group) (w : World) (q : QueuePair) : Type 0 where
  pub there : IsThere w q
  pub number : Has g (domain_of q.queue)
  pub domain : Has g q.domain

srq-of : (g : Group) (q : QueuePair) (a : Around) (f : SharedReceives → SharedReceives) → Has g q.domain → AllOf g (srq_updates q a f)
srq-of g q a f has = search (rules, has)

-- what a turn's effects change
turn-changes-of : (g : Group) (w : World) (q : QueuePair) (e : Effects) (more : List Update) → IsTurnOf g w q → AllOf g more → AllOf g (updates_of q (around_in w q (shared_of w q)) e ++ more)
turn-changes-of g w q e more own rest = (own.number, (own.domain, (own.domain, of-append g (taken e.takes_shared) more (taken-of e.takes_shared) rest)))
  where
    a : Around
    a = around_in w q (shared_of w q)

    taken : Bool → List Update
    taken z = if z then srq_updates q a after_receive_take else []

    taken-of : (z : Bool) → AllOf g (taken z)
    taken-of true = srq-of g q a after_receive_take own.domain
    taken-of false = record {}

-- the peer is of the group where its mailbox accepts the queue pair
abbrev pub ReachesOwn : Group → World → QueuePair → Type 0
ReachesOwn g w q = (peer : Correspondent) → reaches_peer q peer (w.mailbox peer.queue) ≡ true → Has g (domain_of peer.queue)

sent-of : (g : Group) (w : World) (q : QueuePair) (peer : Correspondent) (lot : Lot) (e : Effects) → ReachesOwn g w q
    → AllOf g (option_map_or (sent_updates q peer (w.mailbox peer.queue) lot) (packet_sent e) [])
sent-of g w q peer lot e reaches = by e.sent
  where
    m : Mailbox
    m = w.mailbox peer.queue

    packet : Sent → Option Packet
    packet Silent = None
    packet (Spelt request) = Some (record { request = request; bytes = e.spelt })

    reach : (p : Packet) (z : Bool) → reaches_peer q peer m ≡ z → AllOf g (if z then (Mailbox_of peer.queue := after_send lot p.bytes m) ∷ [] else [])
    reach p true is = (reaches peer is, record {})
    reach p false is = record {}

    by : (s : Sent) → AllOf g (option_map_or (sent_updates q peer m lot) (packet s) [])
    by Silent = record {}
    by (Spelt request) = reach (record { request = request; bytes = e.spelt }) (reaches_peer q peer m) refl

left-of : (c : Configuration) (g : Group) (w : World) (q : QueuePair) (peer : Correspondent) (lot : Lot) (row : Row) → IsSoundWorld c w → IsTurnOf g w q → ReachesOwn g w q → IsRowOf q.domain row
    → EndsIn w (AllOf g) (Row_plan c row (Leave_plan q (around_in w q (shared_of w q)) peer (w.mailbox peer.queue) lot))
left-of c g w q peer lot row sound own reaches row-own =
    row-ends-of c g w q.domain row (Leave_plan q (around_in w q (shared_of w q)) peer (w.mailbox peer.queue) lot) sound own.domain row-own
    (λ e cs ws all. turn-changes-of g w q e (cs ++ option_map_or (sent_updates q peer (w.mailbox peer.queue) lot) (packet_sent e) []) own
    (of-append g cs (option_map_or (sent_updates q peer (w.mailbox peer.queue) lot) (packet_sent e) []) all (sent-of g w q peer lot e reaches)))

-- looking for the queue pair of a name that is of the group
queue-ends : (c : Configuration) (g : Group) (w : World) (name : QueueId) (r : Reason) (k : QueuePair → Plan) → IsSoundWorld c w → IfSome (domain_of_queue name) (Has g)
    → ((q : QueuePair) → IsTurnOf g w q → EndsIn w (AllOf g) (k q)) → EndsIn w (AllOf g) (With_queue c name r k)
queue-ends c g w name r k sound one more = (λ has. by (w.queue name) refl (sound.things (Queue_of name)) (number-of c g name has one), λ none. record {})
  where
    plan : QueueSlot → Plan
    plan (NoQueue incarnation timers) = Stuck r
    plan (Present q) = k q

    own : (q : QueuePair) → w.queue name ≡ Present q → IsQueueOf name (Present q) → Has g (domain_of name) → IsTurnOf g w q
    own q is one has = record {
      there = is-there w name q is one;
      number = subst (λ (x : QueueId). Has g (domain_of x)) (sym one.0) has;
      domain = subst (Has g) (sym one.1) has;
    }

    by : (s : QueueSlot) → w.queue name ≡ s → IsQueueOf name s → Has g (domain_of name) → EndsIn w (AllOf g) (plan s)
    by (NoQueue incarnation timers) is one has = record {}
    by (Present q) is one has = more q (own q is one has)

-- every queue pair of the group reaches its own alone
abbrev pub ReachWithin : Group → World → Type 0
ReachWithin g w = (q : QueuePair) → IsTurnOf g w q → ReachesOwn g w q

pub respond-ends-of : (c : Configuration) (g : Group) (w : World) (name : QueueId) (lot : Lot) → IsSoundWorld c w → IfSome (domain_of_queue name) (Has g) → ReachWithin g w
    → EndsIn w (AllOf g) (respond_plan c name lot)
respond-ends-of c g w name lot sound one reach = queue-ends c g w name reasons.State (λ q. With_around q (λ a. Respond_around c lot q a q.peer)) sound one
    (λ q own. ends-around w (AllOf g) q (λ a. Respond_around c lot q a q.peer) (by q own q.peer))
  where
    by : (q : QueuePair) → IsTurnOf g w q → (peer : Option Correspondent) → EndsIn w (AllOf g) (Respond_around c lot q (around_in w q (shared_of w q)) peer)
    by q own None = search rules
    by q own (Some peer) = left-of c g w q peer lot (respond_row (has_room_for q peer (w.mailbox peer.queue)) q) sound own (reach q own)
        (respond-of q.domain (has_room_for q peer (w.mailbox peer.queue)) q refl)

-- ---- local operations

-- a region with its slot, of the group
abbrev IsPlacedOf : Group → Option PlacedRegion → Type 0
IsPlacedOf g r = IfSome r (λ f. Has g f.slot.domain)

named-of : (c : Configuration) (g : Group) (w : World) (d : DomainId) (key : Key) (k : Option PlacedRegion → Plan) → Has g d
    → ((r : Option PlacedRegion) → IsPlacedOf g r → EndsIn w (AllOf g) (k r)) → EndsIn w (AllOf g) (With_named c d key k)
named-of c g w d key k has more =
    (λ named. more (Some (record { slot = slot_of_key d key; region = w.region (slot_of_key d key) })) (region-key c g d key has named), λ none. more None (record {}))

former-of : (c : Configuration) (g : Group) (w : World) (s : Slot) (k : Option PlacedRegion → Plan) → IsSoundWorld c w → Has g s.domain
    → ((r : Option PlacedRegion) → IsPlacedOf g r → EndsIn w (AllOf g) (k r)) → EndsIn w (AllOf g) (With_former (w.window s) k)
former-of c g w s k sound has more = by (w.window s).binding
  where
    x : Window
    x = w.window s

    plan : Option Binding → Plan
    plan None = k None
    plan (Some b) = Look (Region_of (region_under x b)) (λ region. k (Some (record { slot = region_under x b; region = region })))

    by : (o : Option Binding) → EndsIn w (AllOf g) (plan o)
    by None = more None (record {})
    by (Some b) = more (Some (record { slot = region_under x b; region = w.region (region_under x b) })) (under-of c g w s b sound has)

former-updates : (g : Group) (former : Option PlacedRegion) → IsPlacedOf g former → AllOf g (former_updates former)
former-updates g None own = record {}
former-updates g (Some f) own = (own, record {})

named-updates : (g : Group) (former named : Option PlacedRegion) → IsPlacedOf g named → AllOf g (named_updates former named)
named-updates g former None own = record {}
named-updates g former (Some m) own = (own, record {})

-- how an operation's plan may go on
abbrev GoesOn : Group → World → Finishing → Type 0
GoesOn g w finish = (e : Effects) (cs : List Update) (ws : List Write) → AllOf g cs → EndsIn w (AllOf g) (finish e cs ws)

bind1-of : (c : Configuration) (g : Group) (w : World) (q : QueuePair) (m : Numbered) (window : ℕ) (key : Key) (address count : ℕ) (rights : Rights) (finish : Finishing)
    → IsSoundWorld c w → Has g q.domain → GoesOn g w finish → EndsIn w (AllOf g) (Bind1_plan c q m window key address count rights finish)
bind1-of c g w q m window key address count rights finish sound has more =
    named-of c g w q.domain key (λ named. With_former x (ending named)) has (λ named here. former-of c g w (window_slot q window) (ending named) sound has (λ former there.
    more (effects named) (unless_none (refusal named) (changed named former)) []
    (of-unless g (refusal named) (changed named former) (
      has,
      of-append g (former_updates former) (regions named former (count == 0)) (former-updates g former there) (regions-of named former here (count == 0)),
    ))))
  where
    x : Window
    x = w.window (window_slot q window)

    refusal : Option PlacedRegion → Option OpRefusal
    refusal named = bind1_refusal m key named address count rights x

    regions : Option PlacedRegion → Option PlacedRegion → Bool → List Update
    regions named former z = if z then [] else named_updates former named

    regions-of : (named former : Option PlacedRegion) → IsPlacedOf g named → (z : Bool) → AllOf g (regions named former z)
    regions-of named former here true = record {}
    regions-of named former here false = named-updates g former named here

    changed : Option PlacedRegion → Option PlacedRegion → List Update
    changed named former = bind1_changes (window_slot q window) (drawn_by m) x former named address count rights

    effects : Option PlacedRegion → Effects
    effects named = operation_effects q m q (bind1_marks q m window named address count rights x) (refusal named)

    ending : Option PlacedRegion → Option PlacedRegion → Plan
    ending named former = finish (effects named) (unless_none (refusal named) (changed named former)) []

bind2-of : (c : Configuration) (g : Group) (w : World) (q : QueuePair) (m : Numbered) (window : ℕ) (key : Key) (low address count : ℕ) (rights : Rights) (finish : Finishing)
    → IsSoundWorld c w → Has g q.domain → GoesOn g w finish → EndsIn w (AllOf g) (Bind2_plan c q m window key low address count rights finish)
bind2-of c g w q m window key low address count rights finish sound has more =
    named-of c g w q.domain key (λ named. With_former x (λ former. ending named)) has (λ named here. former-of c g w (window_slot q window) (λ former. ending named) sound has (λ former there.
    more (effects named) (unless_none (refusal named) (changed named)) [] (of-unless g (refusal named) (changed named) (has, named-updates g None named here))))
  where
    x : Window
    x = w.window (window_slot q window)

    refusal : Option PlacedRegion → Option OpRefusal
    refusal named = bind2_refusal key named address count rights x

    changed : Option PlacedRegion → List Update
    changed named = bind2_changes (window_slot q window) low q.queue x named address count rights

    effects : Option PlacedRegion → Effects
    effects named = operation_effects q m (record q { windows = suc q.windows }) (bind2_marks q window low named address count rights) (refusal named)

    ending : Option PlacedRegion → Plan
    ending named = finish (effects named) (unless_none (refusal named) (changed named)) []

fast-of : (c : Configuration) (g : Group) (w : World) (q : QueuePair) (m : Numbered) (region low buffer address count : ℕ) (rights : Rights) (pages : List ℕ) (finish : Finishing)
    → Has g q.domain → GoesOn g w finish → EndsIn w (AllOf g) (Fast_plan c q m region low buffer address count rights pages finish)
fast-of c g w q m region low buffer address count rights pages finish has more =
    more (operation_effects q m q (fast_marks q region low buffer address count rights pages) refusal) (unless_none refusal (fast_changes q region low buffer address count rights pages r)) []
    (of-unless g refusal (fast_changes q region low buffer address count rights pages r) (has, record {}))
  where
    r : Region
    r = w.region (region_slot q region)

    refusal : Option OpRefusal
    refusal = fast_refusal c q region buffer address count rights pages r

perform-of : (c : Configuration) (g : Group) (w : World) (q : QueuePair) (m : Numbered) (finish : Finishing) → IsSoundWorld c w → Has g q.domain → GoesOn g w finish
    → (op : SendOp) → EndsIn w (AllOf g) (Perform_op c q m finish op)
perform-of c g w q m finish sound has more op = walk-perform c w (AllOf g) q m finish op (more (queue_and_marks q []) [] [] (record {}))
    (λ window key address count rights. bind1-of c g w q m window key address count rights finish sound has more)
    (λ window key low address count rights. bind2-of c g w q m window key low address count rights finish sound has more)
    (λ region low buffer address count rights pages. fast-of c g w q m region low buffer address count rights pages finish has more)
    (λ key. row-ends-of c g w q.domain (invalidate_row q m key) finish sound has (record { asks = record {}; ended = refl }) more)

pub request-ends-of : (c : Configuration) (g : Group) (w : World) (name : QueueId) (lot : Lot) → IsSoundWorld c w → IfSome (domain_of_queue name) (Has g) → ReachWithin g w
    → EndsIn w (AllOf g) (request_plan c name lot)
request-ends-of c g w name lot sound one reach = queue-ends c g w name reasons.State (λ q. With_around q (λ a. Request_around c lot q a q.peer (turn_of q))) sound one
    (λ q own. ends-around w (AllOf g) q (λ a. Request_around c lot q a q.peer (turn_of q)) (by q own q.peer (turn_of q)))
  where
    by : (q : QueuePair) → IsTurnOf g w q → (peer : Option Correspondent) (turn : RequestTurn) → EndsIn w (AllOf g) (Request_around c lot q (around_in w q (shared_of w q)) peer turn)
    by q own peer (Waits reason) = record {}
    by q own peer (Performs m) = perform-of c g w q m (λ e changes writes. Finish (updates_of q (around_in w q (shared_of w q)) e ++ changes) writes e.marks) sound own.domain
        (λ e cs ws rest. turn-changes-of g w q e cs own rest) m.request.op
    by q own None (Sends m) = record {}
    by q own (Some peer) (Sends m) = left-of c g w q peer lot (packet_row q (has_room_for q peer (w.mailbox peer.queue)) m) sound own (reach q own)
        (packet-of q.domain q (has_room_for q peer (w.mailbox peer.queue)) m refl)

-- ---- timers

pub timeout-ends-of : (c : Configuration) (g : Group) (w : World) (name : QueueId) (hasten : Bool) → IsSoundWorld c w → IfSome (domain_of_queue name) (Has g) → EndsIn w (AllOf g) (timeout_plan c name hasten)
timeout-ends-of c g w name hasten sound one =
    queue-ends c g w name reasons.State (λ q. Look (Mailbox_of name) (λ own. With_around q (λ a. Timeout_around hasten q own a q.peer))) sound one
    (λ q own. ends-around w (AllOf g) q (λ a. Timeout_around hasten q (w.mailbox name) a q.peer) (by q own q.peer))
  where
    fire : (q : QueuePair) → IsTurnOf g w q → (silent : Bool) → EndsIn w (AllOf g) (Fire hasten q (around_in w q (shared_of w q)) silent)
    fire q own silent = ends-unless w (AllOf g) (timeout_refusals silent hasten q) Stuck
        (Finish (updates_of q (around_in w q (shared_of w q)) (after_timeout silent q)) [] (after_timeout silent q).marks) (λ r. record {})
        (λ fails. subst (AllOf g) (append-nil (updates_of q (around_in w q (shared_of w q)) (after_timeout silent q)))
        (turn-changes-of g w q (after_timeout silent q) [] own (record {})))

    by : (q : QueuePair) → IsTurnOf g w q → (peer : Option Correspondent) → EndsIn w (AllOf g) (Timeout_around hasten q (w.mailbox name) (around_in w q (shared_of w q)) peer)
    by q own None = search rules
    by q own (Some peer) = fire q own _

pub wake-ends-of : (c : Configuration) (g : Group) (w : World) (name : QueueId) → IsSoundWorld c w → IfSome (domain_of_queue name) (Has g) → EndsIn w (AllOf g) (wake_plan c name)
wake-ends-of c g w name sound one = queue-ends c g w name reasons.State (λ q. plan q q.peer) sound one (λ q own. by q own q.peer)
  where
    wakes : QueuePair → Bool → Plan
    wakes q empty = unless_refused (wake_refusals empty q) Stuck (Finish ((Queue_of q.queue := Present (after_wake q).queue) ∷ []) [] (after_wake q).marks)

    plan : QueuePair → Option Correspondent → Plan
    plan q None = unless_refused (wake_refusals false q) Stuck (Stuck reasons.Empty)
    plan q (Some peer) = Look (Queue_of peer.queue) (λ slot. Look (Mailbox_of peer.queue) (λ m.
        With_receives slot (λ empty. wakes q (reaches_peer q peer m && empty))))

    wake : (q : QueuePair) → IsTurnOf g w q → (empty : Bool) → EndsIn w (AllOf g) (wakes q empty)
    wake q own empty = ends-unless w (AllOf g) (wake_refusals empty q) Stuck (Finish ((Queue_of q.queue := Present (after_wake q).queue) ∷ []) [] (after_wake q).marks)
        (λ r. record {}) (λ fails. (own.number, record {}))

    receives : (slot : QueueSlot) (k : Bool → Plan) → ((b : Bool) → EndsIn w (AllOf g) (k b)) → EndsIn w (AllOf g) (With_receives slot k)
    receives slot k more = search rules

    by : (q : QueuePair) → IsTurnOf g w q → (peer : Option Correspondent) → EndsIn w (AllOf g) (plan q peer)
    by q own None = search rules
    by q own (Some peer) = receives (w.queue peer.queue) (λ empty. wakes q (reaches_peer q peer (w.mailbox peer.queue) && empty)) (λ empty. wake q own _)
