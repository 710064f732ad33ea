-- The bytes that a group's event touches are granted to the group. For proofs only.
use Rattle.std.proofs.Common.{◌≡◌, ℕ, suc, ◌==◌, ◌&&◌, ◌||◌, Bool, true, false, if◌then◌else◌, List, [], ◌∷◌, ◌++◌, take, Option, None, Some, IfSome, refl, subst, sym, rules, true≢false}
use Rattle.std.proofs.lemmas.List.{append-nil}
use Rattle.std.specs.List.{AllByRecursion, list_any}
use Rattle.std.specs.Option.{option_map, option_map_or}
use Rattle.ca_base.specs.Configuration.{Configuration}
use Rattle.ca_base.specs.Sight.{Invalidation}
use Rattle.ca_base.specs.declared.completion.Completion.{Completion}
use Rattle.ca_base.specs.declared.correspondent.Correspondent.{Correspondent}
use Rattle.ca_base.specs.declared.lot.Lot.{Lot}
use Rattle.ca_base.specs.declared.request.SendOp.{SendOp}
use Rattle.ca_base.specs.declared.request.SendOp.TheVariants as ops
use Rattle.ca_base.specs.declared.step.Reason.{Reason}
use Rattle.ca_base.specs.declared.step.Reason.TheVariants as reasons
use Rattle.ca_base.specs.objects.CompletionQueue.{CompletionQueue}
use Rattle.ca_base.specs.objects.Mailbox.{Mailbox, after_delivery, bytes_lent, after_send}
use Rattle.ca_base.specs.objects.QueuePair.{NoQueue, Present, QueuePair, QueueSlot, srq_of, recv_cq_of, send_cq_of}
use Rattle.ca_base.specs.objects.Region.{grant_of_region, Region}
use Rattle.ca_base.specs.objects.SharedReceives.{SharedReceives, SrqSlot, after_receive_take}
use Rattle.ca_base.specs.objects.Slices.{names_window, slot_of_key}
use Rattle.ca_base.specs.objects.Window.{Binding, Window}
use Rattle.ca_isolation.specs.Groups.{Group, is_of, is_queue_of}
use Rattle.ca_keys.specs.Memory.{is_in}
use Rattle.ca_keys.specs.declared.access.Ask.{Ask}
use Rattle.ca_keys.specs.declared.grant.Grant.{Grant}
use Rattle.ca_keys.specs.declared.names.DomainId.{DomainId}
use Rattle.ca_keys.specs.declared.names.QueueId.{QueueId}
use Rattle.ca_keys.specs.declared.names.Slot.{Slot}
use Rattle.ca_keys.specs.declared.place.Place.{Place}
use Rattle.ca_keys.specs.declared.place.Run.{Run}
use Rattle.ca_law_isolation.proofs.ByteLemmas.{AskIn, EndingIn, GrantIn, InRuns, RegionIn, WritesAt, touches-row}
use Rattle.ca_law_isolation.proofs.RowLemmas.{AreAsksOf, IsRowOf, arrival-of, packet-of, respond-of}
use Rattle.ca_law_isolation.proofs.TableLemmas.{Has, region-key, window-key}
use Rattle.ca_law_isolation.specs.Domains.{IsGrantedThing}
use Rattle.ca_law_parts.proofs.Parts.TouchLemmas.{NamesIn, TouchesIn, touches-all, updated-append, unless-in}
use Rattle.ca_law_parts.proofs.Parts.WriteLemmas.{RowWrites, arrival-writes, invalidate-writes, packet-writes, respond-writes}
use Rattle.ca_law_world.proofs.Sound.WorldLemmas.{around_in, shared_of}
use Rattle.ca_model.specs.declared.answer.Answer.TheVariants as answers
use Rattle.ca_model.specs.declared.answer.Refusal.TheVariants.{NoSuch}
use Rattle.ca_model.specs.declared.event.Event.{Event}
use Rattle.ca_model.specs.declared.event.Event.TheVariants as events
use Rattle.ca_model.specs.declared.mark.Mark.{Mark}
use Rattle.ca_model.specs.declared.mark.Mark.TheVariants as marks
use Rattle.ca_model.specs.declared.verb.Verb.{Verb}
use Rattle.ca_model.specs.declared.verb.Verb.TheVariants as verbs
use Rattle.ca_model.specs.machine.Around.{Around, With_around, With_queue, shared_in, srq_updates, updates_of}
use Rattle.ca_model.specs.machine.Delivery.{Arrive, arrival_row, deliver_plan}
use Rattle.ca_model.specs.machine.HostVerbs.{inject_plan}
use Rattle.ca_model.specs.machine.Plan.{Finish, Look, Plan, Stuck, Update, Write, names_updated, touches, ◌:=◌, unless_refused}
use Rattle.ca_model.specs.machine.Respond.{respond_row}
use Rattle.ca_model.specs.machine.Row.{Effects, Row, Row_plan, region_under, queue_and_marks, unless_none}
use Rattle.ca_model.specs.machine.Sound.{IsQueueOf, IsSoundWorld}
use Rattle.ca_model.specs.machine.Step.{plan, verb_plan}
use Rattle.ca_model.specs.machine.Turns.{Leave_plan, Respond_around, respond_plan, Fire, Packet, Request_around, Timeout_around, With_receives, has_room_for, packet_sent, reaches_peer, request_plan, sent_updates, timeout_plan, wake_plan}
use Rattle.ca_model.specs.machine.VerbAnswers.{Call, Refuse_plan, answer_mark}
use Rattle.ca_model.specs.machine.World.{Mailbox_of, Window_of, World, Region_of, Srq_of, Queue_of}
use Rattle.ca_base.specs.declared.refusals.OpRefusal.{OpRefusal}
use Rattle.ca_base.specs.declared.step.Sent.{Sent}
use Rattle.ca_base.specs.declared.step.Sent.TheVariants.{Silent, Spelt}
use Rattle.ca_keys.specs.declared.key.Key.{Key}
use Rattle.ca_model.specs.machine.LocalOperations.{Finishing, Perform_op, PlacedRegion, With_former, With_named, bind1_changes, bind1_marks, bind1_refusal, bind2_changes, bind2_marks, bind2_refusal, drawn_by, fast_changes, fast_marks, fast_refusal, former_updates, invalidate_row, named_updates, operation_effects, region_slot, window_slot}
use Rattle.ca_model.specs.machine.Numbering.{Numbered}
use Rattle.ca_model.specs.machine.Requester.{Performs, RequestTurn, Sends, Waits, packet_row, turn_of}
use Rattle.ca_model.specs.machine.Timers.{after_timeout, after_wake, wake_refusals}
use Rattle.ca_model.specs.machine.CompletionVerbs.{Poll_of, With_places, poll_plan, receives_after_poll, slot_after_poll, source_of_completion}
use Rattle.ca_law_isolation.proofs.ClosedLemmas.{of-group}

or-true : (b : Bool) → (b || true) ≡ true
or-true true = refl
or-true false = refl

-- the bytes of a valid region of the group are granted to it
region-granted : (g : Group) (w : World) (s : Slot) → Has g s.domain → GrantIn (IsGrantedThing g w) (grant_of_region (w.region s))
region-granted g w s has = by (grant_of_region (w.region s)) refl
  where
    runs : (x : Grant) → grant_of_region (w.region s) ≡ Some x → (rs : List Run)
        → ((p : Place) → list_any (λ r. is_in r p) rs ≡ true → list_any (λ r. is_in r p) x.runs ≡ true) → InRuns (IsGrantedThing g w) rs
    runs x is [] all = record {}
    runs x is (r ∷ rs) all = (
      λ p in_run. record {
        slot = s;
        own = has;
        granted = subst (λ o. option_map_or (λ (y : Grant). list_any (λ r. is_in r p) y.runs) o false ≡ true) (sym is) (all p (first r rs p in_run));
      },
      runs x is rs (λ p in_rest. all p (rest r rs p in_rest)),
    )
      where
        first : (r : Run) (rs : List Run) (p : Place) → is_in r p ≡ true → list_any (λ r. is_in r p) (r ∷ rs) ≡ true
        first r rs p is = subst (λ b. (b || list_any (λ r. is_in r p) rs) ≡ true) (sym is) refl

        rest : (r : Run) (rs : List Run) (p : Place) → list_any (λ r. is_in r p) rs ≡ true → list_any (λ r. is_in r p) (r ∷ rs) ≡ true
        rest r rs p is = subst (λ b. (is_in r p || b) ≡ true) (sym is) (or-true (is_in r p))

    by : (o : Option Grant) → grant_of_region (w.region s) ≡ o → GrantIn (IsGrantedThing g w) o
    by None is = record {}
    by (Some x) is = runs x is x.runs (λ p among. among)

region-in : (g : Group) (w : World) (s : Slot) → Has g s.domain → RegionIn w (IsGrantedThing g w) s
region-in g w s has = record { region = record {}; buffer = region-granted g w s has }

ask-granted : (c : Configuration) (g : Group) (w : World) (ask : Ask) → IsSoundWorld c w → Has g ask.domain → AskIn c w (IsGrantedThing g w) ask
ask-granted c g w ask sound has = record {
  region = λ named. region-in g w slot (region-key c g ask.domain ask.key has named);
  window = λ named. record {};
  under = λ named. by (w.window slot).binding (window-key c g ask.domain ask.key has (asked ask.local named));
}
  where
    slot : Slot
    slot = slot_of_key ask.domain ask.key

    asked : (b : Bool) → (if b then false else names_window c ask.domain ask.key) ≡ true → names_window c ask.domain ask.key ≡ true
    asked true e = absurd (true≢false (sym e))
    asked false e = e

    by : (o : Option Binding) → Has g slot.domain → IfSome o (λ b. RegionIn w (IsGrantedThing g w) (region_under (w.window slot) b))
    by None own = record {}
    by (Some b) own = region-in g w (region_under (w.window slot) b) (subst (λ (x : Slot). Has g x.domain) (sym (sound.things (Window_of slot)).0) own)

asks-granted : (c : Configuration) (g : Group) (w : World) (d : DomainId) (asks : List Ask) → IsSoundWorld c w → Has g d → AreAsksOf d asks → AllByRecursion (AskIn c w (IsGrantedThing g w)) asks
asks-granted c g w d [] sound has all = record {}
asks-granted c g w d (ask ∷ asks) sound has all = (ask-granted c g w ask sound (subst (Has g) (sym all.0) has), asks-granted c g w d asks sound has all.1)

row-granted : (c : Configuration) (g : Group) (w : World) (d : DomainId) (row : Row) (finish : Effects → List Update → List Write → Plan) → IsSoundWorld c w → Has g d → IsRowOf d row → RowWrites row
    → ((e : Effects) (cs : List Update) (ws : List Write) → NamesIn (IsGrantedThing g w) (names_updated cs) → WritesAt (IsGrantedThing g w) ws → TouchesIn w (IsGrantedThing g w) (finish e cs ws))
    → TouchesIn w (IsGrantedThing g w) (Row_plan c row finish)
row-granted c g w d row finish sound has own writes more = touches-row c w (IsGrantedThing g w) row finish asks (ended row.invalidation) (writes (AskIn c w (IsGrantedThing g w)) asks) more
  where
    asks : AllByRecursion (AskIn c w (IsGrantedThing g w)) row.asks
    asks = asks-granted c g w d row.asks sound has own.asks

    under : (i : Invalidation) (o : Option Binding) → IfSome o (λ b. Unit {0})
    under i None = record {}
    under i (Some b) = record {}

    ended : (o : Option Invalidation) → IfSome o (λ i. EndingIn c w (IsGrantedThing g w) i.domain i.key)
    ended None = record {}
    ended (Some i) = record { region = λ named. record {}; window = λ named. record {}; under = λ named. under i (w.window (slot_of_key i.domain i.key)).binding }

-- ---- turns

-- changes of things that are no bytes
abbrev Changes : Group → World → List Update → Type 0
Changes g w cs = NamesIn (IsGrantedThing g w) (names_updated cs)

srq-granted : (g : Group) (w : World) (q : QueuePair) (a : Around) (f : SharedReceives → SharedReceives) → Changes g w (srq_updates q a f)
srq-granted g w q a f = by q.srq a.shared
  where
    updates : Option ℕ → Option SrqSlot → List Update
    updates (Some srq) (Some slot) = (Srq_of (srq_of q srq) := record slot { srq = option_map f slot.srq }) ∷ []
    updates srq slot = []

    by : (o : Option ℕ) (t : Option SrqSlot) → Changes g w (updates o t)
    by None t = record {}
    by (Some srq) None = record {}
    by (Some srq) (Some slot) = (record {}, record {})

turn-granted : (g : Group) (w : World) (q : QueuePair) (a : Around) (e : Effects) (more : List Update) → Changes g w more → Changes g w (updates_of q a e ++ more)
turn-granted g w q a e more rest = (record {}, (record {}, (record {}, updated-append (IsGrantedThing g w) (taken e.takes_shared) more (taken-granted e.takes_shared) rest)))
  where
    taken : Bool → List Update
    taken z = if z then srq_updates q a after_receive_take else []

    taken-granted : (z : Bool) → Changes g w (taken z)
    taken-granted true = srq-granted g w q a after_receive_take
    taken-granted false = record {}

around-granted : (g : Group) (w : World) (q : QueuePair) (k : Around → Plan) → TouchesIn w (IsGrantedThing g w) (k (around_in w q (shared_of w q))) → TouchesIn w (IsGrantedThing g w) (With_around q k)
around-granted g w q k ends = (record {}, (record {}, by q.srq ends))
  where
    plan : Option CompletionQueue → Option CompletionQueue → Option ℕ → Plan
    plan send recv None = k (record { send = send; recv = recv; shared = None })
    plan send recv (Some srq) = Look (Srq_of (srq_of q srq)) (λ shared. k (record { send = send; recv = recv; shared = Some shared }))

    by : (o : Option ℕ) → TouchesIn w (IsGrantedThing g w) (k (around_in w q (option_map (λ srq. w.srq (srq_of q srq)) o)))
        → TouchesIn w (IsGrantedThing g w) (plan (w.cq (send_cq_of q)) (w.cq (recv_cq_of q)) o)
    by None ends = ends
    by (Some srq) ends = (record {}, ends)

-- looking for the queue pair of a name that is of the group
queue-granted : (c : Configuration) (g : Group) (w : World) (name : QueueId) (r : Reason) (k : QueuePair → Plan) → IsSoundWorld c w → is_queue_of g name ≡ true
    → ((q : QueuePair) → Has g q.domain → TouchesIn w (IsGrantedThing g w) (k q)) → TouchesIn w (IsGrantedThing g w) (With_queue c name r k)
queue-granted c g w name r k sound one more = (λ has. (record {}, by (w.queue name) (sound.things (Queue_of name))), λ none. record {})
  where
    plan : QueueSlot → Plan
    plan (NoQueue incarnation timers) = Stuck r
    plan (Present q) = k q

    by : (s : QueueSlot) → IsQueueOf name s → TouchesIn w (IsGrantedThing g w) (plan s)
    by (NoQueue incarnation timers) is = record {}
    by (Present q) is = more q (subst (Has g) (sym is.1) (of-group g name one))

sent-granted : (g : Group) (w : World) (q : QueuePair) (peer : Correspondent) (lot : Lot) (e : Effects)
    → Changes g w (option_map_or (sent_updates q peer (w.mailbox peer.queue) lot) (packet_sent e) [])
sent-granted g w q peer lot e = by e.sent
  where
    m : Mailbox
    m = w.mailbox peer.queue

    packet : Sent → Option Packet
    packet Silent = None
    packet (Spelt request) = Some (record { request = request; bytes = e.spelt })

    reach : (p : Packet) (z : Bool) → Changes g w (if z then (Mailbox_of peer.queue := after_send lot p.bytes m) ∷ [] else [])
    reach p true = (record {}, record {})
    reach p false = record {}

    by : (s : Sent) → Changes g w (option_map_or (sent_updates q peer m lot) (packet s) [])
    by Silent = record {}
    by (Spelt request) = reach (record { request = request; bytes = e.spelt }) (reaches_peer q peer m)

left-granted : (c : Configuration) (g : Group) (w : World) (q : QueuePair) (peer : Correspondent) (lot : Lot) (row : Row) → IsSoundWorld c w → Has g q.domain → IsRowOf q.domain row → RowWrites row
    → TouchesIn w (IsGrantedThing g w) (Row_plan c row (Leave_plan q (around_in w q (shared_of w q)) peer (w.mailbox peer.queue) lot))
left-granted c g w q peer lot row sound has own writes = row-granted c g w q.domain row (Leave_plan q (around_in w q (shared_of w q)) peer (w.mailbox peer.queue) lot) sound has own writes
    (λ e cs ws all at. (
      turn-granted g w q (around_in w q (shared_of w q)) e (cs ++ option_map_or (sent_updates q peer (w.mailbox peer.queue) lot) (packet_sent e) [])
          (updated-append (IsGrantedThing g w) cs (option_map_or (sent_updates q peer (w.mailbox peer.queue) lot) (packet_sent e) []) all (sent-granted g w q peer lot e)),
      at,
    ))

granted-respond : (c : Configuration) (g : Group) (w : World) (name : QueueId) (lot : Lot) → IsSoundWorld c w → is_queue_of g name ≡ true → TouchesIn w (IsGrantedThing g w) (respond_plan c name lot)
granted-respond c g w name lot sound one = queue-granted c g w name reasons.State (λ q. With_around q (λ a. Respond_around c lot q a q.peer)) sound one
    (λ q has. around-granted g w q (λ a. Respond_around c lot q a q.peer) (by q has q.peer))
  where
    by : (q : QueuePair) → Has g q.domain → (peer : Option Correspondent) → TouchesIn w (IsGrantedThing g w) (Respond_around c lot q (around_in w q (shared_of w q)) peer)
    by q has None = search rules
    by q has (Some peer) = (
      record {},
      left-granted c g w q peer lot (respond_row (has_room_for q peer (w.mailbox peer.queue)) q) sound has
          (respond-of q.domain (has_room_for q peer (w.mailbox peer.queue)) q refl) (respond-writes (has_room_for q peer (w.mailbox peer.queue)) q),
    )

-- ---- local operations

named-of : (c : Configuration) (g : Group) (w : World) (d : DomainId) (key : Key) (k : Option PlacedRegion → Plan)
    → ((r : Option PlacedRegion) → TouchesIn w (IsGrantedThing g w) (k r)) → TouchesIn w (IsGrantedThing g w) (With_named c d key k)
named-of c g w d key k more =
    (λ named. (record {}, more (Some (record { slot = slot_of_key d key; region = w.region (slot_of_key d key) }))), λ none. more None)

former-of : (c : Configuration) (g : Group) (w : World) (s : Slot) (k : Option PlacedRegion → Plan)
    → ((r : Option PlacedRegion) → TouchesIn w (IsGrantedThing g w) (k r)) → TouchesIn w (IsGrantedThing g w) (With_former (w.window s) k)
former-of c g w s k more = by (w.window s).binding
  where
    x : Window
    x = w.window s

    plan : Option Binding → Plan
    plan None = k None
    plan (Some b) = Look (Region_of (region_under x b)) (λ region. k (Some (record { slot = region_under x b; region = region })))

    by : (o : Option Binding) → TouchesIn w (IsGrantedThing g w) (plan o)
    by None = more None
    by (Some b) = (record {}, more (Some (record { slot = region_under x b; region = w.region (region_under x b) })))

former-updates : (g : Group) (w : World) (former : Option PlacedRegion) → Changes g w (former_updates former)
former-updates g w None = record {}
former-updates g w (Some f) = (record {}, record {})

named-updates : (g : Group) (w : World) (former named : Option PlacedRegion) → Changes g w (named_updates former named)
named-updates g w former None = record {}
named-updates g w former (Some m) = (record {}, record {})

-- how an operation's plan may go on
abbrev GoesOn : Group → World → Finishing → Type 0
GoesOn g w finish = (e : Effects) (cs : List Update) (ws : List Write) → Changes g w cs → WritesAt (IsGrantedThing g w) ws → TouchesIn w (IsGrantedThing g w) (finish e cs ws)

perform-of : (c : Configuration) (g : Group) (w : World) (q : QueuePair) (m : Numbered) (finish : Finishing) → IsSoundWorld c w → Has g q.domain → GoesOn g w finish
    → (op : SendOp) → TouchesIn w (IsGrantedThing g w) (Perform_op c q m finish op)
perform-of c g w q m finish sound has more (ops.Bind1 window key address count rights) = (
  record {},
  named-of c g w q.domain key (λ named. With_former x (ending named)) (λ named. former-of c g w (window_slot q window) (ending named) (λ former.
      more (effects named) (unless_none (refusal named) (changed named former)) []
      (unless-in (IsGrantedThing g w) (refusal named) (changed named former) (
        record {},
        updated-append (IsGrantedThing g w) (former_updates former) (regions named former (count == 0)) (former-updates g w former) (regions-of named former (count == 0)),
      )) (record {}))),
)
  where
    x : Window
    x = w.window (window_slot q window)

    refusal : Option PlacedRegion → Option OpRefusal
    refusal named = bind1_refusal m key named address count rights x

    regions : Option PlacedRegion → Option PlacedRegion → Bool → List Update
    regions named former z = if z then [] else named_updates former named

    regions-of : (named former : Option PlacedRegion) (z : Bool) → Changes g w (regions named former z)
    regions-of named former true = record {}
    regions-of named former false = named-updates g w former named

    changed : Option PlacedRegion → Option PlacedRegion → List Update
    changed named former = bind1_changes (window_slot q window) (drawn_by m) x former named address count rights

    effects : Option PlacedRegion → Effects
    effects named = operation_effects q m q (bind1_marks q m window named address count rights x) (refusal named)

    ending : Option PlacedRegion → Option PlacedRegion → Plan
    ending named former = finish (effects named) (unless_none (refusal named) (changed named former)) []
perform-of c g w q m finish sound has more (ops.Bind2 window key low address count rights) = (
  record {},
  named-of c g w q.domain key (λ named. With_former x (λ former. ending named)) (λ named. former-of c g w (window_slot q window) (λ former. ending named) (λ former.
      more (effects named) (unless_none (refusal named) (changed named)) []
      (unless-in (IsGrantedThing g w) (refusal named) (changed named) (record {}, named-updates g w None named)) (record {}))),
)
  where
    x : Window
    x = w.window (window_slot q window)

    refusal : Option PlacedRegion → Option OpRefusal
    refusal named = bind2_refusal key named address count rights x

    changed : Option PlacedRegion → List Update
    changed named = bind2_changes (window_slot q window) low q.queue x named address count rights

    effects : Option PlacedRegion → Effects
    effects named = operation_effects q m (record q { windows = suc q.windows }) (bind2_marks q window low named address count rights) (refusal named)

    ending : Option PlacedRegion → Plan
    ending named = finish (effects named) (unless_none (refusal named) (changed named)) []
perform-of c g w q m finish sound has more (ops.FastReg region low buffer address count rights pages) = (
  record {},
  more (operation_effects q m q (fast_marks q region low buffer address count rights pages) refusal) (unless_none refusal (fast_changes q region low buffer address count rights pages r)) []
      (unless-in (IsGrantedThing g w) refusal (fast_changes q region low buffer address count rights pages r) (record {}, record {})) (record {}),
)
  where
    r : Region
    r = w.region (region_slot q region)

    refusal : Option OpRefusal
    refusal = fast_refusal c q region buffer address count rights pages r
perform-of c g w q m finish sound has more (ops.LocalInv key) = row-granted c g w q.domain (invalidate_row q m key) finish sound has (record { asks = record {}; ended = refl }) (invalidate-writes q m key) more
perform-of c g w q m finish sound has more (ops.Send list) = more (queue_and_marks q []) [] [] (record {}) (record {})
perform-of c g w q m finish sound has more (ops.SendImm imm list) = more (queue_and_marks q []) [] [] (record {}) (record {})
perform-of c g w q m finish sound has more (ops.SendInv key list) = more (queue_and_marks q []) [] [] (record {}) (record {})
perform-of c g w q m finish sound has more (ops.Write address key list) = more (queue_and_marks q []) [] [] (record {}) (record {})
perform-of c g w q m finish sound has more (ops.WriteImm address key imm list) = more (queue_and_marks q []) [] [] (record {}) (record {})
perform-of c g w q m finish sound has more (ops.Read address key list) = more (queue_and_marks q []) [] [] (record {}) (record {})
perform-of c g w q m finish sound has more (ops.CmpSwap address key compare swap list) = more (queue_and_marks q []) [] [] (record {}) (record {})
perform-of c g w q m finish sound has more (ops.FetchAdd address key add list) = more (queue_and_marks q []) [] [] (record {}) (record {})

granted-request : (c : Configuration) (g : Group) (w : World) (name : QueueId) (lot : Lot) → IsSoundWorld c w → is_queue_of g name ≡ true → TouchesIn w (IsGrantedThing g w) (request_plan c name lot)
granted-request c g w name lot sound one = queue-granted c g w name reasons.State (λ q. With_around q (λ a. Request_around c lot q a q.peer (turn_of q))) sound one
    (λ q has. around-granted g w q (λ a. Request_around c lot q a q.peer (turn_of q)) (by q has q.peer (turn_of q)))
  where
    by : (q : QueuePair) → Has g q.domain → (peer : Option Correspondent) (turn : RequestTurn) → TouchesIn w (IsGrantedThing g w) (Request_around c lot q (around_in w q (shared_of w q)) peer turn)
    by q has peer (Waits reason) = record {}
    by q has peer (Performs m) = perform-of c g w q m (λ e changes writes. Finish (updates_of q (around_in w q (shared_of w q)) e ++ changes) writes e.marks) sound has
        (λ e cs ws rest at. (turn-granted g w q (around_in w q (shared_of w q)) e cs rest, at)) m.request.op
    by q has None (Sends m) = record {}
    by q has (Some peer) (Sends m) = (
      record {},
      left-granted c g w q peer lot (packet_row q (has_room_for q peer (w.mailbox peer.queue)) m) sound has
          (packet-of q.domain q (has_room_for q peer (w.mailbox peer.queue)) m refl) (packet-writes q (has_room_for q peer (w.mailbox peer.queue)) m),
    )

granted-timeout : (c : Configuration) (g : Group) (w : World) (name : QueueId) (hasten : Bool) → IsSoundWorld c w → is_queue_of g name ≡ true → TouchesIn w (IsGrantedThing g w) (timeout_plan c name hasten)
granted-timeout c g w name hasten sound one =
    queue-granted c g w name reasons.State (λ q. Look (Mailbox_of name) (λ own. With_around q (λ a. Timeout_around hasten q own a q.peer))) sound one
    (λ q has. (record {}, around-granted g w q (λ a. Timeout_around hasten q (w.mailbox name) a q.peer) (by q q.peer)))
  where
    changed : (q : QueuePair) (silent : Bool) → Changes g w (updates_of q (around_in w q (shared_of w q)) (after_timeout silent q))
    changed q silent = subst (Changes g w) (append-nil (updates_of q (around_in w q (shared_of w q)) (after_timeout silent q)))
        (turn-granted g w q (around_in w q (shared_of w q)) (after_timeout silent q) [] (record {}))

    fire : (q : QueuePair) (silent : Bool) → TouchesIn w (IsGrantedThing g w) (Fire hasten q (around_in w q (shared_of w q)) silent)
    fire q silent = (λ is. record {}, λ is. (λ is. record {}, λ is. (λ is. record {}, λ is. (changed q silent, record {}))))

    by : (q : QueuePair) (peer : Option Correspondent) → TouchesIn w (IsGrantedThing g w) (Timeout_around hasten q (w.mailbox name) (around_in w q (shared_of w q)) peer)
    by q None = search rules
    by q (Some peer) = (record {}, (record {}, fire q _))

granted-wake : (c : Configuration) (g : Group) (w : World) (name : QueueId) → IsSoundWorld c w → is_queue_of g name ≡ true → TouchesIn w (IsGrantedThing g w) (wake_plan c name)
granted-wake c g w name sound one = queue-granted c g w name reasons.State (λ q. plan q q.peer) sound one (λ q has. by q q.peer)
  where
    wakes : QueuePair → Bool → Plan
    wakes q empty = unless_refused (wake_refusals empty q) Stuck (Finish ((Queue_of q.queue := Present (after_wake q).queue) ∷ []) [] (after_wake q).marks)

    plan : QueuePair → Option Correspondent → Plan
    plan q None = unless_refused (wake_refusals false q) Stuck (Stuck reasons.Empty)
    plan q (Some peer) = Look (Queue_of peer.queue) (λ slot. Look (Mailbox_of peer.queue) (λ m.
        With_receives slot (λ empty. wakes q (reaches_peer q peer m && empty))))

    wake : (q : QueuePair) (empty : Bool) → TouchesIn w (IsGrantedThing g w) (wakes q empty)
    wake q empty = (λ is. record {}, λ is. (λ is. record {}, λ is. (λ is. record {}, λ is. ((record {}, record {}), record {}))))

    receives : (slot : QueueSlot) (k : Bool → Plan) → ((b : Bool) → TouchesIn w (IsGrantedThing g w) (k b)) → TouchesIn w (IsGrantedThing g w) (With_receives slot k)
    receives slot k more = search rules

    by : (q : QueuePair) (peer : Option Correspondent) → TouchesIn w (IsGrantedThing g w) (plan q peer)
    by q None = search rules
    by q (Some peer) = (record {}, (record {}, receives (w.queue peer.queue) (λ empty. wakes q (reaches_peer q peer (w.mailbox peer.queue) && empty)) (λ empty. wake q _)))

-- ---- arrivals

arrive-granted : (c : Configuration) (g : Group) (w : World) (q : QueuePair) (bytes : List ℕ) (envelope : Option ℕ) (before : List Update) (ms : List Mark) → IsSoundWorld c w → Has g q.domain
    → Changes g w before → TouchesIn w (IsGrantedThing g w) (Arrive c q bytes envelope before ms)
arrive-granted c g w q bytes envelope before ms sound has rest =
    around-granted g w q (λ a. Row_plan c (arrival_row bytes envelope (shared_in a) q) (finish a))
    (row-granted c g w q.domain (arrival_row bytes envelope (shared_in a) q) (finish a) sound has (arrival-of q.domain bytes envelope (shared_in a) q refl) (arrival-writes bytes envelope (shared_in a) q)
    (λ e more ws all at. (updated-append (IsGrantedThing g w) before (updates_of q a e ++ more) rest (turn-granted g w q a e more all), at)))
  where
    a : Around
    a = around_in w q (shared_of w q)

    finish : Around → Effects → List Update → List Write → Plan
    finish a e more writes = Finish (before ++ (updates_of q a e ++ more)) writes (ms ++ marks.Arrived q.queue envelope ∷ e.marks)

granted-deliver : (c : Configuration) (g : Group) (w : World) (name : QueueId) (index : ℕ) → IsSoundWorld c w → is_queue_of g name ≡ true → TouchesIn w (IsGrantedThing g w) (deliver_plan c name index)
granted-deliver c g w name index sound one = (λ has. (record {}, lent (bytes_lent index (w.mailbox name))), λ none. record {})
  where
    m : Mailbox
    m = w.mailbox name

    at : List ℕ → QueueSlot → Plan
    at bytes (NoQueue incarnation timers) = Stuck reasons.NotKept
    at bytes (Present q) = Arrive c q bytes (Some index) ((Mailbox_of name := after_delivery index m) ∷ []) []

    plan : Option (List ℕ) → Plan
    plan None = Stuck reasons.NotKept
    plan (Some bytes) = Look (Queue_of name) (at bytes)

    there : (bytes : List ℕ) (s : QueueSlot) → IsQueueOf name s → TouchesIn w (IsGrantedThing g w) (at bytes s)
    there bytes (NoQueue incarnation timers) is = record {}
    there bytes (Present q) is = arrive-granted c g w q bytes (Some index) ((Mailbox_of name := after_delivery index m) ∷ []) [] sound (subst (Has g) (sym is.1) (of-group g name one)) (record {}, record {})

    lent : (o : Option (List ℕ)) → TouchesIn w (IsGrantedThing g w) (plan o)
    lent None = record {}
    lent (Some bytes) = (record {}, there bytes (w.queue name) (sound.things (Queue_of name)))

granted-inject : (c : Configuration) (g : Group) (w : World) (call : Call) (name : QueueId) (bytes : List ℕ) → IsSoundWorld c w → is_queue_of g name ≡ true → TouchesIn w (IsGrantedThing g w) (inject_plan c call name bytes)
granted-inject c g w call name bytes sound one = (record {}, by (w.queue name) (sound.things (Queue_of name)))
  where
    plan : QueueSlot → Plan
    plan (NoQueue incarnation timers) = Refuse_plan call NoSuch
    plan (Present p) = Arrive c p bytes None [] (answer_mark call answers.Fine ∷ [])

    by : (s : QueueSlot) → IsQueueOf name s → TouchesIn w (IsGrantedThing g w) (plan s)
    by (NoQueue incarnation timers) is = (record {}, record {})
    by (Present p) is = arrive-granted c g w p bytes None [] (answer_mark call answers.Fine ∷ []) sound (subst (Has g) (sym is.1) (of-group g name one)) (record {})

-- ---- verbs

places-granted : (g : Group) (w : World) (s : Slot) (cq : CompletionQueue) (xs ys : List Completion) (k : List Update → Plan) → ((us : List Update) → Changes g w us → TouchesIn w (IsGrantedThing g w) (k us))
    → TouchesIn w (IsGrantedThing g w) (With_places s cq xs ys k)
places-granted g w s cq xs [] k more = more [] (record {})
places-granted g w s cq xs (y ∷ ys) k more = by (source_of_completion cq y) (λ u one. places-granted g w s cq xs ys (λ us. k (u ∷ us)) (λ us rest. more (u ∷ us) (one, rest)))
  where
    shared : ℕ → Slot
    shared srq = record { domain = s.domain; slot = srq }

    next : Update → Plan
    next u = With_places s cq xs ys (λ us. k (u ∷ us))

    plan : Option ℕ → Plan
    plan None = Look (Queue_of y.queue) (λ slot. next (Queue_of y.queue := slot_after_poll y.queue xs slot))
    plan (Some srq) = Look (Srq_of (shared srq)) (λ slot. next (Srq_of (shared srq) := record slot { srq = option_map (receives_after_poll cq srq xs) slot.srq }))

    by : (o : Option ℕ) → ((u : Update) → IsGrantedThing g w u.name → TouchesIn w (IsGrantedThing g w) (next u)) → TouchesIn w (IsGrantedThing g w) (plan o)
    by None on = (record {}, on (Queue_of y.queue := slot_after_poll y.queue xs (w.queue y.queue)) (record {}))
    by (Some srq) on = (record {}, on (Srq_of (shared srq) := record (w.srq (shared srq)) { srq = option_map (receives_after_poll cq srq xs) (w.srq (shared srq)).srq }) (record {}))

granted-poll : (g : Group) (w : World) (call : Call) (s : Slot) (k least : ℕ) → TouchesIn w (IsGrantedThing g w) (poll_plan call s k least)
granted-poll g w call s k least = (record {}, by (w.cq s))
  where
    by : (o : Option CompletionQueue) → TouchesIn w (IsGrantedThing g w) (Poll_of call s k least o)
    by None = (record {}, record {})
    by (Some cq) =
        (λ is. (record {}, record {}), λ range. (λ few. record {}, λ enough. places-granted g w s cq (take k cq.waiting) (take k cq.waiting) _ (λ us one. ((record {}, one), record {}))))

verb-granted : (c : Configuration) (g : Group) (w : World) (call : Call) (verb : Verb) → IsSoundWorld c w → is_of g (events.Verb 0 verb) ≡ true → TouchesIn w (IsGrantedThing g w) (verb_plan c call verb)
verb-granted c g w call (verbs.AllocPd domain) sound has = search rules depth 14
verb-granted c g w call (verbs.DeallocPd domain) sound has = search rules depth 14
verb-granted c g w call (verbs.RegMr slot buffer offset count rights) sound has = search rules depth 14
verb-granted c g w call (verbs.AllocMr slot pages) sound has = search rules depth 14
verb-granted c g w call (verbs.DeregMr slot) sound has = search rules depth 14
verb-granted c g w call (verbs.AllocMw slot kind) sound has = search rules depth 14
verb-granted c g w call (verbs.DeallocMw slot) sound has = search rules depth 14
verb-granted c g w call (verbs.CreateCq slot capacity) sound has = search rules depth 14
verb-granted c g w call (verbs.DestroyCq slot) sound has = search rules depth 14
verb-granted c g w call (verbs.CreateSrq slot depth) sound has = search rules depth 14
verb-granted c g w call (verbs.DestroySrq slot) sound has = search rules depth 14
verb-granted c g w call (verbs.CreateQp slot send_cq recv_cq send_depth recv_depth srq) sound has = search rules depth 14
verb-granted c g w call (verbs.ModifyQp slot change) sound has = search rules depth 14
verb-granted c g w call (verbs.QueryQp slot) sound has = search rules depth 14
verb-granted c g w call (verbs.DestroyQp slot) sound has = search rules depth 14
verb-granted c g w call (verbs.PostSend slot request) sound has = search rules depth 14
verb-granted c g w call (verbs.PostRecv slot request) sound has = search rules depth 14
verb-granted c g w call (verbs.PostSrq slot request) sound has = search rules depth 14
verb-granted c g w call (verbs.Poll slot n least) sound has = granted-poll g w call slot n least
verb-granted c g w call (verbs.Store adapter buffer offset bytes) sound has = absurd (true≢false (sym has))
verb-granted c g w call (verbs.Load adapter buffer offset count) sound has = absurd (true≢false (sym has))
verb-granted c g w call (verbs.Inject queue bytes) sound has = granted-inject c g w call queue bytes sound has

pub touches-granted : (c : Configuration) (w : World) (event : Event) (g : Group) → IsSoundWorld c w → is_of g event ≡ true → AllByRecursion (IsGrantedThing g w) (touches w (plan c event))
touches-granted c w (events.Verb by verb) g sound has = touches-all w (IsGrantedThing g w) (plan c (events.Verb by verb))
    (λ named. verb-granted c g w (record { by = by; verb = verb }) verb sound has, λ none. (record {}, record {}))
touches-granted c w (events.Request queue lot) g sound has = touches-all w (IsGrantedThing g w) (request_plan c queue lot) (granted-request c g w queue lot sound has)
touches-granted c w (events.Deliver queue index) g sound has = touches-all w (IsGrantedThing g w) (deliver_plan c queue index) (granted-deliver c g w queue index sound has)
touches-granted c w (events.Respond queue lot) g sound has = touches-all w (IsGrantedThing g w) (respond_plan c queue lot) (granted-respond c g w queue lot sound has)
touches-granted c w (events.Timeout queue hasten) g sound has = touches-all w (IsGrantedThing g w) (timeout_plan c queue hasten) (granted-timeout c g w queue hasten sound has)
touches-granted c w (events.RnrWake queue) g sound has = touches-all w (IsGrantedThing g w) (wake_plan c queue) (granted-wake c g w queue sound has)
