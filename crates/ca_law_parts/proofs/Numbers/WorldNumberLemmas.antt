-- How plans end in a world after so many events: the turns of an engine, and a packet that arrives.
use Rattle.std.proofs.Common.{◌≡◌, ℕ, suc, ◌+◌, ◌-◌, ◌≤◌, arith, Bool, true, false, List, [], ◌∷◌, ◌++◌, Option, None, Some, IfSome, ◌==◌, if◌then◌else◌, subst, refl}
use Rattle.std.proofs.lemmas.List.{append-nil}
use Rattle.std.specs.List.{AllByRecursion}
use Rattle.std.specs.Option.{option_map, option_map_or}
use Rattle.ca_base.specs.Configuration.{Configuration}
use Rattle.ca_base.specs.Sight.{Invalidation}
use Rattle.ca_base.specs.declared.correspondent.Correspondent.{Correspondent}
use Rattle.ca_base.specs.declared.denied_ask.DeniedAsk.{DeniedAsk}
use Rattle.ca_base.specs.declared.limits.TheConstants.{KEPT_ENVELOPES}
use Rattle.ca_base.specs.declared.lot.Lot.{Lot}
use Rattle.ca_base.specs.declared.mail_envelope.MailEnvelope.{MailEnvelope}
use Rattle.ca_base.specs.declared.refusals.OpRefusal.{OpRefusal}
use Rattle.ca_base.specs.declared.request.SendOp.{SendOp}
use Rattle.ca_base.specs.declared.step.Sent.{Sent}
use Rattle.ca_base.specs.declared.step.Sent.TheVariants.{Silent, Spelt}
use Rattle.ca_base.specs.objects.LocalRequest.{window_refusal}
use Rattle.ca_base.specs.objects.Mailbox.{Mailbox, after_delivery, after_send, later_than, with_delivery}
use Rattle.ca_base.specs.objects.QueuePair.{QueuePair, QueueSlot, NoQueue, Present, srq_of}
use Rattle.ca_base.specs.objects.Region.{Region, with_window_bound, with_window_unbound}
use Rattle.ca_base.specs.objects.SharedReceives.{SharedReceives, SrqSlot, after_receive_take}
use Rattle.ca_base.specs.objects.Slices.{slot_of_key}
use Rattle.ca_base.specs.objects.Window.{Binding, Window, without_binding}
use Rattle.ca_keys.specs.Equal.{slot_eq}
use Rattle.ca_keys.specs.Refusals.{first_of}
use Rattle.ca_keys.specs.declared.grant.Grant.{Grant}
use Rattle.ca_keys.specs.declared.key.Key.{Key}
use Rattle.ca_keys.specs.declared.names.DomainId.{DomainId}
use Rattle.ca_keys.specs.declared.names.QueueId.{QueueId}
use Rattle.ca_keys.specs.declared.names.Slot.{Slot}
use Rattle.ca_keys.specs.declared.rights.Rights.{Rights}
use Rattle.ca_model.specs.declared.answer.Answer.TheVariants as answers
use Rattle.ca_model.specs.declared.mark.Mark.{Mark}
use Rattle.ca_model.specs.declared.mark.Mark.TheVariants as marks
use Rattle.ca_model.specs.machine.Around.{Around, shared_in, srq_updates, updates_of}
use Rattle.ca_model.specs.machine.Delivery.{Arrive, arrival_row, deliver_plan}
use Rattle.ca_model.specs.machine.HostVerbs.{inject_plan}
use Rattle.ca_model.specs.machine.Invariants.{IsQueue, is_sending}
use Rattle.ca_model.specs.machine.LocalOperations.{Bind1_plan, Bind2_plan, Fast_plan, Finishing, Perform_op, PlacedRegion, With_former, With_named, bind1_changes, bind1_marks, bind1_refusal, bind2_changes, bind2_marks, bind2_refusal, drawn_by, fast_changes, fast_marks, fast_refusal, former_updates, invalidate_row, named_updates, operation_effects, region_slot, window_slot}
use Rattle.ca_model.specs.machine.Numbering.{Numbered}
use Rattle.ca_model.specs.machine.Plan.{Plan, Look, Finish, Update, ◌:=◌, Write}
use Rattle.ca_model.specs.machine.Requester.{Sends, next_request, packet_row, turn_of, turn_refusals}
use Rattle.ca_model.specs.machine.Respond.{respond_row}
use Rattle.ca_model.specs.machine.Row.{Effects, Ending, NotPossible, Does, End_plan, Row, Row_plan, With_bytes, With_invalidation, first_denied_by, queue_and_marks, region_under, unless_none}
use Rattle.ca_model.specs.machine.Sound.{IsSoundWorld}
use Rattle.ca_model.specs.machine.Timers.{after_timeout, after_wake}
use Rattle.ca_model.specs.machine.Turns.{Leave_plan, Packet, has_room_for, packet_sent, reaches_peer, request_plan, respond_plan, sent_updates, timeout_plan, wake_plan}
use Rattle.ca_model.specs.machine.VerbAnswers.{Call, answer_mark}
use Rattle.ca_model.specs.machine.World.{World, Name, Domain_of, Region_of, Window_of, Cq_of, Srq_of, Queue_of, Mailbox_of, Byte_at, Thing}
use Rattle.ca_law_parts.specs.Raised.{AreNumbersWithin, IsMailboxWithin, IsSharedWithin, IsSlotWithin, IsThingWithin, IsWorldWithin, psn_bound}
use Rattle.ca_law_parts.proofs.Numbers.NumberLemmas.{raised}
use Rattle.ca_law_parts.proofs.Numbers.RequesterNumberLemmas.{IsRaised, more-within, operation-raised, packet-raised, timeout-raised, wake-raised}
use Rattle.ca_law_parts.proofs.Numbers.ResponderNumberLemmas.{arrival-raised, invalidate-raised, respond-raised}
use Rattle.ca_law_world.proofs.Sound.PlanWalks.{walk-deliver, walk-inject, walk-perform, walk-request, walk-respond, walk-timeout, walk-wake}
use Rattle.ca_law_world.proofs.Sound.SettledLemmas.{all-map}
use Rattle.ca_law_world.proofs.Sound.TurnLemmas.{packet-good, sending-parts, sends-parts}
use Rattle.ca_law_world.proofs.Sound.PollLemmas.{all-taken}
use Rattle.ca_law_world.proofs.Sound.ResponseLemmas.{IsGoodEnding, IsGoodRow}
use Rattle.ca_law_world.proofs.Sound.WorldLemmas.{EndingDoes, EndsIn, IsThere, RowDoes, around_in, ends-around, ends-bytes, ends-grants, ends-writes, shared_of}

-- changes that put things within a count of events
abbrev pub AllWithin : ℕ → List Update → Type 0
AllWithin n [] = Unit {0}
AllWithin n (x ∷ xs) = IsThingWithin n x.name x.thing × AllWithin n xs

pub within-append : (n : ℕ) (xs ys : List Update) → AllWithin n xs → AllWithin n ys → AllWithin n (xs ++ ys)
within-append n [] ys one other = other
within-append n (x ∷ xs) ys one other = (one.0, within-append n xs ys one.1 other)

pub deliveries-within : (m n : ℕ) (es : List MailEnvelope) → m ≤ n → AllByRecursion (λ e. e.delivered ≤ m) es → AllByRecursion (λ e. e.delivered ≤ n) es
deliveries-within m n es le all = all-map _ _ (λ e few. omega (arith, few, le)) es all

pub mailbox-later : (n : ℕ) (m : Mailbox) → IsMailboxWithin n m → IsMailboxWithin (suc n) m
mailbox-later n m within = (omega (arith, within.0), deliveries-within n (suc n) m.envelopes (omega arith) within.1)

pub shared-later : (n : ℕ) (s : SrqSlot) → IsSharedWithin n s → IsSharedWithin (suc n) s
shared-later n s within = (omega (arith, within.0), by s.srq within.1)
  where
    by : (o : Option SharedReceives) → IfSome o (λ r. r.next ≤ n) → IfSome o (λ r. r.next ≤ suc n)
    by None few = record {}
    by (Some r) few = omega (arith, few)

pub slot-later : (n : ℕ) (s : QueueSlot) → IsSlotWithin n s → IsSlotWithin (suc n) s
slot-later n (NoQueue incarnation timers) within = (omega (arith, within.0), omega (arith, within.1))
slot-later n (Present q) within = raised (psn_bound n) (psn_bound (suc n)) n (suc n) q (omega arith) (omega arith) within

-- what is within a count of events is within the next one
pub thing-later : (n : ℕ) (x : Name) (v : Thing x) → IsThingWithin n x v → IsThingWithin (suc n) x v
thing-later n (Domain_of d) v within = omega (arith, within)
thing-later n (Region_of s) v within = omega (arith, within)
thing-later n (Window_of s) v within = record {}
thing-later n (Cq_of s) v within = record {}
thing-later n (Srq_of s) v within = shared-later n v within
thing-later n (Queue_of q) v within = slot-later n v within
thing-later n (Mailbox_of q) v within = mailbox-later n v within
thing-later n (Byte_at p) v within = record {}

-- the queue pair that stands in a world within a count of events
pub queue-numbers : (n : ℕ) (w : World) (q : QueuePair) → IsWorldWithin n w → IsThere w q → AreNumbersWithin (psn_bound n) n q
queue-numbers n w q within there = subst (λ s. IsSlotWithin n s) there.present (within (Queue_of q.queue))

-- the numbers after one event, at its bound
pub raised-numbers : (n : ℕ) (q : QueuePair) → AreNumbersWithin (psn_bound n + 4096) (suc n) q → IsSlotWithin (suc n) (Present q)
raised-numbers n q w = raised (psn_bound n + 4096) (psn_bound (suc n)) (suc n) (suc n) q (omega arith) (omega arith) w

-- the shared receive queue of a queue pair in a world
abbrev pub IsShareWithin : ℕ → Option SrqSlot → Type 0
IsShareWithin n o = IfSome o (IsSharedWithin n)

pub share-within : (n : ℕ) (w : World) (q : QueuePair) → IsWorldWithin n w → IsShareWithin n (shared_of w q)
share-within n w q within = by q.srq
  where
    by : (o : Option ℕ) → IsShareWithin n (option_map (λ srq. w.srq (srq_of q srq)) o)
    by None = record {}
    by (Some srq) = within (Srq_of (srq_of q srq))

-- a shared receive queue to which nothing is posted
pub srq-within : (n : ℕ) (q : QueuePair) (a : Around) (f : SharedReceives → SharedReceives) → ((s : SharedReceives) → (f s).next ≡ s.next) → IsShareWithin n a.shared
    → AllWithin (suc n) (srq_updates q a f)
srq-within n q a f same share = by q.srq a.shared share
  where
    updates : Option ℕ → Option SrqSlot → List Update
    updates (Some srq) (Some slot) = (Srq_of (srq_of q srq) := record slot { srq = option_map f slot.srq }) ∷ []
    updates srq slot = []

    mapped : (o : Option SharedReceives) → IfSome o (λ r. r.next ≤ n) → IfSome (option_map f o) (λ r. r.next ≤ suc n)
    mapped None few = record {}
    mapped (Some r) few = omega (arith, few, same r)

    by : (o : Option ℕ) (t : Option SrqSlot) → IsShareWithin n t → AllWithin (suc n) (updates o t)
    by None t share = record {}
    by (Some srq) None share = record {}
    by (Some srq) (Some slot) share = ((omega (arith, share.0), mapped slot.srq share.1), record {})

-- what a turn's effects change
pub turn-within : (n : ℕ) (w : World) (q : QueuePair) (e : Effects) (more : List Update) → IsWorldWithin n w → IsRaised (psn_bound n) n e → AllWithin (suc n) more
    → AllWithin (suc n) (updates_of q (around_in w q (shared_of w q)) e ++ more)
turn-within n w q e more within effects rest =
    (raised-numbers n e.queue effects, (record {}, (record {}, within-append (suc n) (taken e.takes_shared) more (taken-within e.takes_shared) rest)))
  where
    a : Around
    a = around_in w q (shared_of w q)

    taken : Bool → List Update
    taken z = if z then srq_updates q a after_receive_take else []

    taken-within : (z : Bool) → AllWithin (suc n) (taken z)
    taken-within true = srq-within n q a after_receive_take (λ s. refl) (share-within n w q within)
    taken-within false = record {}

-- what the end of a key changes
ends-key-within : (c : Configuration) (n : ℕ) (w : World) (P : List Update → Type 0) (i : Option Invalidation) (k : Option OpRefusal → List Update → Plan) → IsWorldWithin n w
    → ((r : Option OpRefusal) (cs : List Update) → AllWithin (suc n) cs → EndsIn w P (k r cs)) → EndsIn w P (With_invalidation c i k)
ends-key-within c n w P None k within more = more None [] (record {})
ends-key-within c n w P (Some i) k within more = (
  λ named. more _ _ (omega (arith, within (Region_of slot)), record {}),
  λ none. (λ named. by (w.window slot).binding, λ none. more _ [] (record {})),
)
  where
    slot : Slot
    slot = slot_of_key i.domain i.key

    plan : Option Binding → Plan
    plan None = k (window_refusal i.key i.queue (w.window slot)) []
    plan (Some b) = Look (Region_of (region_under (w.window slot) b)) (λ region.
        k (window_refusal i.key i.queue (w.window slot))
        ((Window_of slot := without_binding (w.window slot)) ∷ (Region_of (region_under (w.window slot) b) := with_window_unbound region) ∷ []))

    by : (o : Option Binding) → EndsIn w P (plan o)
    by None = more _ [] (record {})
    by (Some b) = more _ _ (record {}, (omega (arith, within (Region_of (region_under (w.window slot) b))), record {}))

unless-within : (n : ℕ) (r : Option OpRefusal) (cs : List Update) → AllWithin n cs → AllWithin n (unless_none r cs)
unless-within n None cs within = within
unless-within n (Some r) cs within = record {}

-- a row's plan ends as its endings do, with what the end of its key changes
pub ends-row-within : (c : Configuration) (n : ℕ) (w : World) (P : List Update → Type 0) (E : Effects → Type 0) (row : Row) (finish : Effects → List Update → List Write → Plan) → IsWorldWithin n w
    → RowDoes E row → ((e : Effects) (cs : List Update) (ws : List Write) → E e → AllWithin (suc n) cs → EndsIn w P (finish e cs ws)) → EndsIn w P (Row_plan c row finish)
ends-row-within c n w P E row finish within does more =
    ends-grants c w P row.asks _ (λ gs. by gs (first_denied_by row.asks gs))
  where
    ending : (cs : List Update) (e : Ending) → AllWithin (suc n) cs → EndingDoes E e → EndsIn w P (End_plan c finish cs e)
    ending cs (NotPossible reason) few does = record {}
    ending cs (Does e) few does = ends-writes c w P e.writes (λ writes. finish e cs writes) (λ ws. more e cs ws does few)

    plan : List (Option Grant) → Option DeniedAsk → Plan
    plan gs (Some d) = End_plan c finish [] (row.denied d)
    plan gs None = With_bytes row.asks gs (λ bytes. With_invalidation c row.invalidation (λ refusal cs.
        End_plan c finish (unless_none refusal cs) (row.allowed bytes refusal)))

    by : (gs : List (Option Grant)) (d : Option DeniedAsk) → EndsIn w P (plan gs d)
    by gs (Some d) = ending [] (row.denied d) (record {}) (does.denied d)
    by gs None = ends-bytes w P row.asks gs (λ bytes. With_invalidation c row.invalidation (λ refusal cs. End_plan c finish (unless_none refusal cs) (row.allowed bytes refusal)))
        (λ bytes. ends-key-within c n w P row.invalidation (λ refusal cs. End_plan c finish (unless_none refusal cs) (row.allowed bytes refusal)) within
        (λ refusal cs few. ending (unless_none refusal cs) (row.allowed bytes refusal) (unless-within (suc n) refusal cs few) (does.allowed bytes refusal)))

-- an envelope more, and one delivery more
sent-mailbox-within : (n : ℕ) (lot : Lot) (bytes : List ℕ) (m : Mailbox) → IsMailboxWithin n m → IsMailboxWithin (suc n) (after_send lot bytes m)
sent-mailbox-within n lot bytes m within = (
  omega (arith, within.0),
  all-taken (λ e. e.delivered ≤ suc n) KEPT_ENVELOPES (record { lot = lot; bytes = bytes; delivered = 0 } ∷ m.envelopes) (omega arith, (mailbox-later n m within).1),
)

delivery-within : (n k : ℕ) (es : List MailEnvelope) → AllByRecursion (λ e. e.delivered ≤ n) es → AllByRecursion (λ e. e.delivered ≤ suc n) (with_delivery k es)
delivery-within n k [] all = record {}
delivery-within n k (e ∷ es) all = by (k == 0) (delivery-within n (k - 1) es all.1)
  where
    by : (z : Bool) → AllByRecursion (λ e. e.delivered ≤ suc n) (with_delivery (k - 1) es) → AllByRecursion (λ e. e.delivered ≤ suc n) (if z then record e { delivered = suc e.delivered } ∷ es else e ∷ with_delivery (k - 1) es)
    by true rest = (omega (arith, all.0), deliveries-within n (suc n) es (omega arith) all.1)
    by false rest = (omega (arith, all.0), rest)

delivered-within : (n index : ℕ) (m : Mailbox) → IsMailboxWithin n m → IsMailboxWithin (suc n) (after_delivery index m)
delivered-within n index m within = (omega (arith, within.0), delivery-within n (later_than index m) m.envelopes within.1)

sent-within : (n : ℕ) (q : QueuePair) (peer : Correspondent) (m : Mailbox) (lot : Lot) (e : Effects) → IsMailboxWithin n m
    → AllWithin (suc n) (option_map_or (sent_updates q peer m lot) (packet_sent e) [])
sent-within n q peer m lot e within = by e.sent
  where
    packet : Sent → Option Packet
    packet Silent = None
    packet (Spelt request) = Some (record { request = request; bytes = e.spelt })

    reach : (p : Packet) (z : Bool) → AllWithin (suc n) (if z then (Mailbox_of peer.queue := after_send lot p.bytes m) ∷ [] else [])
    reach p true = (sent-mailbox-within n lot p.bytes m within, record {})
    reach p false = record {}

    by : (s : Sent) → AllWithin (suc n) (option_map_or (sent_updates q peer m lot) (packet s) [])
    by Silent = record {}
    by (Spelt request) = reach (record { request = request; bytes = e.spelt }) (reaches_peer q peer m)

left-within : (c : Configuration) (n : ℕ) (w : World) (q : QueuePair) (peer : Correspondent) (lot : Lot) (row : Row) → IsWorldWithin n w → RowDoes (IsRaised (psn_bound n) n) row
    → EndsIn w (AllWithin (suc n)) (Row_plan c row (Leave_plan q (around_in w q (shared_of w q)) peer (w.mailbox peer.queue) lot))
left-within c n w q peer lot row within does =
    ends-row-within c n w (AllWithin (suc n)) (IsRaised (psn_bound n) n) row (Leave_plan q (around_in w q (shared_of w q)) peer (w.mailbox peer.queue) lot) within does
    (λ e cs ws effects few. turn-within n w q e (cs ++ option_map_or (sent_updates q peer (w.mailbox peer.queue) lot) (packet_sent e) []) within effects
    (within-append (suc n) cs (option_map_or (sent_updates q peer (w.mailbox peer.queue) lot) (packet_sent e) []) few
    (sent-within n q peer (w.mailbox peer.queue) lot e (within (Mailbox_of peer.queue)))))

pub within-respond : (c : Configuration) (n : ℕ) (w : World) (name : QueueId) (lot : Lot) → IsSoundWorld c w → IsWorldWithin n w → EndsIn w (AllWithin (suc n)) (respond_plan c name lot)
within-respond c n w name lot sound within = walk-respond c w (AllWithin (suc n)) name lot sound (λ q peer there.
    left-within c n w q peer lot (respond_row (has_room_for q peer (w.mailbox peer.queue)) q) within
    (respond-raised (psn_bound n) n (has_room_for q peer (w.mailbox peer.queue)) q (queue-numbers n w q within there)))

-- a region that an operation names, within a count of events
abbrev IsPlacedWithin : ℕ → Option PlacedRegion → Type 0
IsPlacedWithin n r = IfSome r (λ f. f.region.bound ≤ n)

named-within : (c : Configuration) (n : ℕ) (w : World) (P : List Update → Type 0) (d : DomainId) (key : Key) (k : Option PlacedRegion → Plan) → IsWorldWithin n w
    → ((r : Option PlacedRegion) → IsPlacedWithin n r → EndsIn w P (k r)) → EndsIn w P (With_named c d key k)
named-within c n w P d key k within more =
    (λ named. more (Some (record { slot = slot_of_key d key; region = w.region (slot_of_key d key) })) (within (Region_of (slot_of_key d key))), λ none. more None (record {}))

former-within : (n : ℕ) (w : World) (P : List Update → Type 0) (x : Window) (k : Option PlacedRegion → Plan) → IsWorldWithin n w
    → ((r : Option PlacedRegion) → IsPlacedWithin n r → EndsIn w P (k r)) → EndsIn w P (With_former x k)
former-within n w P x k within more = by x.binding
  where
    plan : Option Binding → Plan
    plan None = k None
    plan (Some b) = Look (Region_of (region_under x b)) (λ region. k (Some (record { slot = region_under x b; region = region })))

    by : (o : Option Binding) → EndsIn w P (plan o)
    by None = more None (record {})
    by (Some b) = more (Some (record { slot = region_under x b; region = w.region (region_under x b) })) (within (Region_of (region_under x b)))

former-updates-within : (n : ℕ) (former : Option PlacedRegion) → IsPlacedWithin n former → AllWithin (suc n) (former_updates former)
former-updates-within n None few = record {}
former-updates-within n (Some f) few = (omega (arith, few), record {})

named-updates-within : (n : ℕ) (former named : Option PlacedRegion) → IsPlacedWithin n named → AllWithin (suc n) (named_updates former named)
named-updates-within n former None few = record {}
named-updates-within n former (Some m) few = by (option_map_or (λ f. slot_eq f.slot m.slot) former false)
  where
    by : (z : Bool) → AllWithin (suc n) ((Region_of m.slot := with_window_bound (if z then with_window_unbound m.region else m.region)) ∷ [])
    by true = (omega (arith, few), record {})
    by false = (omega (arith, few), record {})

-- how an operation's plan may go on
abbrev GoesOnWithin : ℕ → World → (List Update → Type 0) → Finishing → Type 0
GoesOnWithin n w P finish = (e : Effects) (cs : List Update) (ws : List Write) → IsRaised (psn_bound n) n e → AllWithin (suc n) cs → EndsIn w P (finish e cs ws)

within-bind1 : (c : Configuration) (n : ℕ) (w : World) (P : List Update → Type 0) (q : QueuePair) (m : Numbered) (window : ℕ) (key : Key) (address count : ℕ) (rights : Rights) (finish : Finishing)
    → IsWorldWithin n w → AreNumbersWithin (psn_bound n) n q → GoesOnWithin n w P finish → EndsIn w P (Bind1_plan c q m window key address count rights finish)
within-bind1 c n w P q m window key address count rights finish within numbers more =
    named-within c n w P q.domain key (λ named. With_former x (λ former. ending named former)) within (λ named few.
    former-within n w P x (λ former. ending named former) within (λ former fewer.
    more (effects named) (unless_none (refusal named) (changed named former)) []
    (operation-raised (psn_bound n) n q m q.windows (bind1_marks q m window named address count rights x) (refusal named) numbers (omega (arith, numbers.windows)))
    (unless-within (suc n) (refusal named) (changed named former) (
      record {},
      within-append (suc n) (former_updates former) (regions named former (count == 0)) (former-updates-within n former fewer) (regions-within named former few (count == 0)),
    ))))
  where
    slot : Slot
    slot = window_slot q window

    x : Window
    x = w.window slot

    refusal : Option PlacedRegion → Option OpRefusal
    refusal named = bind1_refusal m key named address count rights x

    regions : Option PlacedRegion → Option PlacedRegion → Bool → List Update
    regions named former z = if z then [] else named_updates former named

    regions-within : (named former : Option PlacedRegion) → IsPlacedWithin n named → (z : Bool) → AllWithin (suc n) (regions named former z)
    regions-within named former few true = record {}
    regions-within named former few false = named-updates-within n former named few

    changed : Option PlacedRegion → Option PlacedRegion → List Update
    changed named former = bind1_changes slot (drawn_by m) x former named address count rights

    effects : Option PlacedRegion → Effects
    effects named = operation_effects q m q (bind1_marks q m window named address count rights x) (refusal named)

    ending : Option PlacedRegion → Option PlacedRegion → Plan
    ending named former = finish (effects named) (unless_none (refusal named) (changed named former)) []

within-bind2 : (c : Configuration) (n : ℕ) (w : World) (P : List Update → Type 0) (q : QueuePair) (m : Numbered) (window : ℕ) (key : Key) (low address count : ℕ) (rights : Rights) (finish : Finishing)
    → IsWorldWithin n w → AreNumbersWithin (psn_bound n) n q → GoesOnWithin n w P finish → EndsIn w P (Bind2_plan c q m window key low address count rights finish)
within-bind2 c n w P q m window key low address count rights finish within numbers more =
    named-within c n w P q.domain key (λ named. With_former x (λ former. ending named)) within (λ named few.
    former-within n w P x (λ former. ending named) within (λ former fewer.
    more (effects named) (unless_none (refusal named) (changed named)) []
    (operation-raised (psn_bound n) n q m (suc q.windows) (bind2_marks q window low named address count rights) (refusal named) numbers (omega (arith, numbers.windows)))
    (unless-within (suc n) (refusal named) (changed named) (record {}, named-updates-within n None named few))))
  where
    slot : Slot
    slot = window_slot q window

    x : Window
    x = w.window slot

    refusal : Option PlacedRegion → Option OpRefusal
    refusal named = bind2_refusal key named address count rights x

    changed : Option PlacedRegion → List Update
    changed named = bind2_changes slot low q.queue x named address count rights

    effects : Option PlacedRegion → Effects
    effects named = operation_effects q m (record q { windows = suc q.windows }) (bind2_marks q window low named address count rights) (refusal named)

    ending : Option PlacedRegion → Plan
    ending named = finish (effects named) (unless_none (refusal named) (changed named)) []

within-fast : (c : Configuration) (n : ℕ) (w : World) (P : List Update → Type 0) (q : QueuePair) (m : Numbered) (region low buffer address count : ℕ) (rights : Rights) (pages : List ℕ) (finish : Finishing)
    → IsWorldWithin n w → AreNumbersWithin (psn_bound n) n q → GoesOnWithin n w P finish → EndsIn w P (Fast_plan c q m region low buffer address count rights pages finish)
within-fast c n w P q m region low buffer address count rights pages finish within numbers more =
    more (operation_effects q m q (fast_marks q region low buffer address count rights pages) refusal) (unless_none refusal (fast_changes q region low buffer address count rights pages r)) []
    (operation-raised (psn_bound n) n q m q.windows (fast_marks q region low buffer address count rights pages) refusal numbers (omega (arith, numbers.windows)))
    (unless-within (suc n) refusal (fast_changes q region low buffer address count rights pages r) (omega (arith, within (Region_of (region_slot q region))), record {}))
  where
    r : Region
    r = w.region (region_slot q region)

    refusal : Option OpRefusal
    refusal = fast_refusal c q region buffer address count rights pages r

within-perform : (c : Configuration) (n : ℕ) (w : World) (P : List Update → Type 0) (q : QueuePair) (m : Numbered) (finish : Finishing) (op : SendOp) → IsWorldWithin n w
    → AreNumbersWithin (psn_bound n) n q → GoesOnWithin n w P finish → EndsIn w P (Perform_op c q m finish op)
within-perform c n w P q m finish op within numbers more = walk-perform c w P q m finish op (more (queue_and_marks q []) [] [] (more-within (psn_bound n) n q numbers) (record {}))
    (λ window key address count rights. within-bind1 c n w P q m window key address count rights finish within numbers more)
    (λ window key low address count rights. within-bind2 c n w P q m window key low address count rights finish within numbers more)
    (λ region low buffer address count rights pages. within-fast c n w P q m region low buffer address count rights pages finish within numbers more)
    (λ key. ends-row-within c n w P (IsRaised (psn_bound n) n) (invalidate_row q m key) finish within (invalidate-raised (psn_bound n) n q m key numbers) more)

-- a turn that sends is one of a queue pair that sends
sends-sending : (q : QueuePair) (m : Numbered) → turn_of q ≡ Sends m → is_sending q.state ≡ true
sends-sending q m turn = (sending-parts q (sends-parts (first_of (turn_refusals q)) (next_request q) m turn).0).0

-- a good row leaves a queue pair that can come up
row-sound : (q : QueuePair) (row : Row) → IsGoodRow q row → RowDoes (λ e. IsQueue e.queue) row
row-sound q row good = record { denied = λ d. by (row.denied d) (good.denied d); allowed = λ bytes refusal. by (row.allowed bytes refusal) (good.allowed bytes refusal) }
  where
    by : (e : Ending) → IsGoodEnding q e → EndingDoes (λ e. IsQueue e.queue) e
    by (NotPossible reason) good = record {}
    by (Does e) good = good.sound

pub within-request : (c : Configuration) (n : ℕ) (w : World) (name : QueueId) (lot : Lot) → IsSoundWorld c w → IsWorldWithin n w → EndsIn w (AllWithin (suc n)) (request_plan c name lot)
within-request c n w name lot sound within = walk-request c w (AllWithin (suc n)) name lot sound
    (λ q m there turn. within-perform c n w (AllWithin (suc n)) q m (λ e changes writes. Finish (updates_of q (around_in w q (shared_of w q)) e ++ changes) writes e.marks)
    m.request.op within (queue-numbers n w q within there) (λ e cs ws effects few. turn-within n w q e cs within effects few))
    (λ q m peer there turn. sends q m (has_room_for q peer (w.mailbox peer.queue)) peer there turn)
  where
    sends : (q : QueuePair) (m : Numbered) (room : Bool) (peer : Correspondent) → IsThere w q → turn_of q ≡ Sends m
        → EndsIn w (AllWithin (suc n)) (Row_plan c (packet_row q room m) (Leave_plan q (around_in w q (shared_of w q)) peer (w.mailbox peer.queue) lot))
    sends q m room peer there turn = left-within c n w q peer lot (packet_row q room m) within (packet-raised (psn_bound n) n q room m there.sound (sends-sending q m turn)
        (queue-numbers n w q within there) (row-sound q (packet_row q room m) (packet-good q room m there.sound turn)))

pub within-timeout : (c : Configuration) (n : ℕ) (w : World) (name : QueueId) (hasten : Bool) → IsSoundWorld c w → IsWorldWithin n w → EndsIn w (AllWithin (suc n)) (timeout_plan c name hasten)
within-timeout c n w name hasten sound within = walk-timeout c w (AllWithin (suc n)) name hasten sound (λ q silent there fails.
    subst (AllWithin (suc n)) (append-nil (updates_of q (around_in w q (shared_of w q)) (after_timeout silent q)))
    (turn-within n w q (after_timeout silent q) [] within (timeout-raised (psn_bound n) n q silent (queue-numbers n w q within there)) (record {})))

-- a packet that arrives, behind other changes
within-arrive : (c : Configuration) (n : ℕ) (w : World) (q : QueuePair) (bytes : List ℕ) (envelope : Option ℕ) (before : List Update) (ms : List Mark) → IsWorldWithin n w → IsThere w q
    → AllWithin (suc n) before → EndsIn w (AllWithin (suc n)) (Arrive c q bytes envelope before ms)
within-arrive c n w q bytes envelope before ms within there few =
    ends-around w (AllWithin (suc n)) q (λ a. Row_plan c (arrival_row bytes envelope (shared_in a) q) (finish a))
    (ends-row-within c n w (AllWithin (suc n)) (IsRaised (psn_bound n) n) (arrival_row bytes envelope (shared_in a) q) (finish a) within
    (arrival-raised (psn_bound n) n bytes envelope (shared_in a) q there.sound (queue-numbers n w q within there))
    (λ e more ws effects rest. within-append (suc n) before (updates_of q a e ++ more) few (turn-within n w q e more within effects rest)))
  where
    a : Around
    a = around_in w q (shared_of w q)

    finish : Around → Effects → List Update → List Write → Plan
    finish a e more writes = Finish (before ++ (updates_of q a e ++ more)) writes (ms ++ marks.Arrived q.queue envelope ∷ e.marks)

pub within-deliver : (c : Configuration) (n : ℕ) (w : World) (name : QueueId) (index : ℕ) → IsSoundWorld c w → IsWorldWithin n w → EndsIn w (AllWithin (suc n)) (deliver_plan c name index)
within-deliver c n w name index sound within = walk-deliver c w (AllWithin (suc n)) name index sound (λ q bytes there.
    within-arrive c n w q bytes (Some index) ((Mailbox_of name := after_delivery index (w.mailbox name)) ∷ []) [] within there
    (delivered-within n index (w.mailbox name) (within (Mailbox_of name)), record {}))

pub within-inject : (c : Configuration) (n : ℕ) (w : World) (call : Call) (q : QueueId) (bytes : List ℕ) → IsSoundWorld c w → IsWorldWithin n w → EndsIn w (AllWithin (suc n)) (inject_plan c call q bytes)
within-inject c n w call q bytes sound within = walk-inject c w (AllWithin (suc n)) call q bytes sound (record {})
    (λ p there. within-arrive c n w p bytes None [] (answer_mark call answers.Fine ∷ []) within there (record {}))

pub within-wake : (c : Configuration) (n : ℕ) (w : World) (name : QueueId) → IsSoundWorld c w → IsWorldWithin n w → EndsIn w (AllWithin (suc n)) (wake_plan c name)
within-wake c n w name sound within = walk-wake c w (AllWithin (suc n)) name sound
    (λ q there. (raised-numbers n (after_wake q).queue (wake-raised (psn_bound n) n q (queue-numbers n w q within there)), record {}))
