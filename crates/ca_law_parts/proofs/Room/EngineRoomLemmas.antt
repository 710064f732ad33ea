-- The turns of an engine and a packet that arrives leave room.
use Rattle.std.proofs.Common.{◌≡◌, ℕ, suc, ◌-◌, Bool, true, false, List, [], ◌∷◌, ◌++◌, Option, None, Some, IfSome, subst, ◌==◌, not, if◌then◌else◌, slice_get, refl, rules}
use Rattle.std.proofs.lemmas.List.{append-nil}
use Rattle.std.proofs.lemmas.Bool.{not-false}
use Rattle.std.specs.Option.{option_and_then, option_map_or}
use Rattle.ca_keys.specs.declared.grant.Grant.{Grant}
use Rattle.ca_keys.specs.declared.key.Key.{Key}
use Rattle.ca_base.specs.declared.lot.Lot.{Lot}
use Rattle.ca_keys.specs.declared.names.DomainId.{DomainId}
use Rattle.ca_keys.specs.declared.names.QueueId.{QueueId}
use Rattle.ca_keys.specs.declared.names.Slot.{Slot}
use Rattle.ca_base.specs.declared.refusals.OpRefusal.{OpRefusal}
use Rattle.ca_base.specs.declared.request.SendOp.{SendOp}
use Rattle.ca_keys.specs.declared.rights.Rights.{Rights}
use Rattle.ca_base.specs.declared.step.Reason.{Reason}
use Rattle.ca_base.specs.declared.step.Reason.TheVariants as reasons
use Rattle.ca_base.specs.declared.step.Sent.{Sent}
use Rattle.ca_base.specs.declared.step.Sent.TheVariants.{Silent, Spelt}
use Rattle.ca_base.specs.Configuration.{Configuration}
use Rattle.ca_keys.specs.Refusals.{first_of}
use Rattle.ca_base.specs.declared.denied_ask.DeniedAsk.{DeniedAsk}
use Rattle.ca_base.specs.Sight.{Invalidation}
use Rattle.ca_base.specs.declared.correspondent.Correspondent.{Correspondent}
use Rattle.ca_base.specs.declared.queue_numbers.Queued.{Queued}
use Rattle.ca_base.specs.declared.queue_numbers.Queued.TheVariants as queued
use Rattle.ca_base.specs.objects.LocalRequest.{window_refusal}
use Rattle.ca_base.specs.objects.Mailbox.{Mailbox, after_delivery, after_send}
use Rattle.ca_base.specs.objects.QueuePair.{QueuePair, Present}
use Rattle.ca_base.specs.objects.Region.{Region, with_window_unbound}
use Rattle.ca_base.specs.objects.SharedReceives.{SharedReceives, SrqSlot}
use Rattle.ca_base.specs.objects.Slices.{slot_of_key}
use Rattle.ca_base.specs.objects.Window.{Binding, Window, without_binding}
use Rattle.ca_keys.specs.Numbers.{is_window_key}
use Rattle.ca_model.specs.declared.mark.Mark.{Mark}
use Rattle.ca_model.specs.declared.mark.Mark.TheVariants as marks
use Rattle.ca_model.specs.machine.Acknowledgements.{one_retry, with_requester}
use Rattle.ca_model.specs.machine.Around.{Around, shared_in, updates_of}
use Rattle.ca_model.specs.machine.Delivery.{Arrive, arrival_row, deliver_plan}
use Rattle.ca_model.specs.machine.Expected.{with_window_gone}
use Rattle.ca_model.specs.machine.HostVerbs.{inject_plan}
use Rattle.ca_model.specs.machine.Invariants.{IsQueue, IsSharedReceives, is_sending}
use Rattle.ca_model.specs.machine.LocalOperations.{Bind1_plan, Bind2_plan, Fast_plan, Finishing, Perform_op, PlacedRegion, With_former, With_named, bind1_changes, bind1_marks, bind1_refusal, bind2_changes, bind2_marks, bind2_refusal, drawn_by, fast_changes, fast_marks, fast_refusal, former_updates, invalidate_row, named_updates, operation_effects, region_slot, window_slot}
use Rattle.ca_base.specs.objects.LocalRequest.{LocalMarks}
use Rattle.ca_model.specs.machine.Numbering.{Numbered}
use Rattle.ca_model.specs.machine.Places.{TakesInOrder}
use Rattle.ca_model.specs.machine.Plan.{Plan, Look, Finish, Update, ◌:=◌, Write, put_all}
use Rattle.ca_model.specs.machine.Requester.{Performs, denied_list_effects, is_outstanding, is_too_much, packet_asks, packet_row, sent_packet, turn_of}
use Rattle.ca_model.specs.machine.Respond.{answer_turn, respond_refusals, respond_row}
use Rattle.ca_model.specs.machine.Row.{Ending, NotPossible, Does, Effects, End_plan, Row, Row_plan, With_bytes, With_invalidation, first_denied_by, plain_row, queue_and_marks, region_under, unless_none}
use Rattle.ca_model.specs.machine.Sound.{IsSoundWorld}
use Rattle.ca_model.specs.machine.Timers.{after_timeout, after_wake}
use Rattle.ca_model.specs.machine.Turns.{Leave_plan, Packet, has_room_for, packet_sent, reaches_peer, request_plan, respond_plan, sent_updates, timeout_plan, wake_plan}
use Rattle.ca_model.specs.machine.VerbAnswers.{Call, answer_mark}
use Rattle.ca_model.specs.declared.answer.Answer.TheVariants as answers
use Rattle.ca_model.specs.machine.World.{World, Mailbox_of, Queue_of, Region_of, Window_of}
use Rattle.ca_law_world.proofs.Sound.GoodLemmas.{IsGood}
use Rattle.ca_law_world.proofs.Sound.RespondLemmas.{arrival-good, respond-good}
use Rattle.ca_law_world.proofs.Sound.TurnLemmas.{nothing-good, operation-good, packet-good, timeout-good, wake-good}
use Rattle.ca_law_world.proofs.Sound.PlanWalks.{walk-deliver, walk-inject, walk-perform, walk-request, walk-respond, walk-timeout, walk-wake}
use Rattle.ca_law_world.proofs.Sound.WorldLemmas.{EndingDoes, EndsIn, IsSoundShared, IsThere, RowDoes, around_in, ends-around, ends-bytes, ends-grants, ends-writes, row-does, shared_of, sound-shared}
use Rattle.ca_law_parts.specs.Room.{HasRoom}
use Rattle.ca_law_parts.proofs.Room.KeptLemmas.{AreAside, aside-append, room-first}
use Rattle.ca_law_parts.proofs.Room.AdvanceLemmas.{IsTurn, no-taking, none-put, still-room, turn-room, sound-named}

-- what an event's changes leave
abbrev pub LeavesRoom : World → List Update → Type 0
LeavesRoom w cs = HasRoom (put_all cs w)

-- how a row's plan may go on: with changes aside
abbrev GoesOn : World → (List Update → Type 0) → (Effects → Type 0) → (Effects → List Update → List Write → Plan) → Type 0
GoesOn w P E finish = (e : Effects) (cs : List Update) (ws : List Write) → E e → AreAside cs → EndsIn w P (finish e cs ws)

invalidation-aside : (c : Configuration) (w : World) (P : List Update → Type 0) (i : Option Invalidation) (k : Option OpRefusal → List Update → Plan)
    → ((r : Option OpRefusal) (cs : List Update) → AreAside cs → EndsIn w P (k r cs)) → EndsIn w P (With_invalidation c i k)
invalidation-aside c w P None k more = more None [] (record {})
invalidation-aside c w P (Some i) k more = (
  λ named. more _ _ (record {}, record {}),
  λ none. (λ named. by (w.window slot).binding, λ none. more _ [] (record {})),
)
  where
    slot : Slot
    slot = slot_of_key i.domain i.key

    plan : Option Binding → Plan
    plan None = k (window_refusal i.key i.queue (w.window slot)) []
    plan (Some b) = Look (Region_of (region_under (w.window slot) b)) (λ region.
        k (window_refusal i.key i.queue (w.window slot))
        ((Window_of slot := without_binding (w.window slot)) ∷ (Region_of (region_under (w.window slot) b) := with_window_unbound region) ∷ []))

    by : (o : Option Binding) → EndsIn w P (plan o)
    by None = more _ [] (record {})
    by (Some b) = more _ _ (record {}, (record {}, record {}))

unless-aside : (r : Option OpRefusal) (cs : List Update) → AreAside cs → AreAside (unless_none r cs)
unless-aside None cs aside = aside
unless-aside (Some r) cs aside = record {}

-- a row's plan ends as its endings do, with changes aside
row-aside : (c : Configuration) (w : World) (P : List Update → Type 0) (E : Effects → Type 0) (row : Row) (finish : Effects → List Update → List Write → Plan)
    → RowDoes E row → GoesOn w P E finish → EndsIn w P (Row_plan c row finish)
row-aside c w P E row finish does more = ends-grants c w P row.asks _ (λ gs. by gs (first_denied_by row.asks gs))
  where
    ending : (cs : List Update) (e : Ending) → AreAside cs → EndingDoes E e → EndsIn w P (End_plan c finish cs e)
    ending cs (NotPossible reason) aside does = record {}
    ending cs (Does e) aside does = ends-writes c w P e.writes (λ writes. finish e cs writes) (λ ws. more e cs ws does aside)

    plan : List (Option Grant) → Option DeniedAsk → Plan
    plan gs (Some d) = End_plan c finish [] (row.denied d)
    plan gs None = With_bytes row.asks gs (λ bytes. With_invalidation c row.invalidation (λ refusal cs.
        End_plan c finish (unless_none refusal cs) (row.allowed bytes refusal)))

    by : (gs : List (Option Grant)) (d : Option DeniedAsk) → EndsIn w P (plan gs d)
    by gs (Some d) = ending [] (row.denied d) (record {}) (does.denied d)
    by gs None = ends-bytes w P row.asks gs (λ bytes. With_invalidation c row.invalidation (λ refusal cs. End_plan c finish (unless_none refusal cs) (row.allowed bytes refusal)))
        (λ bytes. invalidation-aside c w P row.invalidation (λ refusal cs. End_plan c finish (unless_none refusal cs) (row.allowed bytes refusal))
        (λ refusal cs aside. ending (unless_none refusal cs) (row.allowed bytes refusal) (unless-aside refusal cs aside) (does.allowed bytes refusal)))

-- rows that are good, and of which this holds too
rows-both : (E F G : Effects → Type 0) (row : Row) → ((e : Effects) → E e → F e → G e) → RowDoes E row → RowDoes F row → RowDoes G row
rows-both E F G row join one other = record {
  denied = λ d. by (row.denied d) (one.denied d) (other.denied d);
  allowed = λ bytes refusal. by (row.allowed bytes refusal) (one.allowed bytes refusal) (other.allowed bytes refusal);
}
  where
    by : (e : Ending) → EndingDoes E e → EndingDoes F e → EndingDoes G e
    by (NotPossible reason) one other = record {}
    by (Does e) one other = join e one other

-- effects that take no shared receive
abbrev TakesNone : Effects → Type 0
TakesNone e = e.takes_shared ≡ false

-- a good row that takes none
quiet-row : (shared : Option SharedReceives) (q : QueuePair) (row : Row) → RowDoes (IsGood q) row → RowDoes TakesNone row → RowDoes (IsTurn shared q) row
quiet-row shared q row good none = rows-both (IsGood q) TakesNone (IsTurn shared q) row (λ e one other. no-taking shared q e one other) good none

packet-takes : (q : QueuePair) (room : Bool) (n : Numbered) → RowDoes TakesNone (packet_row q room n)
packet-takes q room n = by (is_too_much q n)
  where
    row : Row
    row = record {
      asks = packet_asks q n;
      invalidation = None;
      denied = λ d.
          if is_outstanding q then NotPossible reasons.Outstanding
          else if not room then NotPossible reasons.NoRoom
          else Does (denied_list_effects q d);
      allowed = λ bytes refusal. if not room then NotPossible reasons.NoRoom else Does (sent_packet q n bytes);
    }

    denied : (d : DeniedAsk) (b z : Bool) → EndingDoes TakesNone (if b then NotPossible reasons.Outstanding else if not z then NotPossible reasons.NoRoom else Does (denied_list_effects q d))
    denied d true z = record {}
    denied d false true = refl
    denied d false false = record {}

    allowed : (bytes : List (List ℕ)) (z : Bool) → EndingDoes TakesNone (if not z then NotPossible reasons.NoRoom else Does (sent_packet q n bytes))
    allowed bytes true = refl
    allowed bytes false = record {}

    by : (b : Bool) → RowDoes TakesNone (if b then plain_row (NotPossible reasons.Outstanding) else row)
    by true = record { denied = λ d. record {}; allowed = λ bytes refusal. record {} }
    by false = record { denied = λ d. denied d (is_outstanding q) room; allowed = λ bytes refusal. allowed bytes room }

respond-takes : (q : QueuePair) (room : Bool) → RowDoes TakesNone (respond_row room q)
respond-takes q room = by (first_of (respond_refusals room q)) (slice_get q.responder.answers 0)
  where
    front : Option Reason → Option Queued → Row
    front (Some reason) answer = plain_row (NotPossible reason)
    front None None = plain_row (NotPossible reasons.Empty)
    front None (Some answer) = answer_turn q answer

    turn : (a : Queued) → RowDoes TakesNone (answer_turn q a)
    turn (queued.Ack psn) = record { denied = λ d. refl; allowed = λ bytes refusal. refl }
    turn (queued.Rnr psn) = record { denied = λ d. refl; allowed = λ bytes refusal. refl }
    turn (queued.Nak psn code) = record { denied = λ d. refl; allowed = λ bytes refusal. refl }
    turn (queued.Read psn key address left first envelope duplicate) = record { denied = λ d. refl; allowed = λ bytes refusal. refl }
    turn (queued.Atomic psn found duplicate) = record { denied = λ d. refl; allowed = λ bytes refusal. refl }

    by : (o : Option Reason) (a : Option Queued) → RowDoes TakesNone (front o a)
    by (Some reason) a = record { denied = λ d. record {}; allowed = λ bytes refusal. record {} }
    by None None = record { denied = λ d. record {}; allowed = λ bytes refusal. record {} }
    by None (Some a) = turn a

operation-takes : (q : QueuePair) (n : Numbered) (after : QueuePair) (m : LocalMarks) (refusal : Option OpRefusal) → TakesNone (operation_effects q n after m refusal)
operation-takes q n after m None = refl
operation-takes q n after m (Some cause) = refl

sent-aside : (q : QueuePair) (peer : Correspondent) (m : Mailbox) (lot : Lot) (e : Effects) → AreAside (option_map_or (sent_updates q peer m lot) (packet_sent e) [])
sent-aside q peer m lot e = by e.sent
  where
    packet : Sent → Option Packet
    packet Silent = None
    packet (Spelt request) = Some (record { request = request; bytes = e.spelt })

    reach : (p : Packet) (b : Bool) → AreAside (if b then (Mailbox_of peer.queue := after_send lot p.bytes m) ∷ [] else [])
    reach p true = (record {}, record {})
    reach p false = record {}

    by : (s : Sent) → AreAside (option_map_or (sent_updates q peer m lot) (packet s) [])
    by Silent = record {}
    by (Spelt request) = reach (record { request = request; bytes = e.spelt }) (reaches_peer q peer m)

-- what stands around a queue pair's shared receive queue
abbrev shared_at : World → QueuePair → Option SharedReceives
shared_at w q = shared_in (around_in w q (shared_of w q))

room-left : (c : Configuration) (w : World) (q : QueuePair) (peer : Correspondent) (lot : Lot) (row : Row) → IsSoundWorld c w → HasRoom w → IsThere w q → RowDoes (IsTurn (shared_at w q) q) row
    → EndsIn w (LeavesRoom w) (Row_plan c row (Leave_plan q (around_in w q (shared_of w q)) peer (w.mailbox peer.queue) lot))
room-left c w q peer lot row sound room there does = row-aside c w (LeavesRoom w) (IsTurn (shared_at w q) q) row (Leave_plan q (around_in w q (shared_of w q)) peer m lot) does
    (λ e cs ws turn aside. turn-room c w q e (cs ++ option_map_or (sent_updates q peer m lot) (packet_sent e) []) sound room there turn
    (aside-append cs (option_map_or (sent_updates q peer m lot) (packet_sent e) []) aside (sent-aside q peer m lot e)))
  where
    m : Mailbox
    m = w.mailbox peer.queue

pub room-respond : (c : Configuration) (w : World) (name : QueueId) (lot : Lot) → IsSoundWorld c w → HasRoom w → EndsIn w (LeavesRoom w) (respond_plan c name lot)
room-respond c w name lot sound room = walk-respond c w (LeavesRoom w) name lot sound (λ q peer there.
    room-left c w q peer lot (respond_row (has_room_for q peer (w.mailbox peer.queue)) q) sound room there
    (quiet-row (shared_at w q) q (respond_row (has_room_for q peer (w.mailbox peer.queue)) q)
    (row-does q _ (respond-good (has_room_for q peer (w.mailbox peer.queue)) q there.sound)) (respond-takes q (has_room_for q peer (w.mailbox peer.queue)))))

timeout-takes : (silent : Bool) (q : QueuePair) → TakesNone (after_timeout silent q)
timeout-takes silent q = at (with_requester (record q.requester { timers = suc q.requester.timers }) q)
  where
    at : (p : QueuePair) → TakesNone (one_retry q.requester.una p)
    at p = search rules

pub room-timeout : (c : Configuration) (w : World) (name : QueueId) (hasten : Bool) → IsSoundWorld c w → HasRoom w → EndsIn w (LeavesRoom w) (timeout_plan c name hasten)
room-timeout c w name hasten sound room = walk-timeout c w (LeavesRoom w) name hasten sound (λ q silent there fails.
    subst (LeavesRoom w) (append-nil (updates_of q (around_in w q (shared_of w q)) (after_timeout silent q)))
    (turn-room c w q (after_timeout silent q) [] sound room there
    (no-taking (shared_at w q) q (after_timeout silent q) (timeout-good q silent there.sound (not-false (is_sending q.state) fails.0)) (timeout-takes silent q)) (record {})))

-- a packet that arrives takes receives of a shared receive queue in order
abbrev pub ArrivalsTake : Type 0
ArrivalsTake = (bytes : List ℕ) (envelope : Option ℕ) (shared : Option SharedReceives) (q : QueuePair) → IsQueue q → IfSome shared IsSharedReceives
    → RowDoes (TakesInOrder shared q) (arrival_row bytes envelope shared q)

arrive-row : ArrivalsTake → (c : Configuration) (w : World) (q : QueuePair) (bytes : List ℕ) (envelope : Option ℕ) → IsSoundWorld c w → IsQueue q
    → RowDoes (IsTurn (shared_at w q) q) (arrival_row bytes envelope (shared_at w q) q)
arrive-row takes c w q bytes envelope sound s = rows-both (IsGood q) (TakesInOrder (shared_at w q) q) (IsTurn (shared_at w q) q) (arrival_row bytes envelope (shared_at w q) q)
    (λ e one other. record { good = one; takes = other })
    (row-does q (arrival_row bytes envelope (shared_at w q) q) (arrival-good bytes envelope (shared_at w q) q s shared)) (takes bytes envelope (shared_at w q) q s shared)
  where
    by : (o : Option SrqSlot) → IsSoundShared o → IfSome (option_and_then (λ s. s.srq) o) IsSharedReceives
    by None sound = record {}
    by (Some slot) sound = sound

    shared : IfSome (shared_at w q) IsSharedReceives
    shared = by (shared_of w q) (sound-shared c w q sound)

room-inject-arrive : ArrivalsTake → (c : Configuration) (w : World) (q : QueuePair) (bytes : List ℕ) (envelope : Option ℕ) (ms : List Mark) → IsSoundWorld c w → HasRoom w → IsThere w q
    → EndsIn w (LeavesRoom w) (Arrive c q bytes envelope [] ms)
room-inject-arrive takes c w q bytes envelope ms sound room there =
    ends-around w (LeavesRoom w) q (λ a. Row_plan c (arrival_row bytes envelope (shared_in a) q) (finish a))
    (row-aside c w (LeavesRoom w) (IsTurn (shared_at w q) q) (arrival_row bytes envelope (shared_in a) q) (finish a)
    (arrive-row takes c w q bytes envelope sound there.sound) (λ e more ws turn aside. turn-room c w q e more sound room there turn aside))
  where
    a : Around
    a = around_in w q (shared_of w q)

    finish : Around → Effects → List Update → List Write → Plan
    finish a e more writes = Finish ([] ++ (updates_of q a e ++ more)) writes (ms ++ marks.Arrived q.queue envelope ∷ e.marks)

room-mailbox-arrive : ArrivalsTake → (c : Configuration) (w : World) (q : QueuePair) (name : QueueId) (m : Mailbox) (bytes : List ℕ) (envelope : Option ℕ) → IsSoundWorld c w → HasRoom w → IsThere w q
    → EndsIn w (LeavesRoom w) (Arrive c q bytes envelope ((Mailbox_of name := m) ∷ []) [])
room-mailbox-arrive takes c w q name m bytes envelope sound room there =
    ends-around w (LeavesRoom w) q (λ a. Row_plan c (arrival_row bytes envelope (shared_in a) q) (finish a))
    (row-aside c w (LeavesRoom w) (IsTurn (shared_at w q) q) (arrival_row bytes envelope (shared_in a) q) (finish a)
    (arrive-row takes c w q bytes envelope sound there.sound)
    (λ e more ws turn aside. room-first (Mailbox_of name) m (updates_of q a e ++ more) w (record {}) (turn-room c w q e more sound room there turn aside)))
  where
    a : Around
    a = around_in w q (shared_of w q)

    finish : Around → Effects → List Update → List Write → Plan
    finish a e more writes = Finish (((Mailbox_of name := m) ∷ []) ++ (updates_of q a e ++ more)) writes ([] ++ marks.Arrived q.queue envelope ∷ e.marks)

pub room-deliver : ArrivalsTake → (c : Configuration) (w : World) (name : QueueId) (index : ℕ) → IsSoundWorld c w → HasRoom w → EndsIn w (LeavesRoom w) (deliver_plan c name index)
room-deliver takes c w name index sound room = walk-deliver c w (LeavesRoom w) name index sound
    (λ q bytes there. room-mailbox-arrive takes c w q name (after_delivery index (w.mailbox name)) bytes (Some index) sound room there)

pub room-inject : ArrivalsTake → (c : Configuration) (w : World) (call : Call) (q : QueueId) (bytes : List ℕ) → IsSoundWorld c w → HasRoom w → EndsIn w (LeavesRoom w) (inject_plan c call q bytes)
room-inject takes c w call q bytes sound room = walk-inject c w (LeavesRoom w) call q bytes sound room
    (λ p there. room-inject-arrive takes c w p bytes None (answer_mark call answers.Fine ∷ []) sound room there)

pub room-wake : (c : Configuration) (w : World) (name : QueueId) → IsSoundWorld c w → HasRoom w → EndsIn w (LeavesRoom w) (wake_plan c name)
room-wake c w name sound room = walk-wake c w (LeavesRoom w) name sound (λ q there. woken q there (wake-good q there.sound))
  where
    woken : (q : QueuePair) → IsThere w q → IsGood q (after_wake q) → LeavesRoom w ((Queue_of q.queue := Present (after_wake q).queue) ∷ [])
    woken q there good = still-room w.queue w.cq w.cq w.srq q (after_wake q) room (sound-named c w sound) there.present there.sound good.later good.order refl (none-put w.cq q (after_wake q).marks)

-- local operations

ends-named : (c : Configuration) (w : World) (P : List Update → Type 0) (d : DomainId) (key : Key) (k : Option PlacedRegion → Plan)
    → ((r : Option PlacedRegion) → EndsIn w P (k r)) → EndsIn w P (With_named c d key k)
ends-named c w P d key k more = (λ named. more _, λ none. more None)

ends-former : (w : World) (P : List Update → Type 0) (x : Window) (k : Option PlacedRegion → Plan) → ((r : Option PlacedRegion) → EndsIn w P (k r)) → EndsIn w P (With_former x k)
ends-former w P x k more = by x.binding
  where
    plan : Option Binding → Plan
    plan None = k None
    plan (Some b) = Look (Region_of (region_under x b)) (λ region. k (Some (record { slot = region_under x b; region = region })))

    by : (o : Option Binding) → EndsIn w P (plan o)
    by None = more None
    by (Some b) = more (Some (record { slot = region_under x b; region = w.region (region_under x b) }))

former-aside : (former : Option PlacedRegion) → AreAside (former_updates former)
former-aside None = record {}
former-aside (Some f) = (record {}, record {})

named-aside : (former named : Option PlacedRegion) → AreAside (named_updates former named)
named-aside former None = record {}
named-aside former (Some n) = (record {}, record {})

bind1-aside : (s : Slot) (drawn : ℕ) (x : Window) (former named : Option PlacedRegion) (address count : ℕ) (rights : Rights) → AreAside (bind1_changes s drawn x former named address count rights)
bind1-aside s drawn x former named address count rights = (record {}, aside-append (former_updates former) (if count == 0 then [] else named_updates former named) (former-aside former) (regions (count == 0)))
  where
    regions : (b : Bool) → AreAside (if b then [] else named_updates former named)
    regions true = record {}
    regions false = named-aside former named

invalidate-does : (q : QueuePair) (n : Numbered) (key : Key) → IsQueue q → turn_of q ≡ Performs n → RowDoes (IsGood q) (invalidate_row q n key)
invalidate-does q n key s turn = record {
  denied = λ d. nothing-good q s;
  allowed = λ bytes refusal. operation-good q n (if is_window_key key then q.windows - 1 else q.windows) (record { revoked = Some key; granted = None }) refusal s turn;
}

bind1-ends : (c : Configuration) (w : World) (P : List Update → Type 0) (q : QueuePair) (n : Numbered) (finish : Finishing) (shared : Option SharedReceives) (window : ℕ) (key : Key)
    (address count : ℕ) (rights : Rights) → IsQueue q → turn_of q ≡ Performs n → GoesOn w P (IsTurn shared q) finish → EndsIn w P (Bind1_plan c q n window key address count rights finish)
bind1-ends c w P q n finish shared window key address count rights s turn more =
    ends-named c w P q.domain key (λ named. With_former x (λ former. ending named former)) (λ named. ends-former w P x (λ former. ending named former) (λ former.
    more (operation_effects q n q (bind1_marks q n window named address count rights x) (refusal named)) (unless_none (refusal named) (changed named former)) []
    (no-taking shared q _ (operation-good q n q.windows (bind1_marks q n window named address count rights x) (refusal named) s turn) (operation-takes q n q (bind1_marks q n window named address count rights x) (refusal named)))
    (unless-aside (refusal named) (changed named former) (bind1-aside slot (drawn_by n) x former named address count rights))))
  where
    slot : Slot
    slot = window_slot q window

    x : Window
    x = w.window slot

    refusal : Option PlacedRegion → Option OpRefusal
    refusal named = bind1_refusal n key named address count rights x

    changed : Option PlacedRegion → Option PlacedRegion → List Update
    changed named former = bind1_changes slot (drawn_by n) x former named address count rights

    ending : Option PlacedRegion → Option PlacedRegion → Plan
    ending named former = finish (operation_effects q n q (bind1_marks q n window named address count rights x) (refusal named)) (unless_none (refusal named) (changed named former)) []

bind2-ends : (c : Configuration) (w : World) (P : List Update → Type 0) (q : QueuePair) (n : Numbered) (finish : Finishing) (shared : Option SharedReceives) (window : ℕ) (key : Key)
    (low address count : ℕ) (rights : Rights) → IsQueue q → turn_of q ≡ Performs n → GoesOn w P (IsTurn shared q) finish → EndsIn w P (Bind2_plan c q n window key low address count rights finish)
bind2-ends c w P q n finish shared window key low address count rights s turn more =
    ends-named c w P q.domain key (λ named. With_former x (λ former. ending named)) (λ named. ends-former w P x (λ former. ending named) (λ former.
    more (effects named) (unless_none (refusal named) (changed named)) []
    (no-taking shared q _ (operation-good q n (suc q.windows) (bind2_marks q window low named address count rights) (refusal named) s turn)
    (operation-takes q n (record q { windows = suc q.windows }) (bind2_marks q window low named address count rights) (refusal named)))
    (unless-aside (refusal named) (changed named) (record {}, named-aside None named))))
  where
    slot : Slot
    slot = window_slot q window

    x : Window
    x = w.window slot

    refusal : Option PlacedRegion → Option OpRefusal
    refusal named = bind2_refusal key named address count rights x

    changed : Option PlacedRegion → List Update
    changed named = bind2_changes slot low q.queue x named address count rights

    effects : Option PlacedRegion → Effects
    effects named = operation_effects q n (record q { windows = suc q.windows }) (bind2_marks q window low named address count rights) (refusal named)

    ending : Option PlacedRegion → Plan
    ending named = finish (effects named) (unless_none (refusal named) (changed named)) []

fast-ends : (c : Configuration) (w : World) (P : List Update → Type 0) (q : QueuePair) (n : Numbered) (finish : Finishing) (shared : Option SharedReceives) (region low buffer address count : ℕ)
    (rights : Rights) (pages : List ℕ) → IsQueue q → turn_of q ≡ Performs n → GoesOn w P (IsTurn shared q) finish → EndsIn w P (Fast_plan c q n region low buffer address count rights pages finish)
fast-ends c w P q n finish shared region low buffer address count rights pages s turn more =
    more (operation_effects q n q (fast_marks q region low buffer address count rights pages) refusal) (unless_none refusal (fast_changes q region low buffer address count rights pages r)) []
    (no-taking shared q _ (operation-good q n q.windows (fast_marks q region low buffer address count rights pages) refusal s turn) (operation-takes q n q (fast_marks q region low buffer address count rights pages) refusal))
    (unless-aside refusal (fast_changes q region low buffer address count rights pages r) (record {}, record {}))
  where
    r : Region
    r = w.region (region_slot q region)

    refusal : Option OpRefusal
    refusal = fast_refusal c q region buffer address count rights pages r

perform-aside : (c : Configuration) (w : World) (P : List Update → Type 0) (q : QueuePair) (n : Numbered) (finish : Finishing) (shared : Option SharedReceives) (op : SendOp) → IsQueue q
    → turn_of q ≡ Performs n → GoesOn w P (IsTurn shared q) finish → EndsIn w P (Perform_op c q n finish op)
perform-aside c w P q n finish shared op s turn more = walk-perform c w P q n finish op
    (more (queue_and_marks q []) [] [] (no-taking shared q (queue_and_marks q []) (nothing-good q s) refl) (record {}))
    (λ window key address count rights. bind1-ends c w P q n finish shared window key address count rights s turn more)
    (λ window key low address count rights. bind2-ends c w P q n finish shared window key low address count rights s turn more)
    (λ region low buffer address count rights pages. fast-ends c w P q n finish shared region low buffer address count rights pages s turn more)
    (λ key. row-aside c w P (IsTurn shared q) (invalidate_row q n key) finish
    (quiet-row shared q (invalidate_row q n key) (invalidate-does q n key s turn) (record { denied = λ d. refl; allowed = λ bytes refusal. operation-takes q n (with_window_gone (Some (record { queue = q.queue; domain = q.domain; key = key })) q) (record { revoked = Some key; granted = None }) refusal })) more)

pub room-request : (c : Configuration) (w : World) (name : QueueId) (lot : Lot) → IsSoundWorld c w → HasRoom w → EndsIn w (LeavesRoom w) (request_plan c name lot)
room-request c w name lot sound room = walk-request c w (LeavesRoom w) name lot sound
    (λ q n there turn. perform-aside c w (LeavesRoom w) q n (λ e changes writes. Finish (updates_of q (around_in w q (shared_of w q)) e ++ changes) writes e.marks)
    (shared_at w q) n.request.op there.sound turn (λ e cs ws turn aside. turn-room c w q e cs sound room there turn aside))
    (λ q n peer there turn. room-left c w q peer lot (packet_row q (has_room_for q peer (w.mailbox peer.queue)) n) sound room there
    (quiet-row (shared_at w q) q (packet_row q (has_room_for q peer (w.mailbox peer.queue)) n)
    (row-does q _ (packet-good q (has_room_for q peer (w.mailbox peer.queue)) n there.sound turn)) (packet-takes q (has_room_for q peer (w.mailbox peer.queue)) n)))
