-- The turns of an engine and a packet that arrives keep a world sound.
use Rattle.std.proofs.Common.{◌≡◌, ℕ, Bool, true, false, List, [], ◌∷◌, ◌++◌, Option, None, Some, IfSome, subst, ◌∙◌, ◌||◌, not, if◌then◌else◌, refl, rules}
use Rattle.std.proofs.lemmas.List.{append-nil}
use Rattle.std.proofs.lemmas.Bool.{not-false}
use Rattle.std.specs.Option.{option_and_then, option_map_or}
use Rattle.ca_base.specs.declared.lot.Lot.{Lot}
use Rattle.ca_keys.specs.declared.names.QueueId.{QueueId}
use Rattle.ca_base.specs.declared.step.Sent.{Sent}
use Rattle.ca_base.specs.declared.step.Sent.TheVariants.{Silent, Spelt}
use Rattle.ca_base.specs.Configuration.{Configuration}
use Rattle.ca_base.specs.declared.correspondent.Correspondent.{Correspondent}
use Rattle.ca_base.specs.objects.Mailbox.{Mailbox, after_delivery, after_send, has_room}
use Rattle.ca_base.specs.objects.QueuePair.{QueuePair, Present}
use Rattle.ca_base.specs.objects.SharedReceives.{SrqSlot}
use Rattle.ca_model.specs.declared.mark.Mark.{Mark}
use Rattle.ca_model.specs.declared.mark.Mark.TheVariants as marks
use Rattle.ca_model.specs.machine.Around.{Around, shared_in, updates_of}
use Rattle.ca_model.specs.machine.Delivery.{Arrive, arrival_row, deliver_plan}
use Rattle.ca_model.specs.machine.Plan.{Plan, Finish, Update, ◌:=◌, Write, put_all}
use Rattle.ca_model.specs.machine.Numbering.{Numbered}
use Rattle.ca_model.specs.machine.Requester.{packet_row}
use Rattle.ca_model.specs.machine.Respond.{respond_row}
use Rattle.ca_model.specs.machine.Row.{Ending, NotPossible, Does, Effects, Row, Row_plan}
use Rattle.ca_model.specs.machine.Timers.{after_timeout, after_wake}
use Rattle.ca_model.specs.machine.Turns.{Leave_plan, Packet, has_room_for, packet_sent, reaches_peer, respond_plan, sent_updates, timeout_plan, wake_plan}
use Rattle.ca_model.specs.machine.World.{World, Mailbox_of, Queue_of, put}
use Rattle.ca_model.specs.machine.Invariants.{IsMailbox, IsQueue, IsSharedReceives, is_sending}
use Rattle.ca_model.specs.machine.Sound.{AreSettled, IsSoundWorld}
use Rattle.ca_law_world.proofs.Sound.GoodLemmas.{IsGood, IsLater}
use Rattle.ca_law_world.proofs.Sound.ObjectLemmas.{delivered-mailbox, sent-mailbox}
use Rattle.ca_law_world.proofs.Sound.RespondLemmas.{arrival-good, respond-good}
use Rattle.ca_law_world.proofs.Sound.SettledLemmas.{queue-settled}
use Rattle.ca_law_world.proofs.Sound.TurnLemmas.{timeout-good, wake-good}
use Rattle.ca_law_world.proofs.Sound.WorldLemmas.{AreQuiet, AreSound, EndingDoes, EndsIn, IsGoodChange, IsSoundShared, IsThere, RowDoes, around_in, ends-around, ends-row, quiet-append, quiet-settled, quiet-sound, row-does, shared_of, sound-shared, turn-good}
use Rattle.ca_law_world.proofs.Sound.PlanWalks.{walk-deliver, walk-respond, walk-timeout, walk-wake}
pub use Rattle.ca_law_world.proofs.Sound.PlanWalks.{ends-unless}

-- a turn's changes, with quiet ones behind
pub turn-change : (c : Configuration) (w : World) (q : QueuePair) (e : Effects) (more : List Update) → IsSoundWorld c w → IsThere w q → IsGood q e → AreQuiet c more
    → IsGoodChange c w (updates_of q (around_in w q (shared_of w q)) e ++ more)
turn-change c w q e more sound there good quiet = by (turn-good c w w q e more sound there refl refl good quiet)
  where
    by : AreSound c (updates_of q (around_in w q (shared_of w q)) e ++ more)
        × AreSettled (put_all (updates_of q (around_in w q (shared_of w q)) e ++ more) w).queue (put_all (updates_of q (around_in w q (shared_of w q)) e ++ more) w).cq
        → IsGoodChange c w (updates_of q (around_in w q (shared_of w q)) e ++ more)
    by both = record { things = both.0; settled = both.1 }

-- effects of a turn that has room for a packet
pub record IsRoomy (q : QueuePair) (room : Bool) (e : Effects) : Type 0 where
  pub good : IsGood q e
  pub fits : room ≡ true

pub roomy : (q : QueuePair) (room : Bool) (row : Row) → RowDoes (IsGood q) row → RowDoes (λ e. room ≡ true) row → RowDoes (IsRoomy q room) row
roomy q room row good has = record {
  denied = λ d. by (row.denied d) (good.denied d) (has.denied d);
  allowed = λ bytes refusal. by (row.allowed bytes refusal) (good.allowed bytes refusal) (has.allowed bytes refusal);
}
  where
    by : (e : Ending) → EndingDoes (IsGood q) e → EndingDoes (λ e. room ≡ true) e → EndingDoes (IsRoomy q room) e
    by (NotPossible reason) one other = record {}
    by (Does e) one other = record { good = one; fits = other }

sent-quiet : (c : Configuration) (q : QueuePair) (peer : Correspondent) (m : Mailbox) (lot : Lot) (e : Effects) → IsMailbox m → has_room_for q peer m ≡ true
    → AreQuiet c (option_map_or (sent_updates q peer m lot) (packet_sent e) [])
sent-quiet c q peer m lot e sound room = by e.sent
  where
    packet : Sent → Option Packet
    packet Silent = None
    packet (Spelt request) = Some (record { request = request; bytes = e.spelt })

    reach : (p : Packet) (b : Bool) → (not b || has_room m) ≡ true → AreQuiet c (if b then (Mailbox_of peer.queue := after_send lot p.bytes m) ∷ [] else [])
    reach p true has = ((record {}, sent-mailbox lot p.bytes m sound has), record {})
    reach p false has = record {}

    by : (s : Sent) → AreQuiet c (option_map_or (sent_updates q peer m lot) (packet s) [])
    by Silent = record {}
    by (Spelt request) = reach (record { request = request; bytes = e.spelt }) (reaches_peer q peer m) room

pub ends-left : (c : Configuration) (w : World) (q : QueuePair) (peer : Correspondent) (lot : Lot) (row : Row) → IsSoundWorld c w → IsThere w q
    → RowDoes (IsRoomy q (has_room_for q peer (w.mailbox peer.queue))) row
    → EndsIn w (IsGoodChange c w) (Row_plan c row (Leave_plan q (around_in w q (shared_of w q)) peer (w.mailbox peer.queue) lot))
ends-left c w q peer lot row sound there does =
    ends-row c w (IsGoodChange c w) (IsRoomy q (has_room_for q peer m)) row (Leave_plan q (around_in w q (shared_of w q)) peer m lot) sound does
    (λ e cs ws roomy quiet. turn-change c w q e (cs ++ option_map_or (sent_updates q peer m lot) (packet_sent e) []) sound there roomy.good
    (quiet-append c cs (option_map_or (sent_updates q peer m lot) (packet_sent e) []) quiet
    (sent-quiet c q peer m lot e (sound.things (Mailbox_of peer.queue)) roomy.fits)))
  where
    m : Mailbox
    m = w.mailbox peer.queue

-- a packet is sent only where there is room
pub packet-room : (q : QueuePair) (room : Bool) (n : Numbered) → RowDoes (λ e. room ≡ true) (packet_row q room n)
packet-room q room n = search rules

respond-room : (q : QueuePair) (room : Bool) → RowDoes (λ e. room ≡ true) (respond_row room q)
respond-room q room = search rules

pub ends-respond : (c : Configuration) (w : World) (name : QueueId) (lot : Lot) → IsSoundWorld c w → EndsIn w (IsGoodChange c w) (respond_plan c name lot)
ends-respond c w name lot sound = walk-respond c w (IsGoodChange c w) name lot sound (λ q peer there.
    ends-left c w q peer lot (respond_row (has_room_for q peer (w.mailbox peer.queue)) q) sound there
    (roomy q (has_room_for q peer (w.mailbox peer.queue)) (respond_row (has_room_for q peer (w.mailbox peer.queue)) q)
    (row-does q _ (respond-good (has_room_for q peer (w.mailbox peer.queue)) q there.sound)) (respond-room q (has_room_for q peer (w.mailbox peer.queue)))))

pub ends-timeout : (c : Configuration) (w : World) (name : QueueId) (hasten : Bool) → IsSoundWorld c w → EndsIn w (IsGoodChange c w) (timeout_plan c name hasten)
ends-timeout c w name hasten sound = walk-timeout c w (IsGoodChange c w) name hasten sound (λ q silent there fails.
    subst (IsGoodChange c w) (append-nil (updates_of q (around_in w q (shared_of w q)) (after_timeout silent q)))
    (turn-change c w q (after_timeout silent q) [] sound there (timeout-good q silent there.sound (not-false (is_sending q.state) fails.0)) (record {})))

-- a packet that arrives, behind changes that are quiet
arrive-row : (c : Configuration) (q : QueuePair) (bytes : List ℕ) (envelope : Option ℕ) (a : Around) → IsQueue q → IsSoundShared a.shared
    → RowDoes (IsGood q) (arrival_row bytes envelope (shared_in a) q)
arrive-row c q bytes envelope a s shared = row-does q (arrival_row bytes envelope (shared_in a) q) (arrival-good bytes envelope (shared_in a) q s (by a.shared shared))
  where
    by : (o : Option SrqSlot) → IsSoundShared o → IfSome (option_and_then (λ s. s.srq) o) IsSharedReceives
    by None sound = record {}
    by (Some slot) sound = sound

pub ends-inject-arrive : (c : Configuration) (w : World) (q : QueuePair) (bytes : List ℕ) (envelope : Option ℕ) (ms : List Mark) → IsSoundWorld c w → IsThere w q
    → EndsIn w (IsGoodChange c w) (Arrive c q bytes envelope [] ms)
ends-inject-arrive c w q bytes envelope ms sound there =
    ends-around w (IsGoodChange c w) q (λ a. Row_plan c (arrival_row bytes envelope (shared_in a) q) (finish a))
    (ends-row c w (IsGoodChange c w) (IsGood q) (arrival_row bytes envelope (shared_in a) q) (finish a) sound
    (arrive-row c q bytes envelope a there.sound (sound-shared c w q sound)) (λ e more ws good quiet. turn-change c w q e more sound there good quiet))
  where
    a : Around
    a = around_in w q (shared_of w q)

    finish : Around → Effects → List Update → List Write → Plan
    finish a e more writes = Finish ([] ++ (updates_of q a e ++ more)) writes (ms ++ marks.Arrived q.queue envelope ∷ e.marks)

ends-mailbox-arrive : (c : Configuration) (w : World) (q : QueuePair) (name : QueueId) (m : Mailbox) (bytes : List ℕ) (envelope : Option ℕ) → IsSoundWorld c w → IsThere w q → IsMailbox m
    → EndsIn w (IsGoodChange c w) (Arrive c q bytes envelope ((Mailbox_of name := m) ∷ []) [])
ends-mailbox-arrive c w q name m bytes envelope sound there mailbox =
    ends-around w (IsGoodChange c w) q (λ a. Row_plan c (arrival_row bytes envelope (shared_in a) q) (finish a))
    (ends-row c w (IsGoodChange c w) (IsGood q) (arrival_row bytes envelope (shared_in a) q) (finish a) sound
    (arrive-row c q bytes envelope a there.sound (sound-shared c w q sound))
    (λ e more ws good quiet. by e more (turn-good c w (put w (Mailbox_of name) m) q e more sound there refl refl good quiet)))
  where
    a : Around
    a = around_in w q (shared_of w q)

    finish : Around → Effects → List Update → List Write → Plan
    finish a e more writes = Finish (((Mailbox_of name := m) ∷ []) ++ (updates_of q a e ++ more)) writes ([] ++ marks.Arrived q.queue envelope ∷ e.marks)

    by : (e : Effects) (more : List Update) → AreSound c (updates_of q a e ++ more)
        × AreSettled (put_all (updates_of q a e ++ more) (put w (Mailbox_of name) m)).queue (put_all (updates_of q a e ++ more) (put w (Mailbox_of name) m)).cq
        → IsGoodChange c w ((Mailbox_of name := m) ∷ (updates_of q a e ++ more))
    by e more both = record { things = (mailbox, both.0); settled = both.1 }

pub ends-deliver : (c : Configuration) (w : World) (name : QueueId) (index : ℕ) → IsSoundWorld c w → EndsIn w (IsGoodChange c w) (deliver_plan c name index)
ends-deliver c w name index sound = walk-deliver c w (IsGoodChange c w) name index sound (λ q bytes there.
    ends-mailbox-arrive c w q name (after_delivery index (w.mailbox name)) bytes (Some index) sound there (delivered-mailbox index (w.mailbox name) (sound.things (Mailbox_of name))))

-- a queue pair alone goes on, with quiet changes behind
pub queue-change : (c : Configuration) (w : World) (q p : QueuePair) (more : List Update) → IsSoundWorld c w → IsThere w q → IsQueue p → IsLater q p → AreQuiet c more
    → IsGoodChange c w ((Queue_of q.queue := Present p) ∷ more)
queue-change c w q p more sound there s later quiet = record {
  things = ((later.queue, later.domain ∙ there.domain, s), quiet-sound c more quiet);
  settled = quiet-settled c more (put w (Queue_of q.queue) (Present p)) quiet (queue-settled w.queue w.cq q p q.queue sound.settled there.present later);
}

pub ends-wake : (c : Configuration) (w : World) (name : QueueId) → IsSoundWorld c w → EndsIn w (IsGoodChange c w) (wake_plan c name)
ends-wake c w name sound = walk-wake c w (IsGoodChange c w) name sound (λ q there.
    queue-change c w q (after_wake q).queue [] sound there (wake-good q there.sound).sound (wake-good q there.sound).later (record {}))
