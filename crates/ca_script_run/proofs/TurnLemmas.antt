-- Why a turn is not possible whose queue pair is not there, waits or owes no answer. For proofs only.
use Rattle.std.proofs.Common.{◌≡◌, ◌∙◌, refl, sym, ap, subst, ℕ, Bool, true, false, not, true≢false, if◌then◌else◌, Option, None, Some, is_some, slice_get}
use Rattle.std.specs.Option.{option_map}
use Rattle.ca_base.specs.Configuration.{Configuration}
use Rattle.ca_base.specs.declared.correspondent.Correspondent.{Correspondent}
use Rattle.ca_base.specs.declared.lot.Lot.{Lot}
use Rattle.ca_base.specs.declared.queue_numbers.Queued.{Queued}
use Rattle.ca_base.specs.declared.step.Reason.{Reason}
use Rattle.ca_base.specs.declared.step.Reason.TheVariants as reasons
use Rattle.ca_base.specs.objects.Mailbox.{due}
use Rattle.ca_base.specs.objects.QueuePair.{NoQueue, Present, QueuePair, QueueSlot}
use Rattle.ca_base.specs.objects.Slices.{has_queue}
use Rattle.ca_adapter_store.specs.ca_adapter_parts.declared.part.QueueSlot as seen
use Rattle.ca_adapter_store.specs.ca_adapter_parts.declared.part.QueueSlot.TheVariants as slots
use Rattle.ca_keys.specs.Refusals.{first_of}
use Rattle.ca_keys.specs.declared.names.QueueId.{QueueId}
use Rattle.ca_adapter_store.proofs.of_ca_law_parts.Numbers.LimitLemmas.{can-step}
use Rattle.ca_mailbox.specs.declared.weather.Weather.{Weather}
use Rattle.ca_model.proofs.PerformLemmas.{around-performs, around_at, queue-performs}
use Rattle.ca_model.specs.declared.event.Event.TheVariants as events
use Rattle.ca_model.specs.machine.Around.{With_around, With_queue}
use Rattle.ca_model.specs.machine.Plan.{NotReady, Plan, Stuck, perform}
use Rattle.ca_model.specs.machine.Requester as turns-of
use Rattle.ca_model.specs.machine.Requester.{Performs, RequestTurn, Sends, packet_row, turn_of}
use Rattle.ca_model.specs.machine.Respond.{answer_turn, respond_refusals}
use Rattle.ca_model.specs.machine.Row.{NotPossible, Row, Row_plan, plain_row}
use Rattle.ca_model.specs.machine.Step.{step}
use Rattle.ca_model.specs.machine.Turns.{Leave_plan, Request_around, Respond_around, has_room_for, respond_plan, request_plan}
use Rattle.ca_model.specs.machine.World.{World}
use Rattle.ca_script_order.specs.OfScript.{is_possible}
use Rattle.ca_adapter_store.specs.Looks.{IsQueueIn}
use Rattle.ca_adapter_store.specs.Rows.{IsRow, IsRowOf}
use Rattle.ca_adapter_store.specs.declared.row.Row as rows
use Rattle.ca_adapter_store.specs.ca_requester_sends.Turn.{is_performing, turn_row}
use Rattle.ca_script_run.specs.Vain.{CanStepSeen, HasNoQueue, HasNoRequest, IsIdle, IsInVain, OwesNoAnswer, Waits}
use Rattle.ca_model_places.specs.Turns.{event_of, lot_at}
use Rattle.ca_base.specs.declared.step.Turn.{Turn}
use Rattle.ca_base.specs.declared.step.Turn.TheVariants as turns

-- ---- whether a queue pair is there

-- a plan that needs a queue pair is not possible where none is there
no-queue : (c : Configuration) (w : World) (name : QueueId) (reason : Reason) (k : QueuePair → Plan)
    → ((q : QueuePair) → w.queue name ≡ Present q → ⊥) → is_possible (perform w (With_queue c name reason k)) ≡ false
no-queue c w name reason k none = by (has_queue c name) (w.queue name) refl
  where
    at : QueueSlot → Plan
    at (NoQueue incarnation timers) = Stuck reason
    at (Present q) = k q

    by : (b : Bool) (s : QueueSlot) → w.queue name ≡ s → is_possible (if b then perform w (at s) else NotReady reason) ≡ false
    by false s is = refl
    by true (NoQueue incarnation timers) is = refl
    by true (Present q) is = absurd (none q is)

-- one is not possible that is not where a queue pair is there
queue-there : (c : Configuration) (w : World) (name : QueueId) (reason : Reason) (k : QueuePair → Plan) (q : QueuePair)
    → w.queue name ≡ Present q → (has_queue c name ≡ true → is_possible (perform w (With_queue c name reason k)) ≡ false)
    → is_possible (perform w (With_queue c name reason k)) ≡ false
queue-there c w name reason k q there holds = by (has_queue c name) refl
  where
    at : QueueSlot → Plan
    at (NoQueue incarnation timers) = Stuck reason
    at (Present q) = k q

    by : (b : Bool) → has_queue c name ≡ b → is_possible (perform w (With_queue c name reason k)) ≡ false
    by true has = holds has
    by false has = ap (λ b. is_possible (if b then perform w (at (w.queue name)) else NotReady reason)) has

abbrev is-there : QueueSlot → Bool
is-there (NoQueue incarnation timers) = false
is-there (Present q) = true

-- the slot that is seen is the world's, so no queue pair is there where none is seen
none-there : (w : World) (name : QueueId) (slot : Option seen.QueueSlot) → IsQueueIn w name slot → HasNoQueue slot
    → (q : QueuePair) → w.queue name ≡ Present q → ⊥
none-there w name None is none q there = true≢false (sym (ap is-there (sym is ∙ there)))
none-there w name (Some (slots.Vacant incarnation timers)) is none q there = true≢false (sym (ap is-there (is ∙ there)))
none-there w name (Some (slots.Present p)) is none q there = none

-- ---- turns

abbrev some-of : {A : Type 0} → A → Option A → A
some-of a None = a
some-of a (Some b) = b

module _ (c : Configuration) (w : World) (name : QueueId) where
  -- a turn is in vain whose event is not possible under any weather
  request-in-vain : ((lot : Lot) → is_possible (perform w (request_plan c name lot)) ≡ false) → IsInVain c w (turns.Request name)
  request-in-vain none weather event is =
      subst (λ e. is_possible (step c w e) ≡ false) (ap (some-of event) is) (none (lot_at weather w name))

  respond-in-vain : ((lot : Lot) → is_possible (perform w (respond_plan c name lot)) ≡ false) → IsInVain c w (turns.Respond name)
  respond-in-vain none weather event is =
      subst (λ e. is_possible (step c w e) ≡ false) (ap (some-of event) is) (none (lot_at weather w name))

  -- a requester that waits
  module _ (lot : Lot) (q : QueuePair) (waits : Waits q) where
    turn-waits : (t : RequestTurn) → turn_of q ≡ t → (o : Option Correspondent)
        → is_possible (perform w (Request_around c lot q (around_at w q) o t)) ≡ false
    turn-waits (turns-of.Waits reason) is o = refl
    turn-waits (Performs n) is o = absurd (true≢false (ap is_performing (sym is) ∙ waits.waiting.performs))
    turn-waits (Sends n) is None = refl
    turn-waits (Sends n) is (Some p) =
        let room : Bool = has_room_for q p (w.mailbox p.queue)
        in let same : turn_row q room ≡ packet_row q room n = rw is refl
        in ap (λ row. is_possible (perform w (Row_plan c row (Leave_plan q (around_at w q) p (w.mailbox p.queue) lot)))) (sym same ∙ waits.waiting.row room)

    request-waits : w.queue name ≡ Present q → is_possible (perform w (request_plan c name lot)) ≡ false
    request-waits there = queue-there c w name reasons.State _ q there
        (λ has. ap is_possible (queue-performs c w name reasons.State (λ q. With_around q (λ a. Request_around c lot q a q.peer (turn_of q))) q has there
        ∙ around-performs w q (λ a. Request_around c lot q a q.peer (turn_of q))) ∙ turn-waits (turn_of q) refl q.peer)

  pub no_request : (slot : Option seen.QueueSlot) → IsQueueIn w name slot → CanStepSeen slot → HasNoRequest slot → IsInVain c w (turns.Request name)
  no_request None is can none = request-in-vain (λ lot. no-queue c w name reasons.State _ (none-there w name None is (record {})))
  no_request (Some (slots.Vacant incarnation timers)) is can none =
      request-in-vain (λ lot. no-queue c w name reasons.State _ (none-there w name (Some (slots.Vacant incarnation timers)) is (record {})))
  no_request (Some (slots.Present q)) is can waits = request-in-vain (λ lot. request-waits lot q waits (sym is))

  -- a responder that owes no answer
  module _ (lot : Lot) (q : QueuePair) (none : slice_get q.responder.answers 0 ≡ None) where
    abbrev answered : Option Reason → Option Queued → Row
    answered (Some reason) answer = plain_row (NotPossible reason)
    answered None None = plain_row (NotPossible reasons.Empty)
    answered None (Some answer) = answer_turn q answer

    row-waits : (p : Correspondent) (o : Option Reason)
        → is_possible (perform w (Row_plan c (answered o None) (Leave_plan q (around_at w q) p (w.mailbox p.queue) lot))) ≡ false
    row-waits p None = refl
    row-waits p (Some reason) = refl

    refused : (t u : Bool) → is_possible (if t then NotReady reasons.State else if u then NotReady reasons.Empty else NotReady reasons.Empty) ≡ false
    refused true u = refl
    refused false true = refl
    refused false false = refl

    around-waits : (o : Option Correspondent) → is_possible (perform w (Respond_around c lot q (around_at w q) o)) ≡ false
    around-waits None = refused _ _
    around-waits (Some p) = subst
        (λ answer. is_possible (perform w (Row_plan c (answered (first_of (respond_refusals (has_room_for q p (w.mailbox p.queue)) q)) answer)
        (Leave_plan q (around_at w q) p (w.mailbox p.queue) lot))) ≡ false) (sym none)
        (row-waits p (first_of (respond_refusals (has_room_for q p (w.mailbox p.queue)) q)))

    respond-waits : w.queue name ≡ Present q → is_possible (perform w (respond_plan c name lot)) ≡ false
    respond-waits there = queue-there c w name reasons.State _ q there
        (λ has. ap is_possible (queue-performs c w name reasons.State (λ q. With_around q (λ a. Respond_around c lot q a q.peer)) q has there
        ∙ around-performs w q (λ a. Respond_around c lot q a q.peer)) ∙ around-waits q.peer)

  pub no_answer : (slot : Option seen.QueueSlot) → IsQueueIn w name slot → OwesNoAnswer slot → IsInVain c w (turns.Respond name)
  no_answer None is none = respond-in-vain (λ lot. no-queue c w name reasons.State _ (none-there w name None is (record {})))
  no_answer (Some (slots.Vacant incarnation timers)) is none =
      respond-in-vain (λ lot. no-queue c w name reasons.State _ (none-there w name (Some (slots.Vacant incarnation timers)) is (record {})))
  no_answer (Some (slots.Present q)) is none = respond-in-vain (λ lot. respond-waits lot q none (sym is))

-- ---- what is seen

-- a turn that is seen to be in vain is not possible
pub in_vain : (c : Configuration) (w : World) (turn : Turn) → IsIdle w turn → IsInVain c w turn
in_vain c w (turns.Request q) idle = no_request c w q idle.slot idle.is idle.such.0 idle.such.1
in_vain c w (turns.Respond q) idle = no_answer c w q idle.slot idle.is idle.such
in_vain c w (turns.Due q) idle = λ weather event is. absurd (true≢false (sym (ap is_some is) ∙ ap (λ o. is_some (option_map (events.Deliver q) o)) idle))
in_vain c w (turns.Deliver q index) idle = absurd idle
in_vain c w (turns.Timeout q) idle = λ weather event is.
    subst (λ e. is_possible (step c w e) ≡ false) (ap (some-of event) is) (no-queue c w q reasons.State _ (none-there w q idle.slot idle.is idle.such))
in_vain c w (turns.RnrWake q) idle = λ weather event is.
    subst (λ e. is_possible (step c w e) ≡ false) (ap (some-of event) is) (no-queue c w q reasons.State _ (none-there w q idle.slot idle.is idle.such))

-- a turn that is no event has nothing due
pub idle_none : (weather : Weather) (w : World) (turn : Turn) → None ≡ event_of weather w turn → IsIdle w turn
idle_none weather w (turns.Due q) none = by (due (w.mailbox q)) none
  where
    by : (o : Option ℕ) → None ≡ option_map (events.Deliver q) o → o ≡ None
    by None none = refl
    by (Some index) none = absurd (true≢false (sym (ap is_some none)))
idle_none weather w (turns.Request q) none = absurd (true≢false (sym (ap is_some none)))
idle_none weather w (turns.Deliver q index) none = absurd (true≢false (sym (ap is_some none)))
idle_none weather w (turns.Respond q) none = absurd (true≢false (sym (ap is_some none)))
idle_none weather w (turns.Timeout q) none = absurd (true≢false (sym (ap is_some none)))
idle_none weather w (turns.RnrWake q) none = absurd (true≢false (sym (ap is_some none)))

-- ---- steps

-- an engine may take a step with each queue pair that is seen on a row
pub can_step_seen : (row : rows.Row) (slot : Option seen.QueueSlot) (name : QueueId) → IsRow row
    → ((c : Configuration) (w : World) → IsRowOf c w row → IsQueueIn w name slot) → CanStepSeen slot
can_step_seen row None name is seen = record {}
can_step_seen row (Some (slots.Vacant incarnation timers)) name is seen = record {}
can_step_seen row (Some (slots.Present q)) name is seen =
    can-step _ row.count is.world name q is.of.after.few is.of.after.sound is.of.after.numbers (sym (seen _ is.world is.of))

pub false_of_not : (b : Bool) → not b ≡ true → b ≡ false
false_of_not true is = absurd (true≢false (sym is))
false_of_not false is = refl
