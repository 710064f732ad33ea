-- The event that a turn is, by what is held and in a world that shows it. For proofs only.
use Rattle.std.proofs.Common.{◌≡◌, ◌∙◌, refl, sym, ap, subst, Bool, true, false, Option, None, Some, if◌then◌else◌, true≢false}
use Rattle.std.proofs.lemmas.Option.{none-some}
use Rattle.ca_verbs_taking.proofs.of_ca_adapter.WorldLemmas.{vacant-there}
use Rattle.ca_base.specs.Configuration.{Configuration}
use Rattle.ca_base.specs.declared.correspondent.Correspondent.{Correspondent}
use Rattle.ca_base.specs.declared.lot.Lot.{Lot}
use Rattle.ca_base.specs.declared.lot.Lot.TheVariants.{Pass}
use Rattle.ca_base.specs.objects.Mailbox.{Mailbox, due, empty_mailbox}
use Rattle.ca_base.specs.objects.QueuePair.{NoQueue, Present, QueuePair, QueueSlot, queue_in, timers_of, vacant_queue}
use Rattle.ca_base.specs.objects.Slices.{has_queue}
use Rattle.ca_verbs_machine.specs.Asks.{due_needs, peer_mail, turn_parts}
use Rattle.ca_adapter_parts.specs.declared.held.Held.{Held}
use Rattle.ca_adapter_parts.specs.HeldView.{holding}
use Rattle.ca_keys.specs.declared.names.QueueId.{QueueId}
use Rattle.ca_law_parts.specs.Placed.{IsPlacedWorld}
use Rattle.ca_law_parts.proofs.Parts.NeedsLemmas.{none-decided, none-first}
use Rattle.ca_mailbox.specs.Weather.{is_hastened, lot_under}
use Rattle.ca_mailbox.specs.declared.weather.Weather.{Weather}
use Rattle.ca_model.specs.declared.event.Event.TheVariants as events
use Rattle.ca_model.specs.declared.part_name.PartName.{PartName}
use Rattle.ca_model.specs.declared.part_name.PartName.TheVariants as names
use Rattle.ca_model.specs.machine.Parts.{By, Enough, Needs, ShowsHeld, also, event_needs, next_part, part, present_needs, turn_needs, where_some}
use Rattle.ca_model.specs.machine.Turns.{reaches_peer}
use Rattle.ca_model.specs.machine.World.{World, Mailbox_of, Queue_of}
use Rattle.ca_verbs_taking.proofs.NextLemmas.{also_none, holds_mailbox, holds_queue}
use Rattle.ca_model_places.specs.Turns.{event_of, lot_at}
use Rattle.ca_base.specs.declared.step.Turn.{Turn}
use Rattle.ca_base.specs.declared.step.Turn.TheVariants as turns
use Rattle.std.specs.Option.{option_map}

-- a queue pair or a mailbox that is not held is vacant in what is held
pub no_queue : (h : Held) (q : QueueId) → (holding h).parts (names.Queue q) ≡ false → (holding h).world.queue q ≡ vacant_queue
no_queue h q free = vacant-there h (Queue_of q) free

pub no_mailbox : (h : Held) (q : QueueId) → (holding h).parts (names.Mailbox q) ≡ false → (holding h).world.mailbox q ≡ empty_mailbox
no_mailbox h q free = vacant-there h (Mailbox_of q) free

pub ruleset seen = (no_queue, no_mailbox, holds_queue, holds_mailbox)

-- a part of which nothing is missing is held
by-held : (b : Bool) (o : Option PartName) (p : PartName) → (if b then o else Some p) ≡ None → b ≡ true
by-held true o p none = refl
by-held false o p none = absurd (none-some p (sym none))

-- the lot by mailboxes and what is there of a queue pair
lot_from : Weather → (QueueId → Mailbox) → Option QueuePair → Lot
lot_from weather mail o = by o
  where
    to : QueuePair → Option Correspondent → Lot
    to queue None = Pass
    to queue (Some peer) =
        if reaches_peer queue peer (mail peer.queue)
        then lot_under weather peer.queue (mail peer.queue).next
        else Pass

    by : Option QueuePair → Lot
    by None = Pass
    by (Some queue) = to queue queue.peer

module _ (c : Configuration) (h : Held) (w : World) (shows : ShowsHeld (holding h).parts (holding h).world w) (placed : IsPlacedWorld c w) where
  queue-same : (q : QueueId) → (has_queue c q ≡ true → (holding h).parts (names.Queue q) ≡ true) → (holding h).world.queue q ≡ w.queue q
  queue-same q must = by ((holding h).parts (names.Queue q)) refl
    where
      free : (z : Bool) → has_queue c q ≡ z → (holding h).parts (names.Queue q) ≡ false → has_queue c q ≡ false
      free false e none = e
      free true e none = absurd (true≢false (sym (must e) ∙ none))

      by : (b : Bool) → (holding h).parts (names.Queue q) ≡ b → (holding h).world.queue q ≡ w.queue q
      by true e = shows (Queue_of q) e
      by false e = no_queue h q e ∙ sym (placed.vacant (Queue_of q) (free (has_queue c q) refl e))

  mail-same : (q : QueueId) → (has_queue c q ≡ true → (holding h).parts (names.Mailbox q) ≡ true) → (holding h).world.mailbox q ≡ w.mailbox q
  mail-same q must = by ((holding h).parts (names.Mailbox q)) refl
    where
      free : (z : Bool) → has_queue c q ≡ z → (holding h).parts (names.Mailbox q) ≡ false → has_queue c q ≡ false
      free false e none = e
      free true e none = absurd (true≢false (sym (must e) ∙ none))

      by : (b : Bool) → (holding h).parts (names.Mailbox q) ≡ b → (holding h).world.mailbox q ≡ w.mailbox q
      by true e = shows (Mailbox_of q) e
      by false e = no_mailbox h q e ∙ sym (placed.vacant (Mailbox_of q) (free (has_queue c q) refl e))

  -- a turn of which nothing is missing has its queue pair in hand
  turn-held : (q : QueueId) (more : QueuePair → Needs) → next_part (holding h).parts w (turn_needs c q more) ≡ None → has_queue c q ≡ true → (holding h).parts (names.Queue q) ≡ true
  turn-held q more none has = by-held ((holding h).parts (names.Queue q)) _ (names.Queue q)
      (subst (λ b. next_part (holding h).parts w (if b then present_needs q more else Enough) ≡ None) has none)

  lot-same : (weather : Weather) (q : QueueId) → next_part (holding h).parts w (turn_needs c q peer_mail) ≡ None → lot_at weather (holding h).world q ≡ lot_at weather w q
  unfolding lot_from
  lot-same weather q none = at (has_queue c q) refl
    where
      needs : QueueSlot → Needs
      needs (NoQueue incarnation timers) = Enough
      needs (Present x) = peer_mail x

      queue : (holding h).world.queue q ≡ w.queue q
      queue = queue-same q (turn-held q peer_mail none)

      peer : (x : QueuePair) (o : Option Correspondent) → next_part (holding h).parts w (where_some (λ (p : Correspondent). part (names.Mailbox p.queue)) o) ≡ None
          → lot_from weather (holding h).world.mailbox (Some (record x { peer = o })) ≡ lot_from weather w.mailbox (Some (record x { peer = o }))
      peer x None none = refl
      peer x (Some p) none = ap (λ (m : Mailbox). if reaches_peer x p m then lot_under weather p.queue m.next else Pass)
          (shows (Mailbox_of p.queue) (by-held ((holding h).parts (names.Mailbox p.queue)) None (names.Mailbox p.queue) none))

      slot : (s : QueueSlot) → next_part (holding h).parts w (needs s) ≡ None → lot_from weather (holding h).world.mailbox (queue_in s) ≡ lot_from weather w.mailbox (queue_in s)
      slot (NoQueue incarnation timers) none = refl
      slot (Present x) none = peer x x.peer none

      vacant : (s : QueueSlot) → s ≡ vacant_queue → lot_from weather (holding h).world.mailbox (queue_in s) ≡ lot_from weather w.mailbox (queue_in s)
      vacant s is = ap (λ z. lot_from weather (holding h).world.mailbox (queue_in z)) is ∙ sym (ap (λ z. lot_from weather w.mailbox (queue_in z)) is)

      at : (b : Bool) → has_queue c q ≡ b → lot_at weather (holding h).world q ≡ lot_at weather w q
      at true has = ap (λ s. lot_from weather (holding h).world.mailbox (queue_in s)) queue
          ∙ slot (w.queue q) (none-decided (holding h).parts w (Queue_of q) needs (subst (λ b. next_part (holding h).parts w (if b then present_needs q peer_mail else Enough) ≡ None) has none))
      at false has = ap (λ s. lot_from weather (holding h).world.mailbox (queue_in s)) queue ∙ vacant (w.queue q) (placed.vacant (Queue_of q) has)

  due-held : (q : QueueId) → next_part (holding h).parts w (turn_parts c (turns.Due q)) ≡ None → has_queue c q ≡ true → (holding h).parts (names.Mailbox q) ≡ true
  due-held q none has = by-held ((holding h).parts (names.Mailbox q)) _ (names.Mailbox q)
      (subst (λ b. next_part (holding h).parts w (if b then By (Mailbox_of q) (due_needs c q) else Enough) ≡ None) has none)

  second : (a b : Needs) → next_part (holding h).parts w (also a b) ≡ None → next_part (holding h).parts w b ≡ None
  second a b none = sym (also_none (holding h).parts w a b (none-first (holding h).parts w a b none)) ∙ none

  -- where nothing is missing of a turn, it is the same event by what is held
  pub turn-same : (weather : Weather) (turn : Turn) → next_part (holding h).parts w (turn_parts c turn) ≡ None → event_of weather (holding h).world turn ≡ event_of weather w turn
  turn-same weather (turns.Request q) none = ap (λ l. Some (events.Request q l)) (lot-same weather q (second (event_needs c (events.Request q Pass)) (turn_needs c q peer_mail) none))
  turn-same weather (turns.Due q) none = ap (λ m. option_map (events.Deliver q) (due m)) (mail-same q (due-held q none))
  turn-same weather (turns.Deliver q index) none = refl
  turn-same weather (turns.Respond q) none = ap (λ l. Some (events.Respond q l)) (lot-same weather q (second (event_needs c (events.Respond q Pass)) (turn_needs c q peer_mail) none))
  turn-same weather (turns.Timeout q) none = ap (λ s. Some (events.Timeout q (is_hastened weather q (timers_of s)))) (queue-same q (turn-held q _ none))
  turn-same weather (turns.RnrWake q) none = refl
