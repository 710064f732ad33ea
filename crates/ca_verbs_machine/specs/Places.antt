-- The parts that are needed are configured and have places, and with them in hand no part of the event is missing. For
-- proofs only.
use Rattle.std.proofs.Common.{◌≡◌, ◌∙◌, refl, sym, ap, subst, ℕ, ◌≤◌, arith, inl, inr, Bool, true, false, List, [], ◌∷◌, length, map, Option, None, Some, IfSome, is_some, if◌then◌else◌, true≢false}
use Rattle.std.proofs.lemmas.List.{length-append}
use Rattle.std.proofs.lemmas.Option.{none-some}
use Rattle.std.specs.List.{AllByRecursion, range_with_len}
use Rattle.std.specs.Option.{option_map, option_map_or}
use Rattle.ca_base.specs.Configuration.{Configuration, part_count}
use Rattle.ca_base.specs.declared.correspondent.Correspondent.{Correspondent}
use Rattle.ca_base.specs.declared.lot.Lot.TheVariants.{Pass}
use Rattle.ca_base.specs.objects.Mailbox.{Mailbox, bytes_lent, due}
use Rattle.ca_base.specs.objects.QueuePair.{NoQueue, Present, QueueSlot}
use Rattle.ca_base.specs.objects.Slices.{has_queue}
use Rattle.ca_verbs_machine.specs.Asks.{asked_needs, due_needs, event_asked, peer_mail, turn_parts}
use Rattle.ca_verbs_machine.specs.declared.asked.Asked.{Asked}
use Rattle.ca_verbs_machine.specs.declared.asked.Asked.TheVariants as asks
use Rattle.ca_keys.specs.declared.names.QueueId.{QueueId}
use Rattle.ca_law_parts.specs.Placed.{IsConfigured, IsPlacedSlot, IsPlacedWorld}
use Rattle.ca_law_parts.proofs.Parts.ConfiguredLemmas.{parts-configured}
use Rattle.ca_law_parts.proofs.Parts.CountLemmas.{few-event}
use Rattle.ca_law_parts.proofs.Parts.NeedsLemmas.{listed-also, none-decided, none-first}
use Rattle.ca_law_world.proofs.Sound.SettledLemmas.{append-all}
use Rattle.ca_model.specs.declared.event.Event.{Event}
use Rattle.ca_model.specs.declared.event.Event.TheVariants as events
use Rattle.ca_model.specs.declared.part_name.PartName.{PartName}
use Rattle.ca_model.specs.declared.part_name.PartName.TheVariants as names
use Rattle.ca_mailbox.specs.declared.weather.Weather.{Weather}
use Rattle.ca_model.specs.machine.Parts.{By, Enough, IsAmong, Needs, arrival_needs, event_needs, is_configured_part, listed, next_part, part, present_needs, turn_needs, where_some}
use Rattle.ca_model.specs.machine.Sound.{AreLimited, IsSoundWorld}
use Rattle.ca_model.specs.machine.World.{World, Mailbox_of, Queue_of}
use Rattle.ca_model_places.proofs.AmongLemmas.{all-among}
use Rattle.ca_model_places.proofs.NumberLemmas.{all-numbered}
use Rattle.ca_model_places.specs.Places.{all_parts, place_of}
use Rattle.ca_model_places.specs.Turns.{event_of, hasten_at, lot_at}
use Rattle.ca_base.specs.declared.step.Turn.{Turn}
use Rattle.ca_base.specs.declared.step.Turn.TheVariants as turns

-- what is numbered has a number
numbered : (f : PartName → Option ℕ) (p : PartName) (xs : List PartName) (ns : List ℕ) → map f xs ≡ map Some ns → IsAmong xs p → is_some (f p) ≡ true
numbered f p [] ns is among = absurd among
numbered f p (x ∷ xs) [] is among = absurd (true≢false (ap (λ ys. has ys) is))
  where
    has : List (Option ℕ) → Bool
    has [] = false
    has (y ∷ ys) = true
numbered f p (x ∷ xs) (n ∷ ns) is (inl same) = ap (λ q. is_some (f q)) same ∙ ap (λ ys. head ys) is
  where
    head : List (Option ℕ) → Bool
    head [] = true
    head (y ∷ ys) = is_some y
numbered f p (x ∷ xs) (n ∷ ns) is (inr later) = numbered f p xs ns (ap (λ ys. tail ys) is) later
  where
    tail : List (Option ℕ) → List (Option ℕ)
    tail [] = []
    tail (y ∷ ys) = ys

-- a configured part has a place
pub placed : (c : Configuration) (p : PartName) → AreLimited c → is_configured_part c p ≡ true → is_some (place_of c p) ≡ true
placed c p limited has = numbered (place_of c) p (all_parts c) (range_with_len 0 (part_count c)) (all-numbered c limited) (all-among c p has)

-- ---- what is asked for needs configured parts

abbrev AreConfigured : Configuration → World → Needs → Type 0
AreConfigured c w needs = AllByRecursion (λ p. is_configured_part c p ≡ true) (listed w needs)

peer-configured : (c : Configuration) (w : World) (o : Option Correspondent) → IfSome o (λ p. IsConfigured c (Queue_of p.queue)) → AreConfigured c w (where_some (λ (p : Correspondent). part (names.Mailbox p.queue)) o)
peer-configured c w None has = record {}
peer-configured c w (Some p) has = (has, record {})

mail-configured : (c : Configuration) (w : World) (q : QueueId) → IsPlacedWorld c w → AreConfigured c w (turn_needs c q peer_mail)
mail-configured c w q fits = at (has_queue c q) refl
  where
    needs : QueueSlot → Needs
    needs (NoQueue incarnation timers) = Enough
    needs (Present x) = peer_mail x

    by : (s : QueueSlot) → IsPlacedSlot c s → AreConfigured c w (needs s)
    by (NoQueue incarnation timers) one = record {}
    by (Present x) one = peer-configured c w x.peer one.peer

    at : (b : Bool) → has_queue c q ≡ b → AreConfigured c w (if b then present_needs q peer_mail else Enough)
    at true has = (has, by (w.queue q) (fits.things (Queue_of q)))
    at false none = record {}

due-configured : (c : Configuration) (w : World) (q : QueueId) → AreLimited c → IsSoundWorld c w → IsPlacedWorld c w → AreConfigured c w (turn_parts c (turns.Due q))
due-configured c w q limited sound fits = at (has_queue c q) refl
  where
    by : (o : Option ℕ) → AreConfigured c w (where_some (λ index. event_needs c (events.Deliver q index)) o)
    by None = record {}
    by (Some index) = parts-configured c w (events.Deliver q index) limited sound fits

    at : (b : Bool) → has_queue c q ≡ b → AreConfigured c w (if b then By (Mailbox_of q) (due_needs c q) else Enough)
    at true has = (has, by (due (w.mailbox q)))
    at false none = record {}

-- in a sound and placed world only configured parts are needed
pub asked-configured : (c : Configuration) (w : World) (asked : Asked) → AreLimited c → IsSoundWorld c w → IsPlacedWorld c w
    → AllByRecursion (λ p. is_configured_part c p ≡ true) (listed w (asked_needs c asked))
asked-configured c w (asks.Event event) limited sound fits = parts-configured c w event limited sound fits
asked-configured c w (asks.Turn turn weather) limited sound fits = of turn
  where
    of : (turn : Turn) → AllByRecursion (λ p. is_configured_part c p ≡ true) (listed w (turn_parts c turn))
    of (turns.Request q) = subst (AllByRecursion (λ p. is_configured_part c p ≡ true)) (sym (listed-also w (event_needs c (events.Request q Pass)) (turn_needs c q peer_mail)))
        (append-all (λ p. is_configured_part c p ≡ true) (listed w (event_needs c (events.Request q Pass))) (listed w (turn_needs c q peer_mail))
        (parts-configured c w (events.Request q Pass) limited sound fits) (mail-configured c w q fits))
    of (turns.Due q) = due-configured c w q limited sound fits
    of (turns.Deliver q index) = parts-configured c w (events.Deliver q index) limited sound fits
    of (turns.Respond q) = subst (AllByRecursion (λ p. is_configured_part c p ≡ true)) (sym (listed-also w (event_needs c (events.Respond q Pass)) (turn_needs c q peer_mail)))
        (append-all (λ p. is_configured_part c p ≡ true) (listed w (event_needs c (events.Respond q Pass))) (listed w (turn_needs c q peer_mail))
        (parts-configured c w (events.Respond q Pass) limited sound fits) (mail-configured c w q fits))
    of (turns.Timeout q) = parts-configured c w (events.Timeout q false) limited sound fits
    of (turns.RnrWake q) = parts-configured c w (events.RnrWake q) limited sound fits

-- ---- and few

few-mail : (c : Configuration) (w : World) (q : QueueId) → length (listed w (turn_needs c q peer_mail)) ≤ 2
few-mail c w q = at (has_queue c q)
  where
    needs : QueueSlot → Needs
    needs (NoQueue incarnation timers) = Enough
    needs (Present x) = peer_mail x

    peer : (o : Option Correspondent) → length (listed w (where_some (λ (p : Correspondent). part (names.Mailbox p.queue)) o)) ≤ 1
    peer None = omega arith
    peer (Some p) = omega arith

    by : (s : QueueSlot) → length (listed w (needs s)) ≤ 1
    by (NoQueue incarnation timers) = omega arith
    by (Present x) = peer x.peer

    at : (b : Bool) → length (listed w (if b then present_needs q peer_mail else Enough)) ≤ 2
    at true = omega (arith, by (w.queue q))
    at false = omega arith

few-due : (c : Configuration) (w : World) (q : QueueId) → IsSoundWorld c w → length (listed w (turn_parts c (turns.Due q))) ≤ 33
few-due c w q sound = at (has_queue c q)
  where
    by : (o : Option ℕ) → length (listed w (where_some (λ index. event_needs c (events.Deliver q index)) o)) ≤ 32
    by None = omega arith
    by (Some index) = few-event c w (events.Deliver q index) sound

    at : (b : Bool) → length (listed w (if b then By (Mailbox_of q) (due_needs c q) else Enough)) ≤ 33
    at true = omega (arith, by (due (w.mailbox q)))
    at false = omega arith

-- in a sound world few parts are needed; those that tell which event a turn is are counted twice
pub few-asked : (c : Configuration) (w : World) (asked : Asked) → IsSoundWorld c w → length (listed w (asked_needs c asked)) ≤ 34
few-asked c w (asks.Event event) sound = omega (arith, few-event c w event sound)
few-asked c w (asks.Turn turn weather) sound = of turn
  where
    of : (turn : Turn) → length (listed w (turn_parts c turn)) ≤ 34
    of (turns.Request q) = omega (
      arith,
      ap length (listed-also w (event_needs c (events.Request q Pass)) (turn_needs c q peer_mail)),
      length-append (listed w (event_needs c (events.Request q Pass))) (listed w (turn_needs c q peer_mail)),
      few-event c w (events.Request q Pass) sound,
      few-mail c w q,
    )
    of (turns.Due q) = omega (arith, few-due c w q sound)
    of (turns.Deliver q index) = omega (arith, few-event c w (events.Deliver q index) sound)
    of (turns.Respond q) = omega (
      arith,
      ap length (listed-also w (event_needs c (events.Respond q Pass)) (turn_needs c q peer_mail)),
      length-append (listed w (event_needs c (events.Respond q Pass))) (listed w (turn_needs c q peer_mail)),
      few-event c w (events.Respond q Pass) sound,
      few-mail c w q,
    )
    of (turns.Timeout q) = omega (arith, few-event c w (events.Timeout q false) sound)
    of (turns.RnrWake q) = omega (arith, few-event c w (events.RnrWake q) sound)

-- ---- where no part is missing of what is asked for, none is of the event that it is

some-same : (a b : Event) → Some a ≡ Some b → a ≡ b
some-same a b is = ap (λ o. option_map_or (λ x. x) o a) is

unconfigured : (c : Configuration) (held : PartName → Bool) (w : World) (q : QueueId) (index : ℕ) → has_queue c q ≡ false → next_part held w (event_needs c (events.Deliver q index)) ≡ None
unconfigured c held w q index e = ap (λ b. next_part held w (if b
    then By (Mailbox_of q) (λ m. where_some (λ bytes. present_needs q (arrival_needs c (Some index) bytes)) (bytes_lent index m)) else Enough)) e

module _ (c : Configuration) (held : PartName → Bool) (w : World) where
  due-enough : (q : QueueId) (event : Event) → option_map (events.Deliver q) (due (w.mailbox q)) ≡ Some event
      → next_part held w (turn_parts c (turns.Due q)) ≡ None → next_part held w (event_needs c event) ≡ None
  due-enough q event is none = at (has_queue c q) refl none
    where
      other : (o : Option ℕ) → has_queue c q ≡ false → option_map (events.Deliver q) o ≡ Some event → next_part held w (event_needs c event) ≡ None
      other None e is = absurd (none-some event is)
      other (Some index) e is = subst (λ x. next_part held w (event_needs c x) ≡ None) (some-same (events.Deliver q index) event is) (unconfigured c held w q index e)

      by : (o : Option ℕ) → option_map (events.Deliver q) o ≡ Some event → next_part held w (where_some (λ index. event_needs c (events.Deliver q index)) o) ≡ None
          → next_part held w (event_needs c event) ≡ None
      by None is none = absurd (none-some event is)
      by (Some index) is none = subst (λ x. next_part held w (event_needs c x) ≡ None) (some-same (events.Deliver q index) event is) none

      at : (b : Bool) → has_queue c q ≡ b → next_part held w (if b then By (Mailbox_of q) (due_needs c q) else Enough) ≡ None → next_part held w (event_needs c event) ≡ None
      at true e none = by (due (w.mailbox q)) is (none-decided held w (Mailbox_of q) (due_needs c q) none)
      at false e none = other (due (w.mailbox q)) e is

  turn-enough : (weather : Weather) (turn : Turn) (event : Event) → event_of weather w turn ≡ Some event → next_part held w (turn_parts c turn) ≡ None
      → next_part held w (event_needs c event) ≡ None
  turn-enough weather (turns.Request q) event is none =
      let here : next_part held w (event_needs c (events.Request q (lot_at weather w q))) ≡ None =
      none-first held w (event_needs c (events.Request q Pass)) (turn_needs c q peer_mail) none in
      subst (λ x. next_part held w (event_needs c x) ≡ None) (some-same (events.Request q (lot_at weather w q)) event is) here
  turn-enough weather (turns.Due q) event is none = due-enough q event is none
  turn-enough weather (turns.Deliver q index) event is none =
      subst (λ x. next_part held w (event_needs c x) ≡ None) (some-same (events.Deliver q index) event is) none
  turn-enough weather (turns.Respond q) event is none =
      let here : next_part held w (event_needs c (events.Respond q (lot_at weather w q))) ≡ None =
      none-first held w (event_needs c (events.Respond q Pass)) (turn_needs c q peer_mail) none in
      subst (λ x. next_part held w (event_needs c x) ≡ None) (some-same (events.Respond q (lot_at weather w q)) event is) here
  turn-enough weather (turns.Timeout q) event is none =
      let here : next_part held w (event_needs c (events.Timeout q (hasten_at weather w q))) ≡ None = none in
      subst (λ x. next_part held w (event_needs c x) ≡ None) (some-same (events.Timeout q (hasten_at weather w q)) event is) here
  turn-enough weather (turns.RnrWake q) event is none =
      subst (λ x. next_part held w (event_needs c x) ≡ None) (some-same (events.RnrWake q) event is) none

  pub event-enough : (asked : Asked) (event : Event) → event_asked w asked ≡ Some event → next_part held w (asked_needs c asked) ≡ None → next_part held w (event_needs c event) ≡ None
  event-enough (asks.Event asked) event is none = subst (λ x. next_part held w (event_needs c x) ≡ None) (some-same asked event is) none
  event-enough (asks.Turn turn weather) event is none = turn-enough weather turn event is none
