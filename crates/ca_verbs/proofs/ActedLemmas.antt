-- An event that is acted with the parts in hand is one step of the machine after every list for which they stand. For proofs
-- only.
use Rattle.std.proofs.Common.{◌≡◌, ◌∙◌, refl, sym, ap, subst, ℕ, ◌≤◌, arith, Bool, true, false, List, [], ◌∷◌, ◌++◌, length, Option, None, Some, Result, Ok, Err}
use Rattle.ca_verbs_taking.specs.ca_adapter_acts.Act.{Acts, IsAct}
use Rattle.ca_verbs_taking.specs.ca_adapter_acts.Steps.{IsStepOf, LeavesUnheld, Shows}
use Rattle.ca_verbs_taking.proofs.of_ca_adapter.WorldLemmas.{part-of-held}
use Rattle.ca_verbs_taking.specs.ca_adapter.Ready.{IsReady}
use Rattle.ca_base.specs.Configuration.{configuration_in}
use Rattle.ca_base.specs.declared.settings.Settings.{Settings}
use Rattle.ca_base.specs.declared.step.Reason.TheVariants as reasons
use Rattle.ca_base.specs.declared.step.ActError.{ActError}
use Rattle.ca_base.specs.declared.step.ActError.TheVariants as steps
use Rattle.ca_verbs_machine.specs.After.{IsStep, IsUp, next_world, world_after, world_left}
use Rattle.ca_verbs_machine.specs.Asks.{asked_needs}
use Rattle.ca_verbs_machine.specs.Laws.{none-needed}
use Rattle.ca_verbs_machine.specs.Meanings.{CanFollow, StandsFor, next_of}
use Rattle.ca_verbs_machine.specs.Places.{event-enough}
use Rattle.ca_verbs_machine.specs.Steps.{from-more, up-before, up-world}
use Rattle.ca_verbs_machine.specs.Values.{PartValue, has_byte, thing_in}
use Rattle.ca_verbs_machine.specs.declared.asked.Asked.{Asked}
use Rattle.ca_verbs_machine.specs.declared.asked.Asked.TheVariants as asks
use Rattle.ca_verbs_machine.specs.declared.asked.Told.{Told}
use Rattle.ca_adapter_parts.specs.declared.held.Held.{Held}
use Rattle.ca_adapter_parts.specs.HeldView.{Holding, holding}
use Rattle.ca_keys.specs.Memory.{zeros}
use Rattle.ca_keys.specs.declared.place.Place.{Place}
use Rattle.ca_law_parts.specs.Placed.{is_configured}
use Rattle.ca_law_parts.proofs.Parts.NeedsLemmas.{next-same}
use Rattle.ca_model.specs.Marks.{MarkList}
use Rattle.ca_model.specs.declared.event.Event.{Event}
use Rattle.ca_model.specs.declared.part_name.PartName.{PartName}
use Rattle.ca_model.specs.machine.Parts.{ShowsHeld, event_needs, is_held, next_part, part_of}
use Rattle.ca_model.specs.machine.Plan.{Did, NotReady, Outcome}
use Rattle.ca_model.specs.machine.Sound.{CanBeMade}
use Rattle.ca_model.specs.machine.Step.{plan, step}
use Rattle.ca_model.specs.machine.World.{Name, Byte_at, World, get, opening_world}
use Rattle.ca_parts.specs.Calls.{MayStamp, Sees}
use Rattle.ca_parts.specs.Hands.{AllStand}
use Rattle.ca_parts.specs.Lists.{Has}
use Rattle.ca_parts.specs.Views.{with_entry}
use Rattle.ca_model_places.proofs.AmongLemmas.{place-apart}
use Rattle.ca_verbs_taking.proofs.HandLemmas.{IsNamed, held-shown, named, same-numbers}
use Rattle.ca_verbs_taking.proofs.SeenLemmas.{parts-of-world, seen-world}
use Rattle.ca_verbs_taking.specs.Holding.{AreShown, IsHolding, Known, hand_of}
use Rattle.ca_verbs_taking.specs.declared.in_hand.InHand.{InHand}
use Rattle.ca_verbs_taking.specs.Taking.{HasLooked, SameRecord, TookAll, WasStopped}
use Rattle.ca_verbs_taking.specs.declared.take_error.TakeError.{TakeError}
use Rattle.ca_verbs_taking.specs.declared.take_error.TakeError.TheVariants as takes
use Rattle.ca_mailbox.specs.declared.weather.Weather.{Weather}
use Rattle.ca_model_places.specs.Turns.{event_of}
use Rattle.ca_base.specs.declared.step.Turn.{Turn}
use Rattle.ca_verbs.proofs.TurnLemmas.{turn-same}
use Rattle.ca_verbs.specs.Tried.{IsEventOf, IsMade, IsNotPossible, WasNotMade, WasNotReady, error_of, refusal_of, told_of}

-- a look stays noted where no more is noted
noted-still : (n : ℕ) (hand : List (ℕ × PartValue)) (old mid new : Known) → HasLooked n hand old mid → new.notes ≡ mid.notes → HasLooked n hand old new
noted-still n hand old mid new is notes = record {
  between = is.between;
  noted = notes ∙ is.noted;
  later = is.later;
  read = is.read;
  before = is.before;
}

-- the parts in hand after the event show the world after it
shows-after : (h k : Held) (w v u : World) → ShowsHeld (holding h).parts (holding h).world w → Shows v (holding k) → (holding k).has ≡ (holding h).has → LeavesUnheld (holding h) w v
    → LeavesUnheld (holding h) (holding h).world u → (holding k).world ≡ u → (n : Name) → (holding h).parts (part_of n) ≡ true → get (holding k).world n ≡ get v n
shows-after h k w v u one shown has left kept world n there = by ((holding h).has n) refl
  where
    by : (b : Bool) → (holding h).has n ≡ b → get (holding k).world n ≡ get v n
    by true e = shown n (ap (λ f. f n) has ∙ e)
    by false e = ap (λ z. get z n) world ∙ kept n e ∙ one n there ∙ sym (left n e)

module _ (key : Settings) (asked : Asked) (n : ℕ) (first v : Known) (h : Held) (names : List PartName) (event : Event) (holds : IsHolding (configuration_in key) (holding h) names v.hand)
    (took : TookAll key asked n first v) (made : CanBeMade event) (is_event : IsEventOf key asked event v.hand) where
  enough : (log : List Told) → IsUp (configuration_in key) log → AllStand (StandsFor key log) v.hand
      → next_part (holding h).parts (world_after (configuration_in key) log) (event_needs (configuration_in key) event) ≡ None
  enough log up stand = event-enough (configuration_in key) (holding h).parts (world_after (configuration_in key) log) asked event (is_event log up stand)
      (ap (λ f. next_part f (world_after (configuration_in key) log) (asked_needs (configuration_in key) asked)) (λ i p. held-shown (configuration_in key) (holding h) names v.hand up.limited holds p i)
      ∙ none-needed key log v.hand stand up asked took.all)

  -- the event can be acted
  pub ready : IsReady (configuration_in key) event h
  ready = record {
    parts = parts-of-world key n h names v.hand took.seen holds;
    next = next-same (holding h).parts (holding h).world (world_after (configuration_in key) took.seen.log) (event_needs (configuration_in key) event) (seen-world key n h names v.hand took.seen holds)
        ∙ enough took.seen.log took.seen.up took.seen.stand;
  }

  shows-of : (log : List Told) → IsUp (configuration_in key) log → AllStand (StandsFor key log) v.hand → ShowsHeld (holding h).parts (holding h).world (world_after (configuration_in key) log)
  shows-of log up stand = seen-world key (length log) h names v.hand (record { log = log; length_is = refl; up = up; stand = stand }) holds

  module _ (k : Held) (m : MarkList) (own : IsAct (Ok m) (step (configuration_in key) (holding h).world event) (holding h) (holding k))
      (acts : (w : World) → Shows w (holding h) → IsStepOf (Ok m) (step (configuration_in key) w event) w (holding h) (holding k)) where
    entry : Told
    entry = told_of asked event m.marks

    is-step : (w : World) (o : Outcome) → step (configuration_in key) w event ≡ o → IsStepOf (Ok m) o w (holding h) (holding k)
        → step (configuration_in key) w event ≡ Did (next_world (configuration_in key) w event) m.marks
    is-step w (Did v ms) e is = e ∙ ap (λ xs. Did v xs) (sym is.0) ∙ ap (λ o. Did (world_left w o) m.marks) (sym e)
    is-step w (NotReady reason) e is = absurd is

    shown-of : (log : List Told) → IsUp (configuration_in key) log → AllStand (StandsFor key log) v.hand → Shows (world_after (configuration_in key) log) (holding h)
    shown-of log up stand o has = shows-of log up stand o (part-of-held h o has)

    step-of : (log : List Told) → IsUp (configuration_in key) log → AllStand (StandsFor key log) v.hand → IsStep (configuration_in key) (world_after (configuration_in key) log) (told_of asked event m.marks)
    step-of log up stand = record {
      made = made;
      asked = is_event log up stand;
      did = is-step (world_after (configuration_in key) log) (step (configuration_in key) (world_after (configuration_in key) log) event) refl
          (acts (world_after (configuration_in key) log) (shown-of log up stand));
    }

    has-same : (holding k).has ≡ (holding h).has
    has-same = by (step (configuration_in key) (holding h).world event) own
      where
        by : (o : Outcome) → IsAct (Ok m) o (holding h) (holding k) → (holding k).has ≡ (holding h).has
        by (Did u ms) is = ap (λ (z : Holding). z.has) is.1
        by (NotReady reason) is = absurd is

    after-of : (log : List Told) → IsUp (configuration_in key) log → AllStand (StandsFor key log) v.hand → (o : Name) → (holding h).parts (part_of o) ≡ true
        → get (holding k).world o ≡ get (next_world (configuration_in key) (world_after (configuration_in key) log) event) o
    after-of log up stand o there =
        by (step (configuration_in key) (world_after (configuration_in key) log) event) (step (configuration_in key) (holding h).world event) own
        (acts (world_after (configuration_in key) log) (shown-of log up stand)) (acts (holding h).world (λ x has. refl))
      where
        by : (p q : Outcome) → IsAct (Ok m) q (holding h) (holding k) → IsStepOf (Ok m) p (world_after (configuration_in key) log) (holding h) (holding k) → IsStepOf (Ok m) q (holding h).world (holding h) (holding k)
            → get (holding k).world o ≡ get (world_left (world_after (configuration_in key) log) p) o
        by (Did z ms) (Did u ns) act one other = shows-after h k (world_after (configuration_in key) log) z u (shows-of log up stand) one.1 one.2 one.4 other.4 (ap (λ (y : Holding). y.world) act.1) o there
        by (Did z ms) (NotReady reason) act one other = absurd act
        by (NotReady reason) q act one other = absurd one

    module _ (news : List (ℕ × PartValue)) (shown : AreShown (configuration_in key) (holding k) names news) where
      news-stand : (log : List Told) → AllStand (StandsFor key log) v.hand → AllStand (StandsFor key (log ++ told_of asked event m.marks ∷ [])) news
      news-stand log stand place x has up name at_place = record { things = things; whole = whole }
        where
          before : IsUp (configuration_in key) log
          before = up-before (configuration_in key) log (told_of asked event m.marks) up

          is : IsNamed (configuration_in key) (holding k) names place x
          is = named (configuration_in key) (holding k) names news place x shown has

          same : is.name ≡ name
          same = place-apart (configuration_in key) is.name name place up.limited is.place at_place

          there : (o : Name) → part_of o ≡ name → (holding h).parts (part_of o) ≡ true
          there o of = ap (holding h).parts (of ∙ sym same) ∙ holds.named is.name ∙ is.held

          things : (o : Name) → part_of o ≡ name → thing_in o x ≡ Some (get (world_after (configuration_in key) (log ++ told_of asked event m.marks ∷ [])) o)
          things o of = is.of.things o (of ∙ sym same)
              ∙ ap Some (after-of log before stand o (there o of) ∙ ap (λ z. get z o) (sym (from-more (configuration_in key) (opening_world zeros) log (told_of asked event m.marks))))

          whole : (p : Place) → part_of (Byte_at p) ≡ name → is_configured (configuration_in key) (Byte_at p) ≡ true → has_byte x p ≡ true
          whole p of set = sym (is.of.bytes p (of ∙ sym same)) ∙ ap (λ f. f (Byte_at p)) has-same
              ∙ (parts-of-world key n h names v.hand took.seen holds).whole p (there (Byte_at p) of) set

      pub may-stamp : MayStamp (λ (told : Told) (a : Asked). told.asked ≡ a) next_of CanFollow StandsFor key (told_of asked event m.marks) news v
      may-stamp = record {
        looked = (n, took.looked, omega (arith, took.under, took.seen.up.limited.events));
        event = asked;
        recorded = refl;
        taking = took.taking;
        all = took.all;
        same_parts = same-numbers (configuration_in key) (holding k) (holding h) names news v.hand shown holds.shown;
        step = λ log stand. (λ up few. step-of log up stand, news-stand log stand);
      }

      -- the entry is made
      pub made-of : (stamp : ℕ) (mid new : Known) → mid ≡ with_entry (told_of asked event m.marks) news stamp v → Sees next_of CanFollow StandsFor key stamp v → SameRecord mid new
          → new.notes ≡ mid.notes → new.refused ≡ mid.refused → SameRecord first v → IsMade key (told_of asked event m.marks) stamp first new
      made-of stamp mid new added sees same notes refused before = record {
        added = same.1 ∙ ap (λ (u : Known). u.entries) added ∙ ap (λ es. es ++ (stamp, told_of asked event m.marks) ∷ []) before.1;
        log = sees.log;
        length_is = sees.length_is;
        follows = sees.follows;
        step = λ up few. step-of sees.log up sees.hand_stands;
        later = λ i x has. (sees.entries_true i x (subst (λ es. Has (i, x) es) (sym before.1) has)).0;
        read = read;
        looked = n;
        hand = v.hand;
        needed = (took.taken, took.all);
        noted = noted-still n v.hand first v new took.noted (notes ∙ ap (λ (u : Known). u.notes) added);
        under = took.under;
        before = sees.look_before n took.looked;
        share = same.0.0 ∙ ap (λ (u : Known). u.share) added ∙ before.0.0;
        passes = same.0.1 ∙ ap (λ (u : Known). u.passes) added ∙ before.0.1;
        refused = refused ∙ ap (λ (u : Known). u.refused) added ∙ took.refused;
      }
        where
          read : (i : ℕ) (g : List (ℕ × PartValue)) → Has (i, g) first.notes → i ≤ stamp
          read i g has = let low : i ≤ n = took.noted.read i g has in let high : n ≤ stamp = sees.look_before n took.looked in omega (arith, low, high)

  -- the event was not possible, or memory ended: what is held is as it was
  pub kept-of : (k : Held) (error : ActError) → IsAct (Err error) (step (configuration_in key) (holding h).world event) (holding h) (holding k) → holding k ≡ holding h
  kept-of k error own = by error (step (configuration_in key) (holding h).world event) own
    where
      by : (e : ActError) (o : Outcome) → IsAct (Err e) o (holding h) (holding k) → holding k ≡ holding h
      by (steps.NotReady reason) (Did u ms) is = absurd is
      by (steps.NotReady reason) (NotReady why) is = is.1
      by steps.Memory (Did u ms) is = is
      by steps.Memory (NotReady why) is = is

  pub not-made : (k : Held) (error : ActError) (new : Known) → ((w : World) → Shows w (holding h) → IsStepOf (Err error) (step (configuration_in key) w event) w (holding h) (holding k))
      → new.notes ≡ v.notes → new.refused ≡ v.refused → WasNotMade key asked (refusal_of n error) first new
  not-made k steps.Memory new acts notes refused = refused ∙ took.refused
  not-made k (steps.NotReady reason) new acts notes refused = record {
    under = took.under;
    hand = v.hand;
    noted = noted-still n v.hand first v new took.noted notes;
    not_possible = record {
      needed = (took.taken, took.all);
      says = λ log count up stand. subst (λ o. IsNotPossible (configuration_in key) (world_after (configuration_in key) log) o reason) (sym (is_event log up stand))
          (says (world_after (configuration_in key) log) (step (configuration_in key) (world_after (configuration_in key) log) event) refl
          (acts (world_after (configuration_in key) log) (λ o has. shows-of log up stand o (part-of-held h o has))));
    };
    seen = took.seen;
    refused = refused ∙ took.refused;
  }
    where
      says : (w : World) (o : Outcome) → step (configuration_in key) w event ≡ o → IsStepOf (Err (steps.NotReady reason)) o w (holding h) (holding k)
          → step (configuration_in key) w event ≡ NotReady reason
      says w (Did u ms) e is = absurd is
      says w (NotReady why) e is = e ∙ ap NotReady (sym is.0)

-- the same under a copy of the settings
pub own-key : (key s : Settings) (event : Event) (r : Result MarkList ActError) (h k : Held) → s ≡ key → Acts r (plan (configuration_in s) event) h k
    → IsAct r (step (configuration_in key) (holding h).world event) (holding h) (holding k)
own-key key s event r h k same is = subst (λ z. Acts r (plan (configuration_in z) event) h k) same is

pub steps-key : (key s : Settings) (event : Event) (r : Result MarkList ActError) (h k : Held) → s ≡ key
    → ((w : World) → Shows w (holding h) → IsStepOf r (step (configuration_in s) w event) w (holding h) (holding k))
    → (w : World) → Shows w (holding h) → IsStepOf r (step (configuration_in key) w event) w (holding h) (holding k)
steps-key key s event r h k same all w shows = subst (λ z. IsStepOf r (step (configuration_in z) w event) w (holding h) (holding k)) same (all w shows)

pub ready-key : (key s : Settings) (event : Event) (h : Held) → s ≡ key → IsReady (configuration_in key) event h → IsReady (configuration_in s) event h
ready-key key s event h same is = subst (λ z. IsReady (configuration_in z) event h) (sym same) is

-- the names of what is held do not change with an act
pub named-key : (key s : Settings) (h : Held) (names : List PartName) (hand : List (ℕ × PartValue)) (event : Event) (m : MarkList) (k : Held) → IsHolding (configuration_in key) (holding h) names hand
    → IsAct (Ok m) (step (configuration_in key) (holding h).world event) (holding h) (holding k) → (p : PartName) → (holding k).parts p ≡ is_held names p
named-key key s h names hand event m k holds own p = by (step (configuration_in key) (holding h).world event) own ∙ holds.named p
  where
    by : (o : Outcome) → IsAct (Ok m) o (holding h) (holding k) → (holding k).parts p ≡ (holding h).parts p
    by (Did u ms) is = ap (λ (z : Holding). z.parts p) is.1
    by (NotReady reason) is = absurd is

pub shown-key : (key s : Settings) (k : Held) (names : List PartName) (xs ys : List (InHand PartValue)) → s ≡ key → ys ≡ xs → AreShown (configuration_in s) (holding k) names (hand_of xs)
    → AreShown (configuration_in key) (holding k) names (hand_of ys)
shown-key key s k names xs ys same slice is = subst (λ z. AreShown (configuration_in z) (holding k) names (hand_of ys)) same (subst (λ zs. AreShown (configuration_in s) (holding k) names (hand_of zs)) (sym slice) is)

-- it stopped, and what was taken was given back
pub stopped-as : (key : Settings) (asked : Asked) (error : TakeError) (old mid new : Known) → WasStopped key asked error old mid → new.notes ≡ mid.notes → new.refused ≡ mid.refused
    → WasNotMade key asked (error_of error) old new
stopped-as key asked (takes.Busy name) old mid new was notes refused = record {
  place = was.place;
  place_is = was.place_is;
  at = was.at;
  taken = was.taken;
  needed = was.needed;
  was = was.was;
  not_alone = was.not_alone;
  refused = refused ∙ was.refused;
  looks = was.looks;
  noted = notes ∙ was.noted;
  under = was.under;
}
stopped-as key asked (takes.Full n) old mid new was notes refused = record {
  over = was.over;
  hand = was.hand;
  noted = noted-still n was.hand old mid new was.noted notes;
  refused = refused ∙ was.refused;
}

-- ---- turns

module _ (key : Settings) (turn : Turn) (weather : Weather) (n : ℕ) (first v : Known) (h : Held) (names : List PartName) (holds : IsHolding (configuration_in key) (holding h) names v.hand)
    (took : TookAll key (asks.Turn turn weather) n first v) where
  -- the event that a turn is by what is held is the one that it is in each world for which the parts in hand stand
  turn-in : (log : List Told) → IsUp (configuration_in key) log → AllStand (StandsFor key log) v.hand → event_of weather (holding h).world turn ≡ event_of weather (world_after (configuration_in key) log) turn
  turn-in log up stand = turn-same (configuration_in key) h (world_after (configuration_in key) log)
      (seen-world key (length log) h names v.hand (record { log = log; length_is = refl; up = up; stand = stand }) holds)
      (up-world (configuration_in key) log up).placed weather turn
      (ap (λ f. next_part f (world_after (configuration_in key) log) (asked_needs (configuration_in key) (asks.Turn turn weather))) (λ i p. held-shown (configuration_in key) (holding h) names v.hand up.limited holds p i)
      ∙ none-needed key log v.hand stand up (asks.Turn turn weather) took.all)

  pub turn-event : (event : Event) (o : Option Event) → o ≡ event_of weather (holding h).world turn → o ≡ Some event → IsEventOf key (asks.Turn turn weather) event v.hand
  turn-event event o is some log up stand = sym (turn-in log up stand) ∙ sym is ∙ some

  pub none-due : (new : Known) (o : Option Event) → o ≡ event_of weather (holding h).world turn → o ≡ None → new.notes ≡ v.notes → new.refused ≡ v.refused
      → WasNotReady key (asks.Turn turn weather) n reasons.Empty first new
  none-due new o is none notes refused = record {
    under = took.under;
    hand = v.hand;
    noted = noted-still n v.hand first v new took.noted notes;
    not_possible = record {
      needed = (took.taken, took.all);
      says = λ log count up stand. subst (λ e. IsNotPossible (configuration_in key) (world_after (configuration_in key) log) e reasons.Empty)
          (sym (sym (turn-in log up stand) ∙ sym is ∙ none)) refl;
    };
    seen = took.seen;
    refused = refused ∙ took.refused;
  }
