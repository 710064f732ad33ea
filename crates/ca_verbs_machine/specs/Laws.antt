-- The laws of the machine: a step changes only the parts that it needs, and what is needed next is not in hand. For proofs
-- only.
use Rattle.std.proofs.Common.{◌≡◌, ◌∙◌, refl, sym, ap, subst, ℕ, ◌==◌, inl, inr, Bool, true, false, List, [], ◌∷◌, ◌++◌, length, Option, None, Some, is_some, if◌then◌else◌, true≢false}
use Rattle.std.proofs.lemmas.Bool.{eq-eqb, eqb-true}
use Rattle.std.proofs.lemmas.Option.{none-some}
use Rattle.std.specs.List.{AllByRecursion}
use Rattle.std.specs.Option.{option_and_then, option_map_or}
use Rattle.ca_base.specs.Configuration.{Configuration, configuration_in}
use Rattle.ca_base.specs.declared.settings.Settings.{Settings}
use Rattle.ca_verbs_machine.specs.After.{IsStep, IsUp, next_world, world_after}
use Rattle.ca_verbs_machine.specs.Asks.{asked_needs, event_asked}
use Rattle.ca_verbs_machine.specs.Hands.{Shown, at, is_shown, next_name, thing_shown, vacant_world, value_at, world_shown}
use Rattle.ca_verbs_machine.specs.Meanings.{CanFollow, StandsFor, next_of}
use Rattle.ca_verbs_machine.specs.Places.{asked-configured, event-enough, placed}
use Rattle.ca_verbs_machine.specs.Steps.{from-more, up-before, up-last, up-world}
use Rattle.ca_verbs_machine.specs.Values.{IsPartIn, PartValue, thing_in}
use Rattle.ca_verbs_machine.specs.declared.asked.Asked.{Asked}
use Rattle.ca_verbs_machine.specs.declared.asked.Told.{Told}
use Rattle.ca_keys.specs.Memory.{zeros}
use Rattle.ca_law_parts.proofs.Parts.EventPartLemmas.{among-held, event-held}
use Rattle.ca_law_parts.proofs.Parts.NeedsLemmas.{next-same, some-missing}
use Rattle.ca_model.proofs.RestLemmas.{event-leaves}
use Rattle.ca_model.proofs.ThingLemmas.{name-path}
use Rattle.ca_model.specs.declared.part_name.PartName.{PartName}
use Rattle.ca_model.specs.machine.Frame.{IsNoneOf, LeavesRest, name_eq}
use Rattle.ca_model.specs.machine.Parts.{ShowsHeld, event_needs, is_configured_part, listed, next_part, part_of}
use Rattle.ca_model.specs.machine.Plan.{Did, touches}
use Rattle.ca_model.specs.machine.Step.{plan}
use Rattle.ca_model.specs.machine.World.{World, Name, Domain_of, Region_of, Window_of, Cq_of, Srq_of, Queue_of, Mailbox_of, Byte_at, Thing, get, opening_world}
use Rattle.ca_parts.specs.Hands.{AllStand, IsTakenFor, Suffices}
use Rattle.ca_parts.specs.Lists.{Has}
use Rattle.ca_model_places.specs.Places.{place_of}
use Rattle.ca_law_parts.specs.Worlds.{IsWorldAfter}

-- ---- the value of a number in a hand

pub at-has : (hand : List (ℕ × PartValue)) (k : ℕ) (x : PartValue) → at hand k ≡ Some x → Has (k, x) hand
at-has [] k x is = absurd (none-some x is)
at-has (y ∷ ys) k x is = by (k == y.0) refl (at-has ys k x) is
  where
    by : (b : Bool) → (k == y.0) ≡ b → (at ys k ≡ Some x → Has (k, x) ys) → (if b then Some y.1 else at ys k) ≡ Some x → Has (k, x) (y ∷ ys)
    by true e rest is = inl (λ i. (eqb-true k y.0 e i, ap (λ o. option_map_or (λ z. z) o x) (sym is) i))
    by false e rest is = inr (rest is)

pub has-at : (hand : List (ℕ × PartValue)) (k : ℕ) (x : PartValue) → Has (k, x) hand → is_some (at hand k) ≡ true
has-at [] k x has = absurd has
has-at (y ∷ ys) k x has = by (k == y.0) refl (has-at ys k x) has
  where
    by : (b : Bool) → (k == y.0) ≡ b → (Has (k, x) ys → is_some (at ys k) ≡ true) → Has (k, x) (y ∷ ys) → is_some (if b then Some y.1 else at ys k) ≡ true
    by true e rest has = refl
    by false e rest (inl same) = absurd (true≢false (sym (eq-eqb k y.0 (ap (λ (p : ℕ × PartValue). p.0) same)) ∙ e))
    by false e rest (inr later) = rest later

pub absent-at : (hand : List (ℕ × PartValue)) (k : ℕ) → ((x : PartValue) → ¬ Has (k, x) hand) → is_some (at hand k) ≡ false
absent-at hand k absent = by (at hand k) refl
  where
    by : (o : Option PartValue) → at hand k ≡ o → is_some o ≡ false
    by None e = refl
    by (Some x) e = absurd (absent x (at-has hand k x e))

-- ---- the small world of what is shown

pub world-get : (c : Configuration) (f : Shown) (n : Name) → get (world_shown c f) n ≡ thing_shown c f n
world-get c f (Domain_of d) = refl
world-get c f (Region_of s) = refl
world-get c f (Window_of s) = refl
world-get c f (Cq_of s) = refl
world-get c f (Srq_of s) = refl
world-get c f (Queue_of q) = refl
world-get c f (Mailbox_of q) = refl
world-get c f (Byte_at p) = refl

-- a thing of a value that is shown
pub shown-thing : (c : Configuration) (f : Shown) (n : Name) (x : PartValue) (v : Thing n) → value_at c f (part_of n) ≡ Some x → thing_in n x ≡ Some v → get (world_shown c f) n ≡ v
shown-thing c f n x v there is = world-get c f n
    ∙ ap (λ o. option_map_or (λ y. y) (option_and_then (thing_in n) o) (get vacant_world n)) there
    ∙ ap (λ o. option_map_or (λ y. y) o (get vacant_world n)) is

-- the values of a hand show the world for which they stand
module _ (key : Settings) (log : List Told) (hand : List (ℕ × PartValue)) (stand : AllStand (StandsFor key log) hand) (up : IsUp (configuration_in key) log) where
  pub hand-shows : ShowsHeld (is_shown (configuration_in key) (at hand)) (world_shown (configuration_in key) (at hand)) (world_after (configuration_in key) log)
  hand-shows n held = by (place_of (configuration_in key) (part_of n)) refl held
    where
      found : (k : ℕ) (o : Option PartValue) → place_of (configuration_in key) (part_of n) ≡ Some k → at hand k ≡ o → is_some o ≡ true
          → get (world_shown (configuration_in key) (at hand)) n ≡ get (world_after (configuration_in key) log) n
      found k None e is held = absurd (true≢false (sym held))
      found k (Some x) e is held = shown-thing (configuration_in key) (at hand) n x (get (world_after (configuration_in key) log) n)
          (ap (option_and_then (at hand)) e ∙ is) ((stand k x (at-has hand k x is) up (part_of n) e).things n refl)

      by : (o : Option ℕ) → place_of (configuration_in key) (part_of n) ≡ o → is_some (option_and_then (at hand) o) ≡ true
          → get (world_shown (configuration_in key) (at hand)) n ≡ get (world_after (configuration_in key) log) n
      by None e held = absurd (true≢false (sym held))
      by (Some k) e held = found k (at hand k) e refl held

  -- where nothing is needed next by what the hand shows, nothing is in that world
  pub none-needed : (asked : Asked) → next_of key asked hand ≡ None
      → next_part (is_shown (configuration_in key) (at hand)) (world_after (configuration_in key) log) (asked_needs (configuration_in key) asked) ≡ None
  none-needed asked none = by (next_name (configuration_in key) asked (at hand)) refl none
    where
      c : Configuration
      c = configuration_in key

      after : IsWorldAfter (configuration_in key) (length log) (world_after (configuration_in key) log)
      after = up-world (configuration_in key) log up

      same : next_part (is_shown (configuration_in key) (at hand)) (world_shown (configuration_in key) (at hand)) (asked_needs (configuration_in key) asked)
          ≡ next_part (is_shown (configuration_in key) (at hand)) (world_after (configuration_in key) log) (asked_needs (configuration_in key) asked)
      same = next-same (is_shown (configuration_in key) (at hand)) (world_shown (configuration_in key) (at hand)) (world_after (configuration_in key) log) (asked_needs (configuration_in key) asked) hand-shows

      configured : (p : PartName) → next_name (configuration_in key) asked (at hand) ≡ Some p → is_configured_part (configuration_in key) p ≡ true
      configured p e = among-held (is_configured_part (configuration_in key)) (listed (world_after (configuration_in key) log) (asked_needs (configuration_in key) asked)) p
          (asked-configured (configuration_in key) (world_after (configuration_in key) log) asked up.limited after.sound after.placed)
          (some-missing (is_shown (configuration_in key) (at hand)) (world_after (configuration_in key) log) (asked_needs (configuration_in key) asked) p (sym same ∙ e)).among

      by : (o : Option PartName) → next_name (configuration_in key) asked (at hand) ≡ o → option_and_then (place_of (configuration_in key)) o ≡ None
          → next_part (is_shown (configuration_in key) (at hand)) (world_after (configuration_in key) log) (asked_needs (configuration_in key) asked) ≡ None
      by None e none = sym same ∙ e
      by (Some p) e none = absurd (true≢false (sym (placed (configuration_in key) p up.limited (configured p e)) ∙ ap is_some none))

-- ---- a step changes only the parts that it needs

-- a name whose part is not held is none of those whose parts are
none-of : (held : PartName → Bool) (n : Name) (ms : List Name) → held (part_of n) ≡ false → AllByRecursion (λ m. held (part_of m) ≡ true) ms → IsNoneOf n ms
none-of held n [] free all = record {}
none-of held n (m ∷ ms) free all = (by (name_eq m n) refl, none-of held n ms free all.1)
  where
    by : (b : Bool) → name_eq m n ≡ b → b ≡ false
    by false e = refl
    by true e = absurd (true≢false (sym all.0 ∙ ap (λ x. held (part_of x)) (name-path m n e) ∙ free))

-- what stands in a part that is not in hand is as it was
stays : (key : Settings) (log : List Told) (e : Told) (asked : Asked) (hand : List (ℕ × PartValue)) (n : Name) → e.asked ≡ asked → Suffices next_of key asked hand
    → AllStand (StandsFor key log) hand → IsUp (configuration_in key) log → IsStep (configuration_in key) (world_after (configuration_in key) log) e
    → is_shown (configuration_in key) (at hand) (part_of n) ≡ false
    → get (world_after (configuration_in key) (log ++ e ∷ [])) n ≡ get (world_after (configuration_in key) log) n
stays key log e asked hand n same all stand up is free = ap (λ z. get z n) (from-more c (opening_world zeros) log e) ∙ left n (none-of held n (touches w (plan c e.event)) free touched)
  where
    c : Configuration
    c = configuration_in key

    w : World
    w = world_after c log

    held : PartName → Bool
    held = is_shown c (at hand)

    none : next_part held w (event_needs c e.event) ≡ None
    none = event-enough c held w asked e.event (subst (λ a. event_asked w a ≡ Some e.event) same is.asked) (none-needed key log hand stand up asked all.1)

    touched : AllByRecursion (λ m. held (part_of m) ≡ true) (touches w (plan c e.event))
    touched = event-held c w e.event held (up-world c log up).sound none

    left : LeavesRest (touches w (plan c e.event)) w (Did (next_world c w e.event) e.marks)
    left = subst (LeavesRest (touches w (plan c e.event)) w) is.did (event-leaves c e.event w)

pub others_stay : (key : Settings) (log : List Told) (e : Told) (asked : Asked) (hand : List (ℕ × PartValue)) (k : ℕ) (x : PartValue) → e.asked ≡ asked → Suffices next_of key asked hand
    → AllStand (StandsFor key log) hand → CanFollow key log e → ((y : PartValue) → ¬ Has (k, y) hand) → StandsFor key log k x → StandsFor key (log ++ e ∷ []) k x
others_stay key log e asked hand k x same all stand follows absent was up name place = record {
  things = λ n of. old.things n of ∙ ap Some (sym (stays key log e asked hand n same all stand before is (free n of)));
  whole = old.whole;
}
  where
    before : IsUp (configuration_in key) log
    before = up-before (configuration_in key) log e up

    is : IsStep (configuration_in key) (world_after (configuration_in key) log) e
    is = up-last (configuration_in key) log e up

    old : IsPartIn (configuration_in key) (world_after (configuration_in key) log) name x
    old = was before name place

    free : (n : Name) → part_of n ≡ name → is_shown (configuration_in key) (at hand) (part_of n) ≡ false
    free n of = ap (λ o. is_some (option_and_then (at hand) o)) (ap (place_of (configuration_in key)) of ∙ place) ∙ absent-at hand k absent

-- ---- what is needed next is not in hand

pub next_is_apart : (key : Settings) (asked : Asked) (hand : List (ℕ × PartValue)) (k : ℕ) → IsTakenFor next_of key asked hand → next_of key asked hand ≡ Some k
    → (y : PartValue) → ¬ Has (k, y) hand
next_is_apart key asked hand k taken next y has = by (next_name (configuration_in key) asked (at hand)) refl next
  where
    by : (o : Option PartName) → next_name (configuration_in key) asked (at hand) ≡ o → option_and_then (place_of (configuration_in key)) o ≡ Some k → ⊥
    by None e next = none-some k next
    by (Some p) e next = true≢false (sym (has-at hand k y has) ∙ ap (λ o. is_some (option_and_then (at hand) o)) (sym next)
        ∙ (some-missing (is_shown (configuration_in key) (at hand)) (world_shown (configuration_in key) (at hand)) (asked_needs (configuration_in key) asked) p e).free)
