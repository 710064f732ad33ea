-- What a look shows of the parts in hand. For proofs only.
use Rattle.std.proofs.Common.{◌≡◌, ◌∙◌, refl, sym, ap, subst, ℕ, ◌<◌, ◌≤◌, inl, ⊎_elim, arith, true, List, [], ◌∷◌, ◌++◌, length, Some, append_assoc}
use Rattle.std.specs.Option.{option_map_or}
use Rattle.ca_adapter.specs.Ready.{ArePartsOfWorld}
use Rattle.ca_base.specs.Configuration.{configuration_in}
use Rattle.ca_base.specs.declared.settings.Settings.{Settings}
use Rattle.ca_verbs_machine.specs.After.{world_after}
use Rattle.ca_verbs_machine.specs.Meanings.{CanFollow, StandsFor, next_of}
use Rattle.ca_verbs_machine.specs.Steps.{up-follows, up-none, up-world}
use Rattle.ca_verbs_machine.specs.Values.{PartValue, value_of}
use Rattle.ca_adapter_parts.specs.declared.held.Held.{Held}
use Rattle.ca_adapter_parts.specs.declared.part.Part.{Part}
use Rattle.ca_adapter_parts.specs.HeldView.{holding}
use Rattle.ca_adapter_parts.specs.Taking.{is_of_kind}
use Rattle.ca_keys.specs.declared.place.Place.{Place}
use Rattle.ca_verbs_machine.specs.ca_law_parts.Placed.{is_configured}
use Rattle.ca_model.specs.declared.part_name.PartName.{PartName}
use Rattle.ca_model.specs.declared.part_name.PartName.TheVariants as kinds
use Rattle.ca_model.specs.machine.Parts.{ShowsHeld, part_of}
use Rattle.ca_model.specs.machine.Sound.{AreLimited}
use Rattle.ca_model.specs.machine.World.{Byte_at, get}
use Rattle.ca_parts.proofs.Lists.{has_either, has_left, has_right}
use Rattle.ca_parts.specs.Calls.{Sees}
use Rattle.ca_parts.specs.Lists.{Has}
use Rattle.ca_model_places.specs.Places.{place_of}
use Rattle.ca_verbs_taking.proofs.HandLemmas.{IsFound, find}
use Rattle.ca_verbs_taking.proofs.PartLemmas.{kind-of}
use Rattle.ca_verbs_taking.specs.Holding.{IsHolding, Known}
use Rattle.ca_verbs_taking.specs.Taking.{HasLooked, IsSeen, SameRecord}

some-same : {A : Type 0} (a b : A) → Some a ≡ Some b → a ≡ b
some-same a b is = ap (λ o. option_map_or (λ x. x) o a) is

-- what a look sees, below the limit of events
pub seen-of : (key : Settings) (n : ℕ) (v : Known) → AreLimited (configuration_in key) → n < key.events → Sees next_of CanFollow StandsFor key n v → IsSeen key n v.hand
seen-of key n v limited under sees = record {
  log = sees.log;
  length_is = sees.length_is;
  up = up-follows key [] sees.log (up-none (configuration_in key) limited) sees.follows (omega (arith, limited.events, under, sees.length_is));
  stand = sees.hand_stands;
}

-- a look is noted
pub looked-of : (key : Settings) (n : ℕ) (old new : Known) → Sees next_of CanFollow StandsFor key n old → new.notes ≡ old.notes ++ (n, old.hand) ∷ [] → HasLooked n old.hand old new
looked-of key n old new sees noted = record {
  between = [];
  noted = noted;
  later = λ m e has. (sees.entries_true m e has).0;
  read = λ m h has. (sees.notes_true m h has).0;
  before = λ m h has. absurd has;
}

-- one look after another
pub looked-on : (m n : ℕ) (g h : List (ℕ × PartValue)) (old mid new : Known) → HasLooked m g old mid → SameRecord old mid → HasLooked n h mid new → HasLooked n h old new
looked-on m n g h old mid new one same other = record {
  between = one.between ++ ((m, g) ∷ other.between);
  noted = other.noted ∙ ap (λ ns. ns ++ (other.between ++ (n, h) ∷ [])) one.noted
      ∙ append_assoc old.notes (one.between ++ (m, g) ∷ []) (other.between ++ (n, h) ∷ [])
      ∙ ap (λ ns. old.notes ++ ns) (append_assoc one.between ((m, g) ∷ []) (other.between ++ (n, h) ∷ [])
      ∙ sym (append_assoc one.between ((m, g) ∷ other.between) ((n, h) ∷ [])));
  later = λ k e has. other.later k e (subst (λ es. Has (k, e) es) (sym same.1) has);
  read = λ k f has. other.read k f (subst (λ ns. Has (k, f) ns) (sym one.noted) (has_left (k, f) old.notes (one.between ++ (m, g) ∷ []) has));
  before = λ k f has. ⊎_elim (λ first. let low : k ≤ m = one.before k f first in omega (arith, low, middle))
      (λ then. ⊎_elim (λ is. let here : k ≡ m = ap (λ (x : ℕ × List (ℕ × PartValue)). x.0) is in omega (arith, here, middle)) (other.before k f) then)
      (has_either (k, f) one.between ((m, g) ∷ other.between) has);
}
  where
    middle : m ≤ n
    middle = other.read m g (subst (λ ns. Has (m, g) ns) (sym one.noted) (has_right (m, g) old.notes (one.between ++ (m, g) ∷ []) (has_right (m, g) one.between ((m, g) ∷ []) (inl refl))))

-- the parts in hand are those of the world that was seen
module _ (key : Settings) (n : ℕ) (h : Held) (names : List PartName) (hand : List (ℕ × PartValue)) (seen : IsSeen key n hand) (holds : IsHolding (configuration_in key) (holding h) names hand) where
  pub seen-world : ShowsHeld (holding h).parts (holding h).world (world_after (configuration_in key) seen.log)
  seen-world m held =
      let f : IsFound (configuration_in key) (holding h) hand (part_of m) = find (configuration_in key) (holding h) names hand seen.up.limited holds (part_of m) held in
      some-same _ _ (sym (f.of.things m refl) ∙ (seen.stand f.place f.value f.has seen.up (part_of m) f.place_is).things m refl)

  seen-bytes : (p : Place) → (holding h).parts (kinds.Buffer p.adapter p.buffer) ≡ true → is_configured (configuration_in key) (Byte_at p) ≡ true → (holding h).has (Byte_at p) ≡ true
  seen-bytes p held set =
      let f : IsFound (configuration_in key) (holding h) hand (kinds.Buffer p.adapter p.buffer) = find (configuration_in key) (holding h) names hand seen.up.limited holds (kinds.Buffer p.adapter p.buffer) held in
      f.of.bytes p refl ∙ (seen.stand f.place f.value f.has seen.up (kinds.Buffer p.adapter p.buffer) f.place_is).whole p refl set

  pub parts-of-world : ArePartsOfWorld (configuration_in key) h
  parts-of-world = record {
    count = length seen.log;
    world = world_after (configuration_in key) seen.log;
    after = up-world (configuration_in key) seen.log seen.up;
    shows = seen-world;
    whole = seen-bytes;
  }

-- a part in hand is of its name's kind
pub kind-seen : (key : Settings) (n : ℕ) (hand : List (ℕ × PartValue)) (name : PartName) (place : ℕ) (part : Part) → IsSeen key n hand → Has (place, value_of part) hand
    → place_of (configuration_in key) name ≡ Some place → is_of_kind name part ≡ true
kind-seen key n hand name place part seen has at = kind-of name part (λ m. get (world_after (configuration_in key) seen.log) m) (seen.stand place (value_of part) has seen.up name at).things
