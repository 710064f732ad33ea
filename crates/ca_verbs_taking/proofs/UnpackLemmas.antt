-- Parts taken out of what is held one after another. For proofs only.
use Rattle.std.proofs.Common.{◌≡◌, ◌∙◌, sym, ap, subst, ℕ, ◌+◌, ◌<◌, ◌≤◌, true, List, [], ◌∷◌, ◌++◌, drop, get_or, length, take, is_some}
use Rattle.std.proofs.lemmas.List.{drop_more, map-append, take_more}
use Rattle.ca_base.specs.Configuration.{Configuration, configuration_in}
use Rattle.ca_base.specs.declared.settings.Settings.{Settings}
use Rattle.ca_verbs_machine.specs.Values.{PartValue, value_of}
use Rattle.ca_adapter_parts.specs.declared.held.Held.{Held}
use Rattle.ca_adapter_parts.specs.HeldView.{Holding, holding}
use Rattle.ca_model.specs.declared.part_name.PartName.{PartName}
use Rattle.ca_model.specs.machine.Parts.{is_held}
use Rattle.ca_model.specs.machine.Sound.{AreLimited}
use Rattle.ca_parts.specs.Lists.{numbers_of, times}
use Rattle.ca_model_places.specs.Places.{place_of}
use Rattle.ca_verbs_taking.specs.Hands.{AreApart}
use Rattle.ca_verbs_taking.proofs.HandLemmas.{IsFound, IsUnpacking, apart-hand, find, same-hand, unpacked-more}
use Rattle.ca_verbs_taking.specs.Giving.{IsTakenOut}
use Rattle.ca_verbs_taking.specs.Holding.{AreShown, IsHolding, hand_of}
use Rattle.ca_verbs_taking.specs.declared.in_hand.InHand.{InHand}

pub unpacked-on : (c : Configuration) (first : Holding) (h k : Held) (names : List PartName) (i : ℕ) (d : PartName) (out more : List (InHand PartValue)) (t : InHand PartValue)
    → IsUnpacking c first (holding h) (take i names) (drop i names) (hand_of out) → i < length names → IsTakenOut c (get_or names i d) t h k → more ≡ out ++ t ∷ []
    → IsUnpacking c first (holding k) (take (i + 1) names) (drop (i + 1) names) (hand_of more)
unpacked-on c first h k names i d out more t is less one added =
    subst (λ ds. IsUnpacking c first (holding k) ds (drop (i + 1) names) (hand_of more)) (sym (take_more names i d less))
    (subst (λ ha. IsUnpacking c first (holding k) (take i names ++ get_or names i d ∷ []) (drop (i + 1) names) ha) (sym hand)
    (unpacked-more c first (holding h) (holding k) (take i names) (get_or names i d) (drop (i + 1) names) (hand_of out) one.part t.part
    (subst (λ rest. IsUnpacking c first (holding h) (take i names) rest (hand_of out)) (drop_more names i d less) is) one.kind one.place one.back one.gone))
  where
    hand : hand_of more ≡ hand_of out ++ (t.part, value_of one.part) ∷ []
    hand = ap hand_of added ∙ map-append (λ (u : InHand PartValue). (u.part, u.value)) out (t ∷ []) ∙ ap (λ v. hand_of out ++ (t.part, v) ∷ []) one.value

-- what is named is configured, and so has a place
pub placed-names : (c : Configuration) (h : Holding) (names : List PartName) (hand : List (ℕ × PartValue)) → AreLimited c → IsHolding c h names hand
    → (p : PartName) → is_held names p ≡ true → is_some (place_of c p) ≡ true
placed-names c h names hand limited holds p held =
    let f : IsFound c h hand p = find c h names hand limited holds p (holds.named p ∙ held) in ap is_some f.place_is

-- the same under a copy of the settings
pub placed-of : (key s : Settings) (h : Holding) (names : List PartName) (hand : List (ℕ × PartValue)) → s ≡ key → AreLimited (configuration_in key) → IsHolding (configuration_in key) h names hand
    → (p : PartName) → is_held names p ≡ true → is_some (place_of (configuration_in s) p) ≡ true
placed-of key s h names hand same limited holds p held = ap (λ k. is_some (place_of (configuration_in k) p)) same ∙ placed-names (configuration_in key) h names hand limited holds p held

-- what was taken out of what is held is the hand, in which no number stands twice
pub back-hand : (key s : Settings) (h : Holding) (names : List PartName) (hand : List (ℕ × PartValue)) (out : List (InHand PartValue)) → s ≡ key → IsHolding (configuration_in key) h names hand
    → AreShown (configuration_in s) h names (hand_of out) → hand ≡ hand_of out
back-hand key s h names hand out same holds shown = same-hand (configuration_in key) h names hand (hand_of out) holds.shown (subst (λ k. AreShown (configuration_in k) h names (hand_of out)) same shown)

pub back-apart : (key s : Settings) (h : Holding) (names : List PartName) (out : List (InHand PartValue)) → s ≡ key → AreLimited (configuration_in key) → AreApart names
    → AreShown (configuration_in s) h names (hand_of out) → (k : ℕ) → times k (numbers_of (hand_of out)) ≤ 1
back-apart key s h names out same limited apart shown k = apart-hand (configuration_in key) h names (hand_of out) k limited (subst (λ z. AreShown (configuration_in z) h names (hand_of out)) same shown) apart
