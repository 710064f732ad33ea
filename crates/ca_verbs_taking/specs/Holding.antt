-- How what is held shows the parts in a pass's hand. Contracts cite it.
use Rattle.std.specs.Prelude.{◌≡◌, ℕ, List, [], ◌∷◌, map, Some}
use Rattle.ca_base.specs.Configuration.{Configuration}
use Rattle.ca_base.specs.declared.settings.Settings.{Settings}
use Rattle.ca_verbs_machine.specs.Values.{PartValue, has_byte, thing_in}
use Rattle.ca_verbs_machine.specs.declared.asked.Asked.{Asked}
use Rattle.ca_verbs_machine.specs.declared.asked.Told.{Told}
use Rattle.ca_adapter_parts.specs.HeldView.{Holding}
use Rattle.ca_keys.specs.declared.place.Place.{Place}
use Rattle.ca_model.specs.declared.part_name.PartName.{PartName}
use Rattle.ca_model.specs.machine.Parts.{is_held, part_of}
use Rattle.ca_model.specs.machine.World.{Name, Byte_at, get}
use Rattle.ca_parts.specs.declared.view.View.{View}
use Rattle.ca_model_places.specs.Places.{place_of}
use Rattle.ca_verbs_taking.specs.Hands.{AreApart}
use Rattle.ca_verbs_taking.specs.declared.in_hand.InHand.{InHand}

-- what a pass of a fabric knows
abbrev pub Known : Type 0
Known = View Settings Asked Told PartValue

-- parts with their values, as a hand has them
abbrev pub hand_of : {T : Type 0} → List (InHand T) → List (ℕ × T)
hand_of parts = map (λ t. (t.part, t.value)) parts

-- a part of this name in what is held has this value
pub record IsPartOf (h : Holding) (name : PartName) (x : PartValue) : Type 0 where
  pub things : (n : Name) → part_of n ≡ name → thing_in n x ≡ Some (get h.world n)
  pub bytes : (p : Place) → part_of (Byte_at p) ≡ name → h.has (Byte_at p) ≡ has_byte x p

-- the parts of these names, one after the other, are those of a hand, at their places
abbrev pub AreShown : Configuration → Holding → List PartName → List (ℕ × PartValue) → Type 0
AreShown c h [] [] = Unit {0}
AreShown c h (name ∷ names) (x ∷ hand) = (place_of c name ≡ Some x.0) × IsPartOf h name x.1 × AreShown c h names hand
AreShown c h names hand = ⊥

-- what is held is what is in a hand; the names of its parts are in the order of taking, each once
pub record IsHolding (c : Configuration) (h : Holding) (names : List PartName) (hand : List (ℕ × PartValue)) : Type 0 where
  pub shown : AreShown c h names hand
  pub named : (p : PartName) → h.parts p ≡ is_held names p
  pub apart : AreApart names
