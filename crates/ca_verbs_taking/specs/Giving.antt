-- What it is to take a part out of what is held, and what giving back leaves of a pass. Contracts of the crate's own
-- functions and of those above cite it.
use Rattle.std.specs.Prelude.{◌≡◌, true, Some}
use Rattle.ca_base.specs.Configuration.{Configuration}
use Rattle.ca_verbs_machine.specs.Values.{PartValue, value_of}
use Rattle.ca_adapter_parts.specs.declared.held.Held.{Held}
use Rattle.ca_adapter_parts.specs.declared.part.Part.{Part}
use Rattle.ca_adapter_parts.specs.HeldView.{holding}
use Rattle.ca_adapter_parts.specs.Taking.{is_of_kind, with_part, without_part}
use Rattle.ca_model.specs.declared.part_name.PartName.{PartName}
use Rattle.ca_model_places.specs.Places.{place_of}
use Rattle.ca_verbs_taking.specs.Holding.{Known}
use Rattle.ca_verbs_taking.specs.declared.in_hand.InHand.{InHand}

-- a part was taken out of what is held, with its place
pub record IsTakenOut (c : Configuration) (name : PartName) (t : InHand PartValue) (h k : Held) : Type 0 where
  pub part : Part
  pub value : t.value ≡ value_of part
  pub place : place_of c name ≡ Some t.part
  pub kind : is_of_kind name part ≡ true
  pub back : with_part name part (holding k) ≡ holding h
  pub gone : holding k ≡ without_part name (holding h)

-- the notes and the refusals of a pass are as they were
abbrev pub SameNotes : Known → Known → Type 0
SameNotes old new = (new.notes ≡ old.notes) × (new.refused ≡ old.refused)
