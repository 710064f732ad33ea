-- A part that is taken in hand from its place, or given back. Contracts of the crate's own functions cite it.
use Rattle.std.specs.Prelude.{Vec, ◌≡◌, ℕ, ◌+◌, ◌≤◌, true, false, List, [], ◌∷◌, length, map, Option, None, Some, is_some}
use Rattle.std.specs.List.{AllByRecursion}
use Rattle.std.specs.Vec.{vec_capacity}
use Rattle.std.specs.declared.alloc.Global.{Global}
use Rattle.ca_base.specs.Configuration.{Configuration}
use Rattle.ca_adapter_parts.specs.declared.held.Held.{Held}
use Rattle.ca_adapter_parts.specs.declared.part.Part.{Part}
use Rattle.ca_adapter_parts.specs.HeldView.{holding, room_for}
use Rattle.ca_adapter_parts.specs.Taking.{is_of_kind, with_part, without_part}
use Rattle.ca_model.specs.declared.part_name.PartName.{PartName}
use Rattle.ca_model.specs.machine.Parts.{is_configured_part, is_held, part_eq}
use Rattle.ca_model.specs.machine.World.{World}
use Rattle.ca_model_places.specs.Places.{place_of}
use Rattle.ca_adapter_store.specs.declared.hand.Taken.{Taken}
use Rattle.ca_adapter_store.specs.declared.hand.TheConstants.{MOST_TAKEN}
use Rattle.ca_adapter_store.specs.Rows.{AreTogether, part_at}
use Rattle.ca_adapter.specs.ca_law_parts.Worlds.{IsWorldAfter}

-- a part of this name's kind is there
abbrev pub IsOfKind : PartName → Option Part → Type 0
IsOfKind name None = ⊥
IsOfKind name (Some part) = is_of_kind name part ≡ true

-- all other parts stand in a row where they stood
abbrev pub LeavesOthers : Configuration → PartName → List Part → List Part → Type 0
LeavesOthers c name old new = (p : PartName) → part_eq name p ≡ false → part_at c new p ≡ part_at c old p

-- each configured name has a place in a row
abbrev pub HasPlaces : Configuration → List Part → Type 0
HasPlaces c row = (p : PartName) → is_configured_part c p ≡ true → is_some (part_at c row p) ≡ true

-- no name stands twice among these
abbrev pub AreApart : List PartName → Type 0
AreApart [] = Unit {0}
AreApart (x ∷ xs) = (is_held xs x ≡ false) × AreApart xs

-- a part was taken from its place in hand
pub record IsTaken (c : Configuration) (name : PartName) (old new : List Part) (h k : Held) : Type 0 where
  pub part : Part
  pub there : part_at c old name ≡ Some part
  pub others : LeavesOthers c name old new
  pub places : HasPlaces c old → HasPlaces c new
  pub held : holding k ≡ with_part name part (holding h)
  pub room : (p : PartName) → room_for h p ≤ room_for k p + 1

-- a part was given back to its place
pub record IsGiven (c : Configuration) (name : PartName) (old new : List Part) (h k : Held) : Type 0 where
  pub part : Part
  pub kind : is_of_kind name part ≡ true
  pub there : part_at c new name ≡ Some part
  pub others : LeavesOthers c name old new
  pub places : HasPlaces c old → HasPlaces c new
  pub back : with_part name part (holding k) ≡ holding h
  pub held : holding k ≡ without_part name (holding h)

-- a row and a hand stand for some world that comes up
pub record IsOfWorld (c : Configuration) (row : List Part) (h : Held) : Type 0 where
  pub count : ℕ
  pub world : World
  pub after : IsWorldAfter c count world
  pub together : AreTogether c world row (holding h)

-- the names of parts in hand
abbrev pub names_of : List Taken → List PartName
names_of = map (λ one. one.name)

-- each of these parts has the place that stands beside its name
abbrev pub AreAtPlaces : Configuration → List Taken → Type 0
AreAtPlaces c = AllByRecursion (λ one. place_of c one.name ≡ Some one.at)

-- A row and a hand stand for some world that comes up; these are the parts in hand, each once, with its place; and there is
-- room for as many as may come.
pub record IsInHand (c : Configuration) (row : List Part) (h : Held) (taken : Vec Taken Global) : Type 0 where
  pub of : IsOfWorld c row h
  pub named : (p : PartName) → (holding h).parts p ≡ is_held (names_of taken.items) p
  pub apart : AreApart (names_of taken.items)
  pub placed : AreAtPlaces c taken.items
  pub room : (p : PartName) → MOST_TAKEN ≤ room_for h p + length taken.items
  pub capacity : MOST_TAKEN ≤ vec_capacity taken
