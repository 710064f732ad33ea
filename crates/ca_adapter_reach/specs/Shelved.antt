-- Things under names, in order, and what becomes of them. Contracts cite it.
use Rattle.std.specs.Prelude.{◌≡◌, ℕ, Bool, true, false, if◌then◌else◌, List, [], ◌∷◌, Option, None, Some, is_some}
use Rattle.ca_adapter_reach.specs.declared.shelf.Named.{Named}

-- the things with their names, and the room for more
pub record Shelved (N T : Type 0) : Type 0 where
  pub things : List (Named N T)
  pub room : ℕ

module _ {N T : Type 0} (same : N → N → Bool) (name : N) where
  -- the first thing of a name
  abbrev pub thing_under : List (Named N T) → Option T
  thing_under [] = None
  thing_under (x ∷ xs) = if same x.name name then Some x.thing else thing_under xs

  -- there is a thing of this name
  abbrev pub has_thing : List (Named N T) → Bool
  has_thing xs = is_some (thing_under xs)

  -- another thing in its place
  abbrev pub with_thing : T → List (Named N T) → List (Named N T)
  with_thing thing [] = []
  with_thing thing (x ∷ xs) = if same x.name name then record x { thing = thing } ∷ xs else x ∷ with_thing thing xs

  -- without it
  abbrev pub without_thing : List (Named N T) → List (Named N T)
  without_thing [] = []
  without_thing (x ∷ xs) = if same x.name name then xs else x ∷ without_thing xs

  -- it is the name of one thing at most
  abbrev pub StandsOnce : List (Named N T) → Type 0
  StandsOnce [] = Unit {0}
  StandsOnce (x ∷ xs) = (same x.name name ≡ true → has_thing xs ≡ false) × StandsOnce xs

-- each name is that of one thing at most
pub record AreDistinct {N T : Type 0} (same : N → N → Bool) (xs : List (Named N T)) : Type 0 where
  pub once : (name : N) → StandsOnce same name xs
