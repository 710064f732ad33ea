-- Where the thing of a name stands. For proofs only.
use Rattle.std.specs.Prelude.{◌≡◌, ℕ, ◌<◌, Bool, List, None, Some, length, slice_index_or, slice_set}
use Rattle.std.specs.List.{remove}
use Rattle.ca_adapter_reach.specs.declared.shelf.Named.{Named}
use Rattle.ca_adapter_reach.specs.Shelved.{thing_under, with_thing, without_thing}

module _ {N T : Type 0} (same : N → N → Bool) (name : N) where
  -- the first thing of a name stands at this place
  pub record IsFound (xs : List (Named N T)) (i : ℕ) : Type 0 where
    pub within : i < length xs
    pub thing : (d : Named N T) → thing_under same name xs ≡ Some (slice_index_or xs i d).thing
    pub changed : (d : Named N T) (v : T)
        → with_thing same name v xs ≡ slice_set xs i (record (slice_index_or xs i d) { thing = v })
    pub gone : without_thing same name xs ≡ remove xs i

  -- there is none
  pub record IsAbsent (xs : List (Named N T)) : Type 0 where
    pub thing : thing_under same name xs ≡ None
    pub same_things : without_thing same name xs ≡ xs
