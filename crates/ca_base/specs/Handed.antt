-- What a call leaves behind a reference that it is handed, if it is handed one. Contracts cite it.
use Rattle.std.specs.Prelude.{Option, None, Some}
use Rattle.std.specs.Borrow.{MutBor}
use Rattle.std.proofs.Common.{◌⊎◌, inl, inr}

-- the value that is left
abbrev pub left_behind : {T : Type 0} → (Unit {0}) ⊎ ((MutBor T × Unit {0}) ⊎ ⊥) → Option T
left_behind (inl none) = None
left_behind (inr (inl some)) = Some some.0.now
left_behind (inr (inr never)) = None
