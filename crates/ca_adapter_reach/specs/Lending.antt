-- What a shelf is once a reference to a thing on it has ended. Contracts cite it.
use Rattle.std.specs.Borrow.{Fml, RattleType, MutBor, Lends}
use Rattle.ca_adapter_reach.specs.declared.shelf_name.ShelfName.{Ghosts}
use Rattle.ca_adapter_reach.specs.Shelved.{Shelved, with_thing}
use Rattle.ca_adapter_reach.specs.contracts.shelf.Shelf.{the_row}

-- the thing of this name is the last value behind the reference
abbrev pub LendsThing : (N T : RattleType) → Ghosts N.Denot → MutBor (Shelved N.Denot T.Denot) → N.Denot
    → MutBor T.Denot → Fml
LendsThing N T names s name r =
    Lends (the_row N T names) T s r (λ v. record s.now { things = with_thing names.same name v s.now.things })
