use Rattle.std.proofs.Common.{◌≡◌, None, drop}
use Rattle.ca_isolation.proofs.FollowLemmas.{StoresTo}
use Rattle.ca_isolation.specs.Cover.{covers}
use Rattle.ca_isolation.specs.InForce.{AreInForce}
use Rattle.ca_model.specs.Past.{Past}
use Rattle.ca_isolation.proofs.events.add_stores.Given as goal

abbrev pub invariant-loop-mark : goal.invariant-loop-mark
invariant-loop-mark l = (l.stores.front ≡ None)
    × ((past : Past) → AreInForce l.initial.in_force.items past → StoresTo (covers l.cover) l.marks past l.initial.stores (drop l.mark-index l.marks) l.stores l.in_force.items)
