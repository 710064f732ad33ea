use Rattle.std.proofs.Common.{subst}
use Rattle.ca_adapter_reach.specs.Found.{IsFound}
use Rattle.ca_adapter_reach.proofs.ThingLemmas.{set_distinct}
use Rattle.ca_adapter_reach.proofs.shelf.Shelf.at_mut.Goals as goal

pub invariant_of-self-lent : goal.invariant_of-self-lent
invariant_of-self-lent g c = λ v. set_distinct g.N.ShelfName.same c.args.name c.self.inside.items.items c.in-Some.i c.index_mut-named.result.now v
    (subst (λ xs. IsFound g.N.ShelfName.same c.args.name xs c.in-Some.i) c.as_slice.ensures.value c.in-Some.ensures.found) c.index_mut-named.ensures.value c.self.invariant
