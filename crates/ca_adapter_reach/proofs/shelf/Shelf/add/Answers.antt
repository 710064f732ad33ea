use Rattle.std.proofs.Common.{◌∙◌, ap}
use Rattle.std.specs.Result.{is_ok}
use Rattle.ca_adapter_reach.specs.Shelved.{has_thing}
use Rattle.ca_adapter_reach.proofs.ThingLemmas.{distinct_added}
use Rattle.ca_adapter_reach.proofs.shelf.Shelf.add.Goals as goal

pub invariant_of-self : goal.invariant_of-self
invariant_of-self g c = rw c.push.ensures.items
    (distinct_added g.N.ShelfName.same g.N.ShelfName.path c.args.name c.args.thing c.self.inside.items.items (is_ok c.push.result)
    (ap (λ s. has_thing g.N.ShelfName.same c.args.name s.things) c.self.view_is ∙ c.requires.free) c.self.invariant)
