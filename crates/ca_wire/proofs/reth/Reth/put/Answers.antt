use Rattle.std.proofs.Common.{List, ℕ, ◌++◌, ap}
use Rattle.ca_wire.proofs.NumberLaws.{reth_groups}
use Rattle.ca_wire.proofs.reth.Reth.put.Goals as goal

pub returns-clause-items : goal.returns-clause-items
returns-clause-items c = rw (c.put_groups.ensures.items, c.halves.ensures.high, c.halves.ensures.low, c.group.ensures, c.group-2.ensures) (ap (λ (t : List ℕ). c.args.out.now.items ++ t) (reth_groups c.args.self.address c.args.self.key.0 c.args.self.length))
