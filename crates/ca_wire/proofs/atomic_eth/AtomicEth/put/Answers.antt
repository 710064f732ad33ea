use Rattle.std.proofs.Common.{List, ℕ, ◌++◌, ap}
use Rattle.ca_wire.proofs.NumberLaws.{atomic_groups}
use Rattle.ca_wire.proofs.atomic_eth.AtomicEth.put.Goals as goal

pub returns-clause-items : goal.returns-clause-items
returns-clause-items c = rw (c.put_groups.ensures.items, c.halves.ensures.high, c.halves.ensures.low, c.halves-2.ensures.high, c.halves-2.ensures.low, c.halves-3.ensures.high, c.halves-3.ensures.low, c.group-key.ensures) (ap (λ (t : List ℕ). c.args.out.now.items ++ t) (atomic_groups c.args.self.address c.args.self.key.0 c.args.self.swap c.args.self.compare))
