use Rattle.std.proofs.Common.{not, arith}
use Rattle.std.proofs.lemmas.Grind.{common_steps}
use Rattle.ca_keys.specs.Equal.{queue_eq}
use Rattle.ca_cq.proofs.Parts.{length-filter-le}
use Rattle.ca_cq.proofs.cq.Cq.drop_queue.Goals as goal

pub invariant_of-self : goal.invariant_of-self
invariant_of-self c =
    grind (arith, common_steps, length-filter-le (λ p. not (queue_eq p.queue c.args.queue)) c.self.inside.waiting.items, c.self.invariant, c.remove.ensures)
