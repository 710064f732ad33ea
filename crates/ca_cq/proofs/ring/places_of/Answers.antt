use Rattle.std.proofs.Common.{◌&&◌, arith}
use Rattle.std.proofs.lemmas.Grind.{common_steps}
use Rattle.ca_keys.specs.Equal.{queue_eq}
use Rattle.ca_cq.proofs.Parts.{filter-more, take-at, take-none, length-filter-before}
use Rattle.ca_cq.proofs.ring.places_of.Goals as goal

pub push-requires : goal.push-requires
push-requires c =
    grind (arith, common_steps, length-filter-before (λ p. p.receive && queue_eq p.queue c.args.queue) c.loop-i.i c.args.waiting.now.items)

pub loop-i-preserved : goal.loop-i-preserved
loop-i-preserved c =
    grind (arith, common_steps, filter-more (λ p. p.receive && queue_eq p.queue c.args.queue) c.loop-i.i c.args.waiting.now.items, take-at c.loop-i.i c.args.waiting.now.items, take-none c.loop-i.i c.args.waiting.now.items)
