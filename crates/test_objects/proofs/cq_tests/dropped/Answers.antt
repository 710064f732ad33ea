use Rattle.std.proofs.Common.{◌&&◌, not, arith}
use Rattle.std.proofs.lemmas.Grind.{common_steps}
use Rattle.ca_keys.specs.Equal.{queue_eq}
use Rattle.ca_cq.proofs.Parts.{length-filter-le}
use Rattle.test_objects.proofs.cq_tests.dropped.Goals as goal

pub drop_queue-requires : goal.drop_queue-requires
drop_queue-requires c =
    grind (arith, common_steps, c.requires, length-filter-le (λ p. p.receive && queue_eq p.queue c.args.of) c.args.queue.now.waiting)

pub returns-clause-fewer : goal.returns-clause-fewer
returns-clause-fewer c = grind (arith, common_steps, length-filter-le (λ p. not (queue_eq p.queue c.args.of)) c.args.queue.now.waiting)
