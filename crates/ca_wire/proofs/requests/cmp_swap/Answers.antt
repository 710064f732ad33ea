use Rattle.std.proofs.Common.{rules}
use Rattle.ca_wire.specs.Builders as packets
use Rattle.ca_wire.proofs.BuilderLaws.{cmp_swap_fits, by_fields}
use Rattle.ca_wire.proofs.requests.cmp_swap.Goals as goal

pub returns-clause-well_formed : goal.returns-clause-well_formed
returns-clause-well_formed c =
    by_fields _ (packets.cmp_swap c.args.atomic c.args.queue c.args.psn) (search rules) (cmp_swap_fits c.args.atomic c.args.queue c.args.psn c.requires.queue c.requires.psn)
