use Rattle.std.proofs.Common.{rules}
use Rattle.ca_wire.specs.Builders as packets
use Rattle.ca_wire.proofs.BuilderLaws.{atomic_acknowledge_fits, by_fields}
use Rattle.ca_wire.proofs.responses.atomic_acknowledge.Goals as goal

pub returns-clause-well_formed : goal.returns-clause-well_formed
returns-clause-well_formed c =
    by_fields _ (packets.atomic_acknowledge c.args.found c.args.queue c.args.psn c.args.msn) (search rules) (atomic_acknowledge_fits c.args.found c.args.queue c.args.psn c.args.msn c.requires.queue c.requires.psn c.requires.msn)
