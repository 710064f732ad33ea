use Rattle.std.proofs.Common.{rules}
use Rattle.ca_wire.specs.Builders as packets
use Rattle.ca_wire.proofs.BuilderLaws.{fetch_add_fits, by_fields}
use Rattle.ca_wire.proofs.requests.fetch_add.Goals as goal

pub returns-clause-well_formed : goal.returns-clause-well_formed
returns-clause-well_formed c =
    by_fields _ (packets.fetch_add c.args.address c.args.key c.args.add c.args.queue c.args.psn) (search rules) (fetch_add_fits c.args.address c.args.key c.args.add c.args.queue c.args.psn c.requires.queue c.requires.psn)
