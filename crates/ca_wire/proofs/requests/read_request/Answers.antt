use Rattle.std.proofs.Common.{rules}
use Rattle.ca_wire.specs.Builders as packets
use Rattle.ca_wire.proofs.BuilderLaws.{read_request_fits, by_fields}
use Rattle.ca_wire.proofs.requests.read_request.Goals as goal

pub returns-clause-well_formed : goal.returns-clause-well_formed
returns-clause-well_formed c =
    by_fields _ (packets.read_request c.args.reth c.args.queue c.args.psn) (search rules) (read_request_fits c.args.reth c.args.queue c.args.psn c.requires.queue c.requires.psn)
