use Rattle.std.proofs.Common.{rules}
use Rattle.ca_wire.specs.Builders as packets
use Rattle.ca_wire.proofs.BuilderLaws.{read_response_fits, by_fields}
use Rattle.ca_wire.proofs.responses.read_response.Goals as goal

pub returns-clause-well_formed : goal.returns-clause-well_formed
returns-clause-well_formed c =
    by_fields _ (packets.read_response c.args.segment c.args.queue c.args.psn c.args.msn c.args.payload.now) (search rules) (read_response_fits c.args.segment c.args.queue c.args.psn c.args.msn c.args.payload.now c.requires.queue c.requires.psn c.requires.msn c.requires.payload)
