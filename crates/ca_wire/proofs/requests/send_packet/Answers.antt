use Rattle.std.proofs.Common.{rules}
use Rattle.ca_wire.specs.Builders as packets
use Rattle.ca_wire.proofs.BuilderLaws.{send_fits, by_fields}
use Rattle.ca_wire.proofs.requests.send_packet.Goals as goal

pub returns-clause-well_formed : goal.returns-clause-well_formed
returns-clause-well_formed c =
    by_fields _ (packets.send_packet c.args.kind c.args.segment c.args.solicited c.args.queue c.args.psn c.args.payload.now) (search rules) (send_fits c.args.kind c.args.segment c.args.solicited c.args.queue c.args.psn c.args.payload.now c.requires.queue c.requires.psn c.requires.payload)
