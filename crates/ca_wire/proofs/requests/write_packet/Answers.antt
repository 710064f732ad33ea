use Rattle.std.proofs.Common.{rules}
use Rattle.ca_wire.specs.Builders as packets
use Rattle.ca_wire.proofs.BuilderLaws.{write_fits, by_fields}
use Rattle.ca_wire.proofs.requests.write_packet.Goals as goal

pub returns-clause-well_formed : goal.returns-clause-well_formed
returns-clause-well_formed c =
    by_fields _ (packets.write_packet c.args.segment c.args.reth c.args.imm c.args.solicited c.args.queue c.args.psn c.args.payload.now) (search rules) (write_fits c.args.segment c.args.reth c.args.imm c.args.solicited c.args.queue c.args.psn c.args.payload.now c.requires.queue c.requires.psn c.requires.payload)
