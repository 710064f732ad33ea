use Rattle.ca_wire.proofs.PacketLaws.{one_packet_at_most}
use Rattle.ca_wire.proofs.laws.packet.one_packet.Goals as goal

pub returns : goal.returns
returns c = one_packet_at_most
