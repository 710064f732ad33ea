use Rattle.ca_wire.proofs.PacketLaws.{packet_again}
use Rattle.ca_wire.proofs.laws.packet.reading.Goals as goal

pub returns : goal.returns
returns c = packet_again
