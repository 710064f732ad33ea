use Rattle.ca_law_once.proofs.Rows.PacketRowLemmas.{packet-row}
use Rattle.ca_law_once.proofs.requester.packet_row_is_sent.Goals as goal

pub returns : goal.returns
returns c = packet-row
