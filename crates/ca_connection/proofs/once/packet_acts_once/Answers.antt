use Rattle.ca_connection.proofs.OnceLemmas.{law-packet-once}
use Rattle.ca_connection.proofs.once.packet_acts_once.Goals as goal

pub returns : goal.returns
returns c = law-packet-once
