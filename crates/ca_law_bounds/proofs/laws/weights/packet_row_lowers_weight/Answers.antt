use Rattle.ca_law_bounds.proofs.SentWeights.{packet-lowers}
use Rattle.ca_law_bounds.proofs.laws.weights.packet_row_lowers_weight.Goals as goal

pub returns : goal.returns
returns c = packet-lowers
