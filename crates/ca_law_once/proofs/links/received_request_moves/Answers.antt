use Rattle.ca_law_once.proofs.Rows.LinkLemmas.{received-moves}
use Rattle.ca_law_once.proofs.links.received_request_moves.Goals as goal

pub returns : goal.returns
returns c = received-moves
