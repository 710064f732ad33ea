use Rattle.ca_law_once.proofs.Rows.LinkLemmas.{taken-moves}
use Rattle.ca_law_once.proofs.links.taken_response_moves.Goals as goal

pub returns : goal.returns
returns c = taken-moves
