use Rattle.ca_law_once.proofs.Rows.LinkLemmas.{responded-moves, responded-nowhere-moves}
use Rattle.ca_law_once.proofs.links.sent_response_moves.Goals as goal

pub returns-clause-there : goal.returns-clause-there
returns-clause-there c = responded-moves

pub returns-clause-nowhere : goal.returns-clause-nowhere
returns-clause-nowhere c = responded-nowhere-moves
