use Rattle.ca_law_once.proofs.Rows.LinkLemmas.{forgotten-moves, back-moves}
use Rattle.ca_law_once.proofs.links.loss_moves.Goals as goal

pub returns-clause-responder : goal.returns-clause-responder
returns-clause-responder c = forgotten-moves

pub returns-clause-requester : goal.returns-clause-requester
returns-clause-requester c = back-moves
