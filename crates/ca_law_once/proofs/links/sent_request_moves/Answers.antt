use Rattle.ca_law_once.proofs.Rows.LinkLemmas.{sent-moves, sent-nowhere-moves}
use Rattle.ca_law_once.proofs.links.sent_request_moves.Goals as goal

pub returns-clause-there : goal.returns-clause-there
returns-clause-there c = sent-moves

pub returns-clause-nowhere : goal.returns-clause-nowhere
returns-clause-nowhere c = sent-nowhere-moves
