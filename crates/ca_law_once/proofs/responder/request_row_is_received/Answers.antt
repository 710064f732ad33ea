use Rattle.ca_law_once.proofs.Rows.RequestRowLemmas.{request-row}
use Rattle.ca_law_once.proofs.responder.request_row_is_received.Goals as goal

pub returns : goal.returns
returns c = request-row
