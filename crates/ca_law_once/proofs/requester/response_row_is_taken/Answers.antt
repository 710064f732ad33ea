use Rattle.ca_law_once.proofs.Rows.ResponseRowLemmas.{response-row}
use Rattle.ca_law_once.proofs.requester.response_row_is_taken.Goals as goal

pub returns : goal.returns
returns c = response-row
