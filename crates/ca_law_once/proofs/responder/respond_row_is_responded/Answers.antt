use Rattle.ca_law_once.proofs.Rows.RespondRowLemmas.{respond-leads}
use Rattle.ca_law_once.proofs.responder.respond_row_is_responded.Goals as goal

pub returns : goal.returns
returns c = respond-leads
