use Rattle.ca_law_once.proofs.Rows.ArrivalLemmas.{other-response-forgets}
use Rattle.ca_law_once.proofs.arrival.other_response_forgets.Goals as goal

pub returns : goal.returns
returns c = other-response-forgets
