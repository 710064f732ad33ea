use Rattle.ca_law_once.proofs.Rows.ArrivalLemmas.{request-received}
use Rattle.ca_law_once.proofs.arrival.arriving_request_is_received.Goals as goal

pub returns : goal.returns
returns c = request-received
