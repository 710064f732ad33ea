use Rattle.ca_law_once.proofs.Rows.ArrivalLemmas.{other-request-stays}
use Rattle.ca_law_once.proofs.arrival.other_request_stays.Goals as goal

pub returns : goal.returns
returns c = other-request-stays
