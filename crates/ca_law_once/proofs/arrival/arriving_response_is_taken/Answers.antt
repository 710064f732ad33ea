use Rattle.ca_law_once.proofs.Rows.ArrivalLemmas.{response-taken}
use Rattle.ca_law_once.proofs.arrival.arriving_response_is_taken.Goals as goal

pub returns : goal.returns
returns c = response-taken
