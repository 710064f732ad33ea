use Rattle.ca_law_once.proofs.Rows.TurnLemmas.{packet-requests, respond-responses}
use Rattle.ca_law_once.proofs.turns.turns_send_their_packets.Goals as goal

pub returns-clause-request : goal.returns-clause-request
returns-clause-request c = packet-requests

pub returns-clause-respond : goal.returns-clause-respond
returns-clause-respond c = respond-responses
