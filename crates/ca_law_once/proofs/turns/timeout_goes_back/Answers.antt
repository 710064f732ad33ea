use Rattle.ca_law_once.proofs.Rows.TurnLemmas.{timeout-requester}
use Rattle.ca_law_once.proofs.Rows.TurnLemmas.{timeout-responder}
use Rattle.ca_law_once.proofs.turns.timeout_goes_back.Goals as goal

pub returns-clause-requester : goal.returns-clause-requester
returns-clause-requester c = timeout-requester

pub returns-clause-responder : goal.returns-clause-responder
returns-clause-responder c = timeout-responder
