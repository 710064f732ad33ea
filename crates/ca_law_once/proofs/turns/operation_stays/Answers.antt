use Rattle.ca_law_once.proofs.Rows.OperationLemmas.{operation-stays}
use Rattle.ca_law_once.proofs.Rows.TurnLemmas.{operation-responder}
use Rattle.ca_law_once.proofs.turns.operation_stays.Goals as goal

pub returns-clause-requester : goal.returns-clause-requester
returns-clause-requester c = operation-stays

pub returns-clause-responder : goal.returns-clause-responder
returns-clause-responder c = operation-responder
