use Rattle.ca_law_once.proofs.Rows.StayLemmas.{wake-stays}
use Rattle.ca_law_once.proofs.Rows.TurnLemmas.{wake-responder}
use Rattle.ca_law_once.proofs.turns.wake_stays.Goals as goal

pub returns-clause-requester : goal.returns-clause-requester
returns-clause-requester c = wake-stays

pub returns-clause-responder : goal.returns-clause-responder
returns-clause-responder c = wake-responder
