use Rattle.ca_law_once.proofs.Rows.TurnLemmas.{operation-state, packet-state, respond-state, timeout-state, wake-state}
use Rattle.ca_law_once.proofs.turns.turns_leave_state.Goals as goal

pub returns-clause-request : goal.returns-clause-request
returns-clause-request c = packet-state

pub returns-clause-respond : goal.returns-clause-respond
returns-clause-respond c = respond-state

pub returns-clause-timeout : goal.returns-clause-timeout
returns-clause-timeout c = timeout-state

pub returns-clause-wake : goal.returns-clause-wake
returns-clause-wake c = wake-state

pub returns-clause-operation : goal.returns-clause-operation
returns-clause-operation c = operation-state
