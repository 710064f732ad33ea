use Rattle.ca_law_parts.proofs.Parts.HeldLemmas.{packet-held, operation-held, respond-held, deliver-held, inject-held}
use Rattle.ca_law_parts.proofs.laws.parts.held_parts_serve_turns.Goals as goal

pub returns-clause-packet : goal.returns-clause-packet
returns-clause-packet c = packet-held

pub returns-clause-operation : goal.returns-clause-operation
returns-clause-operation c = operation-held

pub returns-clause-response : goal.returns-clause-response
returns-clause-response c = respond-held

pub returns-clause-delivery : goal.returns-clause-delivery
returns-clause-delivery c = deliver-held

pub returns-clause-injection : goal.returns-clause-injection
returns-clause-injection c = inject-held
