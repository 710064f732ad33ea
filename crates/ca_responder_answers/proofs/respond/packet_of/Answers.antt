use Rattle.ca_responder_answers.proofs.SizeLemmas.{shape_acknowledge, shape_atomic}
use Rattle.ca_wire.specs.declared.syndrome.Syndrome.TheVariants.{Ack, RnrNak, Nak}
use Rattle.ca_wire.specs.declared.syndrome.TheConstants.{UNLIMITED_CREDITS}
use Rattle.ca_responder_answers.proofs.respond.packet_of.Goals as goal

pub returns-in-Ack-clause-response : goal.returns-in-Ack-clause-response
returns-in-Ack-clause-response c = shape_acknowledge c.acknowledgement.result (Ack UNLIMITED_CREDITS) _ _ _ c.acknowledgement.ensures.fields

pub returns-in-Rnr-clause-response : goal.returns-in-Rnr-clause-response
returns-in-Rnr-clause-response c = shape_acknowledge c.rnr_nak.result (RnrNak _) _ _ _ c.rnr_nak.ensures.fields

pub returns-in-Nak-clause-response : goal.returns-in-Nak-clause-response
returns-in-Nak-clause-response c = shape_acknowledge c.nak.result (Nak c.nak_of.result) _ _ _ c.nak.ensures.fields

pub returns-in-Atomic-clause-response : goal.returns-in-Atomic-clause-response
returns-in-Atomic-clause-response c = shape_atomic c.atomic_acknowledge.result c.in-Atomic.found _ _ _ c.atomic_acknowledge.ensures.fields
