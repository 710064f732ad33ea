use Rattle.std.proofs.Common.{arith, ap, length}
use Rattle.ca_responder_answers.proofs.SizeLemmas.{shape_acknowledge, spelt_response}
use Rattle.ca_wire.specs.Packet.{Fields}
use Rattle.ca_wire.specs.declared.syndrome.NakCode.TheVariants.{RemoteAccessError}
use Rattle.ca_wire.specs.declared.syndrome.Syndrome.TheVariants.{Nak}
use Rattle.ca_responder_answers.proofs.respond.refuse_read.Goals as goal

pub returns-clause-size : goal.returns-clause-size
returns-clause-size c =
    spelt_response c.nak.result _ _ 0 (shape_acknowledge c.nak.result (Nak RemoteAccessError) _ _ _ c.nak.ensures.fields)
    (omega (arith, ap (λ (x : Fields). length x.payload) c.nak.ensures.fields))
    c.in_ok-spell_packet.ensures.response
