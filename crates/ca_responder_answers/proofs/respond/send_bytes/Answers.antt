use Rattle.std.proofs.Common.{rules, arith, ap, length, ◌≡◌}
use Rattle.ca_responder_answers.proofs.SizeLemmas.{shape_read, spelt_response}
use Rattle.ca_wire.specs.Packet.{Fields}
use Rattle.ca_responder_answers.proofs.respond.send_bytes.Goals as goal

pub returns-clause-size : goal.returns-clause-size
returns-clause-size c =
    let same : c.as_slice.result.now ≡ c.args.bytes = search rules in
    spelt_response c.read_response.result _ _ (length c.args.bytes)
    (shape_read c.read_response.result c.response_segment-segment.result _ _ _ c.as_slice.result.now c.read_response.ensures.fields)
    (omega (arith, ap (λ (x : Fields). length x.payload) c.read_response.ensures.fields, ap length same))
    c.in_ok-spell_packet.ensures.response
