use Rattle.std.proofs.Common.{length}
use Rattle.std.proofs.lemmas.Result.{on_ok_weaker}
use Rattle.ca_wire.specs.declared.packet.TheConstants.{MAX_PACKET_BYTES}
use Rattle.ca_wire.specs.Packet.{most_of_response, most_spelt, spelling}
use Rattle.ca_qp_rows.proofs.PacketLemmas.{longer}
use Rattle.ca_qp_rows.proofs.packets.spell_packet.Goals as goal

pub returns-clause-spelt : goal.returns-clause-spelt
returns-clause-spelt c = on_ok_weaker c.encode.result
    (λ h. record {
      spelt = h;
      size = longer c.encode.new.out.items c.args.out.now.items (spelling c.args.packet.now) MAX_PACKET_BYTES h
          (c.spelling_length.ensures.most c.args.packet.now c.requires);
    })
    c.encode.ensures.ok

pub returns-clause-size : goal.returns-clause-size
returns-clause-size c = on_ok_weaker c.encode.result
    (λ h. longer c.encode.new.out.items c.args.out.now.items (spelling c.args.packet.now) (most_spelt (length c.args.packet.now.payload)) h
    (c.spelling_length.ensures.by_payload c.args.packet.now c.requires))
    c.encode.ensures.ok

pub returns-clause-response : goal.returns-clause-response
returns-clause-response c = λ none. on_ok_weaker c.encode.result
    (λ h. longer c.encode.new.out.items c.args.out.now.items (spelling c.args.packet.now) (most_of_response (length c.args.packet.now.payload)) h
    (c.spelling_length.ensures.response c.args.packet.now c.requires none))
    c.encode.ensures.ok
