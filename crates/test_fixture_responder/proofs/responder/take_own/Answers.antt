use Rattle.std.proofs.Common.{None}
use Rattle.ca_model.specs.machine.Delivery.{packet_arrived}
use Rattle.test_fixture_reach.specs.SmallReach.{sight_of}
use Rattle.test_fixture_responder.proofs.Kept.{arrival_kept, request-good, stands_by}
use Rattle.test_fixture_responder.proofs.responder.take_own.Goals as goal

pub returns : goal.returns
returns c =
    let bed = c.args.bed.now in
    let p = c.in_ok-p.p in
    stands_by (record { queue = c.on_request.new.q; reach = c.on_request.new.reach })
    (arrival_kept c.on_request.result (sight_of bed.reach) (packet_arrived p c.args.envelope None bed.queue) bed.queue c.on_request.new.q
    c.args.marks.now c.on_request.new.marks bed.reach c.on_request.new.reach None None c.requires.queue c.requires.reach
    (request-good c.args.bytes.now p c.args.envelope None bed.queue c.requires.queue tt c.in_ok-p.ensures.spelt c.in_ok-p.ensures.taken)
    c.on_request.ensures)
