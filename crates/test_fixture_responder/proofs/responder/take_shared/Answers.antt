use Rattle.std.proofs.Common.{Some}
use Rattle.ca_model.specs.machine.Delivery.{packet_arrived}
use Rattle.test_fixture_reach.specs.SmallReach.{sight_of}
use Rattle.test_fixture_responder.proofs.Kept.{arrival_kept, request-good, shared_kept, stands_by}
use Rattle.test_fixture_responder.proofs.responder.take_shared.Goals as goal

pub returns-clause-stands : goal.returns-clause-stands
returns-clause-stands c =
    let bed = c.args.bed.now in
    let p = c.in_ok-p.p in
    let s = c.args.srq.now in
    stands_by (record { queue = c.on_request.new.q; reach = c.on_request.new.reach })
    (arrival_kept c.on_request.result (sight_of bed.reach) (packet_arrived p c.args.envelope (Some s) bed.queue) bed.queue c.on_request.new.q
    c.args.marks.now c.on_request.new.marks bed.reach c.on_request.new.reach (Some s) (Some c.on_request.new.srq.0) c.requires.stands.queue c.requires.stands.reach
    (request-good c.args.bytes.now p c.args.envelope (Some s) bed.queue c.requires.stands.queue c.requires.shared c.in_ok-p.ensures.spelt c.in_ok-p.ensures.taken)
    c.on_request.ensures)

pub returns-clause-shared : goal.returns-clause-shared
returns-clause-shared c =
    let bed = c.args.bed.now in
    (shared_kept c.on_request.result (sight_of bed.reach) (packet_arrived c.in_ok-p.p c.args.envelope (Some c.args.srq.now) bed.queue) bed.queue c.on_request.new.q
    c.args.marks.now c.on_request.new.marks bed.reach c.on_request.new.reach c.args.srq.now c.on_request.new.srq.0 c.requires.shared c.on_request.ensures).sound

pub returns-clause-next : goal.returns-clause-next
returns-clause-next c =
    let bed = c.args.bed.now in
    (shared_kept c.on_request.result (sight_of bed.reach) (packet_arrived c.in_ok-p.p c.args.envelope (Some c.args.srq.now) bed.queue) bed.queue c.on_request.new.q
    c.args.marks.now c.on_request.new.marks bed.reach c.on_request.new.reach c.args.srq.now c.on_request.new.srq.0 c.requires.shared c.on_request.ensures).next
